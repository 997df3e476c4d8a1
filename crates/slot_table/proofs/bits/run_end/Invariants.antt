use Rattle.std.proofs.Common.{◌-◌, ◌≡◌, ◌<◌, ◌≤◌, ℕ, true}
use Rattle.slot_table.specs.Bits.{is_set}
use Rattle.slot_table.proofs.bits.run_end.Given as goal

abbrev pub invariant-loop-at : goal.invariant-loop-at
invariant-loop-at l = record {
  after : l.from ≤ l.at;
  passes : (i : ℕ) → l.from ≤ i → i < l.at → is_set l.words i ≡ true;
}

abbrev pub decreases-loop-at : goal.decreases-loop-at
decreases-loop-at l = l.limit - l.at
