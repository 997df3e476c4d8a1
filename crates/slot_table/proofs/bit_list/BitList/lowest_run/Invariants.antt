use Rattle.std.proofs.Common.{◌≡◌, ◌-◌, ◌<◌, ◌≤◌, ℕ, false, length}
use Rattle.slot_table.specs.{Places.is_true_at, Searches.is_run}
use Rattle.slot_table.proofs.bit_list.BitList.lowest_run.Given as goal

abbrev pub invariant-loop-first : goal.invariant-loop-first
invariant-loop-first g l = record {
  inside : l.from ≤ length l.self;
  none : (p : ℕ) → p < l.from → is_run (is_true_at l.self) l.k p ≡ false;
}

abbrev pub decreases-loop-first : goal.decreases-loop-first
decreases-loop-first g l = length l.self - l.from
