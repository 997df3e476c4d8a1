use Rattle.std.proofs.Common.{◌≡◌, ◌+◌, ◌*◌, ◌<◌, ◌≤◌, ℕ, false}
use Rattle.slot_table.specs.Bits.{is_set}
use Rattle.slot_table.proofs.bits.lowest_from.Given as goal

abbrev pub invariant-loop-w : goal.invariant-loop-w
invariant-loop-w l = record {
  inside : l.place < 64;
  after : l.from ≤ 64 * l.w + l.place;
  none : (i : ℕ) → l.from ≤ i → i < 64 * l.w + l.place → is_set l.words i ≡ false;
}
