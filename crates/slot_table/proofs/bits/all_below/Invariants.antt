use Rattle.std.proofs.Common.{◌≡◌, ◌*◌, ℕ, length, nat_lt, vec_capacity}
use Rattle.slot_table.specs.Bits.{is_set}
use Rattle.slot_table.proofs.bits.all_below.Given as goal

abbrev pub invariant-loop : goal.invariant-loop
invariant-loop g l = record {
  size : length l.words.items ≡ l.counter;
  all : (i : ℕ) → is_set l.words.items i ≡ nat_lt i (64 * l.counter);
  room : vec_capacity l.words ≡ vec_capacity l.initial.words;
}
