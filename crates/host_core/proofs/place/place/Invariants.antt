use Rattle.std.proofs.Common.{◌≡◌, ◌+◌, vec_len, vec_capacity}
use Rattle.page_ledger.specs.Owners.{pages_from}
use Rattle.host_core.proofs.place.place.Given as goal

abbrev pub invariant-loop-i : goal.invariant-loop-i
invariant-loop-i g l = record {
  pages : l.into.items ≡ pages_from l.first-inside.0 l.i;
  count : vec_len l.into ≡ vec_len l.fn.into + l.i;
  room : vec_capacity l.into ≡ vec_capacity l.fn.into;
}
