-- the owners so far are those of the pages below the next one
use Rattle.std.proofs.Common.{◌≡◌, ◌+◌, ◌-◌, ◌≤◌, length, vec_len, vec_capacity}
use Rattle.script_cli.specs.Runs.{AreFirstOwners}
use Rattle.script_cli.proofs.run.first_owners.Given as goal

abbrev pub invariant-loop-p : goal.invariant-loop-p
invariant-loop-p l = record {
  count : length l.owners.items ≡ l.p;
  room : vec_len l.owners + (l.pages - l.p) ≤ vec_capacity l.owners;
  claim : AreFirstOwners l.bench.table.world l.owners.items;
}
