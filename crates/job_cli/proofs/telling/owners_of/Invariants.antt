-- the owners so far are those of the pages below the next one
use Rattle.std.{proofs.Common.{◌≡◌, ◌+◌, ◌-◌, ◌≤◌, ℕ, Some, length, vec_len, vec_capacity}, specs.List.Contains}
use Rattle.machine_model.specs.Claims.{claims_of}
use Rattle.page_ledger.specs.{Owners.owner_at, declared.owner.Owner.Owner}
use Rattle.job_cli.proofs.telling.owners_of.Given as goal

abbrev pub invariant-loop-p : goal.invariant-loop-p
invariant-loop-p l = record {
  count : length l.owners.items ≡ l.p;
  room : vec_len l.owners + (l.pages - l.p) ≤ vec_capacity l.owners;
  claim : (p : ℕ) (owner : Owner) → owner_at l.owners.items p ≡ Some owner → Contains (claims_of l.world.state.host) (p, owner);
}
