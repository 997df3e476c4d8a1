use Rattle.std.{proofs.Common.{ℕ, ◌<◌, [], subst, sym}, specs.List.Contains}
use Rattle.machine_model.specs.Claims.{claims_of, counts_of}
use Rattle.page_ledger.specs.Counting.{total}
use Rattle.host_core.{proofs.{Identifiers.count_of, Told.owner_claims}, specs.{Alone.HostView, Parts.tables_of}}
use Rattle.host_core.proofs.host.Host.owner.Goals as goal

pub owner-requires : goal.owner-requires
owner-requires g c =
    subst (λ (n : ℕ). c.args.p < n) (count_of (tables_of c.self.inside.parts []) c.self.invariant)
    (subst (λ (v : HostView). c.args.p < total (counts_of v.host)) (sym c.self.view_is) c.requires)

pub returns : goal.returns
returns g c =
    let inside = subst (λ (n : ℕ). c.args.p < n) (count_of (tables_of c.self.inside.parts []) c.self.invariant)
    (subst (λ (v : HostView). c.args.p < total (counts_of v.host)) (sym c.self.view_is) c.requires) in
    subst (λ (v : HostView). Contains (claims_of v.host) (c.args.p, c.owner.result)) c.self.view_is
    (owner_claims (tables_of c.self.inside.parts []) c.self.invariant c.args.p c.owner.result inside c.owner.ensures)
