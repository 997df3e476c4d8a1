use Rattle.std.{proofs.Common.{◌≡◌, Bool, Some, false, true, not, List, map, slice_get, sym, ap, ◌∙◌, arith}, specs.List.position}
use Rattle.page_memory.proofs.Bytes.{slice_get-set_same}
use Rattle.queue_pair.{proofs.Halves.{found_within, found_free, lower_claimed, all_claimed, claims-set}, specs.Views.host_side}
use Rattle.queue_pair.proofs.host.HostPair.claim.Goals as goal

pub returns-in_err-cid-clause-all_claimed : goal.returns-in_err-cid-clause-all_claimed
returns-in_err-cid-clause-all_claimed g c =
    rw (c.from_residual.ensures, ← c.self.view_is)
    (λ cid below. all_claimed (map not c.self.inside.free) cid (sym (rw (← c.self.view_is) at c.in_err-cid.ensures.lowest)) (omega (arith, c.self.invariant.identifiers)))

pub returns-clause-free : goal.returns-clause-free
returns-clause-free g c = found_free c.args.self.now.claimed c.in_ok-cid.cid (sym c.in_ok-cid.ensures.lowest)

pub returns-clause-below : goal.returns-clause-below
returns-clause-below g c = λ lower below. lower_claimed c.args.self.now.claimed c.in_ok-cid.cid lower (sym c.in_ok-cid.ensures.lowest) below

pub returns-clause-claimed : goal.returns-clause-claimed
returns-clause-claimed g c =
    rw (← c.self.view_is)
    (ap (λ (l : List Bool). record (host_side c.self.inside) { claimed = l }) (claims-set c.self.inside.free c.set.new.self c.in_ok-cid.cid false (rw c.from.ensures at c.set.ensures)))

pub returns-clause-owned : goal.returns-clause-owned
returns-clause-owned g c =
    let found : position not (map not c.self.inside.free) ≡ Some c.in_ok-cid.cid = sym (rw (← c.self.view_is) at c.in_ok-cid.ensures.lowest) in
    ap (λ (l : List Bool). slice_get l c.in_ok-cid.cid) (claims-set c.self.inside.free c.set.new.self c.in_ok-cid.cid false (rw c.from.ensures at c.set.ensures))
    ∙ slice_get-set_same (map not c.self.inside.free) c.in_ok-cid.cid true (found_within (map not c.self.inside.free) c.in_ok-cid.cid found)
