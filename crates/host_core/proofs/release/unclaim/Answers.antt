use Rattle.std.proofs.Common.{◌≡◌, ℕ, ap, ◌∙◌, subst, get_or, slice_set}
use Rattle.host_core.{proofs.Lists.{change-at-lists as change-at, get-at}, specs.Commands.without_claim}
use Rattle.host_core.proofs.release.unclaim.Goals as goal

pub free_claimed-requires : goal.free_claimed-requires
free_claimed-requires g c =
    c.requires.claimed c.index_mut.result.now
    (get-at c.args.q c.args.queues.now.items c.index_mut.result.now c.requires.there
    (subst (λ (k : ℕ). c.index_mut.result.now ≡ get_or c.args.queues.now.items k c.index_mut.result.now) c.from.ensures c.index_mut.ensures.value))

pub returns : goal.returns
returns g c =
    ap (λ (k : ℕ). slice_set c.args.queues.now.items k c.free_claimed.new.queue) c.from.ensures
    ∙ change-at c.args.q (without_claim c.args.cid) c.args.queues.now.items c.index_mut.result.now c.free_claimed.new.queue c.requires.there
    (subst (λ (k : ℕ). c.index_mut.result.now ≡ get_or c.args.queues.now.items k c.index_mut.result.now) c.from.ensures c.index_mut.ensures.value) c.free_claimed.ensures
