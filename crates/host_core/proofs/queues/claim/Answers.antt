use Rattle.std.proofs.Common.{◌≡◌, ℕ, ap, ◌∙◌, subst, get_or, slice_set}
use Rattle.host_core.{proofs.Lists.{change-at-lists as change-at, get-at}, specs.Commands.with_claim}
use Rattle.host_core.proofs.queues.claim.Goals as goal

pub claim_next-requires : goal.claim_next-requires
claim_next-requires g c =
    c.requires.next c.index_mut.result.now
    (get-at c.args.q c.args.queues.now.items c.index_mut.result.now c.requires.there
    (subst (λ (k : ℕ). c.index_mut.result.now ≡ get_or c.args.queues.now.items k c.index_mut.result.now) c.from.ensures c.index_mut.ensures.value))

pub returns : goal.returns
returns g c =
    ap (λ (k : ℕ). slice_set c.args.queues.now.items k c.claim_next.new.queue) c.from.ensures
    ∙ change-at c.args.q (with_claim c.args.cid) c.args.queues.now.items c.index_mut.result.now c.claim_next.new.queue c.requires.there
    (subst (λ (k : ℕ). c.index_mut.result.now ≡ get_or c.args.queues.now.items k c.index_mut.result.now) c.from.ensures c.index_mut.ensures.value) c.claim_next.ensures
