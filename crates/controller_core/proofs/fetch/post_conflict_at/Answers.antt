use Rattle.controller_core.proofs.Awaited.{posts_conflict}
use Rattle.controller_core.proofs.fetch.post_conflict_at.Goals as goal

pub returns-clause-posts : goal.returns-clause-posts
returns-clause-posts g c =
    posts_conflict c.post_conflict.result c.args.queues.now.items c.args.q c.from.result c.args.cid _ _ _ _ c.index_mut.result.now _ c.from.ensures c.requires.there c.index_mut.ensures.value
    c.post_conflict.ensures.queue c.post_conflict.ensures.written c.post_conflict.ensures.touched
