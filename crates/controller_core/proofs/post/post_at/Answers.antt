use Rattle.controller_core.proofs.Rows.{posts_by}
use Rattle.controller_core.proofs.post.post_at.Goals as goal

pub returns-clause-posts : goal.returns-clause-posts
returns-clause-posts g c =
    posts_by c.post_completion.result c.args.queues.now.items c.args.q c.from.result c.args.cid c.args.status c.args.dw0 _ _ _ _ c.index_mut.result.now _ c.from.ensures c.requires.there c.index_mut.ensures.value
    c.post_completion.ensures.pair c.post_completion.ensures.typed c.post_completion.ensures.written c.post_completion.ensures.touched
