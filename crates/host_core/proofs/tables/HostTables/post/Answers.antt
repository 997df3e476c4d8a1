use Rattle.std.proofs.Common.{◌≡◌, ◌∙◌, slice_set, sym, subst}
use Rattle.host_core.{proofs.{QueueLists.{post-room, post-there, post-told, queue-at}, Unwrapped.not-err}, specs.{Parts.tables_of, Posting.posted, Rows.Queue}}
use Rattle.host_core.specs.Tables.{Tables}
use Rattle.host_core.proofs.tables.HostTables.post.Goals as goal
use Rattle.page_memory.proofs.Lists.{some_is}

pub post-requires-clause-fits : goal.post-requires-clause-fits
post-requires-clause-fits g c =
    let t : Tables = tables_of c.args.self.now c.args.store.now.pages in
    let x : Queue = c.index_mut.result.now in
    (c.requires.can x (queue-at t c.args.q c.from.result x c.requires.there c.from.ensures c.index_mut.ensures.value)).fits

pub post-requires-clause-there : goal.post-requires-clause-there
post-requires-clause-there g c =
    let t : Tables = tables_of c.args.self.now c.args.store.now.pages in
    let x : Queue = c.index_mut.result.now in
    post-there t c.clear.new.self.pages c.args.q x c.args.entry (c.requires.can x (queue-at t c.args.q c.from.result x c.requires.there c.from.ensures c.index_mut.ensures.value)) c.clear.ensures.memory

pub unwrap-requires : goal.unwrap-requires
unwrap-requires g c =
    let t : Tables = tables_of c.args.self.now c.args.store.now.pages in
    let x : Queue = c.index_mut.result.now in
    not-err c.post.result
    (λ err. post-room t c.args.q x c.args.entry (c.requires.can x (queue-at t c.args.q c.from.result x c.requires.there c.from.ensures c.index_mut.ensures.value)) (c.post.ensures.full.0 err))

pub returns-clause-posts : goal.returns-clause-posts
returns-clause-posts g c = λ queue at.
    let t : Tables = tables_of c.args.self.now c.args.store.now.pages in
    let x : Queue = c.index_mut.result.now in
    let here = queue-at t c.args.q c.from.result x c.requires.there c.from.ensures c.index_mut.ensures.value in
    subst (λ (y : Queue). record t { pages = c.post.new.dma.pages; queues = slice_set t.queues c.from.result (record x { host = c.post.new.self }) } ≡ posted c.args.q y c.args.entry t) (some_is (sym here ∙ at))
    (post-told t c.post.new.dma.pages c.clear.new.self.pages c.args.q c.from.result x c.post.new.self c.args.entry c.requires.there c.from.ensures c.index_mut.ensures.value (c.requires.can x here)
    (rw c.unwrap.ensures at c.post.ensures.tail) c.clear.ensures.memory c.clear.ensures.pool (rw c.unwrap.ensures at c.post.ensures.written) c.post.ensures.pool c.pages.ensures.whole)
