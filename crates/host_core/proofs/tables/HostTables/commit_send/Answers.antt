use Rattle.host_core.proofs.{Granting.next-fresh, Identifiers.{new-empty, new-place}, Sending.{noted-there, send_can_post, sends_apart}}
use Rattle.host_core.specs.{Parts.tables_of, Tables.Tables}
use Rattle.std.proofs.lemmas.Option.{slice_get_within}
use Rattle.host_core.proofs.tables.HostTables.commit_send.Goals as goal

pub post-requires-clause-there : goal.post-requires-clause-there
post-requires-clause-there g c =
    let t : Tables = tables_of c.args.self.now c.args.store.now.pages in
    noted-there t (tables_of c.note_sent.new.self c.args.store.now.pages) c.args.kind c.args.cid c.requires.ready (c.note_sent.ensures c.args.store.now.pages)

pub post-requires-clause-can : goal.post-requires-clause-can
post-requires-clause-can g c =
    let t : Tables = tables_of c.args.self.now c.args.store.now.pages in
    send_can_post t (tables_of c.note_sent.new.self c.args.store.now.pages) c.args.kind c.args.cid c.entry.result c.requires.whole c.requires.ready (c.note_sent.ensures c.args.store.now.pages) c.entry.ensures.entry

pub returns-clause-sends : goal.returns-clause-sends
returns-clause-sends g c =
    let t : Tables = tables_of c.args.self.now c.args.store.now.pages in
    sends_apart t (tables_of c.note_sent.new.self c.args.store.now.pages) (tables_of c.post.new.self c.post.new.store.pages) (tables_of c.await_deletion.new.self c.post.new.store.pages) c.args.kind c.args.cid c.entry.result
    (c.note_sent.ensures c.args.store.now.pages) c.entry.ensures.entry c.post.ensures.posts (c.await_deletion.ensures c.post.new.store.pages)

pub note_sent-requires-clause-place : goal.note_sent-requires-clause-place
note_sent-requires-clause-place g c =
    let can = c.requires.ready in
    new-place c.args.self.now c.args.store.now.pages 0 c.args.cid c.requires.whole (slice_get_within c.args.self.now.queues.items 0 can.slot.queue can.slot.at) (next-fresh (tables_of c.args.self.now c.args.store.now.pages) c.requires.whole 0 c.args.cid can.slot.queue can.slot.at can.slot.next)

pub note_sent-requires-clause-empty : goal.note_sent-requires-clause-empty
note_sent-requires-clause-empty g c =
    let can = c.requires.ready in
    new-empty c.args.self.now c.args.store.now.pages 0 c.args.cid (next-fresh (tables_of c.args.self.now c.args.store.now.pages) c.requires.whole 0 c.args.cid can.slot.queue can.slot.at can.slot.next)
