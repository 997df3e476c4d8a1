use Rattle.std.proofs.Common.{ap, ◌≡◌, ◌∙◌}
use Rattle.host_core.proofs.Creations.{bare-of, creatable-there, creates-apart, first-within, granted-can-post, granted-new, granted-next, granted-noted-there, granted-settled, granted-there}
use Rattle.host_core.{proofs.{Identifiers.{new-empty, place-of}, Told.touches_then}, specs.{Parts.tables_of, Sending.creation, Tables.Tables}}
use Rattle.queue_pair.specs.Memory.{half_pages}
use Rattle.host_core.proofs.tables.HostTables.commit_create.Goals as goal

pub command-kind-requires : goal.command-kind-requires
command-kind-requires g c = first-within (tables_of c.args.self.now c.args.store.now.pages) c.args.half c.args.creation.first c.requires.whole c.requires.ready.run

pub grant_half-requires-clause-there : goal.grant_half-requires-clause-there
grant_half-requires-clause-there g c =
    creatable-there (tables_of c.args.self.now c.args.store.now.pages) c.args.half c.args.q c.args.creation.cid c.args.creation.first c.requires.whole c.requires.ready

pub note_sent-requires-clause-there : goal.note_sent-requires-clause-there
note_sent-requires-clause-there g c =
    granted-there (tables_of c.args.self.now c.args.store.now.pages) (tables_of c.grant_half.new.self c.grant_half.new.store.pages) c.args.half c.args.q c.args.creation.cid c.args.creation.first c.requires.whole c.requires.ready c.grant_half.ensures.granted

pub note_sent-requires-clause-next : goal.note_sent-requires-clause-next
note_sent-requires-clause-next g c =
    granted-next (tables_of c.args.self.now c.args.store.now.pages) (tables_of c.grant_half.new.self c.grant_half.new.store.pages) c.args.half c.args.q c.args.creation.cid c.args.creation.first c.requires.whole c.requires.ready c.grant_half.ensures.granted

pub note_sent-requires-clause-place : goal.note_sent-requires-clause-place
note_sent-requires-clause-place g c =
    let t : Tables = tables_of c.args.self.now c.args.store.now.pages in
    let u : Tables = tables_of c.grant_half.new.self c.grant_half.new.store.pages in
    let s = granted-settled t u c.args.half c.args.q c.args.creation.cid c.args.creation.first c.requires.whole c.requires.ready c.grant_half.ensures.granted in
    place-of c.grant_half.new.self c.grant_half.new.store.pages 0 c.args.creation.cid s.limits.record_queues s.limits.record_places
    (granted-there t u c.args.half c.args.q c.args.creation.cid c.args.creation.first c.requires.whole c.requires.ready c.grant_half.ensures.granted)
    (granted-new t u c.args.half c.args.q c.args.creation.cid c.args.creation.first c.requires.whole c.requires.ready c.grant_half.ensures.granted)

pub note_sent-requires-clause-empty : goal.note_sent-requires-clause-empty
note_sent-requires-clause-empty g c =
    let t : Tables = tables_of c.args.self.now c.args.store.now.pages in
    let u : Tables = tables_of c.grant_half.new.self c.grant_half.new.store.pages in
    new-empty c.grant_half.new.self c.grant_half.new.store.pages 0 c.args.creation.cid
    (granted-new t u c.args.half c.args.q c.args.creation.cid c.args.creation.first c.requires.whole c.requires.ready c.grant_half.ensures.granted)

pub post-requires-clause-there : goal.post-requires-clause-there
post-requires-clause-there g c =
    granted-noted-there (tables_of c.args.self.now c.args.store.now.pages) (tables_of c.grant_half.new.self c.grant_half.new.store.pages) (tables_of c.note_sent.new.self c.grant_half.new.store.pages)
    c.args.half c.args.q c.args.creation.cid c.args.creation.first c.command-kind.result c.requires.whole c.requires.ready c.grant_half.ensures.granted (c.note_sent.ensures c.grant_half.new.store.pages)

pub post-requires-clause-can : goal.post-requires-clause-can
post-requires-clause-can g c =
    granted-can-post (tables_of c.args.self.now c.args.store.now.pages) (tables_of c.grant_half.new.self c.grant_half.new.store.pages) (tables_of c.note_sent.new.self c.grant_half.new.store.pages)
    c.args.half c.args.q c.args.creation.cid c.args.creation.first c.command-kind.result c.entry.result c.requires.whole c.requires.ready c.grant_half.ensures.granted (c.note_sent.ensures c.grant_half.new.store.pages) c.entry.ensures.entry

pub returns-clause-creates : goal.returns-clause-creates
returns-clause-creates g c =
    let t : Tables = tables_of c.args.self.now c.args.store.now.pages in
    let u : Tables = tables_of c.grant_half.new.self c.grant_half.new.store.pages in
    let kind : c.command-kind.result ≡ creation c.args.half c.args.q t.entries c.args.creation.first c.args.vector =
    c.command-kind.ensures ∙ ap (λ (x : Tables). creation c.args.half c.args.q x.entries c.args.creation.first c.args.vector) c.grant_half.ensures.granted in
    creates-apart t u (tables_of c.note_sent.new.self c.grant_half.new.store.pages) (tables_of c.post.new.self c.post.new.store.pages) c.args.half c.args.q c.args.vector c.args.creation.cid c.args.creation.first c.command-kind.result c.entry.result
    (bare-of t c.args.half c.args.q c.args.vector c.requires.whole (c.requires.ready.none c.args.vector)).other kind c.grant_half.ensures.granted (c.note_sent.ensures c.grant_half.new.store.pages) c.entry.ensures.entry c.post.ensures.posts

pub returns-clause-touches : goal.returns-clause-touches
returns-clause-touches g c =
    touches_then (half_pages c.args.self.now.entries c.args.half) 1 c.args.store.now c.grant_half.new.store c.post.new.store c.grant_half.ensures.touches c.post.ensures.touches
