use Rattle.std.proofs.Common.{◌∙◌}
use Rattle.host_core.{proofs.Submitted.{brought_tables, submit_can_post, submit_can_put, submit_there, submits_apart}, specs.{Parts.tables_of, Tables.Tables}}
use Rattle.host_core.proofs.tables.HostTables.commit_submit.Goals as goal

pub move_in-requires : goal.move_in-requires
move_in-requires g c = submit_can_put (tables_of c.args.self.now c.args.store.now.pages) c.args.draft c.args.entry c.apart-parts.result.pages.items c.requires.whole c.requires.ready c.apart-parts.ensures.pages

pub post-requires-clause-there : goal.post-requires-clause-there
post-requires-clause-there g c =
    let t : Tables = tables_of c.args.self.now c.args.store.now.pages in
    let brought = c.mark_submitted.ensures c.move_in.new.store.pages
    ∙ brought_tables t c.args.draft c.apart-parts.result.pages.items c.move_in.new.store.pages c.apart-parts.result.q c.apart-parts.result.cid c.apart-parts.ensures.queue c.apart-parts.ensures.identifier c.apart-parts.ensures.pages c.move_in.ensures.pages in
    submit_there t (tables_of c.mark_submitted.new.self c.move_in.new.store.pages) c.args.draft c.args.entry c.apart-parts.result.q c.requires.ready brought c.apart-parts.ensures.queue

pub post-requires-clause-can : goal.post-requires-clause-can
post-requires-clause-can g c =
    let t : Tables = tables_of c.args.self.now c.args.store.now.pages in
    let brought = c.mark_submitted.ensures c.move_in.new.store.pages
    ∙ brought_tables t c.args.draft c.apart-parts.result.pages.items c.move_in.new.store.pages c.apart-parts.result.q c.apart-parts.result.cid c.apart-parts.ensures.queue c.apart-parts.ensures.identifier c.apart-parts.ensures.pages c.move_in.ensures.pages in
    submit_can_post t (tables_of c.mark_submitted.new.self c.move_in.new.store.pages) c.args.draft c.args.entry c.apart-parts.result.q c.requires.whole c.requires.ready brought c.apart-parts.ensures.queue

pub returns-clause-submits : goal.returns-clause-submits
returns-clause-submits g c =
    let t : Tables = tables_of c.args.self.now c.args.store.now.pages in
    let brought = c.mark_submitted.ensures c.move_in.new.store.pages
    ∙ brought_tables t c.args.draft c.apart-parts.result.pages.items c.move_in.new.store.pages c.apart-parts.result.q c.apart-parts.result.cid c.apart-parts.ensures.queue c.apart-parts.ensures.identifier c.apart-parts.ensures.pages c.move_in.ensures.pages in
    submits_apart t (tables_of c.mark_submitted.new.self c.move_in.new.store.pages) (tables_of c.post.new.self c.post.new.store.pages) c.args.draft c.args.entry c.apart-parts.result.q brought c.apart-parts.ensures.queue c.post.ensures.posts
