use Rattle.std.proofs.{Common.{◌≡◌, ◌∙◌, [], arith, ap, sym}, lemmas.Option.slice_get_within}
use Rattle.page_memory.{proofs.Lists.some_is, specs.declared.page.Half.TheVariants.Submission}
use Rattle.host_core.{proofs.QueueLists.queue-at, specs.{Parts.tables_of, Rows.Queue, Tables.Tables}}
use Rattle.queue_pair.specs.Rings.{first_page_of}
use Rattle.host_core.proofs.tables.HostTables.give_back_submission.Goals as goal

pub index-requires : goal.index-requires
index-requires g c = omega (arith, c.from.ensures, c.args.self.now.queues.ok.0, slice_get_within c.args.self.now.queues.items c.args.q c.requires.queue c.requires.at)

pub give_back_run-requires : goal.give_back_run-requires
give_back_run-requires g c =
    let t : Tables = tables_of c.args.self.now [] in
    let inside = slice_get_within t.queues c.args.q c.requires.queue c.requires.at in
    let is : c.requires.queue ≡ c.index.result.now = some_is (sym c.requires.at ∙ queue-at t c.args.q c.from.result c.index.result.now inside c.from.ensures c.index.ensures) in
    let first : c.first_page-first.result ≡ first_page_of Submission c.requires.queue.host = c.first_page-first.ensures ∙ ap (λ (x : Queue). first_page_of Submission x.host) (sym is) in
    rw (c.half_pages-pages.ensures, first) c.requires.lists
