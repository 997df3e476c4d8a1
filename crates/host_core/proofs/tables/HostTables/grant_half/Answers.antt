use Rattle.std.proofs.Common.{◌≡◌, ◌∙◌, ◌<◌, ℕ, Some, length, ap, is_some, subst, sym}
use Rattle.machine_model.specs.After.{change}
use Rattle.page_ledger.specs.Owners.{pages_from}
use Rattle.host_core.proofs.{Lists.{change-at-lists as change-at}, Making.{half-can-zero, made-granted, run-lowest, run-within}}
use Rattle.host_core.specs.{Commands.CanZero, Parts.tables_of, Sending.making, Tables.Tables}
use Rattle.host_core.proofs.tables.HostTables.grant_half.Goals as goal

pub unwrap-requires : goal.unwrap-requires
unwrap-requires g c =
    let t : Tables = tables_of c.args.self.now c.args.store.now.pages in
    ap is_some (c.grant_run.ensures.lowest ∙ run-lowest t c.args.half c.args.first c.half_pages-need.result c.requires.whole c.half_pages-need.ensures c.requires.run)

pub zero_run-requires-clause-few : goal.zero_run-requires-clause-few
zero_run-requires-clause-few g c =
    run-within (tables_of c.args.self.now c.args.store.now.pages) c.args.half c.args.first c.half_pages-need.result c.requires.whole c.half_pages-need.ensures c.requires.run

pub zero_run-requires-clause-can : goal.zero_run-requires-clause-can
zero_run-requires-clause-can g c =
    let t : Tables = tables_of c.args.self.now c.args.store.now.pages in
    subst (λ (n : ℕ). CanZero (pages_from c.args.first n) c.args.store.now.pages) (sym c.half_pages-need.ensures) (half-can-zero t c.args.half c.args.first c.requires.whole c.requires.run)

pub returns-clause-granted : goal.returns-clause-granted
returns-clause-granted g c =
    let t : Tables = tables_of c.args.self.now c.args.store.now.pages in
    let first : c.grant_run.result ≡ Some c.args.first =
    c.grant_run.ensures.lowest ∙ run-lowest t c.args.half c.args.first c.half_pages-need.result c.requires.whole c.half_pages-need.ensures c.requires.run in
    made-granted t c.args.half c.args.q c.args.first c.half_pages-need.result c.zero_run.new.store.pages c.grant_run.new.self _ c.half_pages-need.ensures c.zero_run.ensures.pages
    (rw first at c.grant_run.ensures.owners)
    (change-at c.from.result (making c.args.half c.args.first) t.queues c.index_mut.result.now c.make.new.queue (subst (λ (k : ℕ). k < length t.queues) (sym c.from.ensures) c.requires.there) c.index_mut.ensures.value c.make.ensures
    ∙ ap (λ (k : ℕ). change k (making c.args.half c.args.first) t.queues) c.from.ensures)

pub returns-clause-touches : goal.returns-clause-touches
returns-clause-touches g c = rw (← c.half_pages-need.ensures) c.zero_run.ensures.touches
