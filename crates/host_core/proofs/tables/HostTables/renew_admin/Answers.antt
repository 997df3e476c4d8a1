use Rattle.std.proofs.Common.{[], subst, sym}
use Rattle.machine_model.specs.Memory.{zeroed_pages}
use Rattle.page_ledger.specs.Owners.{pages_from}
use Rattle.page_memory.specs.{Pages.Pages, declared.page.Half.TheVariants.{Submission, Completion}}
use Rattle.host_core.{proofs.{Resets.{admin-renewed, admin-run, run-can_zero, run-few}, Told.touches_then}, specs.{Commands.CanZero, Parts.tables_of}}
use Rattle.host_core.specs.Tables.{Tables}
use Rattle.host_core.proofs.tables.HostTables.renew_admin.Goals as goal

pub zero_run-requires-clause-few : goal.zero_run-requires-clause-few
zero_run-requires-clause-few g c =
    let t : Tables = tables_of c.args.self.now c.args.store.now.pages in
    run-few t c.requires Submission c.first_page-sq.result c.half_pages.result
    (admin-run t Submission c.index.result.now c.first_page-sq.result c.half_pages.result c.requires c.index.ensures c.first_page-sq.ensures c.half_pages.ensures)

pub zero_run-requires-clause-can : goal.zero_run-requires-clause-can
zero_run-requires-clause-can g c =
    let t : Tables = tables_of c.args.self.now c.args.store.now.pages in
    run-can_zero t c.requires Submission c.first_page-sq.result c.half_pages.result []
    (admin-run t Submission c.index.result.now c.first_page-sq.result c.half_pages.result c.requires c.index.ensures c.first_page-sq.ensures c.half_pages.ensures)

pub zero_run-requires-2-clause-few : goal.zero_run-requires-2-clause-few
zero_run-requires-2-clause-few g c =
    let t : Tables = tables_of c.args.self.now c.args.store.now.pages in
    run-few t c.requires Completion c.first_page-cq.result c.half_pages-2.result
    (admin-run t Completion c.index-2.result.now c.first_page-cq.result c.half_pages-2.result c.requires c.index-2.ensures c.first_page-cq.ensures c.half_pages-2.ensures)

pub zero_run-requires-2-clause-can : goal.zero_run-requires-2-clause-can
zero_run-requires-2-clause-can g c =
    let t : Tables = tables_of c.args.self.now c.args.store.now.pages in
    subst (λ (m : Pages). CanZero (pages_from c.first_page-cq.result c.half_pages-2.result) m) (sym c.zero_run.ensures.pages)
    (run-can_zero t c.requires Completion c.first_page-cq.result c.half_pages-2.result (zeroed_pages (pages_from c.first_page-sq.result c.half_pages.result))
    (admin-run t Completion c.index-2.result.now c.first_page-cq.result c.half_pages-2.result c.requires c.index-2.ensures c.first_page-cq.ensures c.half_pages-2.ensures))

pub returns-clause-renewed : goal.returns-clause-renewed
returns-clause-renewed g c =
    let t : Tables = tables_of c.args.self.now c.args.store.now.pages in
    admin-renewed t c.zero_run.new.store.pages c.zero_run-2.new.store.pages c.index_mut.result.now c.reset_admin.new.queue
    c.first_page-sq.result c.half_pages.result c.first_page-cq.result c.half_pages-2.result c.requires
    (admin-run t Submission c.index.result.now c.first_page-sq.result c.half_pages.result c.requires c.index.ensures c.first_page-sq.ensures c.half_pages.ensures)
    (admin-run t Completion c.index-2.result.now c.first_page-cq.result c.half_pages-2.result c.requires c.index-2.ensures c.first_page-cq.ensures c.half_pages-2.ensures)
    c.zero_run.ensures.pages c.zero_run-2.ensures.pages c.index_mut.ensures.value c.reset_admin.ensures

pub returns-clause-touches : goal.returns-clause-touches
returns-clause-touches g c =
    rw (← c.half_pages.ensures, ← c.half_pages-2.ensures)
    (touches_then c.half_pages.result c.half_pages-2.result c.args.store.now c.zero_run.new.store c.zero_run-2.new.store c.zero_run.ensures.touches c.zero_run-2.ensures.touches)
