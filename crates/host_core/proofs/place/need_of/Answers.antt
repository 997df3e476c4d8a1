use Rattle.std.proofs.{Common.{◌≡◌, ◌<◌, ◌≤◌, ◌∙◌, ℕ, List, arith, ap, sym, length}, lemmas.List.Sums.count_by-le-length}
use Rattle.io_commands.{proofs.Building.few_pieces, specs.Requests.{is_data, data_count, joined_parts}}
use Rattle.sgl_chain.{proofs.Spelled.needed_few, specs.Chains.pages_needed}
use Rattle.machine_model.specs.Placement.{placed}
use Rattle.page_ledger.specs.{Owners.free_pages, declared.owner.Counts.Counts}
use Rattle.host_core.proofs.{Granting.wanted-placed, Making.{placed-run, placed-lowest, least-in-run}}
use Rattle.host_core.proofs.place.need_of.Goals as goal

pub overflow_add-result : goal.overflow_add-result
overflow_add-result g c =
    let request = c.args.request.now in
    omega (arith, c.data_pages-data_pages.ensures, c.scattered_chain.ensures.few, needed_few (length request.pieces) c.args.segment, few_pieces request.kind request.block_size request.blocks request.pieces c.requires.good, count_by-le-length is_data request.pieces)

pub returns-in-Some : goal.returns-in-Some
returns-in-Some g c =
    let request = c.args.request.now in
    let free : List ℕ = free_pages c.args.ledger.now in
    let data_pages : c.data_pages-data_pages.result ≡ data_count request.pieces = c.data_pages-data_pages.ensures in
    let some : 0 < data_count request.pieces = omega (arith, data_pages, c.if-data_pages-eq0.false) in
    let counted : c.counts.result.free_pages ≡ length free = ap (λ (x : Counts). x.free_pages) c.counts.ensures.counts in
    let room : data_count request.pieces ≤ length free = omega (arith, data_pages, counted, c.if-counts-data_pages.false) in
    let run = placed-run c.args.ledger.now c.data_pages-data_pages.result c.in-Some.field-0 (omega (arith, data_pages, some)) (sym c.in-Some.is ∙ c.lowest_run.ensures.lowest) in
    c.least_pages-in-Some.ensures
    ∙ sym (least-in-run free c.args.segment c.in-Some.field-0 request c.requires.good (rw data_pages at run))
    ∙ sym (wanted-placed free c.args.segment request.pieces room)

pub returns-in-None : goal.returns-in-None
returns-in-None g c =
    let request = c.args.request.now in
    let free : List ℕ = free_pages c.args.ledger.now in
    let data_pages : c.data_pages-data_pages.result ≡ data_count request.pieces = c.data_pages-data_pages.ensures in
    let some : 0 < data_count request.pieces = omega (arith, data_pages, c.if-data_pages-eq0.false) in
    let counted : c.counts.result.free_pages ≡ length free = ap (λ (x : Counts). x.free_pages) c.counts.ensures.counts in
    let room : data_count request.pieces ≤ length free = omega (arith, data_pages, counted, c.if-counts-data_pages.false) in
    let lowest = placed-lowest c.args.ledger.now c.data_pages-data_pages.result (omega (arith, data_pages, some)) (sym c.in-None.is ∙ c.lowest_run.ensures.lowest) in
    let pages = sym lowest ∙ ap (placed free) data_pages in
    omega (arith, data_pages, c.scattered_chain.ensures.count, wanted-placed free c.args.segment request.pieces room, ap (λ (ps : List ℕ). pages_needed (length (joined_parts request.pieces ps)) c.args.segment) pages)
