use Rattle.std.proofs.Common.{◌≡◌, ◌∙◌, ap, arith, length, refl, sym}
use Rattle.io_commands.{proofs.Building.{joined_parts_few, few_pieces}, specs.{Asked.Request, Drafts.draft_parts, Requests.data_count, Values.numbers_of}}
use Rattle.sgl_chain.proofs.Spelled.{needed_few}
use Rattle.host_bench.proofs.call.Reply.reserved.Goals as goal

pub overflow_cast-result-2 : goal.overflow_cast-result-2
overflow_cast-result-2 g c =
    let d = c.args.draft.now in
    let whole = c.request.ensures.draft in
    omega (
      arith,
      ap length c.chain_pages-chain.ensures,
      whole.chain_has_pages,
      needed_few (length (draft_parts d)) d.segment,
      joined_parts_few d.request.pieces (numbers_of d.data_pages),
      few_pieces d.request.kind d.request.block_size d.request.blocks d.request.pieces whole.good,
    )

pub returns : goal.returns
returns g c =
    let d = c.args.draft.now in
    let front : c.data_pages-data.result ≡ length d.data_pages = c.data_pages-data.ensures ∙ ap (λ (r : Request). data_count r.pieces) c.request.ensures.request ∙ sym c.request.ensures.draft.pieces_have_pages in
    rw (c.q.ensures, c.cid.ensures, front, c.chain_pages-chain.ensures) refl
