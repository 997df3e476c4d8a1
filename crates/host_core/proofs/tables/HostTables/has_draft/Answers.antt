use Rattle.std.proofs.Common.{false, sym, ap, ◌∙◌, subst}
use Rattle.io_commands.specs.{Asked.Request, DataBytes.PagesOut, Drafts.DraftContents, Requests.data_count}
use Rattle.machine_model.specs.Proper.{ArePages}
use Rattle.host_core.{proofs.Ending.{proper_draft, reads_from, read_has}, specs.Parts.records_of}
use Rattle.host_core.proofs.tables.HostTables.has_draft.Goals as goal

pub returns-clause-told : goal.returns-clause-told
returns-clause-told g c =
    let d : DraftContents = c.args.draft.now in
    let count = c.data_pages.ensures ∙ (ap (λ (r : Request). data_count r.pieces) c.request-request.ensures.request ∙ sym c.request-request.ensures.draft.pieces_have_pages) in
    let reads = reads_from d.q d.cid d.request d.data_pages d.chain_pages c.q.result c.cid.result c.request-request.result.now c.pages-2.result.now c.data_pages.result c.split_at.result.0.now c.split_at.result.1.now
    c.q.ensures c.cid.ensures c.request-request.ensures.request c.pages-2.ensures count c.split_at.ensures.front c.split_at.ensures.back in
    c.has_record.ensures
    ∙ read_has (records_of c.args.self.now.records.rows) false d.q d.cid d.request d.data_pages d.chain_pages c.q.result c.cid.result c.request-request.result.now c.split_at.result.0.now c.split_at.result.1.now reads

pub returns-clause-proper : goal.returns-clause-proper
returns-clause-proper g c =
    proper_draft c.args.draft.now c.request-request.ensures.fits (subst (λ (ps : PagesOut). ArePages ps) c.pages.ensures c.are_whole.ensures.whole) c.request-request.ensures.draft
