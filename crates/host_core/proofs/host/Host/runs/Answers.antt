use Rattle.std.{proofs.Common.{◌≡◌, List, [], ◌++◌, sym, ◌∙◌, ap, ap₂}, specs.Option.option_map_or}
use Rattle.host_core.{proofs.RowRecords.{found-row, no-row}, specs.{Alone.HostView, Parts.record_of, Rights.{right_of_role, runs_of, runs_of_command, runs_of_record}, Rows.RecordRow}}
use Rattle.host_core.specs.declared.rights.Run.{Run}
use Rattle.page_ledger.specs.declared.owner.Role.TheVariants.{Data, Chain}
use Rattle.host_core.proofs.host.Host.runs.Goals as goal

pub returns-in-Some : goal.returns-in-Some
returns-in-Some g c =
    let rows = c.self.inside.parts.records.rows in
    let q = c.args.q in
    let cid = c.args.cid in
    let row : RecordRow = c.in-Some.entry.now in
    let in_data : runs_of c.right.result c.deref.result.now ≡ runs_of (right_of_role (record_of q cid row) Data) row.data_pages =
    ap₂ runs_of (c.right.ensures q cid) (c.deref.ensures.value ∙ ap (λ (k : RecordRow). k.data_pages) c.entry.view_is) in
    let in_chain : runs_of c.right-in-Some.result c.deref-in-Some.result.now ≡ runs_of (right_of_role (record_of q cid row) Chain) row.chain_pages =
    ap₂ runs_of (c.right-in-Some.ensures q cid) (c.deref-in-Some.ensures.value ∙ ap (λ (k : RecordRow). k.chain_pages) c.entry.view_is) in
    ap₂ (λ (a b : List Run). a ++ b) in_data in_chain
    ∙ (ap (λ o. option_map_or runs_of_record o []) (sym (found-row rows q cid row (sym c.in-Some.ensures.value)))
    ∙ ap (λ (v : HostView). runs_of_command v.host q cid) c.self.view_is)

pub returns-in-None : goal.returns-in-None
returns-in-None g c =
    ap (λ o. option_map_or runs_of_record o []) (sym (no-row c.self.inside.parts.records.rows c.args.q c.args.cid (sym c.in-None.ensures.value)))
    ∙ ap (λ (v : HostView). runs_of_command v.host c.args.q c.args.cid) c.self.view_is
