use Rattle.std.proofs.Common.{◌++◌, ◌∷◌, [], ℕ, None, ap, ap₂, ◌∙◌, List}
use Rattle.machine_model.specs.declared.words.{Phase.TheVariants.Submitted, Work.TheVariants.Management}
use Rattle.host_core.specs.{Parts.tables_of, Rows.Queue, Sending.noted, Tables.Tables}
use Rattle.entry_codec.specs.declared.hints.TheConstants.Hints.{NONE}
use Rattle.host_core.proofs.tables.HostTables.note_sent.Goals as goal

pub returns : goal.returns
returns g c = λ pages.
    let t : Tables = tables_of c.args.self.now pages in
    let made : List ℕ → List ℕ → Tables =
    λ a b. record t { records = t.records ++ record { q = 0; cid = c.args.cid; phase = Submitted; work = Management c.args.kind; data_pages = a; chain_pages = b; status = None; hints = NONE } ∷ []; queues = c.claim.new.queues.items } in
    c.add_record.ensures pages
    ∙ (ap₂ made c.new.ensures.items c.new-2.ensures.items
    ∙ ap (λ (qs : List Queue). record (noted c.args.kind c.args.cid t) { queues = qs }) c.claim.ensures)
