use Rattle.std.proofs.Common.{rules, ◌++◌, [], false, sym, ◌∙◌}
use Rattle.io_commands.specs.{Drafts.DraftContents, Values.numbers_of}
use Rattle.host_core.proofs.{Ending.{cancel_refused, cancel_made, belongs-from, belongs_brings, ended_apart, brings_apart}, Identifiers.host_of}
use Rattle.host_core.{proofs.Openings.{whole_at, step_at, stays_at}, specs.{Parts.tables_of, Tables.Tables, Whole.IsWhole}}
use Rattle.machine_model.specs.Events as events
use Rattle.machine_model.specs.declared.words.Refusal.TheVariants as refusal
use Rattle.host_core.proofs.host.Host.cancel.Goals as goal

pub returns-then-not-has_draft-clause-step : goal.returns-then-not-has_draft-clause-step
returns-then-not-has_draft-clause-step g c =
    let t : Tables = tables_of c.self.inside.parts c.args.store.now.pages in
    let d : DraftContents = c.args.draft in
    let none = sym c.has_draft.ensures.told ∙ c.if-not-has_draft.true in
    stays_at t c.args.self.now (events.Cancel d) (events.Refused refusal.Stranger []) c.self.view_is (cancel_refused t d c.has_draft.ensures.proper none)

pub commit_end-requires-clause-whole : goal.commit_end-requires-clause-whole
commit_end-requires-clause-whole g c =
    whole_at (tables_of c.self.inside.parts []) c.args.self.now c.args.store.now.pages c.self.view_is c.self.invariant c.requires

pub commit_end-requires-clause-brings : goal.commit_end-requires-clause-brings
commit_end-requires-clause-brings g c =
    let t : Tables = tables_of c.self.inside.parts c.args.store.now.pages in
    let d : DraftContents = c.args.draft in
    let belongs = belongs-from t.records false d.q d.cid d.request (numbers_of d.data_pages) (numbers_of d.chain_pages) (sym c.has_draft.ensures.told ∙ c.if-not-has_draft.false) in
    brings_apart t d.q d.cid (d.data_pages ++ d.chain_pages) c.apart-parts.result.q c.apart-parts.result.cid c.apart-parts.result.pages.items c.apart-parts.ensures.queue c.apart-parts.ensures.identifier c.apart-parts.ensures.pages
    (belongs_brings t false d.q d.cid d.request d.data_pages d.chain_pages belongs)

pub invariant_of-self : goal.invariant_of-self
invariant_of-self g c =
    let t : Tables = tables_of c.self.inside.parts c.args.store.now.pages in
    let w : IsWhole t = whole_at (tables_of c.self.inside.parts []) c.args.self.now c.args.store.now.pages c.self.view_is c.self.invariant c.requires in
    let d : DraftContents = c.args.draft in
    let belongs = belongs-from t.records false d.q d.cid d.request (numbers_of d.data_pages) (numbers_of d.chain_pages) (sym c.has_draft.ensures.told ∙ c.if-not-has_draft.false) in
    let new : Tables = tables_of c.commit_end.new.self c.commit_end.new.store.pages in
    let left = ended_apart t new d.q d.cid (d.data_pages ++ d.chain_pages) c.apart-parts.result.q c.apart-parts.result.cid c.apart-parts.result.pages.items
    c.apart-parts.ensures.queue c.apart-parts.ensures.identifier c.apart-parts.ensures.pages c.commit_end.ensures.ended in
    let made = cancel_made t new d w c.has_draft.ensures.proper belongs left in
    host_of (tables_of c.commit_end.new.self []) c.commit_end.new.store.pages made.whole

pub returns : goal.returns
returns g c =
    let t : Tables = tables_of c.self.inside.parts c.args.store.now.pages in
    let w : IsWhole t = whole_at (tables_of c.self.inside.parts []) c.args.self.now c.args.store.now.pages c.self.view_is c.self.invariant c.requires in
    let d : DraftContents = c.args.draft in
    let belongs = belongs-from t.records false d.q d.cid d.request (numbers_of d.data_pages) (numbers_of d.chain_pages) (sym c.has_draft.ensures.told ∙ c.if-not-has_draft.false) in
    let new : Tables = tables_of c.commit_end.new.self c.commit_end.new.store.pages in
    let left = ended_apart t new d.q d.cid (d.data_pages ++ d.chain_pages) c.apart-parts.result.q c.apart-parts.result.cid c.apart-parts.result.pages.items
    c.apart-parts.ensures.queue c.apart-parts.ensures.identifier c.apart-parts.ensures.pages c.commit_end.ensures.ended in
    let made = cancel_made t new d w c.has_draft.ensures.proper belongs left in
    record {
      step = step_at t new c.args.self.now (events.Cancel d) events.Accepted c.self.view_is made.step;
      touches = c.commit_end.ensures.touches;
      over = made.whole.over;
      back = tt;
    }
