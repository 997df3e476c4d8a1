use Rattle.std.proofs.Common.{rules, ◌++◌, [], sym, ◌∙◌, subst, true}
use Rattle.io_commands.specs.{DataBytes.PagesOut, Values.{FinishedContents, numbers_of}}
use Rattle.machine_model.specs.Proper.{ArePages}
use Rattle.host_core.proofs.Ending.{reads_from, belongs-from, read_has, release_refused, release_made, belongs_brings, ended_apart, brings_apart}
use Rattle.host_core.{proofs.{Identifiers.host_of, Openings.{whole_at, step_at, stays_at}}, specs.{Parts.tables_of, Tables.Tables, Whole.IsWhole}}
use Rattle.machine_model.specs.Events as events
use Rattle.machine_model.specs.declared.words.Refusal.TheVariants as refusal
use Rattle.host_core.proofs.host.Host.release.Goals as goal

pub returns-then-not-has_record-clause-step : goal.returns-then-not-has_record-clause-step
returns-then-not-has_record-clause-step g c =
    let t : Tables = tables_of c.self.inside.parts c.args.store.now.pages in
    let d : FinishedContents = c.args.finished in
    let reads = reads_from d.q d.cid d.request d.data_pages d.chain_pages c.q.result c.cid.result c.request-request.result.now c.pages-2.result.now c.data_pages.result c.split_at.result.0.now c.split_at.result.1.now
    c.q.ensures c.cid.ensures c.request-request.ensures c.pages-2.ensures c.data_pages.ensures c.split_at.ensures.front c.split_at.ensures.back in
    let none = sym c.has_record.ensures ∙ c.if-not-has_record.true in
    stays_at t c.args.self.now (events.Release d) (events.Refused refusal.Stranger []) c.self.view_is
    (release_refused t d (subst (λ (ps : PagesOut). ArePages ps) c.pages.ensures c.are_whole.ensures.whole) (sym (read_has t.records true d.q d.cid d.request d.data_pages d.chain_pages c.q.result c.cid.result c.request-request.result.now c.split_at.result.0.now c.split_at.result.1.now reads) ∙ none))

pub commit_end-requires-clause-whole : goal.commit_end-requires-clause-whole
commit_end-requires-clause-whole g c =
    whole_at (tables_of c.self.inside.parts []) c.args.self.now c.args.store.now.pages c.self.view_is c.self.invariant c.requires

pub commit_end-requires-clause-brings : goal.commit_end-requires-clause-brings
commit_end-requires-clause-brings g c =
    let t : Tables = tables_of c.self.inside.parts c.args.store.now.pages in
    let d : FinishedContents = c.args.finished in
    let reads = reads_from d.q d.cid d.request d.data_pages d.chain_pages c.q.result c.cid.result c.request-request.result.now c.pages-2.result.now c.data_pages.result c.split_at.result.0.now c.split_at.result.1.now
    c.q.ensures c.cid.ensures c.request-request.ensures c.pages-2.ensures c.data_pages.ensures c.split_at.ensures.front c.split_at.ensures.back in
    let belongs = belongs-from t.records true d.q d.cid d.request (numbers_of d.data_pages) (numbers_of d.chain_pages)
    (sym (read_has t.records true d.q d.cid d.request d.data_pages d.chain_pages c.q.result c.cid.result c.request-request.result.now c.split_at.result.0.now c.split_at.result.1.now reads) ∙ (sym c.has_record.ensures ∙ c.if-not-has_record.false)) in
    brings_apart t d.q d.cid (d.data_pages ++ d.chain_pages) c.apart-parts.result.q c.apart-parts.result.cid c.apart-parts.result.pages.items c.apart-parts.ensures.queue c.apart-parts.ensures.identifier c.apart-parts.ensures.pages
    (belongs_brings t true d.q d.cid d.request d.data_pages d.chain_pages belongs)

pub invariant_of-self : goal.invariant_of-self
invariant_of-self g c =
    let t : Tables = tables_of c.self.inside.parts c.args.store.now.pages in
    let w : IsWhole t = whole_at (tables_of c.self.inside.parts []) c.args.self.now c.args.store.now.pages c.self.view_is c.self.invariant c.requires in
    let d : FinishedContents = c.args.finished in
    let reads = reads_from d.q d.cid d.request d.data_pages d.chain_pages c.q.result c.cid.result c.request-request.result.now c.pages-2.result.now c.data_pages.result c.split_at.result.0.now c.split_at.result.1.now
    c.q.ensures c.cid.ensures c.request-request.ensures c.pages-2.ensures c.data_pages.ensures c.split_at.ensures.front c.split_at.ensures.back in
    let belongs = belongs-from t.records true d.q d.cid d.request (numbers_of d.data_pages) (numbers_of d.chain_pages)
    (sym (read_has t.records true d.q d.cid d.request d.data_pages d.chain_pages c.q.result c.cid.result c.request-request.result.now c.split_at.result.0.now c.split_at.result.1.now reads) ∙ (sym c.has_record.ensures ∙ c.if-not-has_record.false)) in
    let new : Tables = tables_of c.commit_end.new.self c.commit_end.new.store.pages in
    let left = ended_apart t new d.q d.cid (d.data_pages ++ d.chain_pages) c.apart-parts.result.q c.apart-parts.result.cid c.apart-parts.result.pages.items
    c.apart-parts.ensures.queue c.apart-parts.ensures.identifier c.apart-parts.ensures.pages c.commit_end.ensures.ended in
    let made = release_made t new d w (subst (λ (ps : PagesOut). ArePages ps) c.pages.ensures c.are_whole.ensures.whole) belongs left in
    host_of (tables_of c.commit_end.new.self []) c.commit_end.new.store.pages made.whole

pub returns : goal.returns
returns g c =
    let t : Tables = tables_of c.self.inside.parts c.args.store.now.pages in
    let w : IsWhole t = whole_at (tables_of c.self.inside.parts []) c.args.self.now c.args.store.now.pages c.self.view_is c.self.invariant c.requires in
    let d : FinishedContents = c.args.finished in
    let reads = reads_from d.q d.cid d.request d.data_pages d.chain_pages c.q.result c.cid.result c.request-request.result.now c.pages-2.result.now c.data_pages.result c.split_at.result.0.now c.split_at.result.1.now
    c.q.ensures c.cid.ensures c.request-request.ensures c.pages-2.ensures c.data_pages.ensures c.split_at.ensures.front c.split_at.ensures.back in
    let belongs = belongs-from t.records true d.q d.cid d.request (numbers_of d.data_pages) (numbers_of d.chain_pages)
    (sym (read_has t.records true d.q d.cid d.request d.data_pages d.chain_pages c.q.result c.cid.result c.request-request.result.now c.split_at.result.0.now c.split_at.result.1.now reads) ∙ (sym c.has_record.ensures ∙ c.if-not-has_record.false)) in
    let new : Tables = tables_of c.commit_end.new.self c.commit_end.new.store.pages in
    let left = ended_apart t new d.q d.cid (d.data_pages ++ d.chain_pages) c.apart-parts.result.q c.apart-parts.result.cid c.apart-parts.result.pages.items
    c.apart-parts.ensures.queue c.apart-parts.ensures.identifier c.apart-parts.ensures.pages c.commit_end.ensures.ended in
    let made = release_made t new d w (subst (λ (ps : PagesOut). ArePages ps) c.pages.ensures c.are_whole.ensures.whole) belongs left in
    record {
      step = step_at t new c.args.self.now (events.Release d) events.Accepted c.self.view_is made.step;
      touches = c.commit_end.ensures.touches;
      over = made.whole.over;
      back = tt;
    }
