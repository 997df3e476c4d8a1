use Rattle.std.proofs.Common.{◌≡◌, ◌∙◌, ℕ, List, sym, subst, ap, ◌<◌, length, is_none, true, false}
use Rattle.io_commands.specs.{Drafts.DraftContents, Values.numbers_of}
use Rattle.machine_model.specs.Refusals.{is_live, queue_full}
use Rattle.host_core.{proofs.{Ending.belongs-from, Submitted.{live_within, submit_full, submit_gone, submit_ready}}, specs.Commands.{passes, state_at}}
use Rattle.host_core.specs.{Parts.tables_of, Rows.Queue, Tables.{Tables, state_of}}
use Rattle.host_core.proofs.tables.HostTables.check_submit.Goals as goal

pub is_queue_full-requires-clause-there : goal.is_queue_full-requires-clause-there
is_queue_full-requires-clause-there g c =
    let d : DraftContents = c.args.draft.now in
    subst (λ (k : ℕ). k < length c.args.self.now.queues.items) (sym c.q-2.ensures)
    (live_within c.args.self.now.queues.items d.q
    (ap (λ (qs : List Queue). passes is_live (state_at qs d.q)) (sym c.deref.ensures.value)
    ∙ (ap (λ (k : ℕ). passes is_live (state_at c.deref.result.now k)) (sym c.q.ensures) ∙ (sym c.is_live.ensures ∙ c.if-not-is_live.false))))

pub returns-then-not-is_live-clause-refused : goal.returns-then-not-is_live-clause-refused
returns-then-not-is_live-clause-refused g c = λ pages w.
    let t : Tables = tables_of c.args.self.now pages in
    let d : DraftContents = c.args.draft.now in
    let belongs = belongs-from t.records false d.q d.cid d.request (numbers_of d.data_pages) (numbers_of d.chain_pages) (sym c.has_draft.ensures.told ∙ c.if-not-has_draft.false) in
    let live : passes is_live (state_at t.queues d.q) ≡ false =
    ap (λ (qs : List Queue). passes is_live (state_at qs d.q)) (sym c.deref.ensures.value)
    ∙ (ap (λ (k : ℕ). passes is_live (state_at c.deref.result.now k)) (sym c.q.ensures) ∙ (sym c.is_live.ensures ∙ c.if-not-is_live.true)) in
    submit_gone t d belongs (ap is_none (sym c.in-Some.ensures)) live

pub returns-then-is_queue_full-clause-refused : goal.returns-then-is_queue_full-clause-refused
returns-then-is_queue_full-clause-refused g c = λ pages w.
    let t : Tables = tables_of c.args.self.now pages in
    let d : DraftContents = c.args.draft.now in
    let belongs = belongs-from t.records false d.q d.cid d.request (numbers_of d.data_pages) (numbers_of d.chain_pages) (sym c.has_draft.ensures.told ∙ c.if-not-has_draft.false) in
    let live : passes is_live (state_at t.queues d.q) ≡ true =
    ap (λ (qs : List Queue). passes is_live (state_at qs d.q)) (sym c.deref.ensures.value)
    ∙ (ap (λ (k : ℕ). passes is_live (state_at c.deref.result.now k)) (sym c.q.ensures) ∙ (sym c.is_live.ensures ∙ c.if-not-is_live.false)) in
    let full : queue_full (state_of t) d.q ≡ true = ap (λ (k : ℕ). queue_full (state_of t) k) (sym c.q-2.ensures) ∙ (sym (c.is_queue_full.ensures pages) ∙ c.if-is_queue_full.true) in
    submit_full t d belongs (ap is_none (sym c.in-Some.ensures)) live full

pub returns-clause-ready : goal.returns-clause-ready
returns-clause-ready g c = λ pages w.
    let t : Tables = tables_of c.args.self.now pages in
    let d : DraftContents = c.args.draft.now in
    let belongs = belongs-from t.records false d.q d.cid d.request (numbers_of d.data_pages) (numbers_of d.chain_pages) (sym c.has_draft.ensures.told ∙ c.if-not-has_draft.false) in
    let live : passes is_live (state_at t.queues d.q) ≡ true =
    ap (λ (qs : List Queue). passes is_live (state_at qs d.q)) (sym c.deref.ensures.value)
    ∙ (ap (λ (k : ℕ). passes is_live (state_at c.deref.result.now k)) (sym c.q.ensures) ∙ (sym c.is_live.ensures ∙ c.if-not-is_live.false)) in
    let full : queue_full (state_of t) d.q ≡ false = ap (λ (k : ℕ). queue_full (state_of t) k) (sym c.q-2.ensures) ∙ (sym (c.is_queue_full.ensures pages) ∙ c.if-is_queue_full.false) in
    submit_ready t d c.in-Some.entry w c.has_draft.ensures.proper belongs (sym c.in-Some.ensures) live full
