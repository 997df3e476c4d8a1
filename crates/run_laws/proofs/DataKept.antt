-- Data pages keep what was put into them.
use Rattle.machine_model.specs.After as a
use Rattle.machine_model.specs.Events as events
use Rattle.std.proofs.Common.{◌≡◌, ℕ, Bool, true, false, List, [], ◌∷◌, refl, ap, sym, ◌∙◌, subst, ◌==◌, nat_eq, ◌&&◌, ◌||◌, Some, eqb-true, eq-eqb, arith, Option, None, ◌++◌, inl, inr}
use Rattle.std.{proofs.lemmas.Bool.{or_parts, true≢false, and_parts, and_from}, specs.{Cmp.Lexicographic.pointwise, List.{list_any, AllByRecursion}}}
use Rattle.std.specs.Option.{option_map, option_and_then, option_map_or}
use Rattle.machine_model.proofs.{Counting.{one, total}, HostLeaves.ids_of, Sound.{named, reaped_submitted}}
use Rattle.machine_model.{proofs.{Steps.{Accepts, same_lists, permitted, exact}, Tokens.is_job}, specs.{Claims.OwnsFit, Events.{Event, Reply}}}
use Rattle.machine_model.specs.{Image.{Made, submitted_by}, Memory.with_pages, Opening.opening, Proper.IsProper}
use Rattle.machine_model.specs.Refusals.{is_submitted, is_drafted, is_held, is_of, asks_for, refusal_of, job_at, next_rung}
use Rattle.machine_model.specs.State.{State, Record, is_at, record_at, pages_of, Job, PostedCompletion, with_record}
use Rattle.machine_model.specs.{Step.{Step, reaped, finished_from, asked_by, pages_with_bytes}, Trusted.Steps, Work.Work, declared.words.Phase.Phase}
use Rattle.machine_model.specs.declared.words.{Peer.TheVariants.{Modelled}, Phase.TheVariants.Held, Refusal.Refusal, Work.TheVariants.{Io, Management}}
use Rattle.two_sides.proofs.Along.{along, trusted_step_by, Unforged, unforged_next, unforged_front, unforged_back, unforged_run, unforged_end, cut}
use Rattle.two_sides.proofs.{Commands.{nobody, no_job}, NeverFull.{stood_on, stood_at_opening, host_jobs}, PlacesKept.{drafted_not, reaped_completion}, TiedAll.admins_of}
use Rattle.two_sides.proofs.{Provided.{is_found, In, all_append, sent}, Served.{Stood, requests_same, completions_at}, Standing.list_at}
use Rattle.io_commands.specs.{Drafts.DraftContents, Values.{numbers_of, FinishedContents}}
use Rattle.run_laws.proofs.{Carrying.Stands, Known.{submit_record, unsent, submitted_stand, stand_still}}
use Rattle.run_laws.proofs.Moves.{RecordsMove, records_event, takes, JobsMove, jobs_event, QueueMove, queues_event}
use Rattle.run_laws.{proofs.{ReadLaws.{held_where_collected, with_numbers}, ReadsKept.{pages_stay, walks_it}, ReadsWalked.first_all}, specs.Blocks.collected_of}
use Rattle.run_laws.specs.{Statuses.{fetches, fetches_by}, Submitted.{submits, CollectedCommand}}
use Rattle.entry_codec.specs.declared.{status.{Status.Status, TheConstants.Status.ABORTED_SQ_DELETION}, submission.SubEntry.SubEntry}
use Rattle.page_ledger.specs.Owners.{is_among}
use Rattle.slot_table.proofs.Rows.{option_is}
use Rattle.page_memory.proofs.Lists.{found_is, all-found, some_is}

-- What steps of a trusted run keep, where each passes a test of the step.

-- an event that is accepted where nothing was forged
pub record Going (s : State) (e : Event) (reply : Reply) : Type 0 where
  pub proper : IsProper e
  pub ok : Accepts s e reply
  pub trusted : s.trusted ≡ true
  pub stood : Stood s

-- what a step leaves: the same state where it is refused, else the one that is due
pub left_step : (Q : State → Type 0) (old : State) (e : Event) (reply : Reply) (new : State) → Step old e reply new → old.trusted ≡ true → new.trusted ≡ true → Stood old
    → ((why : Refusal) (touched : List ℕ) → reply ≡ events.Refused why touched → Q old) → (Going old e reply → Q (a.after old e reply)) → Q new
left_step Q old e reply new step t u stood refused each =
    trusted_step_by (λ (e : Event) (reply : Reply) (new : State). ((why : Refusal) (touched : List ℕ) → reply ≡ events.Refused why touched → Q old) → (Going old e reply → Q (a.after old e reply)) → Q new) old
    (λ e why touched refused each. refused why touched refl) (λ e reply proper ok refused each. each (record { proper = proper; ok = ok; trusted = t; stood = stood })) e reply new step t u refused each

pub one_step : (Q : State → Type 0) (old : State) (e : Event) (reply : Reply) (new : State) → Step old e reply new → old.trusted ≡ true → new.trusted ≡ true → Stood old
    → (Going old e reply → Q old → Q (a.after old e reply)) → Q old → Q new
one_step Q old e reply new step t u stood each h = left_step Q old e reply new step t u stood (λ why touched is. h) (λ g. each g h)

pub stood_step : (old : State) (e : Event) (reply : Reply) (new : State) → Step old e reply new → old.trusted ≡ true → new.trusted ≡ true → Stood old → Stood new
stood_step old e reply new step t u stood = one_step Stood old e reply new step t u stood (λ x h. stood_on old e reply x.proper x.ok x.trusted h) stood

-- along steps none of which passes a test
pub along_steps : (Q : State → Type 0) (test : Made → Bool)
    → ((s : State) (e : Event) (reply : Reply) → Going s e reply → test (record { before = s; event = e; reply = reply }) ≡ false → Q s → Q (a.after s e reply))
    → (made : List Made) (s end : State) → Steps s made end → Unforged s made → Stood s → list_any test made ≡ false → Q s → Stood end × Q end
along_steps Q test each [] s end steps u stood none h = (subst Stood (sym steps) stood, subst Q (sym steps) h)
along_steps Q test each (m ∷ made) s end (is, mid, step, rest) u stood none h =
    let both = or_parts (test m) (list_any test made) none in
    let next = unforged_next m made s mid step u in
    let far : test (record { before = s; event = m.event; reply = m.reply }) ≡ false = ap (λ (x : State). test (record { before = x; event = m.event; reply = m.reply })) (sym is) ∙ both.0 in
    along_steps Q test each made mid end rest next (stood_step s m.event m.reply mid step u.trusted next.trusted stood) both.1
    (one_step Q s m.event m.reply mid step u.trusted next.trusted stood (λ x. each s m.event m.reply x far) h)

pub stood_along : (made : List Made) (s end : State) → Steps s made end → Unforged s made → Stood s → Stood end
stood_along = along (λ (done : List Made) (s : State). Stood s) (λ done m new step t u stood. stood_step m.before m.event m.reply new step t u stood) []

-- A submitted command keeps its draft's request and pages, until another draft of its identifier is submitted.

abbrev pub goes_on : Phase → Bool
goes_on phase = is_submitted phase || is_held phase

-- a record has a draft's request and pages
pub record IsOfDraft (d : DraftContents) (r : Record) : Type 0 where
  pub work : r.work ≡ Io d.request
  pub data_pages : numbers_of d.data_pages ≡ r.data_pages
  pub chain_pages : numbers_of d.chain_pages ≡ r.chain_pages

-- so has the command of the draft's identifier, from its submission to its collection
abbrev pub Follows : DraftContents → Record → Type 0
Follows d r = is_at d.q d.cid r ≡ true → goes_on r.phase ≡ true → IsOfDraft d r

abbrev pub AllFollow : DraftContents → State → Type 0
AllFollow d s = AllByRecursion (Follows d) s.host.records

-- the record that a submission finds is of its draft
pub submits_of : (d : DraftContents) (r : Record) → is_of is_drafted d.request (numbers_of d.data_pages) (numbers_of d.chain_pages) r ≡ true → IsOfDraft d r × (is_drafted r.phase ≡ true)
submits_of d r fits =
    let abc_d : ((is_drafted r.phase && asks_for d.request r.work && pointwise nat_eq (numbers_of d.data_pages) r.data_pages) ≡ true) × (pointwise nat_eq (numbers_of d.chain_pages) r.chain_pages ≡ true) =
    and_parts (is_drafted r.phase && asks_for d.request r.work && pointwise nat_eq (numbers_of d.data_pages) r.data_pages) (pointwise nat_eq (numbers_of d.chain_pages) r.chain_pages) fits in
    let ab_c : ((is_drafted r.phase && asks_for d.request r.work) ≡ true) × (pointwise nat_eq (numbers_of d.data_pages) r.data_pages ≡ true) =
    and_parts (is_drafted r.phase && asks_for d.request r.work) (pointwise nat_eq (numbers_of d.data_pages) r.data_pages) abc_d.0 in
    let both : (is_drafted r.phase ≡ true) × (asks_for d.request r.work ≡ true) = and_parts (is_drafted r.phase) (asks_for d.request r.work) ab_c.0 in
    (record { work = of_work r.work refl both.1; data_pages = same_lists (numbers_of d.data_pages) r.data_pages ab_c.1; chain_pages = same_lists (numbers_of d.chain_pages) r.chain_pages abc_d.1 }, both.0)
  where
    of_work : (w : Work) → r.work ≡ w → asks_for d.request w ≡ true → r.work ≡ Io d.request
    of_work (Io request) is asks = is ∙ ap Io (sym (requests_same d.request request asks))
    of_work (Management adm) is asks = absurd (true≢false (sym asks))

pub drafted_stops : (ph : Phase) → is_drafted ph ≡ true → goes_on ph ≡ false
drafted_stops ph h = grind arith

pub sub_goes : (ph : Phase) → is_submitted ph ≡ true → goes_on ph ≡ true
sub_goes ph h = grind arith

pub held_goes : (ph : Phase) → is_held ph ≡ true → goes_on ph ≡ true
held_goes ph h = grind arith

pub drafts_same : {x y : DraftContents} → events.Submit x ≡ events.Submit y → x ≡ y
drafts_same e = cc

-- an accepted submission of another identifier
pub submits_far : (s : State) (d : DraftContents) (e : Event) (reply : Reply) → Going s e reply → submits d.q d.cid (record { before = s; event = e; reply = reply }) ≡ false
    → (x : DraftContents) → e ≡ events.Submit x → ((x.q == d.q) && (x.cid == d.cid)) ≡ false
submits_far s d e reply g far x is = grind arith

-- queue 0 has no draft
pub not_sent : (d : DraftContents) (id : ℕ) → (d.q == 0) ≡ false → ((0 == d.q) && (id == d.cid)) ≡ true → ⊥
not_sent d id other is = true≢false (sym (eq-eqb d.q 0 (sym (eqb-true 0 d.q (and_parts (0 == d.q) (id == d.cid) is).0))) ∙ other)

-- a record that a submission finds is not of another identifier
pub submit_clash : (s : State) (d : DraftContents) (e : Event) (reply : Reply) → Going s e reply → submits d.q d.cid (record { before = s; event = e; reply = reply }) ≡ false
    → (x : DraftContents) (r : Record) → e ≡ events.Submit x → record_at s.host x.q x.cid ≡ Some r → is_at d.q d.cid r ≡ true → ⊥
submit_clash s d e reply g far x r is found at =
    let ids = ids_of s x.q x.cid r found in
    let same = and_parts (r.q == d.q) (r.cid == d.cid) at in
    let clash = and_from (x.q == d.q) (x.cid == d.cid) (eq-eqb x.q d.q (sym ids.0 ∙ eqb-true r.q d.q same.0)) (eq-eqb x.cid d.cid (sym ids.1 ∙ eqb-true r.cid d.cid same.1)) in
    true≢false (sym clash ∙ submits_far s d e reply g far x is)

-- a record that a reap holds was submitted
pub reaped_on : (s : State) (q cid : ℕ) (r : Record) → named (reaped s q) ≡ Some cid → record_at s.host q cid ≡ Some r → is_submitted r.phase ≡ true
reaped_on s q cid r n found = grind (arith, reaped_submitted)

follow_on : (d : DraftContents) → (d.q == 0) ≡ false → (s : State) (e : Event) (reply : Reply) → Going s e reply → submits d.q d.cid (record { before = s; event = e; reply = reply }) ≡ false
    → RecordsMove (Follows d) (Follows d) s e
follow_on d other s e reply g far = record {
  stays = λ r within free p. p;
  reserves = λ x is on. absurd (true≢false (sym on));
  sends = λ adm id is on. absurd (not_sent d id other is);
  submits = λ x entry r is built found fits p at on. absurd (submit_clash s d e reply g far x r is found at);
  reaps = λ q cid st entry request r is seen n status found w p at on. again (a.held st entry.hints r) r refl refl refl (p at (sub_goes r.phase (reaped_on s q cid r n found)));
  loses = λ r within sub free p at on. again (a.aborted r) r refl refl refl (p at (sub_goes r.phase sub));
  collects = λ r p at on. absurd (true≢false (sym on));
}
  where
    again : (x r : Record) → x.work ≡ r.work → x.data_pages ≡ r.data_pages → x.chain_pages ≡ r.chain_pages → IsOfDraft d r → IsOfDraft d x
    again x r w p c h = record { work = w ∙ h.work; data_pages = h.data_pages ∙ sym p; chain_pages = h.chain_pages ∙ sym c }

pub follow_step : (d : DraftContents) → (d.q == 0) ≡ false → (s : State) (e : Event) (reply : Reply) → Going s e reply → submits d.q d.cid (record { before = s; event = e; reply = reply }) ≡ false
    → AllFollow d s → AllFollow d (a.after s e reply)
follow_step d other s e reply g far h = records_event (Follows d) (Follows d) s e reply (follow_on d other s e reply g far) g.ok g.stood.grounds h

-- The submission itself

-- the draft's own record, before it
pub record Found (s : State) (d : DraftContents) : Type 0 where
  pub command : Record
  pub at : record_at s.host d.q d.cid ≡ Some command
  pub of : IsOfDraft d command
  pub drafted : is_drafted command.phase ≡ true
  pub other : (d.q == 0) ≡ false
  pub only : AllByRecursion (λ r. is_at d.q d.cid r ≡ true → r ≡ command) s.host.records

pub found_draft : (s : State) (d : DraftContents) (reply : Reply) → Going s (events.Submit d) reply → Found s d
found_draft s d reply g =
    let x = submit_record s d g.ok.0 in
    let of = submits_of d x.0 x.2 in
    record {
      command = x.0;
      at = x.1;
      of = of.0;
      drafted = of.1;
      other = subst (λ (n : ℕ). (n == 0) ≡ false) (ids_of s d.q d.cid x.0 x.1).0
          (subst (λ (w : Work). OwnsFit Modelled x.0.q w (pages_of x.0)) of.0.work
          (all-found (λ (r : Record). OwnsFit Modelled r.q r.work (pages_of r)) (is_at d.q d.cid) s.host.records x.0 x.1 (admins_of s g.stood.grounds)));
      only = is_found d.q d.cid s.host.records x.0 x.1 (g.stood.grounds.stands.0.once d.q d.cid);
    }

-- there is no other record of its identifier
pub only_drafted : (s : State) (d : DraftContents) (x : Found s d) (r : Record) → (is_at d.q d.cid r ≡ true → r ≡ x.command) → is_at d.q d.cid r ≡ true → goes_on r.phase ≡ true → ⊥
only_drafted s d x r only at on = true≢false (sym on ∙ ap (λ (y : Record). goes_on y.phase) (only at) ∙ drafted_stops x.command.phase x.drafted)

follow_first : (d : DraftContents) (s : State) (reply : Reply) → Going s (events.Submit d) reply → (x : Found s d) → RecordsMove (λ r. is_at d.q d.cid r ≡ true → r ≡ x.command) (Follows d) s (events.Submit d)
follow_first d s reply g x = record {
  stays = λ r within free only at on. absurd (only_drafted s d x r only at on);
  reserves = λ y is on. absurd (true≢false (sym on));
  sends = λ adm id is on. absurd (not_sent d id x.other is);
  submits = λ y entry r is built found fits p at on. again (a.submitted r) r refl refl refl (subst (λ (z : DraftContents). IsOfDraft z r) (sym (drafts_same is)) (submits_of y r fits).0);
  reaps = λ q cid st entry request r is seen n status found w p at on. absurd (cc (is));
  loses = λ r within sub free only at on. absurd (only_drafted s d x r only at (sub_goes r.phase sub));
  collects = λ r p at on. absurd (true≢false (sym on));
}
  where
    again : (x r : Record) → x.work ≡ r.work → x.data_pages ≡ r.data_pages → x.chain_pages ≡ r.chain_pages → IsOfDraft d r → IsOfDraft d x
    again x r w p c h = record { work = w ∙ h.work; data_pages = h.data_pages ∙ sym p; chain_pages = h.chain_pages ∙ sym c }

pub follow_submit : (d : DraftContents) (s : State) (reply : Reply) → Going s (events.Submit d) reply → AllFollow d (a.after s (events.Submit d) reply)
follow_submit d s reply g =
    let x = found_draft s d reply g in
    records_event (λ r. is_at d.q d.cid r ≡ true → r ≡ x.command) (Follows d) s (events.Submit d) reply (follow_first d s reply g x) g.ok g.stood.grounds x.only

-- What a collection finds: the command's held record, and its pages as they are.

pub record Collects (s : State) (f : FinishedContents) : Type 0 where
  pub command : Record
  pub found : record_at s.host f.q f.cid ≡ Some command
  pub work : command.work ≡ Io f.request
  pub status : command.status ≡ Some f.status
  pub hints : f.hints ≡ command.hints
  pub data_pages : f.data_pages ≡ pages_with_bytes s.memory command.data_pages
  pub chain_pages : f.chain_pages ≡ pages_with_bytes s.memory command.chain_pages
  pub held : is_held command.phase ≡ true

found_record : (s : State) (q cid : ℕ) (r : Record) (f : FinishedContents) → record_at s.host q cid ≡ Some r → is_held r.phase ≡ true → (w : Work) → r.work ≡ w → (o : Option Status) → r.status ≡ o
    → option_and_then
    (λ asked. option_map
    (λ st. record { q = r.q; cid = r.cid; request = asked; status = st; hints = r.hints; data_pages = pages_with_bytes s.memory r.data_pages; chain_pages = pages_with_bytes s.memory r.chain_pages })
    o)
    (asked_by w) ≡ Some f → Collects s f
found_record s q cid r f found held (Io request) w (Some v) st e =
    let same = some_is e in
    let ids = ids_of s q cid r found in
    subst (Collects s) same (record {
      command = r;
      found = subst (λ (n : ℕ). record_at s.host n r.cid ≡ Some r) (sym ids.0) (subst (λ (c : ℕ). record_at s.host q c ≡ Some r) (sym ids.1) found);
      work = w;
      status = st;
      hints = refl;
      data_pages = refl;
      chain_pages = refl;
      held = held;
    })
found_record s q cid r f found held x w o st e = absurd cc

pub collects_held : (s : State) (e : Event) (reply : Reply) (new : State) (f : FinishedContents) → Step s e reply new → s.trusted ≡ true → collected_of e reply ≡ Some f → Collects s f
collects_held s (events.Collect q cid) (events.Collects g) new f step t is =
    let ok : (refusal_of s (events.Collect q cid) ≡ None) × (option_and_then (finished_from s) (record_at s.host q cid) ≡ Some g) = permitted _ s.trusted true t step.1 in
    elim (option_is (record_at s.host q cid)) [
      | inl e ↦ let h = rw e at (ok.1 ∙ is) in absurd cc
      | inr (r, e) ↦ let h = rw e at (ok.1 ∙ is) in found_record s q cid r f e (held_where_collected s q cid ok.0 r e) r.work refl r.status refl h
    ]
collects_held s e reply new f step t is = absurd cc

-- The states of a collected command: before its submission, after it, and at its collection

pub record Course (c : CollectedCommand) : Type 0 where
  pub first : State
  pub going : Going first (events.Submit c.draft) events.Accepted
  pub until : Steps (opening c.run.pages c.run.queues c.run.entries c.run.segment c.image) c.before first
  pub second : State
  pub is_second : second ≡ a.after first (events.Submit c.draft) events.Accepted
  pub stood_second : Stood second
  pub third : State
  pub along : Steps second c.between third
  pub unforged : Unforged second c.between
  pub stood_third : Stood third
  pub collects : Collects third c.finished

submission : (m : Made) (d : DraftContents) → submitted_by m.event m.reply ≡ d ∷ [] → (m.event ≡ events.Submit d) × (m.reply ≡ events.Accepted)
submission m d is = grind arith

pub course : (c : CollectedCommand) → Course c
course c = record {
  first = at_first.0;
  going = going;
  until = at_first.1;
  second = at_first.2.1;
  is_second = is_second;
  stood_second = stood_second;
  third = at_third.0;
  along = at_first.2.3;
  unforged = unforged_second;
  stood_third = stood_along c.between at_first.2.1 at_third.0 at_first.2.3 unforged_second stood_second;
  collects = collects_held at_third.0 c.collected.event c.collected.reply at_third.2.1 c.finished at_third.2.2 trusted_third c.is_collection;
}
  where
    s0 : State
    s0 = opening c.run.pages c.run.queues c.run.entries c.run.segment c.image

    at_third : (mid : State) × Steps (opening c.run.pages c.run.queues c.run.entries c.run.segment c.image) (c.before ++ c.submitted ∷ c.between) mid × Steps mid (c.collected ∷ c.later) c.end
    at_third = cut (c.before ++ c.submitted ∷ c.between) (c.collected ∷ c.later) (opening c.run.pages c.run.queues c.run.entries c.run.segment c.image) c.end c.run.steps

    at_first : (mid : State) × Steps (opening c.run.pages c.run.queues c.run.entries c.run.segment c.image) c.before mid × Steps mid (c.submitted ∷ c.between) at_third.0
    at_first = cut c.before (c.submitted ∷ c.between) (opening c.run.pages c.run.queues c.run.entries c.run.segment c.image) at_third.0 at_third.1

    unforged_zero : Unforged (opening c.run.pages c.run.queues c.run.entries c.run.segment c.image) (c.before ++ c.submitted ∷ c.between)
    unforged_zero =
        unforged_front (c.before ++ c.submitted ∷ c.between) (c.collected ∷ c.later) s0
        (unforged_run c.image (c.before ++ c.submitted ∷ c.between ++ c.collected ∷ c.later) c.end c.run)

    unforged_first : Unforged at_first.0 (c.submitted ∷ c.between)
    unforged_first = unforged_back c.before (c.submitted ∷ c.between) s0 at_first.0 at_first.1 unforged_zero

    unforged_second : Unforged at_first.2.1 c.between
    unforged_second = unforged_next c.submitted c.between at_first.0 at_first.2.1 at_first.2.2 unforged_first

    trusted_third : at_third.0.trusted ≡ true
    trusted_third = unforged_end (c.before ++ c.submitted ∷ c.between) s0 at_third.0 at_third.1 unforged_zero

    stood_first : Stood at_first.0
    stood_first = stood_along c.before s0 at_first.0 at_first.1 (unforged_front c.before (c.submitted ∷ c.between) s0 unforged_zero) (stood_at_opening c.run.pages c.run.queues c.run.entries c.run.segment c.image c.run.opens)

    is : (c.submitted.event ≡ events.Submit c.draft) × (c.submitted.reply ≡ events.Accepted)
    is = submission c.submitted c.draft c.is_submission

    step : Step at_first.0 (events.Submit c.draft) events.Accepted at_first.2.1
    step = subst (λ (e : Event). Step at_first.0 e events.Accepted at_first.2.1) is.0 (subst (λ (reply : Reply). Step at_first.0 c.submitted.event reply at_first.2.1) is.1 at_first.2.2)

    going : Going at_first.0 (events.Submit c.draft) events.Accepted
    going = record { proper = step.0; ok = permitted _ at_first.0.trusted true unforged_first.trusted step.1; trusted = unforged_first.trusted; stood = stood_first }

    is_second : at_first.2.1 ≡ a.after at_first.0 (events.Submit c.draft) events.Accepted
    is_second = exact _ at_first.0.trusted unforged_first.trusted step.2

    stood_second : Stood at_first.2.1
    stood_second = stood_step at_first.0 (events.Submit c.draft) events.Accepted at_first.2.1 step unforged_first.trusted unforged_second.trusted stood_first

-- The laws of kept commands

-- the test of a submission, said of the draft
pub alone_of : (c : CollectedCommand) → list_any (submits c.draft.q c.draft.cid) c.between ≡ false
alone_of c = grind arith

pub at_draft : (c : CollectedCommand) (x : Course c) → is_at c.draft.q c.draft.cid x.collects.command ≡ true
at_draft c x =
    let ids = ids_of x.third c.finished.q c.finished.cid x.collects.command x.collects.found in
    rw (eq-eqb x.collects.command.q c.draft.q (ids.0 ∙ sym c.queue), eq-eqb x.collects.command.cid c.draft.cid (ids.1 ∙ sym c.identifier)) refl

kept : (c : CollectedCommand) → IsOfDraft c.draft (course c).collects.command
kept c =
    let x = course c in
    let other = (found_draft x.first c.draft events.Accepted x.going).other in
    let all = along_steps (AllFollow c.draft) (submits c.draft.q c.draft.cid) (λ s e reply g far h. follow_step c.draft other s e reply g far h) c.between x.second x.third x.along x.unforged x.stood_second (alone_of c)
    (subst (AllFollow c.draft) (sym x.is_second) (follow_submit c.draft x.first events.Accepted x.going)) in
    all-found (Follows c.draft) (is_at c.finished.q c.finished.cid) x.third.host.records x.collects.command x.collects.found all.1 (at_draft c x) (held_goes x.collects.command.phase x.collects.held)

pub request_stays : (c : CollectedCommand) → c.finished.request ≡ c.draft.request
request_stays c = grind (arith, sym (course c).collects.work ∙ (kept c).work)

pub data_numbers_stay : (c : CollectedCommand) → numbers_of c.finished.data_pages ≡ numbers_of c.draft.data_pages
data_numbers_stay c = ap numbers_of (course c).collects.data_pages ∙ with_numbers (course c).third.memory (course c).collects.command.data_pages ∙ sym (kept c).data_pages

pub chain_numbers_stay : (c : CollectedCommand) → numbers_of c.finished.chain_pages ≡ numbers_of c.draft.chain_pages
chain_numbers_stay c = ap numbers_of (course c).collects.chain_pages ∙ with_numbers (course c).third.memory (course c).collects.command.chain_pages ∙ sym (kept c).chain_pages

-- A command that is never fetched: the controller has no job and no completion of it, and its data pages keep the draft's bytes.

-- What is known

-- its data pages hold the draft's bytes, and where it is held its queue was deleted
pub record Untouched (d : DraftContents) (s : State) (r : Record) : Type 0 where
  pub stand : AllByRecursion (Stands s.memory) d.data_pages
  pub deleted : is_held r.phase ≡ true → r.status ≡ Some ABORTED_SQ_DELETION

abbrev pub Waits : DraftContents → State → Record → Type 0
Waits d s r = is_at d.q d.cid r ≡ true → goes_on r.phase ≡ true → IsOfDraft d r × Untouched d s r

pub record Unread (d : DraftContents) (s : State) : Type 0 where
  pub jobs : AllByRecursion (λ j. j.q ≡ d.q → j.entry.cid ≡ d.cid → ⊥) s.controller.jobs
  pub completions : AllByRecursion (λ an. an.cid ≡ d.cid → ⊥) (list_at (λ at. at.completions) s.controller.queues d.q)
  pub records : AllByRecursion (Waits d s) s.host.records

-- No job comes

-- a fetch of another command
other_fetch : (s : State) (d : DraftContents) (e : Event) (reply : Reply) → Going s e reply → fetches_by d.q d.cid e reply ≡ false → (q : ℕ) (entry : SubEntry) → e ≡ events.Fetch q → next_rung s q ≡ Some entry
    → q ≡ d.q → entry.cid ≡ d.cid → ⊥
other_fetch s d e reply g far q entry is rung same_q same_cid = grind arith

jobs_on : (d : DraftContents) → (d.q == 0) ≡ false → (s : State) (e : Event) (reply : Reply) → Going s e reply → fetches_by d.q d.cid e reply ≡ false
    → JobsMove (λ j. j.q ≡ d.q → j.entry.cid ≡ d.cid → ⊥) (λ j. j.q ≡ d.q → j.entry.cid ≡ d.cid → ⊥) s e
jobs_on d other s e reply g far = record {
  stays = λ k j f walked p. p;
  fails = λ k j st waiting f walked failed none p. p;
  manages = λ entry st dw0 is rung free same cid. true≢false (sym (eq-eqb d.q 0 (sym same)) ∙ other);
  begins = λ q entry is rung io free same cid. other_fetch s d e reply g far q entry is rung same cid;
  walks = λ q cid j act is w unit p. p;
}

-- No completion comes

answers_on : (d : DraftContents) (s : State) (e : Event) → AllByRecursion (λ j. j.q ≡ d.q → j.entry.cid ≡ d.cid → ⊥) s.controller.jobs
    → QueueMove (λ at. at.completions) (λ (an : PostedCompletion). an.cid ≡ d.cid → ⊥) d.q s e
answers_on d s e none =
    let no_job_at : (cid : ℕ) (j : Job) → job_at s d.q cid ≡ Some j → cid ≡ d.cid → ⊥ = λ cid j found same. grind (arith, found_is, is_job, all-found, eqb-true) in
    record {
      posts = λ x entry at is built z all. all;
      sends = λ entry at z all. all;
      rings = λ rung at all. all;
      reaps = λ at all. (grind (arith, all));
      fetches = λ rung at all. all;
      stops = λ at all. all;
      drops = λ at all. tt;
      makes_completion = λ at all. tt;
      makes_submission = λ at all. tt;
      clears = λ at all. all;
      empties = (tt, tt);
      completes = λ cid j head at is found all. all_append (λ (an : PostedCompletion). an.cid ≡ d.cid → ⊥) at.completions (record { cid = cid; status = a.final_status s j; dw0 = j.dw0; sq_head = head } ∷ []) all ((λ same. no_job_at cid j found same), tt);
    }

-- Its pages stay

no_walk : (s : State) (d : DraftContents) (e : Event) (reply : Reply) → Going s e reply → Unread d s → (r : Record) → is_at d.q d.cid r ≡ true → walks_it e r ≡ false
no_walk s d (events.Walk q cid) (events.Walked outcome touched) g h r at = grind (arith, found_is, is_job, all-found, eqb-true)
no_walk s d (events.Walk q cid) reply g h r at = absurd g.ok.1
no_walk s d e reply g h r at = refl

untouched_on : (s : State) (d : DraftContents) (e : Event) (reply : Reply) → Going s e reply → Unread d s → (r : Record) → In r s.host.records → takes e r ≡ false → is_at d.q d.cid r ≡ true → goes_on r.phase ≡ true
    → IsOfDraft d r → AllByRecursion (Stands s.memory) d.data_pages → AllByRecursion (Stands (a.after s e reply).memory) d.data_pages
untouched_on s d e reply g h r within free at on of stand =
    stand_still s.memory (a.after s e reply).memory r.data_pages (pages_stay s e reply g.ok g.stood r within on free (no_walk s d e reply g h r at)) d.data_pages
    (λ p x. ap (λ (xs : List ℕ). is_among xs p) (sym of.data_pages) ∙ x) stand

no_reap : (s : State) (d : DraftContents) → s.trusted ≡ true → Unread d s → (q cid : ℕ) (r : Record) → named (reaped s q) ≡ Some cid → record_at s.host q cid ≡ Some r → is_at d.q d.cid r ≡ true → ⊥
no_reap s d t h q cid r n found at = grind (arith, reaped_completion, ids_of, first_all, list_at, eqb-true)

records_on : (d : DraftContents) → (d.q == 0) ≡ false → (s : State) (e : Event) (reply : Reply) → Going s e reply → submits d.q d.cid (record { before = s; event = e; reply = reply }) ≡ false → Unread d s
    → RecordsMove (Waits d s) (Waits d (a.after s e reply)) s e
records_on d other s e reply g far h = record {
  stays = λ r within free p at on.
      let x = p at on in (x.0, record { stand = untouched_on s d e reply g h r within free at on x.0 x.1.stand; deleted = x.1.deleted });
  reserves = λ x is on. absurd (true≢false (sym on));
  sends = λ adm id is on. absurd (not_sent d id other is);
  submits = λ x entry r is built found fits p at on. absurd (submit_clash s d e reply g far x r is found at);
  reaps = λ q cid st entry request r is seen n status found w p at on. absurd (no_reap s d g.trusted h q cid r n found at);
  loses = λ r within sub free p at on.
      let x = p at (sub_goes r.phase sub) in (
        (record { work = refl ∙ x.0.work; data_pages = x.0.data_pages ∙ sym refl; chain_pages = x.0.chain_pages ∙ sym refl }),
        record { stand = untouched_on s d e reply g h r within free at (sub_goes r.phase sub) x.0 x.1.stand; deleted = λ held. refl },
      );
  collects = λ r p at on. absurd (true≢false (sym on));
}

pub unread_step : (d : DraftContents) → (d.q == 0) ≡ false → (s : State) (e : Event) (reply : Reply) → Going s e reply
    → (submits d.q d.cid (record { before = s; event = e; reply = reply }) || fetches d.q d.cid (record { before = s; event = e; reply = reply })) ≡ false → Unread d s → Unread d (a.after s e reply)
unread_step d other s e reply g far h =
    let both = or_parts (submits d.q d.cid (record { before = s; event = e; reply = reply })) (fetches_by d.q d.cid e reply) far in
    record {
      jobs = jobs_event (λ j. j.q ≡ d.q → j.entry.cid ≡ d.cid → ⊥) (λ j. j.q ≡ d.q → j.entry.cid ≡ d.cid → ⊥) s e reply (jobs_on d other s e reply g both.1) g.ok g.stood h.jobs;
      completions = queues_event (λ at. at.completions) (λ (an : PostedCompletion). an.cid ≡ d.cid → ⊥) d.q s e reply (answers_on d s e h.jobs) g.ok g.stood h.completions;
      records = records_event (Waits d s) (Waits d (a.after s e reply)) s e reply (records_on d other s e reply g both.0 h) g.ok g.stood.grounds h.records;
    }

-- Its submission

unread_first : (d : DraftContents) (s : State) → Going s (events.Submit d) events.Accepted → (x : Found s d)
    → RecordsMove (λ r. is_at d.q d.cid r ≡ true → r ≡ x.command) (Waits d (a.after s (events.Submit d) events.Accepted)) s (events.Submit d)
unread_first d s g x = record {
  stays = λ r within free only at on. absurd (only_drafted s d x r only at on);
  reserves = λ y is on. absurd (true≢false (sym on));
  sends = λ adm id is on. absurd (not_sent d id x.other is);
  submits = λ y entry r is built found fits p at on. (
    again (a.submitted r) r refl refl refl (subst (λ (z : DraftContents). IsOfDraft z r) (sym (drafts_same is)) (submits_of y r fits).0),
    record { stand = stand entry (ap (λ (z : DraftContents). z.entry) (drafts_same is) ∙ built); deleted = λ held. absurd (true≢false (sym held)) },
  );
  reaps = λ q cid st entry request r is seen n status found w p at on. absurd (cc (is));
  loses = λ r within sub free only at on. absurd (only_drafted s d x r only at (sub_goes r.phase sub));
  collects = λ r p at on. absurd (true≢false (sym on));
}
  where
    again : (x r : Record) → x.work ≡ r.work → x.data_pages ≡ r.data_pages → x.chain_pages ≡ r.chain_pages → IsOfDraft d r → IsOfDraft d x
    again x r w p c h = record { work = w ∙ h.work; data_pages = h.data_pages ∙ sym p; chain_pages = h.chain_pages ∙ sym c }

    stand : (entry : SubEntry) → d.entry ≡ Some entry → AllByRecursion (Stands (a.after_submit d s).memory) d.data_pages
    stand entry built = subst (λ (o : Option SubEntry). AllByRecursion (Stands (option_map_or (λ entry. a.posted d.q entry (a.on_records (with_record d.q d.cid a.submitted) (a.on_memory (with_pages (d.data_pages ++ d.chain_pages)) s))) o s).memory) d.data_pages) (sym built)
        (submitted_stand s d entry g.ok.0 g.proper.data_pages g.stood.grounds)

pub unread_submit : (d : DraftContents) (s : State) → Going s (events.Submit d) events.Accepted → Unread d (a.after s (events.Submit d) events.Accepted)
unread_submit d s g =
    let x = found_draft s d events.Accepted g in
    let none : total (sent d.q (λ n. one (n == d.cid))) s.host.records ≡ 0 = unsent s d g.stood.grounds x.command x.at (drafted_not x.command.phase x.drafted) in
    let no_jobs : AllByRecursion (λ (j : Job). j.q ≡ d.q → j.entry.cid ≡ d.cid → ⊥) s.controller.jobs = no_job d.q d.cid (λ j. ⊥) s.controller.jobs (omega (arith, g.stood.places d.q (λ n. one (n == d.cid)), none)) in
    record {
      jobs = subst (AllByRecursion (λ (j : Job). j.q ≡ d.q → j.entry.cid ≡ d.cid → ⊥)) (sym (host_jobs s (events.Submit d) events.Accepted g.ok refl refl)) no_jobs;
      completions = queues_event (λ at. at.completions) (λ (an : PostedCompletion). an.cid ≡ d.cid → ⊥) d.q s (events.Submit d) events.Accepted (answers_on d s (events.Submit d) no_jobs) g.ok g.stood
          (nobody (λ (an : PostedCompletion). an.cid) d.cid (λ an. ⊥) (completions_at s.controller.queues d.q) (omega (arith, g.stood.places d.q (λ n. one (n == d.cid)), none)));
      records = records_event (λ r. is_at d.q d.cid r ≡ true → r ≡ x.command) (Waits d (a.after s (events.Submit d) events.Accepted)) s (events.Submit d) events.Accepted (unread_first d s g x) g.ok g.stood.grounds x.only;
    }
