-- What submitted data becomes.
use Rattle.machine_model.specs.Events as events
use Rattle.std.proofs.Common.{◌≡◌, ℕ, ◌+◌, ◌-◌, ◌==◌, Bool, true, false, not, ◌||◌, Some, List, [], ◌∷◌, ◌++◌, take, drop, if◌then◌else◌, refl, ap, sym, ◌∙◌, subst, eq-eqb, append_assoc, append-nil, inl, inr, is_some, eqb-true, arith}
use Rattle.std.proofs.lemmas.Bool.{true≢false, or_parts, cases_Bool, not-true as not_any}
use Rattle.std.proofs.lemmas.List.Elements.{All-head, All-tail, All-append, All-take, All-drop, All-replicate, All-nil, All-cons}
use Rattle.std.specs.{List.{AllByRecursion, list_any}}
use Rattle.entry_codec.specs.Status.{is_success}
use Rattle.page_memory.specs.Pages.{Pages, zero_page}
use Rattle.io_commands.specs.{Asked.Request, DataBytes.{PagesOut, gathered}, Drafts.DraftContents, Values.numbers_of}
use Rattle.io_commands.specs.declared.request.Piece.{Piece, TheVariants.{Data, Bucket}}
use Rattle.machine_model.{proofs.HostLeaves.ids_of, specs.{Claims.OwnsFit, Events.{Event, Reply}, Image.{Made, is_draft, draft_of, submitted_by}}}
use Rattle.machine_model.specs.{Opening.opening, State.{is_at, State, Record, pages_of}, Step.{zeroed, pages_with_bytes, Step}}
use Rattle.machine_model.specs.{Trusted.{TrustedRun, Steps, drafts_of}, Work.Work, declared.words.Peer.TheVariants.{Modelled}}
use Rattle.run_laws.proofs.Carrying.{Stands}
use Rattle.run_laws.proofs.DataKept.{along_steps, Going, left_step, stood_step, stood_along, IsOfDraft, found_draft, held_goes, goes_on, reaped_on, sub_goes, Unread, Untouched, Waits, unread_step, unread_submit, course, alone_of, at_draft, request_stays, Collects, collects_held}
use Rattle.run_laws.proofs.{DataOnce.once, Images.refused_drafts, Moves.{RecordsMove, records_event}, ReadLaws.{reads_give, stopped_reads}}
use Rattle.run_laws.specs.Statuses.{fetches}
use Rattle.run_laws.specs.Submitted.{CollectedCommand, FetchedCommand, submits, was_fetched, unfetched_commands_keep_their_data, unfetched_commands_keep_the_drafts_bytes, unfetched_commands_were_deleted, successful_commands_were_fetched, AreZeros, drafts_of_reserve_are_zero, unfetched_commands_of_zeros_gather_zeros, fetched_commands_have_their_fetch, commands_are_fetched_once, fetched_reads_give_a_prefix, successful_reads_give_their_blocks, collected_commands_were_submitted}
use Rattle.two_sides.proofs.{Along.{Unforged, unforged_next, unforged_front, unforged_run, unforged_end, cut}, NeverFull.stood_at_opening, TiedAll.admins_of}
use Rattle.two_sides.proofs.Served.{hosts_own, Stood}
use Rattle.page_memory.proofs.Lists.{all-found, some_is}

-- What collected commands give back.

-- A command that was never fetched

neither : (f g : Made → Bool) (made : List Made) → list_any f made ≡ false → list_any g made ≡ false → list_any (λ m. f m || g m) made ≡ false
neither f g [] h k = refl
neither f g (m ∷ made) h k = grind (arith, neither f g made)

-- the test of a fetch, said of the draft
fetched_of : (c : CollectedCommand) (made : List Made) → list_any (fetches c.draft.q c.draft.cid) made ≡ list_any (fetches c.finished.q c.finished.cid) made
fetched_of c made = ap (λ (n : ℕ). list_any (fetches n c.draft.cid) made) c.queue ∙ ap (λ (n : ℕ). list_any (fetches c.finished.q n) made) c.identifier

waited : (c : CollectedCommand) → was_fetched c ≡ false → IsOfDraft c.draft (course c).collects.command × Untouched c.draft (course c).third (course c).collects.command
waited c none =
    let x = course c in
    let other = (found_draft x.first c.draft events.Accepted x.going).other in
    let all = along_steps (Unread c.draft) (λ m. submits c.draft.q c.draft.cid m || fetches c.draft.q c.draft.cid m) (λ s e reply g far h. unread_step c.draft other s e reply g far h) c.between x.second x.third x.along x.unforged x.stood_second
    (neither (submits c.draft.q c.draft.cid) (fetches c.draft.q c.draft.cid) c.between (alone_of c) (fetched_of c c.between ∙ none))
    (subst (Unread c.draft) (sym x.is_second) (unread_submit c.draft x.first x.going)) in
    all-found (Waits c.draft x.third) (is_at c.finished.q c.finished.cid) x.third.host.records x.collects.command x.collects.found all.1.records (at_draft c x) (held_goes x.collects.command.phase x.collects.held)

-- pages that stand are handed out as they are
handed_out : (m : Pages) (pages : PagesOut) → AllByRecursion (Stands m) pages → pages_with_bytes m (numbers_of pages) ≡ pages
handed_out m [] h = refl
handed_out m (page ∷ pages) h = grind (arith, handed_out m pages)

pub data_kept : unfetched_commands_keep_their_data
data_kept c none =
    let w = waited c (not_any (was_fetched c) none) in
    (course c).collects.data_pages ∙ ap (pages_with_bytes (course c).third.memory) (sym w.0.data_pages) ∙ handed_out (course c).third.memory c.draft.data_pages w.1.stand

pub bytes_kept : unfetched_commands_keep_the_drafts_bytes
bytes_kept c none = ap (λ (r : Request). gathered r.pieces c.finished.data_pages) (request_stays c) ∙ ap (gathered c.draft.request.pieces) (data_kept c none)

pub was_deleted : unfetched_commands_were_deleted
was_deleted c none =
    let w = waited c (not_any (was_fetched c) none) in
    some_is (sym (course c).collects.status ∙ w.1.deleted (course c).collects.held)

pub successes_fetched : successful_commands_were_fetched
successes_fetched c well = elim (cases_Bool (was_fetched c)) [ inl e ↦ rw e refl | inr e ↦ absurd (true≢false (sym well ∙ ap is_success (was_deleted c (ap not e)))) ]

-- Zeros

zeros_of_page : AreZeros zero_page
unfolding zero_page
zeros_of_page = All-replicate (λ b. b ≡ 0) 4096 0 refl

pub zeros_gathered : (pieces : List Piece) (pages : PagesOut) → zeroed pages → AreZeros (gathered pieces pages)
zeros_gathered (Bucket len ∷ pieces) pages h = zeros_gathered pieces pages h
zeros_gathered (Data offset len ∷ pieces) (page ∷ pages) h =
    let here : AreZeros page.1 = subst AreZeros (sym (All-head (λ (p : ℕ × List ℕ). p.1 ≡ zero_page) page pages h)) zeros_of_page in
    All-append (λ b. b ≡ 0) (take (offset + len - offset) (drop offset page.1)) (gathered pieces pages)
    (All-take (λ b. b ≡ 0) (offset + len - offset) (drop offset page.1) (All-drop (λ b. b ≡ 0) offset page.1 here))
    (zeros_gathered pieces pages (All-tail (λ (p : ℕ × List ℕ). p.1 ≡ zero_page) page pages h))
zeros_gathered pieces pages h = All-nil (λ b. b ≡ 0)

left_zeroed : (xs ys : PagesOut) → zeroed (xs ++ ys) → zeroed xs
left_zeroed [] ys h = All-nil (λ (p : ℕ × List ℕ). p.1 ≡ zero_page)
left_zeroed (x ∷ xs) ys h = All-cons (λ (p : ℕ × List ℕ). p.1 ≡ zero_page) x xs (All-head (λ (p : ℕ × List ℕ). p.1 ≡ zero_page) x (xs ++ ys) h) (left_zeroed xs ys (All-tail (λ (p : ℕ × List ℕ). p.1 ≡ zero_page) x (xs ++ ys) h))

pub reserved_zeros : drafts_of_reserve_are_zero
reserved_zeros s new q r d step = left_zeroed d.data_pages d.chain_pages (hosts_own _ s.trusted step.1).1.zero

pub zeros_kept : unfetched_commands_of_zeros_gather_zeros
zeros_kept c zero none = subst AreZeros (sym (bytes_kept c none)) (zeros_gathered c.draft.request.pieces c.draft.data_pages zero)

-- A command that was fetched

record SplitAt (test : Made → Bool) (made : List Made) : Type 0 where
  before : List Made
  at : Made
  behind : List Made
  split : made ≡ before ++ at ∷ behind
  passes : test at ≡ true

split_at : (test : Made → Bool) (made : List Made) → list_any test made ≡ true → SplitAt test made
split_at test [] h = absurd (true≢false (sym h))
split_at test (m ∷ made) h = elim (cases_Bool (test m)) [
  | inl e ↦ record { before = []; at = m; behind = made; split = refl; passes = e }
  | inr e ↦
      let x = (split_at test made) (rw e at h) in
      record { before = m ∷ x.before; at = x.at; behind = x.behind; split = ap (λ (xs : List Made). m ∷ xs) x.split; passes = x.passes }
]

pub has_fetch : fetched_commands_have_their_fetch
has_fetch c fetched =
    let x = split_at (fetches c.finished.q c.finished.cid) c.between fetched in
    (record { command = c; before_fetch = x.before; fetched = x.at; after_fetch = x.behind; split = x.split; is_fetch = x.passes }, refl)

pub fetched_once : commands_are_fetched_once
fetched_once f =
    let x = course f.command in
    ap not (sym (fetched_of f.command (f.before_fetch ++ f.after_fetch)) ∙ once_of)
  where
    at_fetch : fetches f.command.draft.q f.command.draft.cid f.fetched ≡ true
    at_fetch = ap (λ (n : ℕ). fetches n f.command.draft.cid f.fetched) f.command.queue ∙ ap (λ (n : ℕ). fetches f.command.finished.q n f.fetched) f.command.identifier ∙ f.is_fetch

    once_of : list_any (fetches f.command.draft.q f.command.draft.cid) (f.before_fetch ++ f.after_fetch) ≡ false
    once_of = once f.command.draft (found_draft (course f.command).first f.command.draft events.Accepted (course f.command).going).other f.before_fetch f.after_fetch f.fetched (course f.command).second (course f.command).third
        (subst (λ (made : List Made). Steps (course f.command).second made (course f.command).third) f.split (course f.command).along)
        (subst (λ (made : List Made). Unforged (course f.command).second made) f.split (course f.command).unforged) (course f.command).stood_second
        (subst (λ (made : List Made). list_any (submits f.command.draft.q f.command.draft.cid) made ≡ false) f.split (alone_of f.command)) at_fetch

right_any : (test : Made → Bool) (xs ys : List Made) → list_any test (xs ++ ys) ≡ false → list_any test ys ≡ false
right_any test [] ys h = h
right_any test (x ∷ xs) ys h = right_any test xs ys (or_parts (test x) (list_any test (xs ++ ys)) h).1

-- the run, split at the fetch
whole : (f : FetchedCommand) → f.command.before ++ f.command.submitted ∷ f.command.between ≡ f.command.before ++ f.command.submitted ∷ f.before_fetch ++ f.fetched ∷ f.after_fetch
whole f = ap (λ (made : List Made). f.command.before ++ f.command.submitted ∷ made) f.split ∙ sym (append_assoc f.command.before (f.command.submitted ∷ f.before_fetch) (f.fetched ∷ f.after_fetch))

run_at_fetch : (f : FetchedCommand) → TrustedRun f.command.image (f.command.before ++ f.command.submitted ∷ f.before_fetch ++ f.fetched ∷ f.after_fetch ++ f.command.collected ∷ f.command.later) f.command.end
run_at_fetch f = subst (λ (made : List Made). TrustedRun f.command.image (made ++ f.command.collected ∷ f.command.later) f.command.end) (whole f) f.command.run

-- the draft is the latest one of its identifier
pub drafts_append : (xs ys : List Made) → drafts_of (xs ++ ys) ≡ drafts_of ys ++ drafts_of xs
drafts_append [] ys = sym (append-nil (drafts_of ys))
drafts_append (x ∷ xs) ys = ap (λ (ds : List DraftContents). ds ++ submitted_by x.event x.reply) (drafts_append xs ys) ∙ append_assoc (drafts_of ys) (drafts_of xs) (submitted_by x.event x.reply)

none_later : (q cid : ℕ) (ds rest : List DraftContents) → list_any (is_draft q cid) ds ≡ false → draft_of q cid (ds ++ rest) ≡ draft_of q cid rest
none_later q cid [] rest h = refl
none_later q cid (d ∷ ds) rest h = grind (arith, none_later q cid ds rest)

pub still_latest : (q cid : ℕ) (made : List Made) (rest : List DraftContents) → list_any (submits q cid) made ≡ false → draft_of q cid (drafts_of made ++ rest) ≡ draft_of q cid rest
still_latest q cid [] rest h = refl
still_latest q cid (m ∷ made) rest h = grind (arith, still_latest q cid made (submitted_by m.event m.reply ++ rest), append_assoc, none_later)

pub latest : (c : CollectedCommand) → draft_of c.finished.q c.finished.cid (drafts_of (c.before ++ c.submitted ∷ c.between)) ≡ Some c.draft
latest c = grind (arith, eq-eqb, drafts_append, append_assoc, still_latest, not_any)

none_behind : (f : FetchedCommand) → not (list_any (fetches f.command.finished.q f.command.finished.cid) f.after_fetch) ≡ true
none_behind f = ap not (right_any (fetches f.command.finished.q f.command.finished.cid) f.before_fetch f.after_fetch (not_any (list_any (fetches f.command.finished.q f.command.finished.cid) (f.before_fetch ++ f.after_fetch)) (fetched_once f)))

pub prefix_given : fetched_reads_give_a_prefix
prefix_given f reads =
    stopped_reads f.command.image (f.command.before ++ f.command.submitted ∷ f.before_fetch) f.fetched f.after_fetch f.command.collected f.command.later f.command.end f.command.finished f.command.draft
    (run_at_fetch f) f.command.is_collection reads f.is_fetch (none_behind f)
    (subst (λ (made : List Made). draft_of f.command.finished.q f.command.finished.cid (drafts_of made) ≡ Some f.command.draft) (whole f) (latest f.command))

pub blocks_given : successful_reads_give_their_blocks
blocks_given f reads well =
    reads_give f.command.image (f.command.before ++ f.command.submitted ∷ f.before_fetch) f.fetched f.after_fetch f.command.collected f.command.later f.command.end f.command.finished
    (run_at_fetch f) f.command.is_collection reads well f.is_fetch (none_behind f)

-- A command that is collected was submitted.

-- a command of an I/O queue that is submitted or held has a draft
abbrev pub HasDraft : List DraftContents → Record → Type 0
HasDraft drafts r = goes_on r.phase ≡ true → (r.q == 0) ≡ false → is_some (draft_of r.q r.cid drafts) ≡ true

abbrev pub AllDrafted : List DraftContents → State → Type 0
AllDrafted drafts s = AllByRecursion (HasDraft drafts) s.host.records

more_drafts : (q cid : ℕ) (new drafts : List DraftContents) → is_some (draft_of q cid drafts) ≡ true → is_some (draft_of q cid (new ++ drafts)) ≡ true
more_drafts q cid [] drafts h = h
more_drafts q cid (d ∷ new) drafts h = grind (arith, more_drafts q cid new drafts h)

submitted_is : (s : State) (e : Event) (reply : Reply) → Going s e reply → (d : DraftContents) → e ≡ events.Submit d → submitted_by e reply ≡ d ∷ []
submitted_is s e reply g d is = grind arith

drafts_move : (drafts : List DraftContents) (s : State) (e : Event) (reply : Reply) → Going s e reply → RecordsMove (HasDraft drafts) (HasDraft (submitted_by e reply ++ drafts)) s e
drafts_move drafts s e reply g = record {
  stays = λ r within free p on other. more_drafts r.q r.cid (submitted_by e reply) drafts (p on other);
  reserves = λ d on other. absurd (true≢false (sym on));
  sends = λ adm id on other. absurd (true≢false other);
  submits = λ d entry r is built found fits p on other.
      let ids = ids_of s d.q d.cid r found in
      let its : is_draft r.q r.cid d ≡ true = rw (eq-eqb d.q r.q (sym ids.0), eq-eqb d.cid r.cid (sym ids.1)) refl in
      ap (λ (ds : List DraftContents). is_some (draft_of r.q r.cid (ds ++ drafts))) (submitted_is s e reply g d is) ∙ ap (λ (b : Bool). is_some (if b then Some d else draft_of r.q r.cid drafts)) its;
  reaps = λ q cid st entry request r is seen n status found w p on other. more_drafts r.q r.cid (submitted_by e reply) drafts (p (sub_goes r.phase (reaped_on s q cid r n found)) other);
  loses = λ r within sub free p on other. more_drafts r.q r.cid (submitted_by e reply) drafts (p (sub_goes r.phase sub) other);
  collects = λ r p on other. absurd (true≢false (sym on));
}

drafted_step : (drafts : List DraftContents) (s : State) (e : Event) (reply : Reply) (new : State) → Step s e reply new → s.trusted ≡ true → new.trusted ≡ true → Stood s → AllDrafted drafts s → AllDrafted (submitted_by e reply ++ drafts) new
drafted_step drafts s e reply new step t u stood h =
    left_step (AllDrafted (submitted_by e reply ++ drafts)) s e reply new step t u stood
    (λ why touched is. subst (λ (x : Reply). AllDrafted (submitted_by e x ++ drafts) s) (sym is) (subst (λ (ds : List DraftContents). AllDrafted (ds ++ drafts) s) (sym (refused_drafts e why touched)) h))
    (λ g. records_event (HasDraft drafts) (HasDraft (submitted_by e reply ++ drafts)) s e reply (drafts_move drafts s e reply g) g.ok g.stood.grounds h)

drafted_along : (made : List Made) (s end : State) (drafts : List DraftContents) → Steps s made end → Unforged s made → Stood s → AllDrafted drafts s → AllDrafted (drafts_of made ++ drafts) end
drafted_along [] s end drafts steps u stood h = subst (AllDrafted drafts) (sym steps) h
drafted_along (m ∷ made) s end drafts (is, mid, step, rest) u stood h =
    let next = unforged_next m made s mid step u in
    subst (λ (ds : List DraftContents). AllDrafted ds end) (sym (append_assoc (drafts_of made) (submitted_by m.event m.reply) drafts))
    (drafted_along made mid end (submitted_by m.event m.reply ++ drafts) rest next (stood_step s m.event m.reply mid step u.trusted next.trusted stood)
    (drafted_step drafts s m.event m.reply mid step u.trusted next.trusted stood h))

-- The last submission of an identifier

record LastSubmission (q cid : ℕ) (made : List Made) : Type 0 where
  before : List Made
  at : Made
  behind : List Made
  split : made ≡ before ++ at ∷ behind
  draft : DraftContents
  is : submitted_by at.event at.reply ≡ draft ∷ []
  its_queue : draft.q ≡ q
  its_cid : draft.cid ≡ cid
  none : list_any (submits q cid) behind ≡ false

submission_of : (q cid : ℕ) (e : Event) (reply : Reply) → list_any (is_draft q cid) (submitted_by e reply) ≡ true → (d : DraftContents) × (submitted_by e reply ≡ d ∷ []) × (d.q ≡ q) × (d.cid ≡ cid)
submission_of q cid (events.Submit d) events.Accepted h = grind (arith, eqb-true)
submission_of q cid e reply h = absurd (true≢false (sym h))

last_submission : (q cid : ℕ) (made : List Made) → list_any (submits q cid) made ≡ true → LastSubmission q cid made
last_submission q cid [] h = absurd (true≢false (sym h))
last_submission q cid (m ∷ made) h = elim (cases_Bool (list_any (submits q cid) made)) [
  | inl e ↦
      let x = (last_submission q cid made) e in
      record { before = m ∷ x.before; at = x.at; behind = x.behind; split = ap (λ (xs : List Made). m ∷ xs) x.split; draft = x.draft; is = x.is; its_queue = x.its_queue; its_cid = x.its_cid; none = x.none }
  | inr e ↦
      let x = submission_of q cid m.event m.reply (grind arith) in
      record { before = []; at = m; behind = made; split = refl; draft = x.0; is = x.1; its_queue = x.2; its_cid = x.3; none = e }
]

-- some draft of an identifier was submitted
was_submitted : (q cid : ℕ) (made : List Made) → is_some (draft_of q cid (drafts_of made ++ [])) ≡ true → list_any (submits q cid) made ≡ true
was_submitted q cid made h = grind (arith, still_latest)

pub were_submitted : collected_commands_were_submitted
were_submitted image earlier later m end f run is =
    record {
      command = record {
        image = image;
        before = last.before;
        submitted = last.at;
        between = last.behind;
        collected = m;
        later = later;
        end = end;
        draft = last.draft;
        finished = f;
        run = subst (λ (xs : List Made). TrustedRun image (xs ++ m ∷ later) end) last.split run;
        is_submission = last.is;
        is_collection = is;
        queue = last.its_queue;
        identifier = last.its_cid;
        alone = rw last.none refl;
      };
      its_image = refl;
      steps_before = sym last.split;
      its_step = refl;
      steps_behind = refl;
      its_contents = refl;
    }
  where
    s0 : State
    s0 = opening run.pages run.queues run.entries run.segment image

    parts : (mid : State) × Steps (opening run.pages run.queues run.entries run.segment image) earlier mid × Steps mid (m ∷ later) end
    parts = cut earlier (m ∷ later) (opening run.pages run.queues run.entries run.segment image) end run.steps

    unforged : Unforged (opening run.pages run.queues run.entries run.segment image) earlier
    unforged = unforged_front earlier (m ∷ later) s0 (unforged_run image (earlier ++ m ∷ later) end run)

    stood0 : Stood (opening run.pages run.queues run.entries run.segment image)
    stood0 = stood_at_opening run.pages run.queues run.entries run.segment image run.opens

    stood : Stood parts.0
    stood = stood_along earlier s0 parts.0 parts.1 unforged stood0

    found : Collects parts.0 f
    found = collects_held parts.0 m.event m.reply parts.2.1 f parts.2.2 (unforged_end earlier s0 parts.0 parts.1 unforged) is

    drafted : AllDrafted (drafts_of earlier ++ []) parts.0
    drafted = drafted_along earlier s0 parts.0 [] parts.1 unforged stood0 tt

    ids : (found.command.q ≡ f.q) × (found.command.cid ≡ f.cid)
    ids = ids_of parts.0 f.q f.cid found.command found.found

    other : (found.command.q == 0) ≡ false
    other = subst (λ (w : Work). OwnsFit Modelled found.command.q w (pages_of found.command)) found.work
        (all-found (λ (r : Record). OwnsFit Modelled r.q r.work (pages_of r)) (is_at f.q f.cid) parts.0.host.records found.command found.found (admins_of parts.0 stood.grounds))

    its : is_some (draft_of found.command.q found.command.cid (drafts_of earlier ++ [])) ≡ true
    its = all-found (HasDraft (drafts_of earlier ++ [])) (is_at f.q f.cid) parts.0.host.records found.command found.found drafted (held_goes found.command.phase found.held) other

    last : LastSubmission f.q f.cid earlier
    last = last_submission f.q f.cid earlier
        (was_submitted f.q f.cid earlier (subst (λ (n : ℕ). is_some (draft_of n f.cid (drafts_of earlier ++ [])) ≡ true) ids.0 (subst (λ (n : ℕ). is_some (draft_of found.command.q n (drafts_of earlier ++ [])) ≡ true) ids.1 its)))
