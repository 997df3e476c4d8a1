-- Images, and what Compares find in them; runs that get longer; and a draft's pages.
use Rattle.io_commands.specs.Jobs as jobs
use Rattle.machine_model.specs.After as a
use Rattle.machine_model.specs.Events as events
use Rattle.std.proofs.Common.{◌≡◌, ℕ, ◌==◌, Bool, true, false, nat_lt, Option, Some, None, List, [], ◌∷◌, ◌++◌, is_some, is_none, if◌then◌else◌, refl, ap, sym, ◌∙◌, arith, subst, eqb-true, append-nil, append_assoc, ◌+◌, not, ◌&&◌, ◌||◌, ap₂, inl, inr, ◌*◌, ◌<◌, ◌≤◌, length, slice_set, option_and_then, eq-eqb, length-set}
use Rattle.std.proofs.lemmas.{Bool.{true≢false, and_parts, cases_Bool, not-true, eqb-false}, List.{Elements.{All-head, All-tail}, Folds.list_any-append}}
use Rattle.std.{proofs.lemmas.Option.slice_get-get_or, specs.{List.list_any, Option.{option_map_or, option_map}, Prelude.unwrap_or, Str.bytes_eq}}
use Rattle.block_image.specs.Blocks.{blocks_at, with_blocks}
use Rattle.sgl_descriptor.specs.{Spelling.spelling, declared.Direction.TheVariants.Source}
use Rattle.entry_codec.specs.{Status.is_success, declared.{io_opcode.TheConstants.COMPARE, status.Status.Status}}
use Rattle.entry_codec.specs.declared.status.TheConstants.Status.{SUCCESS, COMPARE_FAILURE, ABORT_REQUESTED, ABORTED_SQ_DELETION, INVALID_OPCODE, INVALID_NAMESPACE, LBA_OUT_OF_RANGE}
use Rattle.entry_codec.specs.declared.submission.SubEntry.{SubEntry}
use Rattle.io_commands.{proofs.Building.{entry_block, entry_blocks}, specs.{Asked.Request, DataBytes.gathered, Drafts.{DraftContents, io_entry, FitsDraft, HoldsPages, BuiltDraftsSpell}}}
use Rattle.io_commands.specs.{Jobs.{verdict_of, direction_of_entry, kind_of_opcode, first_block, block_number}, Requests.{direction_of, is_admin, moves_data, opcode_of}}
use Rattle.io_commands.specs.{Values.numbers_of, declared.request.Kind.{Kind, TheVariants.{Read, Write, Compare, Admin}}}
use Rattle.machine_model.proofs.{Counting.times-cons, HostLeaves.ids_of, Steps.{managed_by, Accepts, same_lists, permitted}}
use Rattle.machine_model.{proofs.Tokens.{is_job as is_job_tokens}, specs.{After.final_status, Events.{Event, Reply}}}
use Rattle.machine_model.specs.{Image.{Made, draft_of, is_write, submitted_by, written_by, succeeds, image_by, image_from}, Memory.with_pages, Opening.opening}
use Rattle.machine_model.specs.{Proper.{IsProper, IsPage, ArePages}, Refusals.{refusal_of, job_at, is_job}, State.{State, Controller, Job, is_at}}
use Rattle.machine_model.specs.{Status.same_status, Step.{Step, times}, Trusted.{TrustedRun, drafts_of, Steps, forges_by, is_forgery}, Weights.one}
use Rattle.machine_model.specs.declared.words.Refusal.{Refusal}
use Rattle.run_laws.proofs.Causes.{goes_well, cause, Caused, CausedIfIo, has_verdict, Traced, traced_before, statuses_have_causes, same_is}
use Rattle.run_laws.proofs.KnownKinds.{moving_kind, opcode_asked, list_moves}
use Rattle.run_laws.proofs.Known.{OfDraft, OfDraftIfIo, Carries, JobKnown, RecordKnown, Known, known_on, all_carried}
use Rattle.run_laws.specs.{Blocks.{the_image_is_the_runs, blocks_of_request, compared, compares_tell_equality}, Built.{built_drafts_spell_in_store, LieIn, AreDistinct}}
use Rattle.run_laws.specs.Statuses.{aborts, deletes, since_fetch, status_by, has_cause, is_compare}
use Rattle.run_laws.specs.Walked.{compares_by_their_drafts, compare_failures_are_of_compares}
use Rattle.two_sides.proofs.Along.{Carried, AtOpenings, Before, keeps, made_of, run_along, run_before, unforged_run, trusted_end}
use Rattle.two_sides.proofs.{ControllerMoves.{fetch_by, walk_by}, JobLaws.not_zero as positive, NeverFull.{stood_on, stood_at_opening}}
use Rattle.two_sides.proofs.{PoolBytes.{host_image, trusted_or_reset, unforged_step}, Provided.in_found}
use Rattle.two_sides.proofs.{Served.{entry_direction, Stood, JobList, job_list}, Standing.controller-completed}
use Rattle.two_sides.specs.Histories.{openings_have_histories, steps_make_histories}
use Rattle.sgl_chain.specs.Spells.{Holds}
use Rattle.page_memory.{proofs.Bytes.{byte_in, slice_get-set_other, slice_get-set_same}, specs.Pages.{Pages, page_at, byte_at}}
use Rattle.slot_table.proofs.Rows.{option_is}
use Rattle.page_memory.proofs.Lists.{found_is, all-found, some_is}

-- Images, and what Compares find in them.

-- The image of a run is the opening's, changed by the writes that succeeded.

-- The entry of a request

pub entry_kind : (cid : ℕ) (r : Request) (sgl1 : List ℕ) → moves_data r.kind ≡ true → kind_of_opcode (io_entry cid r sgl1).opcode ≡ Some r.kind
entry_kind cid r sgl1 moves = moving_kind r.kind moves

-- The draft of a job's command

-- a kind of blocks that moves no data counts as a source
moves_where_source : (kind : Kind) → is_admin kind ≡ false → (direction_of kind ≡ Source → moves_data kind ≡ true) → moves_data kind ≡ true
moves_where_source Read far h = refl
moves_where_source (Admin command) far h = absurd (true≢false far)
moves_where_source kind far h = h refl

pub record JobDraft (drafts : List DraftContents) (s : State) (q cid : ℕ) (j : Job) : Type 0 where
  pub list : JobList s j
  pub of : OfDraft drafts s.memory list.command list.request
  pub latest : draft_of q cid drafts ≡ Some of.draft
  pub opcode : j.entry.opcode ≡ opcode_of list.request.kind
  pub block : moves_data list.request.kind ≡ true → first_block j.entry ≡ list.request.slba
  -- one that went well is of a kind that moves data, and a source's has all the draft's bytes
  pub moves : (v : Status) → j.verdict ≡ Some v → is_success v ≡ true → moves_data list.request.kind ≡ true
  pub bytes : direction_of list.request.kind ≡ Source → (v : Status) → j.verdict ≡ Some v → is_success v ≡ true → j.bytes ≡ gathered list.request.pieces of.draft.data_pages

pub job_draft : (drafts : List DraftContents) (s : State) (q cid : ℕ) (j : Job) → Stood s → Known drafts s → (j.q == 0) ≡ false → job_at s q cid ≡ Some j → JobDraft drafts s q cid j
job_draft drafts s q cid j stood known other at =
    let l = job_list s stood j (in_found (is_job q cid) s.controller.jobs j at) other (λ P all. all-found P (is_job q cid) s.controller.jobs j at all) in
    let ids = and_parts (j.q == q) (j.entry.cid == cid) (found_is (is_job q cid) s.controller.jobs j at) in
    let rec = ids_of s j.q j.entry.cid l.command l.found in
    let of : OfDraft drafts s.memory l.command l.request =
    subst (OfDraftIfIo drafts s.memory l.command) l.work (all-found (RecordKnown drafts s.memory) (is_at j.q j.entry.cid) s.host.records l.command l.found known.records l.phase) in
    record {
      list = l;
      of = of;
      latest = subst (λ (n : ℕ). draft_of n cid drafts ≡ Some of.draft) (rec.0 ∙ eqb-true j.q q ids.0) (subst (λ (n : ℕ). draft_of l.command.q n drafts ≡ Some of.draft) (rec.1 ∙ eqb-true j.entry.cid cid ids.1) of.latest);
      opcode = opcode_asked s j l;
      block = λ moves. ap first_block l.entry ∙ entry_block l.command.cid l.request (spelling l.list.first) moves;
      moves = λ v is ok. moves_where_source l.request.kind l.sized.blocks (λ source. list_moves s j l (carries l source v is ok).known);
      bytes = λ source v is ok. all_carried s stood j l (dir l source) of.draft.data_pages of.pages (of.stand source) v is (carries l source v is ok);
    }
  where
    dir : (l : JobList s j) → direction_of l.request.kind ≡ Source → direction_of_entry j.entry ≡ Source
    dir l source = ap direction_of_entry l.entry ∙ entry_direction l.command.cid l.request (spelling l.list.first) l.sized.blocks ∙ source

    carries : (l : JobList s j) → direction_of l.request.kind ≡ Source → (v : Status) → j.verdict ≡ Some v → is_success v ≡ true → Carries s j
    carries l source v is ok = all-found (JobKnown s) (is_job q cid) s.controller.jobs j at known.jobs other (dir l source) (ap goes_well is ∙ ok)

-- the kind of a job that went well
job_kind : (drafts : List DraftContents) (s : State) (q cid : ℕ) (j : Job) (d : JobDraft drafts s q cid j) (v : Status) → j.verdict ≡ Some v → is_success v ≡ true → kind_of_opcode j.entry.opcode ≡ Some d.list.request.kind
job_kind drafts s q cid j d v is ok = ap kind_of_opcode d.opcode ∙ moving_kind d.list.request.kind (d.moves v is ok)

-- Completing

same_if : {A : Type 0} (b : Bool) (x : A) → (if b then x else x) ≡ x
same_if b x = grind arith

-- what the draft of a job that went well writes is what the job does
by_kind : (drafts : List DraftContents) (s : State) (q cid : ℕ) (j : Job) (d : JobDraft drafts s q cid j) (v : Status) → j.verdict ≡ Some v → is_success v ≡ true → (k : Kind) → d.list.request.kind ≡ k
    → jobs.image_by s.controller.image j.entry j.bytes (Some k) ≡ (if is_success (jobs.status_by s.controller.image j.entry j.bytes (Some k)) then written_by d.of.draft s.controller.image else s.controller.image)
by_kind drafts s q cid j d v is ok Write k' =
    let draft = d.of.draft in
    let image = s.controller.image in
    let kind : draft.request.kind ≡ Write = ap (λ (r : Request). r.kind) d.of.asked ∙ k' in
    let first : first_block j.entry ≡ draft.request.slba = d.block (ap moves_data k') ∙ ap (λ (r : Request). r.slba) (sym d.of.asked) in
    let bytes : j.bytes ≡ gathered draft.request.pieces draft.data_pages = d.bytes (ap direction_of k') v is ok ∙ ap (λ (r : Request). gathered r.pieces draft.data_pages) (sym d.of.asked) in
    ap (λ (n : ℕ). with_blocks image n j.bytes) first ∙ ap (with_blocks image draft.request.slba) bytes
    ∙ sym (ap (λ (x : Kind). if is_write x then with_blocks image draft.request.slba (gathered draft.request.pieces draft.data_pages) else image) kind)
by_kind drafts s q cid j d v is ok k k' =
    let draft = d.of.draft in
    let image = s.controller.image in
    let still : written_by draft image ≡ image =
    ap (λ (x : Kind). if is_write x then with_blocks image draft.request.slba (gathered draft.request.pieces draft.data_pages) else image) (ap (λ (r : Request). r.kind) d.of.asked ∙ k') in
    let b = is_success (jobs.status_by image j.entry j.bytes (Some k)) in
    sym (ap (λ (x : List ℕ). if b then x else image) still ∙ same_if b image)

by_opcode : (drafts : List DraftContents) (s : State) (q cid : ℕ) (j : Job) (d : JobDraft drafts s q cid j) (v : Status) → j.verdict ≡ Some v → is_success v ≡ true
    → jobs.image_by s.controller.image j.entry j.bytes (kind_of_opcode j.entry.opcode)
    ≡ (if is_success (jobs.status_by s.controller.image j.entry j.bytes (kind_of_opcode j.entry.opcode)) then written_by d.of.draft s.controller.image else s.controller.image)
by_opcode drafts s q cid j d v is ok =
    subst (λ (k : Option Kind). jobs.image_by s.controller.image j.entry j.bytes k ≡ (if is_success (jobs.status_by s.controller.image j.entry j.bytes k) then written_by d.of.draft s.controller.image else s.controller.image))
    (sym (job_kind drafts s q cid j d v is ok)) (by_kind drafts s q cid j d v is ok d.list.request.kind refl)

completed : (drafts : List DraftContents) (s : State) (q cid : ℕ) (j : Job) → Stood s → Known drafts s → job_at s q cid ≡ Some j → is_some j.verdict ≡ true
    → a.image_completed j s.controller.image ≡ (if is_success (final_status s j) then option_map_or (λ d. written_by d s.controller.image) (draft_of q cid drafts) s.controller.image else s.controller.image)
completed drafts s q cid j stood known at some = by_queue (j.q == 0) refl
  where
    its_queue : j.q ≡ q
    its_queue = eqb-true j.q q (and_parts (j.q == q) (j.entry.cid == cid) (found_is (is_job q cid) s.controller.jobs j at)).0

    io : JobDraft drafts s q cid j → (o : Option Status) → j.verdict ≡ o → is_some o ≡ true
        → jobs.image_after s.controller.image j.entry j.bytes o ≡ (if is_success (jobs.status_after s.controller.image j.entry j.bytes o) then option_map_or (λ d. written_by d s.controller.image) (draft_of q cid drafts) s.controller.image else s.controller.image)
    io d None is some = absurd (true≢false (sym some))
    io d (Some v) is some = elim (cases_Bool (is_success v)) [
      | inl ok ↦ rw (ok, d.latest) (by_opcode drafts s q cid j d v is ok)
      | inr failed ↦ rw (failed, failed) refl
    ]

    by_queue : (b : Bool) → (j.q == 0) ≡ b → (if b then s.controller.image else jobs.image_after s.controller.image j.entry j.bytes j.verdict)
        ≡ (if is_success (if b then unwrap_or j.verdict SUCCESS else jobs.status_after s.controller.image j.entry j.bytes j.verdict) then option_map_or (λ d. written_by d s.controller.image) (draft_of q cid drafts) s.controller.image else s.controller.image)
    by_queue true z =
        let none : draft_of q cid drafts ≡ None = subst (λ (n : ℕ). draft_of n cid drafts ≡ None) (sym (eqb-true j.q 0 z) ∙ its_queue) (known.no_admin cid) in
        sym (ap (λ (o : Option DraftContents). if is_success (unwrap_or j.verdict SUCCESS) then option_map_or (λ d. written_by d s.controller.image) o s.controller.image else s.controller.image) none ∙ same_if (is_success (unwrap_or j.verdict SUCCESS)) s.controller.image)
    by_queue false z = io (job_draft drafts s q cid j stood known z at) j.verdict refl some

complete_image : (drafts : List DraftContents) (s : State) (q cid : ℕ) → refusal_of s (events.Complete q cid) ≡ None → Stood s → Known drafts s
    → (a.after_complete q cid s).controller.image ≡ (if succeeds s q cid then option_map_or (λ d. written_by d s.controller.image) (draft_of q cid drafts) s.controller.image else s.controller.image)
complete_image drafts s q cid none stood known = elim (option_is (job_at s q cid)) [
  | inl e ↦ rw e refl
  | inr (j, e) ↦
      rw e (let s1 = a.on_controller (λ d. record d { image = a.image_completed j d.image }) (a.without_job q cid s) in
      ap (λ (d : Controller). d.image) (controller-completed q cid (a.final_status s j) j.dw0 (a.deletion_done j (a.final_status s j) s1))
      ∙ (grind arith) ∙ completed drafts s q cid j stood known e (has_verdict s q cid j none e))
]

-- The others

fetch_image : (s : State) (q : ℕ) → (a.after_fetch q s).controller.image ≡ s.controller.image
fetch_image s q =
    fetch_by (λ (t : State). t.controller.image ≡ s.controller.image) s q refl (λ e n c. refl)
    (λ e n c z. managed_by (λ (t : State). t.controller.image ≡ s.controller.image) e (a.taken_off 0 s)
    (record {
      refuses = λ st bad. refl;
      aborts = λ is8 walks. refl;
      is_late = λ is8. refl;
      stops = λ is0 q0 runs. refl;
      drops = λ is4 q0 there gone. refl;
      makes_completion = λ is5 q0 gone. refl;
      makes_submission = λ is1 q0 gone there. refl;
    })) (λ e n c other. refl)

pub walk_image : (s : State) (q cid : ℕ) → (a.after_walk q cid s).controller.image ≡ s.controller.image
walk_image s q cid = walk_by (λ (t : State). t.controller.image ≡ s.controller.image) s q cid refl (λ j act at u. refl)

pub image_on : (drafts : List DraftContents) (s : State) (e : Event) (reply : Reply) → Accepts s e reply → Stood s → Known drafts s → (a.after s e reply).controller.image ≡ image_by s drafts s.controller.image e reply
image_on drafts s (events.Fetch q) (events.Fetched c touched) ok stood known = fetch_image s q
image_on drafts s (events.Walk q cid) (events.Walked o touched) ok stood known = walk_image s q cid
image_on drafts s (events.Complete q cid) (events.Completed touched) ok stood known = complete_image drafts s q cid ok.0 stood known
image_on drafts s (events.Fetch q) reply ok stood known = absurd ok.1
image_on drafts s (events.Walk q cid) reply ok stood known = absurd ok.1
image_on drafts s (events.Complete q cid) reply ok stood known = absurd ok.1
image_on drafts s e reply ok stood known = host_image s e reply ok refl

-- Steps and runs

pub record StepKnown (drafts : List DraftContents) (s : State) (e : Event) (reply : Reply) (t : State) : Type 0 where
  pub stood : Stood t
  pub known : Known (submitted_by e reply ++ drafts) t
  pub image : t.controller.image ≡ image_by s drafts s.controller.image e reply

accepted_known : (drafts : List DraftContents) (s : State) (e : Event) (reply : Reply) → IsProper e → Accepts s e reply → s.trusted ≡ true → Stood s → Known drafts s → StepKnown drafts s e reply (a.after s e reply)
accepted_known drafts s e reply proper ok t stood known = record {
  stood = stood_on s e reply proper ok t stood;
  known = known_on drafts s e reply proper ok stood known;
  image = image_on drafts s e reply ok stood known;
}

pub refused_drafts : (e : Event) (why : Refusal) (touched : List ℕ) → submitted_by e (events.Refused why touched) ≡ []
refused_drafts e why touched = grind arith

refused_image : (s : State) (drafts : List DraftContents) (image : List ℕ) (e : Event) (why : Refusal) (touched : List ℕ) → image_by s drafts image e (events.Refused why touched) ≡ image
refused_image s drafts image e why touched = grind arith

-- one step more
pub drafts_more : (done : List Made) (m : Made) → drafts_of (done ++ m ∷ []) ≡ submitted_by m.event m.reply ++ drafts_of done
drafts_more [] m = sym (append-nil (submitted_by m.event m.reply))
drafts_more (x ∷ done) m = ap (λ (ds : List DraftContents). ds ++ submitted_by x.event x.reply) (drafts_more done m) ∙ append_assoc (submitted_by m.event m.reply) (drafts_of done) (submitted_by x.event x.reply)

image_more : (drafts : List DraftContents) (image : List ℕ) (done : List Made) (m : Made)
    → image_from drafts image (done ++ m ∷ []) ≡ image_by m.before (drafts_of done ++ drafts) (image_from drafts image done) m.event m.reply
image_more drafts image [] m = refl
image_more drafts image (x ∷ done) m =
    let first = submitted_by x.event x.reply in
    let changed = image_by x.before drafts image x.event x.reply in
    image_more (first ++ drafts) changed done m ∙ ap (λ (ds : List DraftContents). image_by m.before ds (image_from (first ++ drafts) changed done) m.event m.reply) (sym (append_assoc (drafts_of done) first drafts))

-- the drafts of what was done are known, and the image is what it left
pub record Imaged (image : List ℕ) (done : List Made) (s : State) : Type 0 where
  pub stood : Stood s
  pub known : Known (drafts_of done) s
  pub image_is : s.controller.image ≡ image_from [] image done

imaged_more : (image : List ℕ) (done : List Made) (m : Made) (t : State) → Imaged image done m.before → StepKnown (drafts_of done) m.before m.event m.reply t → Imaged image (done ++ m ∷ []) t
imaged_more image done m t h k = record {
  stood = k.stood;
  known = subst (λ (ds : List DraftContents). Known ds t) (sym (drafts_more done m)) k.known;
  image_is = k.image ∙ ap (λ (x : List ℕ). image_by m.before (drafts_of done) x m.event m.reply) h.image_is
      ∙ ap (λ (ds : List DraftContents). image_by m.before ds (image_from [] image done) m.event m.reply) (sym (append-nil (drafts_of done))) ∙ sym (image_more [] image done m);
}

images_carried : (image : List ℕ) → Carried (Imaged image)
images_carried image = record {
  refused = λ done s e why touched h. imaged_more image done (made_of s e (events.Refused why touched)) s h
      (record {
        stood = h.stood;
        known = subst (λ (ds : List DraftContents). Known (ds ++ drafts_of done) s) (sym (refused_drafts e why touched)) h.known;
        image = sym (refused_image s (drafts_of done) s.controller.image e why touched);
      });
  taken = λ done s e reply proper ok t h. imaged_more image done (made_of s e reply) (a.after s e reply) h (accepted_known (drafts_of done) s e reply proper ok t h.stood h.known);
}

imaged_at_opening : (image : List ℕ) → AtOpenings image (Imaged image)
imaged_at_opening image pages queues n s opens = record {
  stood = stood_at_opening pages queues n s image opens;
  known = record { records = tt; jobs = tt; no_admin = λ cid. refl };
  image_is = refl;
}

pub imaged_before : (image : List ℕ) (earlier later : List Made) (m : Made) (end : State) → TrustedRun image (earlier ++ m ∷ later) end → Before (Imaged image) earlier m
imaged_before image = run_before (Imaged image) (keeps (Imaged image) (images_carried image)) image (imaged_at_opening image)

pub images_are_runs : the_image_is_the_runs
images_are_runs image made end run = (run_along (Imaged image) (keeps (Imaged image) (images_carried image)) image (imaged_at_opening image) made end run).image_is

-- A compare succeeds exactly where its blocks are its draft's bytes.

-- The status of a compare

bytes_swap : (xs ys : List ℕ) → bytes_eq xs ys ≡ bytes_eq ys xs
bytes_swap xs ys = by_equality (bytes_eq xs ys) refl (bytes_eq ys xs) refl
  where
    turned : (xs ys : List ℕ) → bytes_eq xs ys ≡ true → bytes_eq ys xs ≡ true
    turned xs ys e = let same : xs ≡ ys = same_lists xs ys e in ap₂ bytes_eq (sym same) same ∙ e

    by_equality : (b : Bool) → bytes_eq xs ys ≡ b → (c : Bool) → bytes_eq ys xs ≡ c → bytes_eq xs ys ≡ bytes_eq ys xs
    by_equality true e c f = e ∙ sym (turned xs ys e)
    by_equality false e true f = absurd (true≢false (sym (turned ys xs f) ∙ e))
    by_equality false e false f = e ∙ sym f

none_of_three : (s a x b y o u n c z : Bool) → s ≡ false → u ≡ false → (s || (a && x) || (b && y) || (o && u) || n || (c && z)) ≡ true → not (a || b || c) ≡ true → n ≡ true
none_of_three s a x b y o u n c z failed known h fine = grind arith

-- the cause that is left where a command was neither stopped nor beyond the image, and the controller has its opcode
namespace_left : (done : List Made) (blocks : ℕ) (j : Job) (v : Status) → is_success v ≡ false → is_none (kind_of_opcode j.entry.opcode) ≡ false → cause done blocks j v ≡ true
    → not (same_status v ABORT_REQUESTED || same_status v ABORTED_SQ_DELETION || same_status v LBA_OUT_OF_RANGE) ≡ true → (same_status v INVALID_NAMESPACE && not (j.entry.nsid == 1)) ≡ true
namespace_left done blocks j v failed known h fine =
    none_of_three (is_success v) (same_status v ABORT_REQUESTED) (list_any (aborts j.q j.entry.cid) (since_fetch j.q j.entry.cid done)) (same_status v ABORTED_SQ_DELETION)
    (list_any (deletes j.q) (since_fetch j.q j.entry.cid done)) (same_status v INVALID_OPCODE) (is_none (kind_of_opcode j.entry.opcode)) (same_status v INVALID_NAMESPACE && not (j.entry.nsid == 1))
    (same_status v LBA_OUT_OF_RANGE) (nat_lt blocks (first_block j.entry + block_number j.entry))
    failed known h fine

compare_kind : (kind : Kind) → is_admin kind ≡ false → (opcode_of kind == COMPARE) ≡ true → kind ≡ Compare
compare_kind Compare far is = refl
compare_kind (Admin command) far is = absurd (true≢false far)
compare_kind kind far is = absurd (true≢false (sym is))

told : (done : List Made) (drafts : List DraftContents) (s : State) (q cid : ℕ) (j : Job) (d : DraftContents) → Traced done s → Known drafts s → job_at s q cid ≡ Some j → refusal_of s (events.Complete q cid) ≡ None
    → (j.entry.opcode == COMPARE) ≡ true → draft_of q cid drafts ≡ Some d
    → not (same_status (final_status s j) ABORT_REQUESTED || same_status (final_status s j) ABORTED_SQ_DELETION || same_status (final_status s j) LBA_OUT_OF_RANGE) ≡ true
    → final_status s j ≡ compared d s.controller.image
told done drafts s q cid j d traced known at none compare latest fine = elim (cases_Bool (j.q == 0)) [
  | inl z ↦ absurd (no_draft (sym (subst (λ (n : ℕ). draft_of n cid drafts ≡ None) (sym (eqb-true j.q 0 z) ∙ its_queue) (known.no_admin cid)) ∙ latest))
  | inr z ↦ (elim (option_is j.verdict) [ inl is ↦ let some = rw is at (has_verdict s q cid j none at) in absurd (true≢false (sym some)) | inr (v, is) ↦ io z v is ])
]
  where
    its_queue : j.q ≡ q
    its_queue = eqb-true j.q q (and_parts (j.q == q) (j.entry.cid == cid) (found_is (is_job q cid) s.controller.jobs j at)).0

    io : (other : (j.q == 0) ≡ false) → (v : Status) → j.verdict ≡ Some v → final_status s j ≡ compared d s.controller.image
    io other v is = by (is_success v) refl
      where
        k : JobDraft drafts s q cid j
        k = job_draft drafts s q cid j traced.stood known other at

        same : k.of.draft ≡ d
        same = some_is (sym k.latest ∙ latest)

        kind : k.list.request.kind ≡ Compare
        kind = compare_kind k.list.request.kind k.list.sized.blocks (ap (λ (n : ℕ). n == COMPARE) (sym k.opcode) ∙ compare)

        its_kind : kind_of_opcode j.entry.opcode ≡ Some Compare
        its_kind = ap kind_of_opcode (k.opcode ∙ ap opcode_of kind)

        final : final_status s j ≡ jobs.status_after s.controller.image j.entry j.bytes (Some v)
        final = ap (λ (b : Bool). if b then unwrap_or j.verdict SUCCESS else jobs.status_after s.controller.image j.entry j.bytes j.verdict) other ∙ ap (jobs.status_after s.controller.image j.entry j.bytes) is

        request : k.list.request ≡ d.request
        request = sym k.of.asked ∙ ap (λ (x : DraftContents). x.request) same

        caused : Caused done (a.image_blocks s) j
        caused = all-found (CausedIfIo done (a.image_blocks s)) (is_job q cid) s.controller.jobs j at traced.caused other

        namespace : j.entry.nsid ≡ d.request.nsid
        namespace = ap (λ (e : SubEntry). e.nsid) k.list.entry ∙ ap (λ (r : Request). r.nsid) request

        by : (b : Bool) → is_success v ≡ b → final_status s j ≡ compared d s.controller.image
        by true ok =
            let bytes : j.bytes ≡ gathered d.request.pieces d.data_pages =
            k.bytes (ap direction_of kind) v is ok ∙ ap (λ (r : Request). gathered r.pieces k.of.draft.data_pages) request ∙ ap (λ (x : DraftContents). gathered d.request.pieces x.data_pages) same in
            let there : (d.request.nsid == 1) ≡ true = eq-eqb d.request.nsid 1 (sym namespace ∙ caused.namespace (ap goes_well is ∙ ok)) in
            let first : first_block j.entry ≡ d.request.slba = k.block (ap moves_data kind) ∙ ap (λ (r : Request). r.slba) request in
            let count : block_number j.entry ≡ d.request.blocks =
            ap block_number k.list.entry ∙ entry_blocks k.list.command.cid k.list.request (spelling k.list.list.first) k.list.sized.good (ap moves_data kind) ∙ ap (λ (r : Request). r.blocks) request in
            final ∙ ap (λ (b : Bool). if b then jobs.status_by s.controller.image j.entry j.bytes (kind_of_opcode j.entry.opcode) else v) ok
            ∙ ap (jobs.status_by s.controller.image j.entry j.bytes) its_kind
            ∙ ap (λ (n : ℕ). if bytes_eq (blocks_at s.controller.image n (block_number j.entry)) j.bytes then SUCCESS else COMPARE_FAILURE) first
            ∙ ap (λ (n : ℕ). if bytes_eq (blocks_at s.controller.image d.request.slba n) j.bytes then SUCCESS else COMPARE_FAILURE) count
            ∙ ap (λ (bs : List ℕ). if bytes_eq (blocks_at s.controller.image d.request.slba d.request.blocks) bs then SUCCESS else COMPARE_FAILURE) bytes
            ∙ ap (λ (b : Bool). if b then SUCCESS else COMPARE_FAILURE) (bytes_swap (blocks_at s.controller.image d.request.slba d.request.blocks) (gathered d.request.pieces d.data_pages))
            ∙ ap (λ (b : Bool). if b then (if bytes_eq (gathered d.request.pieces d.data_pages) (blocks_of_request d.request s.controller.image) then SUCCESS else COMPARE_FAILURE) else INVALID_NAMESPACE) (sym there)
        by false failed =
            let st : final_status s j ≡ v = final ∙ ap (λ (b : Bool). if b then jobs.status_by s.controller.image j.entry j.bytes (kind_of_opcode j.entry.opcode) else v) failed in
            let rest = subst (λ (x : Status). not (same_status x ABORT_REQUESTED || same_status x ABORTED_SQ_DELETION || same_status x LBA_OUT_OF_RANGE) ≡ true) st fine in
            let left = and_parts (same_status v INVALID_NAMESPACE) (not (j.entry.nsid == 1)) (namespace_left done (a.image_blocks s) j v failed (ap is_none its_kind) (caused.cause v is) rest) in
            let elsewhere : (d.request.nsid == 1) ≡ false = ap (λ (n : ℕ). n == 1) (sym namespace) ∙ not-true (j.entry.nsid == 1) left.1 in
            st ∙ same_is v INVALID_NAMESPACE left.0
            ∙ ap (λ (b : Bool). if b then (if bytes_eq (gathered d.request.pieces d.data_pages) (blocks_of_request d.request s.controller.image) then SUCCESS else COMPARE_FAILURE) else INVALID_NAMESPACE) (sym elsewhere)

    no_draft : None ≡ Some d → ⊥
    no_draft e = cc

given : (done : List Made) (drafts : List DraftContents) (s : State) (e : Event) (reply : Reply) (new : State) (q cid : ℕ) (st : Status) (d : DraftContents) → Step s e reply new → s.trusted ≡ true → Traced done s → Known drafts s
    → status_by s e reply q cid ≡ Some st → option_map_or (λ (j : Job). j.entry.opcode == COMPARE) (job_at s q cid) false ≡ true → draft_of q cid drafts ≡ Some d
    → not (same_status st ABORT_REQUESTED || same_status st ABORTED_SQ_DELETION || same_status st LBA_OUT_OF_RANGE) ≡ true
    → st ≡ compared d s.controller.image
given done drafts s (events.Complete q' cid') (events.Completed touched) new q cid st d step t traced known status compare latest fine = elim (cases_Bool ((q' == q) && (cid' == cid))) [
  | inl is ↦
      let g = rw is at status in
      let ids = and_parts (q' == q) (cid' == cid) is in
      let ok = permitted _ s.trusted false t step.1 in
      let none : refusal_of s (events.Complete q cid) ≡ None = rw (sym (eqb-true q' q ids.0), sym (eqb-true cid' cid ids.1)) ok.0 in
      at (job_at s q cid) refl none g compare
  | inr is ↦ let g = rw is at status in absurd cc
]
  where
    at : (o : Option Job) → job_at s q cid ≡ o → refusal_of s (events.Complete q cid) ≡ None → option_map (final_status s) o ≡ Some st → option_map_or (λ (j : Job). j.entry.opcode == COMPARE) o false ≡ true
        → st ≡ compared d s.controller.image
    at None e none g c = absurd cc
    at (Some j) e none g c =
        let same : final_status s j ≡ st = some_is g in
        sym same ∙ told done drafts s q cid j d traced known e none c latest (subst (λ (x : Status). not (same_status x ABORT_REQUESTED || same_status x ABORTED_SQ_DELETION || same_status x LBA_OUT_OF_RANGE) ≡ true) (sym same) fine)
given done drafts s e reply new q cid st d step t traced known status compare latest fine = absurd cc

pub compares_tell : compares_tell_equality
compares_tell image earlier later m end q cid st d run status compare latest fine =
    let b = traced_before image earlier later m end run in
    given earlier (drafts_of earlier) m.before m.event m.reply b.next q cid st d b.step b.trusted b.holds (imaged_before image earlier later m end run).holds.known status compare latest fine

-- A Compare is told by its draft.

-- the job of a step that gives a status
completed_job : (s : State) (e : Event) (reply : Reply) (q cid : ℕ) (st : Status) → status_by s e reply q cid ≡ Some st → (j : Job) × (job_at s q cid ≡ Some j)
completed_job s (events.Complete q' cid') (events.Completed touched) q cid st h = grind arith
completed_job s e reply q cid st h = absurd cc

-- its opcode is what its draft asks for
told_by_draft : (drafts : List DraftContents) (s : State) (q cid : ℕ) (j : Job) (d : DraftContents) → Stood s → Known drafts s → job_at s q cid ≡ Some j → draft_of q cid drafts ≡ Some d → d.request.kind ≡ Compare
    → (j.entry.opcode == COMPARE) ≡ true
told_by_draft drafts s q cid j d stood known at latest kind = elim (cases_Bool (j.q == 0)) [
  | inl z ↦ absurd (cc (sym (subst (λ (n : ℕ). draft_of n cid drafts ≡ None) (sym (eqb-true j.q 0 z) ∙ its_queue) (known.no_admin cid)) ∙ latest))
  | inr z ↦
      let k = job_draft drafts s q cid j stood known z at in
      let same : k.of.draft ≡ d = some_is (sym k.latest ∙ latest) in
      ap (λ (n : ℕ). n == COMPARE) (k.opcode ∙ ap (λ (r : Request). opcode_of r.kind) (sym k.of.asked) ∙ ap (λ (x : DraftContents). opcode_of x.request.kind) same ∙ ap opcode_of kind)
]
  where
    its_queue : j.q ≡ q
    its_queue = eqb-true j.q q (and_parts (j.q == q) (j.entry.cid == cid) (found_is (is_job_tokens q cid) s.controller.jobs j at)).0

pub compares_told : compares_by_their_drafts
compares_told image earlier later m end q cid st d run status latest kind fine =
    let b = (imaged_before image earlier later m end run).holds in
    let x = completed_job m.before m.event m.reply q cid st status in
    let opcode = told_by_draft (drafts_of earlier) m.before q cid x.0 d b.stood b.known x.1 latest kind in
    compares_tell image earlier later m end q cid st d run status (ap (λ (o : Option Job). option_map_or (λ j. j.entry.opcode == COMPARE) o false) x.1 ∙ opcode) latest fine

-- No other command fails as a Compare

only_compare : (earlier : List Made) (m : Made) (q cid : ℕ) → has_cause earlier m q cid COMPARE_FAILURE ≡ true → is_compare m q cid ≡ true
only_compare earlier m q cid h = h

pub failures_of_compares : compare_failures_are_of_compares
failures_of_compares image earlier later m end q cid run io status =
    let b = (imaged_before image earlier later m end run).holds in
    let x = completed_job m.before m.event m.reply q cid COMPARE_FAILURE status in
    let ids = and_parts (x.0.q == q) (x.0.entry.cid == cid) (found_is (is_job_tokens q cid) m.before.controller.jobs x.0 x.1) in
    let other : (x.0.q == 0) ≡ false = ap (λ (n : ℕ). n == 0) (eqb-true x.0.q q ids.0) ∙ positive q io in
    let k = job_draft (drafts_of earlier) m.before q cid x.0 b.stood b.known other x.1 in
    let opcode : (x.0.entry.opcode == COMPARE) ≡ true =
    sym (ap (λ (o : Option Job). option_map_or (λ j. j.entry.opcode == COMPARE) o false) x.1) ∙ only_compare earlier m q cid (statuses_have_causes image earlier later m end q cid COMPARE_FAILURE run io status) in (
      k.of.draft,
      k.latest,
      ap (λ (r : Request). r.kind) k.of.asked ∙ compare_kind k.list.request.kind k.list.sized.blocks (ap (λ (n : ℕ). n == COMPARE) (sym k.opcode) ∙ opcode),
    )

-- A run is made longer by one step.

steps_more : (s : State) (made : List Made) (mid : State) (e : Event) (reply : Reply) (new : State) → Steps s made mid → Step mid e reply new
    → Steps s (made ++ record { before = mid; event = e; reply = reply } ∷ []) new
steps_more s [] mid e reply new steps step = (steps, new, subst (λ (x : State). Step x e reply new) steps step, refl)
steps_more s (m ∷ made) mid e reply new steps step = (steps.0, steps.1, steps.2, steps_more steps.1 made mid e reply new steps.3 step)

unforged_more : (made : List Made) (s : State) (e : Event) (reply : Reply) → list_any is_forgery made ≡ false → forges_by e reply ≡ false
    → not (list_any is_forgery (made ++ record { before = s; event = e; reply = reply } ∷ [])) ≡ true
unforged_more made s e reply none far =
    ap not (list_any-append is_forgery made (record { before = s; event = e; reply = reply } ∷ []) ∙ ap₂ (λ (x y : Bool). x || (y || false)) none far)

pub histories_open : openings_have_histories
histories_open pages queues n s image opens bytes = record {
  image = image;
  made = [];
  run = record { pages = pages; queues = queues; entries = n; segment = s; opens = opens; is_image = bytes; steps = refl; unforged = refl };
}

pub histories_grow : steps_make_histories
histories_grow old e reply new step trusted = (
  trusted_or_reset old e reply new step trusted,
  λ h. record {
    image = h.image;
    made = h.made ++ record { before = old; event = e; reply = reply } ∷ [];
    run = record {
      pages = h.run.pages;
      queues = h.run.queues;
      entries = h.run.entries;
      segment = h.run.segment;
      opens = h.run.opens;
      is_image = h.run.is_image;
      steps = steps_more (opening h.run.pages h.run.queues h.run.entries h.run.segment h.image) h.made old e reply new h.run.steps step;
      unforged = unforged_more h.made old e reply (unforged_run h.image h.made old h.run).none (unforged_step old e reply new step (trusted_end h.image h.made old h.run) trusted);
    };
  },
)

-- A built draft's pages, brought in.

-- a page that is not brought in stays
page_stays : (pages : List (ℕ × List ℕ)) (m : Pages) (p : ℕ) → times p (numbers_of pages) ≡ 0 → page_at (with_pages pages m) p ≡ page_at m p
page_stays [] m p none = refl
page_stays (page ∷ more) m p none = grind (arith, page_stays more (slice_set m page.0 (Some page.1)) p, eqb-false, slice_get-set_other, times-cons)

-- a page that is in stands in memory
stands : (m : Pages) (p : ℕ) (page : List ℕ) → page_at m p ≡ Some page → length page ≡ 4096 → Holds (byte_at m) (4096 * p) page
stands m p page found whole k lt = byte_in m p k page found (omega (arith, whole)) ∙ slice_get-get_or page k 0 lt

brought_in : (pages : List (ℕ × List ℕ)) (m : Pages) → AreDistinct (numbers_of pages) → LieIn (length m) (numbers_of pages) → ArePages pages → HoldsPages (byte_at (with_pages pages m)) pages
brought_in [] m distinct low whole = tt
brought_in (page ∷ more) m distinct low whole =
    let m' = slice_set m page.0 (Some page.1) in
    let once : one (page.0 == page.0) + times page.0 (numbers_of more) ≤ 1 = omega (arith, distinct page.0, times-cons page.0 page.0 (numbers_of more)) in
    let mine : one (page.0 == page.0) ≡ 1 = ap one (eq-eqb page.0 page.0 refl) in
    let below : page.0 < length m = All-head (λ p. p < length m) page.0 (numbers_of more) low in
    let there : page_at (slice_set m page.0 (Some page.1)) page.0 ≡ Some page.1 = ap (option_and_then (λ slot. slot)) (slice_get-set_same m page.0 (Some page.1) below) in
    let longer : length (slice_set m page.0 (Some page.1)) ≡ length m = length-set m page.0 (Some page.1) in (
      stands (with_pages more m') page.0 page.1 (page_stays more m' page.0 (omega (arith, once, mine)) ∙ there) (All-head (λ page. IsPage page.1) page more whole),
      brought_in more m' (λ p. omega (arith, distinct p, times-cons p page.0 (numbers_of more)))
          (subst (λ (n : ℕ). LieIn n (numbers_of more)) (sym longer) (All-tail (λ p. p < length m) page.0 (numbers_of more) low))
          (All-tail (λ page. IsPage page.1) page more whole),
    )

pub built_in_store : BuiltDraftsSpell → built_drafts_spell_in_store
built_in_store law d entry pages h e moves few low_data low_chain distinct =
    let fits : FitsDraft d = record {
      request = h.request;
      data_pages = λ k p lt. omega (arith, low_data k p lt, few);
      chain_pages = λ k p lt. omega (arith, low_chain k p lt, few);
    } in
    law d entry h.draft fits e moves (byte_at (with_pages d.chain_pages pages)) (brought_in d.chain_pages pages distinct low_chain h.chain_pages)
