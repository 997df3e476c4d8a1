-- The laws of ends and of Reads.
use Rattle.machine_model.specs.declared.words.Refusal.TheVariants as refusal
use Rattle.machine_model.specs.Events as events
use Rattle.std.proofs.Common.{◌≡◌, ◌⊎◌, inl, inr, ℕ, ◌==◌, nat_lt, Bool, true, false, not, ◌&&◌, ◌||◌, Option, Some, None, List, [], ◌∷◌, ◌++◌, option_and_then, refl, ap, sym, ◌∙◌, arith, subst, eqb-true, zero, suc, length, replicate, eq-eqb}
use Rattle.std.proofs.lemmas.Bool.{true≢false, and_parts, not-false, or_left, or_right, not-true, Decides.nat_tests}
use Rattle.std.{proofs.lemmas.List.{append_assoc, length-replicate}, specs.{List.{list_any, AllByRecursion}, Option.{option_map_or, option_map}}}
use Rattle.entry_codec.specs.{Status.is_success, declared.status.Status.Status}
use Rattle.entry_codec.specs.declared.status.TheConstants.Status.{SUCCESS, ABORT_REQUESTED, ABORTED_SQ_DELETION, INVALID_OPCODE, INVALID_NAMESPACE, LBA_OUT_OF_RANGE, COMPARE_FAILURE}
use Rattle.io_commands.specs.{Asked.Request, DataBytes.{PagesOut, gathered}, Drafts.DraftContents, Requests.parts_of}
use Rattle.io_commands.specs.{Values.{FinishedContents, numbers_of}, declared.request.Kind.{Kind, TheVariants.Read}}
use Rattle.machine_model.proofs.{HostLeaves.ids_of, Sound.{named, status_in}, Steps.{Accepts, permitted, first_fails, rest_fails}}
use Rattle.machine_model.specs.{Claims.OwnsFit, Events.{Event, Reply}, Image.{Made, draft_of, image_after, undiscarded}}
use Rattle.machine_model.specs.{Refusals.{is_submitted, is_held, record_is, refusal_of}, State.{State, Record, is_at, record_at, pages_of}}
use Rattle.machine_model.specs.{Status.same_status, Step.{Step, asked_by, pages_with_bytes}, Trusted.{TrustedRun, drafts_of}}
use Rattle.machine_model.specs.{Work.Work, declared.words.{Peer.TheVariants.{Modelled}, Phase.Phase, Reaped.TheVariants.{Done}, Work.TheVariants.{Io, Management}}}
use Rattle.run_laws.proofs.{Carrying.{Gathers, Stands, gathers_pieces, all_stand, some_stand}, Causes.{same_is, statuses_have_causes}}
use Rattle.run_laws.proofs.EndsTold.{DeletedSince, CompletedIn, EndedIn, HeldTold, Told, told_carried, told_at_opening, deleted_before, first_told}
use Rattle.run_laws.proofs.{Images.imaged_before, Moves.told_entry}
use Rattle.run_laws.proofs.ReadsKept.{Images, fetched_in, read_targets, read_blocks, ReadSoFar, ReadIfIo, ReadRecord, Member, members, sized_of, targets_length, blocks_length}
use Rattle.run_laws.proofs.ReadsWalked.{ReadsSo, images_of, images_append, reads_before}
use Rattle.run_laws.specs.Blocks.{collected_of, reads, is_read, blocks_of_request, partly, reads_give_their_blocks, stopped_reads_give_a_prefix}
use Rattle.run_laws.specs.Ends.{retires_by, WasCompleted, WasLost, WasLostByReset, CauseOfEnd, Succeeded, Aborted, Stopped, Lost, LostByReset, Unknown, WithoutNamespace, PastImage, Differed, ends_come_from_completions, retired_queues_were_deleted, collects_tell_how_commands_ended, every_collect_has_its_cause}
use Rattle.run_laws.specs.Statuses.{aborts, deletes, since_fetch, is_unknown, misses_namespace, passes_image, is_compare, fetches}
use Rattle.two_sides.proofs.{Along.{Before, keeps, run_before}, JobLaws.not_zero as positive, PlacesKept.reaped_completion, TiedAll.admins_of}
use Rattle.two_sides.proofs.Served.{good_is, Stood}
use Rattle.page_ledger.specs.Owners.{is_among}
use Rattle.block_image.specs.Blocks.{blocks_at}
use Rattle.page_memory.specs.Pages.{Pages, page_at}
use Rattle.sgl_descriptor.specs.{Targets.targets, declared.Direction.TheVariants.Destination}
use Rattle.slot_table.proofs.Rows.{option_is}
use Rattle.page_memory.proofs.Lists.{all-found, some_is}

-- How commands end, in each trusted run.

told_before : (image : List ℕ) (earlier later : List Made) (m : Made) (end : State) → TrustedRun image (earlier ++ m ∷ later) end → Before Told earlier m
told_before image = run_before Told (keeps Told told_carried) image (λ pages queues n s opens. told_at_opening pages queues n s image opens)

with_cause : (image : List ℕ) (earlier later : List Made) (m : Made) (end : State) (q cid : ℕ) (st : Status) → TrustedRun image (earlier ++ m ∷ later) end → nat_lt 0 q ≡ true → CompletedIn earlier q cid st → WasCompleted earlier q cid st
with_cause image earlier later m end q cid st run io c = record {
  before = c.before;
  completion = c.completion;
  between = c.between;
  parts = c.parts;
  given = c.given;
  since = ap not c.since;
  cause = statuses_have_causes image c.before (c.between ++ m ∷ later) c.completion end q cid st
      (subst (λ (ms : List Made). TrustedRun image ms end) (ap (λ (xs : List Made). xs ++ m ∷ later) c.parts ∙ append_assoc c.before (c.completion ∷ c.between) (m ∷ later)) run) io c.given;
}

above : (q : ℕ) → (q == 0) ≡ false → nat_lt 0 q ≡ true
above q h = grind (arith, nat_tests, h)

-- Reaping

reap_told : (done : List Made) (s next : State) (q cid : ℕ) (st : Status) → Step s (events.Reap q) (events.Reaps (Done cid st)) next → s.trusted ≡ true → (q == 0) ≡ false → Told done s → CompletedIn done q cid st
reap_told done s next q cid st step t other h = grind (arith, permitted, reaped_completion, named, first_told, told_entry, status_in)

pub runs_end_by_completions : ends_come_from_completions
runs_end_by_completions image earlier later m end q cid st run io is_event is_reply =
    let b = told_before image earlier later m end run in
    let step = subst (λ (r : Reply). Step m.before (events.Reap q) r b.next) is_reply (subst (λ (e : Event). Step m.before e m.reply b.next) is_event b.step) in
    with_cause image earlier later m end q cid st run io (reap_told earlier m.before b.next q cid st step b.trusted (positive q io) b.holds)

-- Retiring

retire_told : (done : List Made) (s next : State) (e : Event) (reply : Reply) (q : ℕ) → Step s e reply next → s.trusted ≡ true → Told done s → retires_by q e reply ≡ true → DeletedSince q done
retire_told done s next (events.Retire k) events.Accepted q step t h is = grind (arith, permitted, eqb-true, deleted_before)
retire_told done s next e reply q step t h is = absurd (true≢false (sym is))

pub runs_retire_deleted : retired_queues_were_deleted
runs_retire_deleted image earlier later m end q run is =
    let b = told_before image earlier later m end run in
    retire_told earlier m.before b.next m.event m.reply q b.step b.trusted b.holds is

-- Collecting

pub only_held : (ph : Phase) → (is_submitted ph || is_held ph) ≡ true → is_submitted ph ≡ false → is_held ph ≡ true
only_held ph e f = grind arith

record CollectTold (done : List Made) (q cid : ℕ) (st : Status) : Type 0 where
  io : (q == 0) ≡ false
  ended : EndedIn done q cid st

collect_told : (done : List Made) (s next : State) (q cid : ℕ) (f : FinishedContents) → Step s (events.Collect q cid) (events.Collects f) next → s.trusted ≡ true → Told done s → CollectTold done q cid f.status
collect_told done s next q cid f step t h = elim (option_is (record_at s.host q cid)) [
  | inl at ↦ absurd (true≢false (sym (rw at at (not-false _ there))))
  | inr (r, at) ↦
      of_work r at (only_held r.phase (rw at at (not-false _ there)) (rw at at sent)) r.work refl
      (all-found (λ r. OwnsFit Modelled r.q r.work (pages_of r)) (is_at q cid) s.host.records r at (admins_of s h.stood.grounds)) (rw at at ok.1)
]
  where
    ok : Accepts s (events.Collect q cid) (events.Collects f)
    ok = permitted _ s.trusted true t step.1

    there : not (record_is (λ r. is_submitted r.phase || is_held r.phase) s q cid) ≡ false
    there = first_fails (not (record_is (λ r. is_submitted r.phase || is_held r.phase) s q cid)) refusal.Stranger ((record_is (λ r. is_submitted r.phase) s q cid, refusal.NotYet) ∷ []) ok.0

    sent : record_is (λ r. is_submitted r.phase) s q cid ≡ false
    sent = first_fails (record_is (λ r. is_submitted r.phase) s q cid) refusal.NotYet []
        (rest_fails (not (record_is (λ r. is_submitted r.phase || is_held r.phase) s q cid)) refusal.Stranger ((record_is (λ r. is_submitted r.phase) s q cid, refusal.NotYet) ∷ []) ok.0)

    of_work : (r : Record) → record_at s.host q cid ≡ Some r → is_held r.phase ≡ true → (w : Work) → r.work ≡ w → OwnsFit Modelled r.q w (pages_of r)
        → option_and_then (λ asked. option_map (λ st. record { q = r.q; cid = r.cid; request = asked; status = st; hints = r.hints; data_pages = pages_with_bytes s.memory r.data_pages; chain_pages = pages_with_bytes s.memory r.chain_pages }) r.status) (asked_by w) ≡ Some f
        → CollectTold done q cid f.status
    of_work r at held (Io request) is fit e =
        let ids = ids_of s q cid r at in
        let told = all-found (HeldTold done) (is_at q cid) s.host.records r at h.held held f.status (grind arith) in
        record {
          io = ap (λ (x : ℕ). x == 0) (sym ids.0) ∙ fit;
          ended = subst (λ (x : ℕ). EndedIn done x cid f.status) ids.0 (subst (λ (x : ℕ). EndedIn done r.q x f.status) ids.1 told);
        }
    of_work r at held (Management adm) is fit e = absurd cc

collect_at : (image : List ℕ) (earlier later : List Made) (m : Made) (end : State) (q cid : ℕ) (f : FinishedContents) → TrustedRun image (earlier ++ m ∷ later) end
    → m.event ≡ events.Collect q cid → m.reply ≡ events.Collects f → CollectTold earlier q cid f.status
collect_at image earlier later m end q cid f run is_event is_reply =
    let b = told_before image earlier later m end run in
    let step = subst (λ (r : Reply). Step m.before (events.Collect q cid) r b.next) is_reply (subst (λ (e : Event). Step m.before e m.reply b.next) is_event b.step) in
    collect_told earlier m.before b.next q cid f step b.trusted b.holds

pub runs_tell_ends : collects_tell_how_commands_ended
runs_tell_ends image earlier later m end q cid f run is_event is_reply =
    let told = collect_at image earlier later m end q cid f run is_event is_reply in
    elim told.ended [
      | inl c ↦ inl (with_cause image earlier later m end q cid f.status run (above q told.io) c)
      | inr c ↦ inr c
    ]

-- The seven statuses

one_of_seven : (earlier : List Made) (q cid : ℕ) (st : Status) (c : WasCompleted earlier q cid st) → CauseOfEnd earlier q cid st
one_of_seven earlier q cid st c =
    by_cause (is_success st) refl (same_status st ABORT_REQUESTED && list_any (aborts q cid) (since_fetch q cid c.before)) refl (same_status st ABORTED_SQ_DELETION && list_any (deletes q) (since_fetch q cid c.before)) refl
    (same_status st INVALID_OPCODE && is_unknown c.completion q cid) refl (same_status st INVALID_NAMESPACE && misses_namespace c.completion q cid) refl
    (same_status st LBA_OUT_OF_RANGE && passes_image c.completion q cid) refl (same_status st COMPARE_FAILURE && is_compare c.completion q cid) refl c.cause
  where
    by_cause : (v : Bool) → is_success st ≡ v → (w : Bool) → (same_status st ABORT_REQUESTED && list_any (aborts q cid) (since_fetch q cid c.before)) ≡ w
        → (x : Bool) → (same_status st ABORTED_SQ_DELETION && list_any (deletes q) (since_fetch q cid c.before)) ≡ x → (o : Bool) → (same_status st INVALID_OPCODE && is_unknown c.completion q cid) ≡ o
        → (n : Bool) → (same_status st INVALID_NAMESPACE && misses_namespace c.completion q cid) ≡ n
        → (y : Bool) → (same_status st LBA_OUT_OF_RANGE && passes_image c.completion q cid) ≡ y → (z : Bool) → (same_status st COMPARE_FAILURE && is_compare c.completion q cid) ≡ z
        → (v || w || x || o || n || y || z) ≡ true → CauseOfEnd earlier q cid st
    by_cause true e w ew x ex o eo n en y ey z ez h = Succeeded c (same_is st SUCCESS e)
    by_cause false e true ew x ex o eo n en y ey z ez h = let p = and_parts (same_status st ABORT_REQUESTED) (list_any (aborts q cid) (since_fetch q cid c.before)) ew in Aborted c (same_is st ABORT_REQUESTED p.0) p.1
    by_cause false e false ew true ex o eo n en y ey z ez h = let p = and_parts (same_status st ABORTED_SQ_DELETION) (list_any (deletes q) (since_fetch q cid c.before)) ex in Stopped c (same_is st ABORTED_SQ_DELETION p.0) p.1
    by_cause false e false ew false ex true eo n en y ey z ez h = let p = and_parts (same_status st INVALID_OPCODE) (is_unknown c.completion q cid) eo in Unknown c (same_is st INVALID_OPCODE p.0) p.1
    by_cause false e false ew false ex false eo true en y ey z ez h = let p = and_parts (same_status st INVALID_NAMESPACE) (misses_namespace c.completion q cid) en in WithoutNamespace c (same_is st INVALID_NAMESPACE p.0) p.1
    by_cause false e false ew false ex false eo false en true ey z ez h = let p = and_parts (same_status st LBA_OUT_OF_RANGE) (passes_image c.completion q cid) ey in PastImage c (same_is st LBA_OUT_OF_RANGE p.0) p.1
    by_cause false e false ew false ex false eo false en false ey true ez h = let p = and_parts (same_status st COMPARE_FAILURE) (is_compare c.completion q cid) ez in Differed c (same_is st COMPARE_FAILURE p.0) p.1
    by_cause false e false ew false ex false eo false en false ey false ez h = absurd (true≢false (sym h))

pub runs_have_causes : every_collect_has_its_cause
runs_have_causes image earlier later m end q cid f run is_event is_reply = by_end (runs_tell_ends image earlier later m end q cid f run is_event is_reply)
  where
    by_end : WasCompleted earlier q cid f.status ⊎ WasLost earlier q cid f.status ⊎ WasLostByReset earlier q cid f.status → CauseOfEnd earlier q cid f.status
    by_end (inl c) = one_of_seven earlier q cid f.status c
    by_end (inr (inl c)) = Lost c
    by_end (inr (inr c)) = LostByReset c

-- The laws of Reads: one that ended well gives its blocks, and one that was stopped a prefix of their bytes.

images_none : (at : Images) (ys : List Made) (q cid : ℕ) → list_any (fetches q cid) ys ≡ false → images_of at ys q cid ≡ at q cid
images_none at [] q cid h = refl
images_none at (y ∷ ys) q cid h = grind (arith, images_none (fetched_in y.before y.event y.reply at) ys q cid, fetched_in)

-- the image of the latest fetch
image_at_fetch : (at : Images) (before : List Made) (fetched : Made) (between : List Made) (q cid : ℕ) → fetches q cid fetched ≡ true → list_any (fetches q cid) between ≡ false
    → images_of at (before ++ fetched ∷ between) q cid ≡ fetched.before.controller.image
image_at_fetch at before fetched between q cid is none = grind (arith, images_append, images_none, fetched_in, images_of)

-- What is collected

record Found (s : State) (f : FinishedContents) : Type 0 where
  command : Record
  at_q : ℕ
  at_cid : ℕ
  found : record_at s.host at_q at_cid ≡ Some command
  its_queue : f.q ≡ command.q
  its_id : f.cid ≡ command.cid
  work : command.work ≡ Io f.request
  status : command.status ≡ Some f.status
  pages : f.data_pages ≡ pages_with_bytes s.memory command.data_pages
  held : is_held command.phase ≡ true

found_record : (s : State) (q cid : ℕ) (r : Record) (f : FinishedContents) → record_at s.host q cid ≡ Some r → is_held r.phase ≡ true → (w : Work) → r.work ≡ w → (o : Option Status) → r.status ≡ o
    → option_and_then
    (λ asked. option_map
    (λ st. record { q = r.q; cid = r.cid; request = asked; status = st; hints = r.hints; data_pages = pages_with_bytes s.memory r.data_pages; chain_pages = pages_with_bytes s.memory r.chain_pages })
    o)
    (asked_by w) ≡ Some f → Found s f
found_record s q cid r f found held (Io request) w (Some v) st e =
    let same = some_is e in
    subst (Found s) same (record { command = r; at_q = q; at_cid = cid; found = found; its_queue = refl; its_id = refl; work = w; status = st; pages = refl; held = held })
found_record s q cid r f found held x w o st e = absurd cc

-- where a collection is not refused, its command's record is held
pub held_where_collected : (s : State) (q cid : ℕ) → refusal_of s (events.Collect q cid) ≡ None → (r : Record) → record_at s.host q cid ≡ Some r → is_held r.phase ≡ true
held_where_collected s q cid none r e = grind (arith, only_held, first_fails, rest_fails)

found_in : (s : State) (e : Event) (reply : Reply) (new : State) (f : FinishedContents) → Step s e reply new → s.trusted ≡ true → collected_of e reply ≡ Some f → Found s f
found_in s (events.Collect q cid) (events.Collects g) new f step t is = grind (arith, permitted, found_record, held_where_collected)
found_in s e reply new f step t is = absurd cc

of_read : (kind : Kind) → reads kind ≡ true → kind ≡ Read
of_read Read h = refl
of_read kind h = absurd (true≢false (sym h))

reads_kind : (f : FinishedContents) → is_read f ≡ true → f.request.kind ≡ Read
reads_kind f h = of_read f.request.kind h

-- The pages that are handed out

pub with_numbers : (m : Pages) (ps : List ℕ) → numbers_of (pages_with_bytes m ps) ≡ ps
with_numbers m [] = refl
with_numbers m (p ∷ ps) = ap (λ (xs : List ℕ). p ∷ xs) (with_numbers m ps)

with_stand : (m : Pages) (ps : List ℕ) → ((p : ℕ) → is_among ps p ≡ true → (page : List ℕ) × (page_at m p ≡ Some page) × (length page ≡ 4096)) → AllByRecursion (Stands m) (pages_with_bytes m ps)
with_stand m [] h = tt
with_stand m (p ∷ ps) h =
    let x = h p (or_left (p == p) (is_among ps p) (eq-eqb p p refl)) in
    let same : option_map_or (λ bytes. bytes) (page_at m p) [] ≡ x.0 = ap (λ (o : Option (List ℕ)). option_map_or (λ bytes. bytes) o []) x.1 in
    ((x.1 ∙ ap (λ (y : List ℕ). Some y) (sym same), ap length same ∙ x.2), with_stand m ps (λ q e. h q (or_right (p == q) (is_among ps q) e)))

-- What is known where a Read is collected

record CollectedRead (image : List ℕ) (before : List Made) (fetched : Made) (between : List Made) (f : FinishedContents) : Type 0 where
  s : State
  stood : Stood s
  found : Found s f
  soFar : ReadSoFar (drafts_of (before ++ fetched ∷ between)) (images_of (λ q cid. image) (before ++ fetched ∷ between)) s found.command f.request
  member : Member s found.command
  image_is : images_of (λ q cid. image) (before ++ fetched ∷ between) found.command.q found.command.cid ≡ image_after image before
  image_long : length (images_of (λ q cid. image) (before ++ fetched ∷ between) found.command.q found.command.cid) ≡ length s.controller.image

collected_read : (image : List ℕ) (before : List Made) (fetched : Made) (between : List Made) (collected : Made) (later : List Made) (end : State) (f : FinishedContents)
    → TrustedRun image (before ++ fetched ∷ between ++ collected ∷ later) end → collected_of collected.event collected.reply ≡ Some f → is_read f ≡ true
    → fetches f.q f.cid fetched ≡ true → list_any (fetches f.q f.cid) between ≡ false → CollectedRead image before fetched between f
collected_read image before fetched between collected later end f run is reads fetch none =
    let known : Before (ReadsSo image) (before ++ fetched ∷ between) collected = reads_before image (before ++ fetched ∷ between) later collected end run in
    let found : Found collected.before f = found_in collected.before collected.event collected.reply known.next f known.step known.trusted is in
    record {
      s = collected.before;
      stood = known.holds.traced.stood;
      found = found;
      soFar = subst (ReadIfIo (drafts_of (before ++ fetched ∷ between)) (images_of (λ q cid. image) (before ++ fetched ∷ between)) collected.before found.command) found.work
          (all-found (ReadRecord (drafts_of (before ++ fetched ∷ between)) (images_of (λ q cid. image) (before ++ fetched ∷ between)) collected.before) (is_at found.at_q found.at_cid) collected.before.host.records found.command found.found known.holds.reads.records
          (grind (arith, found.held))) (reads_kind f reads);
      member = all-found (Member collected.before) (is_at found.at_q found.at_cid) collected.before.host.records found.command found.found (members collected.before known.holds.traced.stood);
      image_is =
          image_at_fetch (λ q cid. image) before fetched between found.command.q found.command.cid
          (ap (λ (n : ℕ). fetches n found.command.cid fetched) (sym found.its_queue) ∙ ap (λ (n : ℕ). fetches f.q n fetched) (sym found.its_id) ∙ fetch)
          (ap (λ (n : ℕ). list_any (fetches n found.command.cid) between) (sym found.its_queue) ∙ ap (λ (n : ℕ). list_any (fetches f.q n) between) (sym found.its_id) ∙ none)
          ∙ (imaged_before image before (between ++ collected ∷ later) fetched end (subst (λ (made : List Made). TrustedRun image made end) (append_assoc before (fetched ∷ between) (collected ∷ later)) run)).holds.image_is;
      image_long = known.holds.reads.images found.command.q found.command.cid;
    }

-- its pages hold, byte for byte
gathers_found : (image : List ℕ) (before : List Made) (fetched : Made) (between : List Made) (f : FinishedContents) (x : CollectedRead image before fetched between f)
    → Gathers x.s.memory (read_targets x.found.command f.request) (gathered f.request.pieces f.data_pages)
gathers_found image before fetched between f x =
    subst (λ (pages : PagesOut). Gathers x.s.memory (read_targets x.found.command f.request) (gathered f.request.pieces pages)) (sym x.found.pages)
    (subst (λ (ns : List ℕ). Gathers x.s.memory (targets Destination (parts_of f.request.pieces ns)) (gathered f.request.pieces (pages_with_bytes x.s.memory x.found.command.data_pages))) (with_numbers x.s.memory x.found.command.data_pages)
    (gathers_pieces x.s.memory Destination f.request.pieces (pages_with_bytes x.s.memory x.found.command.data_pages) (good_is f.request (sized_of x.s x.found.command f.request x.member x.found.work).good).crosses
    (with_stand x.s.memory x.found.command.data_pages x.soFar.whole)))

same_numbers : (image : List ℕ) (before : List Made) (fetched : Made) (between : List Made) (f : FinishedContents) (x : CollectedRead image before fetched between f) → numbers_of f.data_pages ≡ x.found.command.data_pages
same_numbers image before fetched between f x = ap numbers_of x.found.pages ∙ with_numbers x.s.memory x.found.command.data_pages

-- The laws

pub reads_give : reads_give_their_blocks
reads_give image before fetched between collected later end f run is reads well fetch none =
    let x = collected_read image before fetched between collected later end f run is reads fetch (not-true (list_any (fetches f.q f.cid) between) none) in
    let full = x.soFar.full x.found.held f.status x.found.status well in
    let long : length (read_blocks (images_of (λ q cid. image) (before ++ fetched ∷ between)) x.found.command f.request) ≡ length (read_targets x.found.command f.request) =
    blocks_length (images_of (λ q cid. image) (before ++ fetched ∷ between) x.found.command.q x.found.command.cid) f.request.slba f.request.blocks (omega (arith, full.1, x.image_long))
    ∙ sym (targets_length x.s x.found.command f.request x.member x.found.work (reads_kind f reads)) in
    sym (all_stand x.s.memory (read_targets x.found.command f.request) (gathered f.request.pieces f.data_pages) (read_blocks (images_of (λ q cid. image) (before ++ fetched ∷ between)) x.found.command f.request)
    (gathers_found image before fetched between f x) long (λ i p b target e. sym (x.soFar.received.first i p target (full.0 i p target)) ∙ e))
    ∙ ap (λ (ns : List ℕ). undiscarded (targets Destination (parts_of f.request.pieces ns)) (blocks_at (images_of (λ q cid. image) (before ++ fetched ∷ between) x.found.command.q x.found.command.cid) f.request.slba f.request.blocks)) (sym (same_numbers image before fetched between f x))
    ∙ ap (λ (bytes : List ℕ). undiscarded (targets Destination (parts_of f.request.pieces (numbers_of f.data_pages))) (blocks_at bytes f.request.slba f.request.blocks)) x.image_is

pub stopped_reads : stopped_reads_give_a_prefix
stopped_reads image before fetched between collected later end f d run is reads fetch none latest =
    let x = collected_read image before fetched between collected later end f run is reads fetch (not-true (list_any (fetches f.q f.cid) between) none) in (
      x.soFar.k,
      prefix x x.soFar.k refl
          ∙ ap (λ (ns : List ℕ). partly x.soFar.k (targets Destination (parts_of f.request.pieces ns)) (blocks_at (images_of (λ q cid. image) (before ++ fetched ∷ between) x.found.command.q x.found.command.cid) f.request.slba f.request.blocks) (gathered x.soFar.draft.request.pieces x.soFar.draft.data_pages)) (sym (same_numbers image before fetched between f x))
          ∙ ap (λ (bytes : List ℕ). partly x.soFar.k (targets Destination (parts_of f.request.pieces (numbers_of f.data_pages))) (blocks_at bytes f.request.slba f.request.blocks) (gathered x.soFar.draft.request.pieces x.soFar.draft.data_pages)) x.image_is
          ∙ ap (λ (y : DraftContents). partly x.soFar.k (targets Destination (parts_of f.request.pieces (numbers_of f.data_pages))) (blocks_of_request f.request (image_after image before)) (gathered y.request.pieces y.data_pages)) (same_draft x),
    )
  where
    same_draft : (x : CollectedRead image before fetched between f) → x.soFar.draft ≡ d
    same_draft x =
        some_is (sym x.soFar.latest ∙ ap (λ (n : ℕ). draft_of n x.found.command.cid (drafts_of (before ++ fetched ∷ between))) (sym x.found.its_queue)
        ∙ ap (λ (n : ℕ). draft_of f.q n (drafts_of (before ++ fetched ∷ between))) (sym x.found.its_id) ∙ latest)

    -- its own bytes, as they were submitted
    own : (x : CollectedRead image before fetched between f) → Gathers x.soFar.own (read_targets x.found.command f.request) (gathered x.soFar.draft.request.pieces x.soFar.draft.data_pages)
    own x =
        subst (λ (r : Request). Gathers x.soFar.own (read_targets x.found.command f.request) (gathered r.pieces x.soFar.draft.data_pages)) (sym x.soFar.asked)
        (subst (λ (ns : List ℕ). Gathers x.soFar.own (targets Destination (parts_of f.request.pieces ns)) (gathered f.request.pieces x.soFar.draft.data_pages)) x.soFar.pages
        (gathers_pieces x.soFar.own Destination f.request.pieces x.soFar.draft.data_pages (good_is f.request (sized_of x.s x.found.command f.request x.member x.found.work).good).crosses x.soFar.stand))

    prefix : (x : CollectedRead image before fetched between f) (k : ℕ) → x.soFar.k ≡ k
        → gathered f.request.pieces f.data_pages
        ≡ partly x.soFar.k (read_targets x.found.command f.request) (read_blocks (images_of (λ q cid. image) (before ++ fetched ∷ between)) x.found.command f.request) (gathered x.soFar.draft.request.pieces x.soFar.draft.data_pages)
    prefix x zero e =
        some_stand x.s.memory x.soFar.own 0 (read_targets x.found.command f.request) (gathered f.request.pieces f.data_pages) (gathered x.soFar.draft.request.pieces x.soFar.draft.data_pages) (replicate (length (read_targets x.found.command f.request)) 0)
        (gathers_found image before fetched between f x) (own x) (length-replicate (length (read_targets x.found.command f.request)) 0)
        (λ i p b target found lt. absurd (omega (arith, lt))) (λ i p b target found le. sym (x.soFar.received.rest i p target (omega (arith, e))) ∙ found)
        ∙ ap (λ (n : ℕ). partly n (read_targets x.found.command f.request) (read_blocks (images_of (λ q cid. image) (before ++ fetched ∷ between)) x.found.command f.request) (gathered x.soFar.draft.request.pieces x.soFar.draft.data_pages)) (sym e)
    prefix x (suc k) e =
        some_stand x.s.memory x.soFar.own x.soFar.k (read_targets x.found.command f.request) (gathered f.request.pieces f.data_pages) (gathered x.soFar.draft.request.pieces x.soFar.draft.data_pages)
        (read_blocks (images_of (λ q cid. image) (before ++ fetched ∷ between)) x.found.command f.request)
        (gathers_found image before fetched between f x) (own x) (x.soFar.long (omega (arith, e)))
        (λ i p b target found lt. sym (x.soFar.received.first i p target lt) ∙ found) (λ i p b target found le. sym (x.soFar.received.rest i p target le) ∙ found)
