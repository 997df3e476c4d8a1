-- What each verdict of an admin entry comes from, and what it keeps.
use Rattle.controller_core.proofs.{Lists.{count-cons, one, length-change, all_set, count_set}, Rows.{commands-without, length-end}}
use Rattle.controller_core.proofs.Awaited.{Awaits, IsAlike, awaited_changed, awaited_more, awaits_alike, named_last, none_mapped, awaited_set, awaited_without, completes_alone, commands-with, none_found}
use Rattle.controller_core.specs.{Posting.{Posts, with_posted}, Completing.{complete_refusal, queues_of_end, without_command}}
use Rattle.controller_core.specs.Contents.{FitsVerdict, Contents, IsController, IsNamedBy, AreAwaited, AreCommands, FetchedCommand, FetchedWork, FitsWork, FitsCommand, change, entry_of_work, is_command, is_deletion}
use Rattle.controller_core.specs.Managing.{with_taken, command_of, admin_work, stopped_work, aborted, stopped_with_queue, stopping, without_completion, with_completion, with_submission, NamesPages, commands_after, queues_after, verdict_for, view_for, managed}
use Rattle.controller_core.specs.{Walking.{WalksAmong, stepped, ended_refusal, refusal_among}, declared.command.FetchedWork.TheVariants.{Io, Admin}}
use Rattle.controller_core.specs.declared.queue.ControllerQueue.{ControllerQueue}
use Rattle.std.proofs.Common.{◌≡◌, ℕ, ◌+◌, ◌/◌, ◌%◌, ◌<◌, ◌≤◌, ◌==◌, ◌&&◌, ◌||◌, not, nat_lt, Bool, true, false, Option, Some, None, if◌then◌else◌, refl, arith, eqb-true, suc, zero, ◌-◌, min, nat_eq, cond, is_some, List, ◌^◌, is_none, [], ◌∷◌, ◌++◌, find, length, map, ap, ap₂, sym, ◌∙◌, subst, IfSome, Result, Ok, Err, OnErr, IfOk}
use Rattle.std.{proofs.lemmas.{Bool.{and_parts, and_right, eq-eqb, not-false, not-true, or_parts, true≢false, Decides.nat_tests}, List.map-append}, specs.{List.count_by, Option.{option_map_or, option_map}}}
use Rattle.admin_commands.specs.Entries.{named_queue, named_command, named_base, named_size, named_completion_queue, is_contiguous, is_opcode}
use Rattle.admin_commands.specs.Verdicts.{decision, is_live, is_absent, is_io_queue, half_fault, abort_verdict, delete_sq_verdict, delete_cq_verdict, create_cq_verdict, create_sq_verdict}
use Rattle.admin_commands.specs.declared.AdminVerdict.{AdminVerdict, TheVariants.{Answer, AbortJob, StopQueue, DropCompletion, MakeCompletion, MakeSubmission}}
use Rattle.admin_commands.specs.declared.DeviceView.{DeviceView}
use Rattle.entry_codec.specs.{Status.is_success, declared.{admin_opcode.TheConstants.{ABORT, DELETE_IO_SQ, DELETE_IO_CQ, CREATE_IO_CQ}, status.Status.Status}}
use Rattle.entry_codec.specs.declared.status.TheConstants.Status.{SUCCESS, INVALID_OPCODE, INVALID_FIELD, INVALID_QUEUE_IDENTIFIER, INVALID_QUEUE_SIZE, INVALID_QUEUE_DELETION, COMPLETION_QUEUE_INVALID, DATA_TRANSFER_ERROR, DATA_SGL_LENGTH_INVALID, ABORT_REQUESTED, ABORTED_SQ_DELETION}
use Rattle.entry_codec.specs.declared.submission.SubEntry.{SubEntry}
use Rattle.io_commands.specs.Jobs.{course_of_walk, verdict_of, JobContents, job_course}
use Rattle.page_memory.proofs.Lists.{all-map, all-at, all-found}
use Rattle.slot_table.proofs.{Rows.none_is, Walks.eqb-turned}
use Rattle.page_memory.specs.{Memory.{Memory, bytes_at}, declared.page.Half.{Half, TheVariants.{Submission, Completion}}}
use Rattle.queue_pair.specs.Memory.{half_pages}
use Rattle.controller_walk.specs.Units.{Course, Stays, Moves, Closes, Does, after_read, read_at, from_place, behind, goes_on, unless_fault, cause_status, first_cause, first_fault, moving, first_part, pages_spanned, entry_cursor}
use Rattle.controller_walk.specs.{Walks.{answer, course_in, DoesFirst, LeavesRest}, declared.cause.FaultCause.FaultCause}
use Rattle.controller_walk.specs.declared.cause.FaultCause.TheVariants.{TooManyDescriptors}
use Rattle.controller_walk.specs.declared.{cursor.Cursor.Cursor, progress.{Progress.Progress, State.TheVariants.{First, Next, Data, Over}}, walk.Walk.Walk}
use Rattle.controller_walk.specs.declared.walk.WalkState.{WalkState, TheVariants.{End, Fault}}
use Rattle.sgl_descriptor.specs.{Spelling.descriptor_of, declared.Descriptor.{Descriptor, TheVariants.{DataBlock}}}
use Rattle.sgl_descriptor.specs.declared.Direction.{Direction}
use Rattle.block_image.specs.Blocks.{block_count}
use Rattle.controller_walk.specs.declared.progress.State as progress
use Rattle.controller_core.specs.{Tables.Outstanding, declared.refusal.ControllerRefusal.ControllerRefusal}
use Rattle.controller_core.specs.declared.refusal.ControllerRefusal.TheVariants as refusal

-- What each verdict comes from.

pub if_by : {X : Type 0} (P : X → Type 0) (b : Bool) (x y : X) → (b ≡ true → P x) → (b ≡ false → P y) → P (if b then x else y)
if_by P true x y f g = f refl
if_by P false x y f g = g refl

-- a status that refuses a command
pub record IsRefusal (st : Status) : Type 0 where
  pub small : st.sct < 8
  pub fails : is_success st ≡ false

-- What holds of each verdict, from what is known where it is given, holds of the decision.
pub record OfEach (P : AdminVerdict → Type 0) (e : SubEntry) (view : DeviceView) : Type 0 where
  pub refused : (st : Status) → IsRefusal st → P (Answer st 0)
  pub too_late : e.opcode ≡ ABORT → P (Answer SUCCESS 1)
  pub aborts : (named_queue e == 0) ≡ false → P (AbortJob (named_queue e) (named_command e))
  pub stops : (named_queue e == 0) ≡ false → P (StopQueue (named_queue e))
  pub drops : (named_queue e == 0) ≡ false → P (DropCompletion (named_queue e))
  pub makes_completion : (named_queue e == 0) ≡ false → named_base e / 4096 ≤ view.pages → P (MakeCompletion (named_queue e) (named_base e))
  pub makes_submission : (named_queue e == 0) ≡ false → named_base e / 4096 ≤ view.pages → P (MakeSubmission (named_queue e) (named_base e))

no_opcode : IsRefusal INVALID_OPCODE
no_opcode = record { small = omega arith; fails = refl }

no_field : IsRefusal INVALID_FIELD
no_field = record { small = omega arith; fails = refl }

no_queue : IsRefusal INVALID_QUEUE_IDENTIFIER
no_queue = record { small = omega arith; fails = refl }

abort_by : (P : AdminVerdict → Type 0) (e : SubEntry) (view : DeviceView) → OfEach P e view → e.opcode ≡ ABORT → P (abort_verdict (named_queue e) (named_command e) view)
abort_by P e view each op =
    if_by P (view.target_walks && not (named_queue e == 0)) (AbortJob (named_queue e) (named_command e)) (Answer SUCCESS 1)
    (λ h. each.aborts (not-true (named_queue e == 0) (and_parts view.target_walks (not (named_queue e == 0)) h).1))
    (λ h. each.too_late op)

delete_sq_by : (P : AdminVerdict → Type 0) (e : SubEntry) (view : DeviceView) → OfEach P e view → P (delete_sq_verdict (named_queue e) view)
delete_sq_by P e view each =
    if_by P ((named_queue e == 0) || not (is_live view.sq)) (Answer INVALID_QUEUE_IDENTIFIER 0) (StopQueue (named_queue e))
    (λ h. each.refused INVALID_QUEUE_IDENTIFIER no_queue)
    (λ h. each.stops (or_parts (named_queue e == 0) (not (is_live view.sq)) h).0)

delete_cq_by : (P : AdminVerdict → Type 0) (e : SubEntry) (view : DeviceView) → OfEach P e view → P (delete_cq_verdict (named_queue e) view)
delete_cq_by P e view each =
    if_by P ((named_queue e == 0) || not view.cq_there) (Answer INVALID_QUEUE_IDENTIFIER 0) (if not (is_absent view.sq) then Answer INVALID_QUEUE_DELETION 0 else DropCompletion (named_queue e))
    (λ h. each.refused INVALID_QUEUE_IDENTIFIER no_queue)
    (λ h. if_by P (not (is_absent view.sq)) (Answer INVALID_QUEUE_DELETION 0) (DropCompletion (named_queue e))
    (λ h'. each.refused INVALID_QUEUE_DELETION (record { small = omega arith; fails = refl }))
    (λ h'. each.drops (or_parts (named_queue e == 0) (not view.cq_there) h).0))

-- the number of an I/O queue
io_queue : (q : ℕ) (view : DeviceView) → not (is_io_queue q view) ≡ false → (q == 0) ≡ false
io_queue q view h = positive q (and_parts (nat_lt 0 q) _ (not-false (is_io_queue q view) h)).0
  where
    positive : (q : ℕ) → nat_lt 0 q ≡ true → (q == 0) ≡ false
    positive q l = grind (arith, nat_tests, l)

-- a half that has no fault begins in the pool
half_by : (P : AdminVerdict → Type 0) (half : Half) (e : SubEntry) (view : DeviceView) (v : AdminVerdict) → ((st : Status) → IsRefusal st → P (Answer st 0)) → (named_base e / 4096 ≤ view.pages → P v)
    → P (option_map_or (λ fault. Answer fault 0) (half_fault half e view) v)
half_by P half e view v refused made =
    if_by (λ (o : Option Status). P (option_map_or (λ fault. Answer fault 0) o v)) (not (named_size e == view.entries)) (Some INVALID_QUEUE_SIZE) _
    (λ h. refused INVALID_QUEUE_SIZE (record { small = omega arith; fails = refl }))
    (λ h. if_by (λ (o : Option Status). P (option_map_or (λ fault. Answer fault 0) o v)) (not (is_contiguous e)) (Some INVALID_FIELD) _
    (λ h. refused INVALID_FIELD no_field)
    (λ h. if_by (λ (o : Option Status). P (option_map_or (λ fault. Answer fault 0) o v)) (not (named_base e % 4096 == 0)) (Some INVALID_FIELD) _
    (λ h. refused INVALID_FIELD no_field)
    (λ h. if_by (λ (o : Option Status). P (option_map_or (λ fault. Answer fault 0) o v)) (nat_lt view.pages (named_base e / 4096 + half_pages view.entries half)) (Some INVALID_FIELD) None
    (λ h. refused INVALID_FIELD no_field)
    (λ h. made (below (named_base e / 4096) (half_pages view.entries half) view.pages h)))))
  where
    below : (a b n : ℕ) → nat_lt n (a + b) ≡ false → a ≤ n
    below a b n h = grind (arith, nat_tests, h)

create_cq_by : (P : AdminVerdict → Type 0) (e : SubEntry) (view : DeviceView) → OfEach P e view → P (create_cq_verdict e view)
create_cq_by P e view each =
    if_by P (not (is_io_queue (named_queue e) view) || view.cq_there) (Answer INVALID_QUEUE_IDENTIFIER 0) _
    (λ h. each.refused INVALID_QUEUE_IDENTIFIER no_queue)
    (λ h. half_by P Completion e view (MakeCompletion (named_queue e) (named_base e)) each.refused
    (each.makes_completion (io_queue (named_queue e) view (or_parts (not (is_io_queue (named_queue e) view)) view.cq_there h).0)))

create_sq_by : (P : AdminVerdict → Type 0) (e : SubEntry) (view : DeviceView) → OfEach P e view → P (create_sq_verdict e view)
create_sq_by P e view each =
    if_by P (not (is_io_queue (named_queue e) view) || not (is_absent view.sq)) (Answer INVALID_QUEUE_IDENTIFIER 0) _
    (λ h. each.refused INVALID_QUEUE_IDENTIFIER no_queue)
    (λ h. if_by P (not (is_io_queue (named_completion_queue e) view)) (Answer INVALID_QUEUE_IDENTIFIER 0) _
    (λ h'. each.refused INVALID_QUEUE_IDENTIFIER no_queue)
    (λ h'. if_by P (not view.cq_there || not (named_completion_queue e == named_queue e)) (Answer COMPLETION_QUEUE_INVALID 0) _
    (λ h''. each.refused COMPLETION_QUEUE_INVALID (record { small = omega arith; fails = refl }))
    (λ h''. half_by P Submission e view (MakeSubmission (named_queue e) (named_base e)) each.refused
    (each.makes_submission (io_queue (named_queue e) view (or_parts (not (is_io_queue (named_queue e) view)) (not (is_absent view.sq)) h).0)))))

pub decided : (P : AdminVerdict → Type 0) (e : SubEntry) (view : DeviceView) → OfEach P e view → P (decision e view)
decided P e view each =
    if_by P (not (is_opcode e.opcode)) (Answer INVALID_OPCODE 0) _
    (λ h. each.refused INVALID_OPCODE no_opcode)
    (λ h. if_by P (not (e.fuse == 0)) (Answer INVALID_FIELD 0) _
    (λ h. each.refused INVALID_FIELD no_field)
    (λ h. if_by P (e.opcode == ABORT) (abort_verdict (named_queue e) (named_command e) view) _
    (λ h. abort_by P e view each (eqb-true e.opcode ABORT h))
    (λ h. if_by P (e.opcode == DELETE_IO_SQ) (delete_sq_verdict (named_queue e) view) _
    (λ h. delete_sq_by P e view each)
    (λ h. if_by P (e.opcode == DELETE_IO_CQ) (delete_cq_verdict (named_queue e) view) _
    (λ h. delete_cq_by P e view each)
    (λ h. if_by P (e.opcode == CREATE_IO_CQ) (create_cq_verdict e view) (create_sq_verdict e view)
    (λ h. create_cq_by P e view each)
    (λ h. create_sq_by P e view each))))))

-- A completion can carry each fault of a walk.

-- a course ends with what a completion can carry
abbrev pub EndsFit : Course → Type 0
EndsFit (Closes v) = FitsVerdict (verdict_of v)
EndsFit (Does act rest) = EndsFit rest

pub answer_fits : (c : Course) → EndsFit c → FitsVerdict (verdict_of (answer c))
answer_fits (Closes v) h = h
answer_fits (Does act rest) h = tt

moving_fits : (m : Memory) (n place len offset : ℕ) (rest : Course) → EndsFit rest → EndsFit (moving m n place len offset rest)
unfolding moving
moving_fits m zero place len offset rest h = h
moving_fits m (suc n) place len offset rest h =
    let more = moving m n (place + first_part place len) (len - first_part place len) (offset + first_part place len) rest in
    let last : Course = Does Stays (Closes (Fault DATA_TRANSFER_ERROR)) in
    elim (is_some (bytes_at m place (first_part place len))) as (λ b. EndsFit (cond b (Does (Moves place (first_part place len) offset) more) last)) [
      | true ↦ moving_fits m n (place + first_part place len) (len - first_part place len) (offset + first_part place len) rest h
      | false ↦ omega arith
    ]

cause_fits : (cause : Option FaultCause) → FitsVerdict (option_map cause_status cause)
cause_fits None = tt
cause_fits (Some TooManyDescriptors) = omega arith
cause_fits (Some v) = omega arith

fault_fits : (c : Cursor) (d : Descriptor) → FitsVerdict (first_fault c d)
fault_fits c d = cause_fits (first_cause c d)

on_fits : (m : Memory) (dir : Direction) (need : ℕ) (c : Cursor) (wanted : ℕ) (later : Option Cursor → ℕ → Course) (d : Descriptor) → ((o : Option Cursor) (wanted : ℕ) → EndsFit (later o wanted))
    → EndsFit (goes_on m dir need c wanted later d)
on_fits m dir need c wanted later (DataBlock addr len) h = moving_fits m (pages_spanned addr (min len wanted)) addr (min len wanted) (need - wanted) _ (h _ _)
on_fits m dir need c wanted later v h = h _ _

unless_fits : (f : Option Status) (c : Course) → FitsVerdict f → EndsFit c → EndsFit (unless_fault f c)
unless_fits None c f h = h
unless_fits (Some status) c f h = f

read_fits : (m : Memory) (dir : Direction) (need : ℕ) (c : Cursor) (wanted : ℕ) (later : Option Cursor → ℕ → Course) (found : Option Descriptor) → ((o : Option Cursor) (wanted : ℕ) → EndsFit (later o wanted))
    → EndsFit (after_read m dir need c wanted later found)
read_fits m dir need c wanted later None h = omega arith
read_fits m dir need c wanted later (Some d) h = unless_fits (first_fault c d) _ (fault_fits c d) (on_fits m dir need c wanted later d h)

at_fits : (m : Memory) (dir : Direction) (need : ℕ) (c : Cursor) (wanted : ℕ) (later : Option Cursor → ℕ → Course) (bytes : Option (List ℕ)) → ((o : Option Cursor) (wanted : ℕ) → EndsFit (later o wanted))
    → EndsFit (read_at m dir need c wanted later bytes)
at_fits m dir need c wanted later None h = omega arith
at_fits m dir need c wanted later (Some bytes) h = read_fits m dir need c wanted later (descriptor_of bytes) h

behind_fits : (from : Cursor → ℕ → Course) → ((c : Cursor) (wanted : ℕ) → EndsFit (from c wanted)) → (o : Option Cursor) (wanted : ℕ) → EndsFit (behind from o wanted)
behind_fits from h None wanted = elim (nat_eq wanted 0) as (λ b. FitsVerdict (verdict_of (cond b End (Fault DATA_SGL_LENGTH_INVALID)))) [ true ↦ omega arith | false ↦ omega arith ]
behind_fits from h (Some c) wanted = elim (nat_eq wanted 0) as (λ b. EndsFit (cond b (Closes End) (from c wanted))) [ true ↦ omega arith | false ↦ h c wanted ]

from_fits : (k : ℕ) (m : Memory) (dir : Direction) (need : ℕ) (c : Cursor) (wanted : ℕ) → EndsFit (from_place k m dir need c wanted)
unfolding from_place
from_fits zero m dir need c wanted = omega arith
from_fits (suc k) m dir need c wanted = at_fits m dir need c wanted (behind (from_place k m dir need)) (bytes_at m c.place 16) (behind_fits (from_place k m dir need) (from_fits k m dir need))

course_fits : (m : Memory) (w : Progress) (s : progress.State) → EndsFit (course_in m w s)
course_fits m w (First sgl1) =
    read_fits m w.direction w.need entry_cursor w.wanted (behind (from_place w.allowed m w.direction w.need)) (descriptor_of sgl1) (behind_fits (from_place w.allowed m w.direction w.need) (from_fits w.allowed m w.direction w.need))
course_fits m w (Next c) = from_fits w.allowed m w.direction w.need c w.wanted
course_fits m w (Data block after) =
    moving_fits m (pages_spanned block.place block.len) block.place block.len block.offset _ (behind_fits (from_place w.allowed m w.direction w.need) (from_fits w.allowed m w.direction w.need) after w.wanted)
course_fits m w (Over fault) = omega arith

-- so each walk does, in each memory
pub walk_ends_fit : (m : Memory) (o : Option Walk) → EndsFit (course_of_walk m o)
walk_ends_fit m None = omega arith
walk_ends_fit m (Some w) = course_fits m w w.state

-- What an admin entry keeps as it is fetched.

-- What holds of each verdict

-- No command that is completed at once deletes a queue, and what is made or deleted is an I/O queue.
abbrev Suits : SubEntry → AdminVerdict → Type 0
Suits e (Answer st dw0) = (st.sct < 8) × (is_deletion e st ≡ false)
Suits e v = (named_queue e == 0) ≡ false

decision_suits : (e : SubEntry) (view : DeviceView) → Suits e (decision e view)
decision_suits e view =
    decided (Suits e) e view
    (record {
      refused = λ st r. (r.small, ap (λ (b : Bool). (e.opcode == DELETE_IO_SQ) && b) r.fails ∙ and_right (e.opcode == DELETE_IO_SQ) false refl);
      too_late = λ op. (omega arith, ap (λ (k : ℕ). (k == DELETE_IO_SQ) && true) op);
      aborts = λ h. h;
      stops = λ h. h;
      drops = λ h. h;
      makes_completion = λ h l. h;
      makes_submission = λ h l. h;
    })

admin_fits : (blocks : ℕ) (e : SubEntry) (v : AdminVerdict) → Suits e v → FitsWork blocks 0 0 (admin_work e v)
admin_fits blocks e (Answer st dw0) s = (refl, s.0, λ h. absurd (true≢false (sym h ∙ s.1)))
admin_fits blocks e v s = (refl, omega arith, λ h. s)

-- Commands that are stopped

record CommandStays (blocks : ℕ) (k k' : FetchedCommand) : Type 0 where
  pub q : k'.q ≡ k.q
  pub entry : entry_of_work k'.work ≡ entry_of_work k.work
  pub fits : FitsWork blocks k.q k.units_done k.work → FitsWork blocks k'.q k'.units_done k'.work

pub stopped_entry : (st : Status) (work : FetchedWork) → entry_of_work (stopped_work st work) ≡ entry_of_work work
stopped_entry st (Io job) = if_by (λ (j : JobContents). j.entry ≡ job.entry) (is_none job.verdict) (record job { verdict = Some st }) job (λ h. refl) (λ h. refl)
stopped_entry st (Admin entry status dw0) = refl

stopped_fits : (blocks q done : ℕ) (st : Status) (work : FetchedWork) → st.sct < 8 → FitsWork blocks q done work → FitsWork blocks q done (stopped_work st work)
stopped_fits blocks q done st (Io job) small fits =
    if_by (λ (j : JobContents). FitsWork blocks q done (Io j)) (is_none job.verdict) (record job { verdict = Some st }) job (λ h. (fits.0, fits.1, small, fits.3)) (λ h. fits)
stopped_fits blocks q done st (Admin entry status dw0) small fits = fits

aborted_stays : (blocks q cid abort : ℕ) (k : FetchedCommand) → CommandStays blocks k (aborted q cid abort k)
aborted_stays blocks q cid abort k =
    if_by (CommandStays blocks k) (is_command q cid k) (record k { work = stopped_work ABORT_REQUESTED k.work; waiting_abort = Some abort }) k
    (λ h. record { q = refl; entry = stopped_entry ABORT_REQUESTED k.work; fits = stopped_fits blocks k.q k.units_done ABORT_REQUESTED k.work (omega arith) })
    (λ h. record { q = refl; entry = refl; fits = λ f. f })

stopped_stays : (blocks q : ℕ) (k : FetchedCommand) → CommandStays blocks k (stopped_with_queue q k)
stopped_stays blocks q k =
    if_by (CommandStays blocks k) (k.q == q) (record k { work = stopped_work ABORTED_SQ_DELETION k.work }) k
    (λ h. record { q = refl; entry = stopped_entry ABORTED_SQ_DELETION k.work; fits = stopped_fits blocks k.q k.units_done ABORTED_SQ_DELETION k.work (omega arith) })
    (λ h. record { q = refl; entry = refl; fits = λ f. f })

count-mapped : {A : Type 0} (p : A → Bool) (f : A → A) → ((x : A) → p (f x) ≡ p x) → (xs : List A) → count_by p (map f xs) ≡ count_by p xs
count-mapped p f same [] = refl
count-mapped p f same (x ∷ xs) = count-cons p (f x) (map f xs) ∙ ap₂ (λ (b : Bool) (n : ℕ). one b + n) (same x) (count-mapped p f same xs) ∙ sym (count-cons p x xs)

-- what holds of the commands after a verdict
record CommandsStay (blocks queues : ℕ) (commands commands' : List FetchedCommand) : Type 0 where
  pub are : AreCommands blocks queues commands → AreCommands blocks queues commands'
  pub count : (r d : ℕ) → count_by (is_command r d) commands' ≡ count_by (is_command r d) commands

commands_mapped : (blocks queues : ℕ) (f : FetchedCommand → FetchedCommand) → ((k : FetchedCommand) → CommandStays blocks k (f k)) → (commands : List FetchedCommand) → CommandsStay blocks queues commands (map f commands)
commands_mapped blocks queues f stay commands = record {
  are = λ are. record {
    each = all-map (FitsCommand blocks queues) f (λ k h. (subst (λ (q : ℕ). q < queues) (sym (stay k).q) h.0, (stay k).fits h.1)) commands are.each;
    differ = λ r d. subst (λ (n : ℕ). n < 2) (sym (counts r d)) (are.differ r d);
  };
  count = counts;
}
  where
    counts : (r d : ℕ) → count_by (is_command r d) (map f commands) ≡ count_by (is_command r d) commands
    counts r d = count-mapped (is_command r d) f (λ k. ap₂ (λ (q : ℕ) (e : SubEntry). (q == r) && (e.cid == d)) (stay k).q (stay k).entry) commands

commands_stay : (blocks queues abort : ℕ) (v : AdminVerdict) (commands : List FetchedCommand) → CommandsStay blocks queues commands (commands_after abort v commands)
commands_stay blocks queues abort (AbortJob q cid) commands = commands_mapped blocks queues (aborted q cid abort) (aborted_stays blocks q cid abort) commands
commands_stay blocks queues abort (StopQueue q) commands = commands_mapped blocks queues (stopped_with_queue q) (stopped_stays blocks q) commands
commands_stay blocks queues abort v commands = record { are = λ are. are; count = λ r d. refl }

pub length-after : (v : AdminVerdict) (queues : List ControllerQueue) → length (queues_after v queues) ≡ length queues
length-after (StopQueue q) queues = length-change q stopping queues
length-after (DropCompletion q) queues = length-change q without_completion queues
length-after (MakeCompletion q base) queues = length-change q (with_completion base) queues
length-after (MakeSubmission q base) queues = length-change q (with_submission base) queues
length-after v queues = refl

-- An Abort that stops a command names it.
abbrev Aims : SubEntry → AdminVerdict → Type 0
Aims e (AbortJob q cid) = (q ≡ named_queue e) × (cid ≡ named_command e)
Aims e v = Unit {0}

decision_aims : (e : SubEntry) (view : DeviceView) → Aims e (decision e view)
decision_aims e view =
    decided (Aims e) e view
    (record {
      refused = λ st r. tt;
      too_late = λ op. tt;
      aborts = λ h. (refl, refl);
      stops = λ h. tt;
      drops = λ h. tt;
      makes_completion = λ h l. tt;
      makes_submission = λ h l. tt;
    })

aborted_same : (q cid abort : ℕ) (k : FetchedCommand) → IsAlike k (aborted q cid abort k)
aborted_same q cid abort k = let stay = aborted_stays 0 q cid abort k in (stay.q, stay.entry)

stopped_same : (q : ℕ) (k : FetchedCommand) → IsAlike k (stopped_with_queue q k)
stopped_same q k = let stay = stopped_stays 0 q k in (stay.q, stay.entry)

own_named : (e : SubEntry) (v : AdminVerdict) → is_command 0 e.cid (command_of 0 (admin_work e v)) ≡ true
own_named e v = eq-eqb e.cid e.cid refl

managed_awaited : (commands : List FetchedCommand) (e : SubEntry) (v : AdminVerdict) → AreAwaited commands → Aims e v → find (is_command 0 e.cid) commands ≡ None → AreAwaited (commands_after e.cid v commands ++ command_of 0 (admin_work e v) ∷ [])
managed_awaited commands e (AbortJob q cid) are aims none = awaited_changed f commands own (aborted_same q cid e.cid) changes refl are
  where
    f : FetchedCommand → FetchedCommand
    f = aborted q cid e.cid

    own : FetchedCommand
    own = command_of 0 (admin_work e (AbortJob q cid))

    after : List FetchedCommand
    after = map f commands ++ own ∷ []

    aborts : (k : FetchedCommand) → is_command q cid k ≡ true → IsNamedBy after (record k { work = stopped_work ABORT_REQUESTED k.work; waiting_abort = Some e.cid }) e.cid
    aborts k is =
        named_last (map f commands) own (record k { work = stopped_work ABORT_REQUESTED k.work; waiting_abort = Some e.cid }) e.cid (none_mapped f (aborted_same q cid e.cid) commands 0 e.cid none) (own_named e (AbortJob q cid))
        (ap₂ (λ (r d : ℕ). (k.q == r) && ((entry_of_work (stopped_work ABORT_REQUESTED k.work)).cid == d)) (sym aims.0) (sym aims.1)
        ∙ ap (λ (x : SubEntry). (k.q == q) && (x.cid == cid)) (stopped_entry ABORT_REQUESTED k.work) ∙ is)

    changes : (k : FetchedCommand) → Awaits after k → Awaits after (f k)
    changes k was =
        if_by (Awaits after) (is_command q cid k) (record k { work = stopped_work ABORT_REQUESTED k.work; waiting_abort = Some e.cid }) k (aborts k) (λ h. was)
managed_awaited commands e (StopQueue q) are aims none =
    awaited_changed (stopped_with_queue q) commands (command_of 0 (admin_work e (StopQueue q))) (stopped_same q)
    (λ k was. awaits_alike _ _ k (stopped_with_queue q k) (if_by (λ (x : FetchedCommand). x.waiting_abort ≡ k.waiting_abort) (k.q == q) (record k { work = stopped_work ABORTED_SQ_DELETION k.work }) k (λ h. refl) (λ h. refl)) (stopped_same q k) (λ cid e h. h) was) refl are
managed_awaited commands e v are aims none = awaited_more commands (command_of 0 (admin_work e v)) are refl

pub managed_kept : (pages : ℕ) (c : Contents) (e : SubEntry) → IsController c → 0 < length c.queues → is_some (find (is_command 0 e.cid) c.commands) ≡ false → IsController (managed pages e c)
managed_kept pages c e is there free =
    let v = verdict_for pages c e in
    let blocks = block_count c.image in
    let stay = commands_stay blocks (length c.queues) e.cid v c.commands in
    record {
      commands =
          subst (λ (n : ℕ). AreCommands blocks n (managed pages e c).commands) (sym (length-after v (change 0 with_taken c.queues) ∙ length-change 0 with_taken c.queues))
          (commands-with blocks (length c.queues) (commands_after e.cid v c.commands) (command_of 0 (admin_work e v)) (stay.are is.commands) there
          (admin_fits blocks e v (decision_suits e (view_for pages c.queues c.commands e)))
          (stay.count 0 e.cid ∙ none_found (is_command 0 e.cid) c.commands (none_is (find (is_command 0 e.cid) c.commands) free)));
      awaited = managed_awaited c.commands e v is.awaited (decision_aims e (view_for pages c.queues c.commands e)) (none_is (find (is_command 0 e.cid) c.commands) free);
    }

-- An Abort that stops a command names one of an I/O queue.
abbrev Spares : AdminVerdict → Type 0
Spares (AbortJob q cid) = (q == 0) ≡ false
Spares v = Unit {0}

spares_of : (e : SubEntry) (v : AdminVerdict) → Suits e v → Aims e v → Spares v
spares_of e (AbortJob q cid) suits aims = ap (λ (k : ℕ). k == 0) aims.0 ∙ suits
spares_of e v suits aims = tt

decision_spares : (e : SubEntry) (view : DeviceView) → Spares (decision e view)
decision_spares e view = spares_of e (decision e view) (decision_suits e view) (decision_aims e view)

-- a creation names a page below those of the pool
pub decision_names : (e : SubEntry) (view : DeviceView) → view.pages < 2 ^ 32 → NamesPages (decision e view)
decision_names e view few =
    decided NamesPages e view
    (record {
      refused = λ st r. tt;
      too_late = λ op. tt;
      aborts = λ h. tt;
      stops = λ h. tt;
      drops = λ h. tt;
      makes_completion = λ h l. omega (arith, few, l);
      makes_submission = λ h l. omega (arith, few, l);
    })

-- what an admin command does, it does not to itself
own_spared : (e : SubEntry) (v : AdminVerdict) (commands : List FetchedCommand) (k : FetchedCommand) → Spares v → k ≡ command_of 0 (admin_work e v) → commands_after e.cid v (commands ++ k ∷ []) ≡ commands_after e.cid v commands ++ k ∷ []
own_spared e (AbortJob q cid) commands k s is =
    let other : is_command q cid k ≡ false = ap (is_command q cid) is ∙ ap (λ (b : Bool). b && (e.cid == cid)) (eqb-turned 0 q ∙ s) in
    map-append (aborted q cid e.cid) commands (k ∷ [])
    ∙ ap (λ (x : FetchedCommand). map (aborted q cid e.cid) commands ++ x ∷ []) (ap (λ (b : Bool). if b then record k { work = stopped_work ABORT_REQUESTED k.work; waiting_abort = Some e.cid } else k) other)
own_spared e (StopQueue q) commands k s is =
    let own : stopped_with_queue q k ≡ k = ap (stopped_with_queue q) is ∙ by (0 == q) ∙ sym is in
    map-append (stopped_with_queue q) commands (k ∷ []) ∙ ap (λ (x : FetchedCommand). map (stopped_with_queue q) commands ++ x ∷ []) own
  where
    by : (b : Bool) → (if b then command_of 0 (admin_work e (StopQueue q)) else command_of 0 (admin_work e (StopQueue q))) ≡ command_of 0 (admin_work e (StopQueue q))
    by true = refl
    by false = refl
own_spared e v commands k s is = refl

-- The controller after an admin entry whose command was put first, and its verdict carried out then.
pub managed_is : (pages : ℕ) (c : Contents) (e : SubEntry) (w : AdminVerdict) (took queues : List ControllerQueue) (before after : List FetchedCommand) (k : FetchedCommand)
    → w ≡ verdict_for pages c e → took ≡ change 0 with_taken c.queues → queues ≡ queues_after w took
    → k ≡ command_of 0 (admin_work e w) → before ≡ c.commands ++ k ∷ [] → after ≡ commands_after e.cid w before
    → record { queues = queues; commands = after; image = c.image } ≡ managed pages e c
managed_is pages c e w took queues before after k ew et eq ek eb ea =
    let queues_are : queues ≡ (managed pages e c).queues = eq ∙ ap₂ queues_after ew et in
    let spares : Spares w = subst Spares (sym ew) (decision_spares e (view_for pages c.queues c.commands e)) in
    let commands_are : after ≡ (managed pages e c).commands =
    ea ∙ ap (commands_after e.cid w) eb ∙ own_spared e w c.commands k spares ek
    ∙ ap₂ (λ (v : AdminVerdict) (x : FetchedCommand). commands_after e.cid v c.commands ++ x ∷ []) ew (ek ∙ ap (λ (v : AdminVerdict). command_of 0 (admin_work e v)) ew) in
    ap₂ (λ (xs : List ControllerQueue) (ys : List FetchedCommand). record { queues = xs; commands = ys; image = c.image }) queues_are commands_are

pub managed_sound : (pages : ℕ) (c c' : Contents) (e : SubEntry) → IsController c → 0 < length c.queues → is_some (find (is_command 0 e.cid) c.commands) ≡ false → c' ≡ managed pages e c → IsController c'
managed_sound pages c c' e is there free same = subst IsController (sym same) (managed_kept pages c e is there free)

-- What always holds of a controller holds after each call.

-- A doorbell changes no command.
pub rung_kept : (c : Contents) (q : ℕ) (f : ControllerQueue → ControllerQueue) → IsController c → IsController (record c { queues = change q f c.queues })
rung_kept c q f is = record { commands = subst (λ (n : ℕ). AreCommands (block_count c.image) n c.commands) (sym (length-change q f c.queues)) is.commands; awaited = is.awaited }

-- The verdict of a unit can be carried by a completion.
outcome_fits : (c : Course) (dir : Direction) (m m' : Memory) (bytes bytes' reached reached' : List ℕ) (outcome : WalkState) (left : Course)
    → EndsFit c → DoesFirst c dir m m' bytes bytes' reached reached' → LeavesRest c outcome left → FitsVerdict (verdict_of outcome)
outcome_fits (Closes v) dir m m' bytes bytes' reached reached' outcome left fits does leaves = absurd does
outcome_fits (Does act rest) dir m m' bytes bytes' reached reached' outcome left fits does leaves = subst (λ (v : WalkState). FitsVerdict (verdict_of v)) (sym leaves.0) (answer_fits rest fits)

pub walked_kept : (blocks queues : ℕ) (commands : List FetchedCommand) (q cid : ℕ) (m : Memory) (reached : List ℕ) (outcome : WalkState) (commands' : List FetchedCommand) (m' : Memory) (reached' : List ℕ)
    → AreCommands blocks queues commands → WalksAmong commands q cid m reached outcome commands' m' reached' → AreCommands blocks queues commands'
walked_kept blocks queues commands q cid m reached outcome commands' m' reached' are h =
    let k = h.command in
    let was : FitsCommand blocks queues k = all-at (FitsCommand blocks queues) commands h.place k h.at are.each in
    let fits : FitsWork blocks k.q k.units_done (Io h.job) = subst (λ (work : FetchedWork). FitsWork blocks k.q k.units_done work) h.work was.1 in
    let verdict : FitsVerdict h.job'.verdict =
    subst FitsVerdict (sym h.unit.verdict) (outcome_fits (job_course m h.job) _ m m' _ _ reached reached' outcome _ (walk_ends_fit m h.job.walk) h.unit.does h.unit.leaves) in
    subst (AreCommands blocks queues) (sym h.leaves) (record {
      each = all_set (FitsCommand blocks queues) commands h.place (stepped h.job' k) are.each (was.0, (fits.0, h.unit.blocks ∙ fits.1, verdict, omega (arith, fits.3, h.unit.fewer)));
      differ = λ r d. subst (λ (n : ℕ). n < 2)
          (sym (count_set (is_command r d) commands h.place k (stepped h.job' k) h.at
          (ap (λ (e : SubEntry). (k.q == r) && (e.cid == d)) h.unit.entry ∙ sym (ap (λ (work : FetchedWork). (k.q == r) && ((entry_of_work work).cid == d)) h.work))))
          (are.differ r d);
    })

-- An Abort waits as it did.
pub awaited_kept : (commands : List FetchedCommand) (q cid : ℕ) (m : Memory) (reached : List ℕ) (outcome : WalkState) (commands' : List FetchedCommand) (m' : Memory) (reached' : List ℕ)
    → AreAwaited commands → WalksAmong commands q cid m reached outcome commands' m' reached' → AreAwaited commands'
awaited_kept commands q cid m reached outcome commands' m' reached' are h =
    subst AreAwaited (sym h.leaves) (awaited_set commands h.place h.command (stepped h.job' h.command) h.at (refl, h.unit.entry ∙ sym (ap entry_of_work h.work)) refl are)

-- A controller stays one over a walk, done or refused.
pub walked_sound : (c : Contents) (q cid : ℕ) (m m' : Memory) (reached reached' : List ℕ) (old new : Outstanding) (r : Result WalkState ControllerRefusal) → old.list ≡ c.commands → IsController c
    → OnErr r ((new ≡ old) × (m' ≡ m) × (reached' ≡ reached)) → IfOk r (λ outcome. WalksAmong old.list q cid m reached outcome new.list m' reached') → IsController (record c { commands = new.list })
walked_sound c q cid m m' reached reached' old new (Ok outcome) is sound same walks =
    let among = subst (λ (list : List FetchedCommand). WalksAmong list q cid m reached outcome new.list m' reached') is walks in
    record { commands = walked_kept _ _ _ q cid m reached outcome new.list m' reached' sound.commands among; awaited = awaited_kept _ q cid m reached outcome new.list m' reached' sound.awaited among }
walked_sound c q cid m m' reached reached' old new (Err why) is sound same walks = subst (λ (list : List FetchedCommand). IsController (record c { commands = list })) (sym (ap (λ (o : Outstanding). o.list) same.0 ∙ is)) sound

-- A walk that goes on has done this many units at most.
few_done : (blocks q done : ℕ) (work : FetchedWork) (units : ℕ) (waiting : Option ℕ) → FitsWork blocks q done work → ended_refusal (record { q = q; units_done = units; waiting_abort = waiting; work = work }) ≡ None → done ≤ 12545
few_done blocks q done (Io job) units waiting fits going = omega (arith, fits.3)
few_done blocks q done (Admin entry status dw0) units waiting fits going = cc

pub few_walked : (c : Contents) (q cid : ℕ) → IsController c → refusal_among c.commands q cid ≡ None → IfSome (find (is_command q cid) c.commands) (λ k. k.units_done ≤ 12545)
few_walked c q cid is accepted = by_command (find (is_command q cid) c.commands) refl
  where
    by_command : (o : Option FetchedCommand) → find (is_command q cid) c.commands ≡ o → IfSome o (λ k. k.units_done ≤ 12545)
    by_command None found = tt
    by_command (Some k) found =
        let fits = all-found (FitsCommand (block_count c.image) (length c.queues)) (is_command q cid) c.commands k found is.commands.each in
        let going : ended_refusal k ≡ None = sym (ap (λ (o : Option FetchedCommand). option_map_or ended_refusal o (Some refusal.NoJob)) found) ∙ accepted in
        few_done (block_count c.image) k.q k.units_done k.work k.units_done k.waiting_abort fits.1 going

-- A completion takes out no Abort that waits.
pub length_finished : (queues queues' queues'' : List ControllerQueue) (work : FetchedWork) (q cid : ℕ) (st : Status) (dw0 : ℕ) (m m' : Memory) (reached reached' : List ℕ)
    → Posts queues q cid st dw0 m reached queues' m' reached' → queues'' ≡ queues_of_end work queues' → length queues'' ≡ length queues
length_finished queues queues' queues'' work q cid st dw0 m m' reached reached' posts eq =
    ap length eq ∙ (length-end work queues' ∙ (ap length posts.queues_posted ∙ length-change q with_posted queues))

pub finished_kept : (c : Contents) (m m' : Memory) (q cid : ℕ) (k : FetchedCommand) (queues queues' : List ControllerQueue) (commands : List FetchedCommand) (image : List ℕ) (st : Status) (dw0 : ℕ) (reached reached' : List ℕ)
    → IsController c → complete_refusal c m q cid ≡ None → Posts c.queues q cid st dw0 m reached queues m' reached' → commands ≡ without_command q cid c.commands → queues' ≡ queues_of_end k.work queues → length image ≡ length c.image
    → IsController (record { queues = queues'; commands = commands; image = image })
finished_kept c m m' q cid k queues queues' commands image st dw0 reached reached' is ready posts ec eq ei =
    let size : length queues' ≡ length c.queues = length_finished c.queues queues queues' k.work q cid st dw0 m m' reached reached' posts eq in
    record {
      commands =
          subst (λ (n : ℕ). AreCommands (block_count image) n commands) (sym size)
          (subst (λ (n : ℕ). AreCommands (n / 512) (length c.queues) commands) (sym ei)
          (subst (AreCommands (block_count c.image) (length c.queues)) (sym ec) (commands-without (block_count c.image) (length c.queues) q cid c.commands is.commands)));
      awaited = subst AreAwaited (sym ec) (awaited_without c.commands q cid (completes_alone c m q cid ready) is.awaited);
    }
