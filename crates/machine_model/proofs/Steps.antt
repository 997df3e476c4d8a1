-- What an event leaves, part by part.
use Rattle.machine_model.specs.Events as events
use Rattle.std.proofs.Common.{◌≡◌, ℕ, ◌+◌, ◌/◌, ◌%◌, ◌==◌, nat_lt, nat_le, Bool, true, false, not, ◌&&◌, ◌||◌, Option, Some, if◌then◌else◌, refl, map, sym, subst, arith, zero, suc, take, drop, None, List, [], ◌∷◌, length, is_some, slice_set, option_and_then, ap, ◌∙◌, length-set, ◌++◌, find, ap₂, nat_eq, MatchBool}
use Rattle.std.{proofs.lemmas.{Bool.{true≢false, not-false, or_parts, and_parts, ne_eqb}, List.map-append}, specs.Cmp.Lexicographic.{pointwise, same_text}}
use Rattle.std.specs.{List.AllByRecursion, Option.option_map_or}
use Rattle.entry_codec.specs.{Completion.completion_bytes, Status.is_success}
use Rattle.entry_codec.specs.declared.{admin_opcode.TheConstants.{ABORT, DELETE_IO_SQ, DELETE_IO_CQ, CREATE_IO_CQ, CREATE_IO_SQ}, status.Status.Status}
use Rattle.entry_codec.specs.declared.status.TheConstants.Status.{SUCCESS, INVALID_OPCODE, INVALID_FIELD, ABORT_REQUESTED, INVALID_QUEUE_IDENTIFIER, INVALID_QUEUE_SIZE, INVALID_QUEUE_DELETION, COMPLETION_QUEUE_INVALID, COMMAND_ID_CONFLICT}
use Rattle.entry_codec.specs.declared.submission.SubEntry.{SubEntry}
use Rattle.entry_codec.specs.declared.hints.TheConstants.Hints.{NONE}
use Rattle.admin_commands.specs.Entries.{named_queue, named_command, named_size, named_base, named_completion_queue, is_contiguous, is_opcode}
use Rattle.admin_commands.specs.Verdicts.{is_absent, is_live as is_running, is_io_queue, half_fault, abort_verdict, delete_sq_verdict, delete_cq_verdict, create_cq_verdict, create_sq_verdict}
use Rattle.admin_commands.specs.declared.{AdminVerdict.{AdminVerdict, TheVariants.{Answer, MakeCompletion, MakeSubmission}}, DeviceView.DeviceView}
use Rattle.admin_commands.specs.declared.SqState.TheVariants.{Stopping}
use Rattle.io_commands.specs.{Asked.Request, Values.numbers_of}
use Rattle.page_memory.specs.{Pages.{Pages, page_at, with_page_bytes, with_bytes}, declared.page.Half.{Half, TheVariants.{Submission, Completion}}}
use Rattle.queue_pair.specs.{Memory.half_pages}
use Rattle.machine_model.specs.After.{acted, managed, decided, on_job, on_controller, on_served_queue, stopped, dropped, completion_made, submission_made, sq_state, cq_there, walks, view_of, on_memory, after_fetch, after_walk, after_complete, with_posted_completion, post_phase, taken_off, moved, deletion_done, after}
use Rattle.machine_model.specs.{Events.{Event, Reply}, Linked.absent, Memory.{with_pages, without_pages}}
use Rattle.machine_model.specs.Refusals.{host_queue, next_rung, conflicts, slot_page, slot_offset, post_slot, fetch_slot, causes, refusal_of, record_is, is_of, asks_for}
use Rattle.machine_model.specs.{Run.Run, State.{State, Job, HostQueue, Record, Phase, record_at, pages_of}}
use Rattle.machine_model.specs.Step.{HostPart, host_part, Step, Leaves, LeavesByController, LeavesByHost, Permits, Answers, IsController}
use Rattle.controller_walk.specs.Units.{Act, Stays, Reads, Moves, first_passing}
use Rattle.sgl_descriptor.specs.declared.Direction.{Direction, TheVariants.{Destination, Source}}

-- What an admin entry's fetch leaves, by the cases of its verdict.

by-if : {A : Type 0} (Q : A → Type 0) (b : Bool) (x y : A) → (b ≡ true → Q x) → (b ≡ false → Q y) → Q (if b then x else y)
by-if Q true x y f g = f refl
by-if Q false x y f g = g refl

pub absent_state : (s : State) (q : ℕ) → is_absent (sq_state s q) ≡ true → absent s q ≡ true
absent_state s q h = grind arith

-- What a verdict leaves, case by case: an admin entry is refused, or does what its command
-- says. One more command is one more case here, and in each proof that is made by these cases.
pub record Manages (P : State → Type 0) (e : SubEntry) (s : State) : Type 0 where
  pub refuses : (st : Status) → is_success st ≡ false → P (decided e st 0 s)
  pub aborts : (e.opcode == ABORT) ≡ true → walks s (named_queue e) (named_command e) ≡ true
      → P (decided e SUCCESS 0 (on_job (named_queue e) (named_command e) (λ j. record j { verdict = Some ABORT_REQUESTED; waiting_abort = Some e.cid }) s))
  pub is_late : (e.opcode == ABORT) ≡ true → P (decided e SUCCESS 1 s)
  pub stops : (e.opcode == DELETE_IO_SQ) ≡ true → (named_queue e == 0) ≡ false → is_running (sq_state s (named_queue e)) ≡ true
      → P (decided e SUCCESS 0 (on_controller (λ d. record d { jobs = map (stopped (named_queue e)) d.jobs }) (on_served_queue (named_queue e) (λ at. record at { state = Stopping }) s)))
  pub drops : (e.opcode == DELETE_IO_CQ) ≡ true → (named_queue e == 0) ≡ false → cq_there s (named_queue e) ≡ true → is_absent (sq_state s (named_queue e)) ≡ true
      → P (decided e SUCCESS 0 (on_served_queue (named_queue e) dropped s))
  pub makes_completion : (e.opcode == CREATE_IO_CQ) ≡ true → (named_queue e == 0) ≡ false → cq_there s (named_queue e) ≡ false
      → P (decided e SUCCESS 0 (on_served_queue (named_queue e) completion_made s))
  pub makes_submission : (e.opcode == CREATE_IO_SQ) ≡ true → (named_queue e == 0) ≡ false → is_absent (sq_state s (named_queue e)) ≡ true → cq_there s (named_queue e) ≡ true
      → P (decided e SUCCESS 0 (on_served_queue (named_queue e) submission_made s))

-- where each case holds, the statement holds of what the fetch leaves
pub managed_by : (P : State → Type 0) (e : SubEntry) (s : State) → Manages P e s → P (managed e s)
managed_by P e s m =
    let aborting : (e.opcode == ABORT) ≡ true → Q (abort_verdict q (named_command e) view) =
    λ is8. by-if Q (walks s q (named_command e) && not (q == 0)) _ _ (λ w. m.aborts is8 (and_parts (walks s q (named_command e)) (not (q == 0)) w).0) (λ w. m.is_late is8) in
    by-if Q (not (is_opcode e.opcode)) _ _ (λ c. m.refuses INVALID_OPCODE refl)
    (λ known. by-if Q (not (e.fuse == 0)) _ _ (λ c. m.refuses INVALID_FIELD refl)
    (λ unfused. by-if Q (e.opcode == ABORT) _ _ aborting
    (λ not8. by-if Q (e.opcode == DELETE_IO_SQ) _ _ stopping
    (λ not0. by-if Q (e.opcode == DELETE_IO_CQ) _ _ dropping
    (λ not4. by-if Q (e.opcode == CREATE_IO_CQ) _ _ completing
    (λ not5. submitting (let h = not-false _ known in grind arith)))))))
  where
    Q : AdminVerdict → Type 0
    Q v = P (acted e v s)

    q : ℕ
    q = named_queue e

    view : DeviceView
    view = view_of s e

    stopping : (e.opcode == DELETE_IO_SQ) ≡ true → Q (delete_sq_verdict q view)
    stopping is0 = grind (arith, by-if)

    dropping : (e.opcode == DELETE_IO_CQ) ≡ true → Q (delete_cq_verdict q view)
    dropping is4 =
        by-if Q ((q == 0) || not (cq_there s q)) _ _ (λ w. m.refuses INVALID_QUEUE_IDENTIFIER refl)
        (λ w. by-if Q (not (is_absent (sq_state s q))) _ _ (λ v. m.refuses INVALID_QUEUE_DELETION refl)
        (λ v. let parts = or_parts (q == 0) (not (cq_there s q)) w in m.drops is4 parts.0 (not-false (cq_there s q) parts.1) (not-false (is_absent (sq_state s q)) v)))

    -- a half that has a fault, and one that has none
    halving : (half : Half) (v : AdminVerdict) → Q v → Q (option_map_or (λ fault. Answer fault 0) (half_fault half e view) v)
    halving half v sound =
        by-if R (not (named_size e == s.entries)) _ _ (λ c. m.refuses INVALID_QUEUE_SIZE refl)
        (λ sized. by-if R (not (is_contiguous e)) _ _ (λ c. m.refuses INVALID_FIELD refl)
        (λ whole. by-if R (not (named_base e % 4096 == 0)) _ _ (λ c. m.refuses INVALID_FIELD refl)
        (λ paged. by-if R (nat_lt view.pages (named_base e / 4096 + half_pages view.entries half)) _ _ (λ c. m.refuses INVALID_FIELD refl) (λ inside. sound))))
      where
        R : Option Status → Type 0
        R o = Q (option_map_or (λ fault. Answer fault 0) o v)

    not_zero : (x : Bool) → (nat_lt 0 q && x) ≡ true → (q == 0) ≡ false
    not_zero x h = ne_eqb q 0 (λ e. true≢false (sym (subst (λ (n : ℕ). nat_lt 0 n ≡ true) e (and_parts (nat_lt 0 q) x h).0)))

    completing : (e.opcode == CREATE_IO_CQ) ≡ true → Q (create_cq_verdict e view)
    completing is5 =
        by-if Q (not (is_io_queue q view) || cq_there s q) _ _ (λ w. m.refuses INVALID_QUEUE_IDENTIFIER refl)
        (λ w. let parts = or_parts (not (is_io_queue q view)) (cq_there s q) w in
        halving Completion (MakeCompletion q (named_base e)) (m.makes_completion is5 (not_zero (nat_le q view.queues) (not-false _ parts.0)) parts.1))

    submitting : (e.opcode == CREATE_IO_SQ) ≡ true → Q (create_sq_verdict e view)
    submitting is1 =
        by-if Q (not (is_io_queue q view) || not (is_absent (sq_state s q))) _ _ (λ w. m.refuses INVALID_QUEUE_IDENTIFIER refl)
        (λ w. by-if Q (not (is_io_queue (named_completion_queue e) view)) _ _ (λ c. m.refuses INVALID_QUEUE_IDENTIFIER refl)
        (λ known. by-if Q (not (cq_there s q) || not (named_completion_queue e == q)) _ _ (λ c. m.refuses COMPLETION_QUEUE_INVALID refl)
        (λ v. let parts = or_parts (not (is_io_queue q view)) (not (is_absent (sq_state s q))) w in
        let there = or_parts (not (cq_there s q)) (not (named_completion_queue e == q)) v in
        halving Submission (MakeSubmission q (named_base e))
        (m.makes_submission is1 (not_zero (nat_le q view.queues) (not-false _ parts.0)) (not-false (is_absent (sq_state s q)) parts.1) (not-false (cq_there s q) there.0)))))

-- The host's part of a state, and what leaves it alone.

-- writing bytes keeps in what is in
abbrev pub in_store : Pages → List Bool
in_store m = map is_some m

set_bytes : (m : Pages) (p : ℕ) (f : List ℕ → List ℕ) → in_store (slice_set m p (option_and_then (λ bytes. Some (f bytes)) (page_at m p))) ≡ in_store m
set_bytes [] p f = refl
set_bytes (None ∷ m) zero f = refl
set_bytes (Some bytes ∷ m) zero f = refl
set_bytes (page ∷ m) (suc p) f = ap (λ bits. is_some page ∷ bits) (set_bytes m p f)

pub in_store-with_bytes : (m : Pages) (p at : ℕ) (new : List ℕ) → in_store (with_page_bytes m p at new) ≡ in_store m
in_store-with_bytes m p at new = set_bytes m p (λ bytes. with_bytes bytes at new)

pub part-bytes : (s : State) (p at : ℕ) (new : List ℕ) → host_part (on_memory (λ m. with_page_bytes m p at new) s) ≡ host_part s
part-bytes s p at new = ap (λ bits. record (host_part s) { in_store = bits }) (in_store-with_bytes s.memory p at new)

pub part-option : {A : Type 0} (f : A → State) (o : Option A) (s : State) → ((x : A) → host_part (f x) ≡ host_part s) → host_part (option_map_or f o s) ≡ host_part s
part-option f o s each = grind arith

pub part-if : (b : Bool) (t u s : State) → host_part t ≡ host_part s → host_part u ≡ host_part s → host_part (if b then t else u) ≡ host_part s
part-if b t u s et eu = grind arith

pub part-completed : (q cid : ℕ) (st : Status) (dw0 : ℕ) (s : State) → host_part (with_posted_completion q cid st dw0 s) ≡ host_part s
part-completed q cid st dw0 s =
    let write : HostQueue → Pages → Pages = λ queue m. with_page_bytes m (slot_page queue.cq_pages 16 (post_slot s q)) (slot_offset 16 (post_slot s q))
    (completion_bytes (record { dw0 = dw0; sqhd = fetch_slot s q; sqid = q; cid = cid; phase = post_phase s q queue; status = st; hints = NONE })) in
    part-option (λ queue. on_memory (write queue) s) (host_queue s q) s
    (λ queue. part-bytes s (slot_page queue.cq_pages 16 (post_slot s q)) (slot_offset 16 (post_slot s q)) (completion_bytes (record { dw0 = dw0; sqhd = fetch_slot s q; sqid = q; cid = cid; phase = post_phase s q queue; status = st; hints = NONE })))

part-managed : (e : SubEntry) (s : State) → host_part (managed e s) ≡ host_part s
part-managed e s =
    managed_by (λ t. host_part t ≡ host_part s) e s
    (record {
      refuses = λ st bad. refl;
      aborts = λ is8 walks. refl;
      is_late = λ is8. refl;
      stops = λ is0 q0 runs. refl;
      drops = λ is4 q0 there gone. refl;
      makes_completion = λ is5 q0 gone. refl;
      makes_submission = λ is1 q0 gone there. refl;
    })

pub part-fetch : (q : ℕ) (s : State) → host_part (after_fetch q s) ≡ host_part s
part-fetch q s =
    part-option _ (next_rung s q) s
    (λ e. part-if (conflicts s q) _ _ s (part-completed q e.cid COMMAND_ID_CONFLICT 0 (taken_off q s))
    (part-if (q == 0) _ _ s (part-managed e (taken_off 0 s)) (refl)))

part-moved : (d : Direction) (act : Act) (q cid : ℕ) (s : State) → host_part (moved d act q cid s) ≡ host_part s
part-moved d Stays q cid s = refl
part-moved d (Reads place) q cid s = refl
part-moved Destination (Moves place n offset) q cid s = grind (arith, part-option, take, drop, part-bytes)
part-moved Source (Moves place n offset) q cid s = refl

pub part-walk : (q cid : ℕ) (s : State) → host_part (after_walk q cid s) ≡ host_part s
part-walk q cid s = grind (arith, part-option, part-moved)

part-deletion : (j : Job) (st : Status) (s : State) → host_part (deletion_done j st s) ≡ host_part s
part-deletion j st s = part-if _ _ _ s refl refl

pub part-complete : (q cid : ℕ) (s : State) → host_part (after_complete q cid s) ≡ host_part s
part-complete q cid s = grind (arith, part-option, part-completed, part-deletion)

-- how many pages there are
pub length-in_store : (m : Pages) → length (in_store m) ≡ length m
length-in_store [] = refl
length-in_store (page ∷ m) = ap suc (length-in_store m)

pub length-with_pages : (pages : List (ℕ × List ℕ)) (m : Pages) → length (with_pages pages m) ≡ length m
length-with_pages [] m = refl
length-with_pages (page ∷ more) m = length-with_pages more (slice_set m page.0 (Some page.1)) ∙ length-set m page.0 (Some page.1)

pub length-without_pages : (pages : List ℕ) (m : Pages) → length (without_pages pages m) ≡ length m
length-without_pages [] m = refl
length-without_pages (p ∷ pages) m = length-without_pages pages (slice_set m p None) ∙ length-set m p None

-- What is known where nothing refuses.

pub first_fails : {A : Type 0} (c : Bool) (x : A) (rest : List (Bool × A)) → first_passing ((c, x) ∷ rest) ≡ None → c ≡ false
first_fails c x rest h = grind arith

pub rest_fails : {A : Type 0} (c : Bool) (x : A) (rest : List (Bool × A)) → first_passing ((c, x) ∷ rest) ≡ None → first_passing rest ≡ None
rest_fails c x rest h = grind arith

pub all_fail : {A : Type 0} (cs : List (Bool × A)) → first_passing cs ≡ None → AllByRecursion (λ c. c.0 ≡ false) cs
all_fail [] h = tt
all_fail ((true, x) ∷ rest) h = absurd cc
all_fail ((false, x) ∷ rest) h = (refl, all_fail rest h)

-- each cause of an event that is not refused
pub unrefused : (s : State) (e : Event) → refusal_of s e ≡ None → AllByRecursion (λ c. c.0 ≡ false) (causes s e)
unrefused s e none = all_fail (causes s e) none

pub same_lists : (xs ys : List ℕ) → pointwise nat_eq xs ys ≡ true → xs ≡ ys
same_lists xs ys h = same_text xs ys (sym h)

-- the record that passes a test
pub found : (test : Record → Bool) (s : State) (q cid : ℕ) → record_is test s q cid ≡ true → (r : Record) × (record_at s.host q cid ≡ Some r) × (test r ≡ true)
found test s q cid h = grind arith

pub pages_match : (phase : Phase → Bool) (request : Request) (bytes chain : List (ℕ × List ℕ)) (r : Record)
    → is_of phase request (numbers_of bytes) (numbers_of chain) r ≡ true → (numbers_of (bytes ++ chain) ≡ pages_of r) × (phase r.phase ≡ true)
pages_match phase request bytes chain r h =
    let abc_d = and_parts (phase r.phase && asks_for request r.work && pointwise nat_eq (numbers_of bytes) r.data_pages) (pointwise nat_eq (numbers_of chain) r.chain_pages) h in
    let ab_c = and_parts (phase r.phase && asks_for request r.work) (pointwise nat_eq (numbers_of bytes) r.data_pages) abc_d.0 in
    let a_b = and_parts (phase r.phase) (asks_for request r.work) ab_c.0 in
    let d : numbers_of bytes ≡ r.data_pages = same_lists (numbers_of bytes) r.data_pages ab_c.1 in
    let c : numbers_of chain ≡ r.chain_pages = same_lists (numbers_of chain) r.chain_pages abc_d.1 in
    (map-append (λ (page : ℕ × List ℕ). page.0) bytes chain ∙ ap₂ ◌++◌ d c, a_b.0)

pub found_all : (P : Record → Type 0) (test : Record → Bool) (records : List Record) (r : Record) → find test records ≡ Some r → AllByRecursion P records → P r
found_all P test [] r h all = absurd cc
found_all P test (x ∷ records) r h all = grind (arith, found_all P test records r)

-- What every step keeps, if each accepted event of the host does.

pub part_controller : (s : State) (e : Event) (reply : Reply) → IsController e ≡ true → host_part (after s e reply) ≡ host_part s
part_controller s e (events.Refused why touched) c = refl
part_controller s (events.Fetch q) reply c = part-fetch q s
part_controller s (events.Walk q cid) reply c = part-walk q cid s
part_controller s (events.Complete q cid) reply c = part-complete q cid s
part_controller s e reply c = absurd (true≢false (sym c))

forged_part : (b : Bool) (s u t : State) → MatchBool b (LeavesByController u s t) (LeavesByHost u s t) → host_part t ≡ host_part s
forged_part b s u t h = grind arith

either_part : (b c : Bool) (s u t : State) → MatchBool b (t ≡ s) (MatchBool c (LeavesByController u s t) (LeavesByHost u s t)) → host_part t ≡ host_part s
either_part b c s u t h = grind arith

pub part_left : (s : State) (e : Event) (reply : Reply) (new : State) → Leaves s e reply new → host_part new ≡ host_part (after s e reply)
part_left s e reply new h = grind arith

-- what is permitted, and what is left, where nothing was forged
pub permitted : {A : Type 0} (B : Type 0) (t c : Bool) → t ≡ true → MatchBool (t || c) A B → A
permitted B true c e h = h
permitted B false c e h = absurd (true≢false (sym e))

pub exact : {A : Type 0} (B : Type 0) (t : Bool) → t ≡ true → MatchBool t A B → A
exact B true e h = h
exact B false e h = absurd (true≢false (sym e))

abbrev pub Accepts : State → Event → Reply → Type 0
Accepts s e reply = (refusal_of s e ≡ None) × Answers s e reply

pub surely : {A : Type 0} (B : Type 0) (t c : Bool) → c ≡ false → MatchBool (t || not c) A B → A
surely B false true e h = absurd (true≢false e)
surely B t c e h = h

-- P is of the host's part
abbrev pub IsKept : (HostPart → Type 0) → State → Event → Reply → Type 0
IsKept P s e reply = P (host_part s) → P (host_part (after s e reply))

pub kept_anyway : (P : HostPart → Type 0) (s : State) (e : Event) (reply : Reply) → (b : Bool) → IsController e ≡ b → Permits s e reply
    → (Accepts s e reply → IsController e ≡ false → IsKept P s e reply) → IsKept P s e reply
kept_anyway P s e reply true c permits each = λ h. subst P (sym (part_controller s e reply c)) h
kept_anyway P s e (events.Refused why touched) false c permits each = λ h. h
kept_anyway P s e reply false c permits each = each (surely _ s.trusted (IsController e) c permits) c

pub each_step : (P : HostPart → Type 0)
    → ((s : State) (e : Event) (reply : Reply) → Accepts s e reply → IsController e ≡ false → IsKept P s e reply)
    → (old : State) (e : Event) (reply : Reply) (new : State) → Step old e reply new → P (host_part old) → P (host_part new)
each_step P each old e reply new step h =
    subst P (sym (part_left old e reply new step.2)) (kept_anyway P old e reply (IsController e) refl step.1 (each old e reply) h)

pub each_run : (P : HostPart → Type 0)
    → ((s : State) (e : Event) (reply : Reply) → Accepts s e reply → IsController e ≡ false → IsKept P s e reply)
    → (old : State) (es : List Event) (replies : List Reply) (new : State) → Run old es replies new → P (host_part old) → P (host_part new)
each_run P each old [] [] new run h = subst (λ (s : State). P (host_part s)) (sym run) h
each_run P each old (e ∷ es) (reply ∷ replies) new run h =
    each_run P each run.0 es replies new run.2 (each_step P each old e reply run.0 run.1 h)
each_run P each old es replies new run h = absurd run
