-- What an accepted event of the host finds and leaves, case by case: a statement that holds of what each case leaves holds after the event. One more event is one
-- more case here, and in each proof that is made by these cases.
use Rattle.std.proofs.Common.{◌≡◌, ℕ, ◌==◌, Bool, true, false, not, ◌&&◌, ◌||◌, Option, Some, None, List, [], ◌∷◌, ◌++◌, map, is_none, is_some, slice_get, eqb-true, if◌then◌else◌, refl, ap, ap₂, sym, ◌∙◌, subst, nat_eq, inl, inr, arith}
use Rattle.std.{proofs.lemmas.{Bool.{true≢false, not-false, and_parts, or_parts}, List.map-append}, specs.Cmp.Lexicographic.pointwise}
use Rattle.std.specs.Option.{option_map, option_map_or, option_and_then}
use Rattle.machine_model.proofs.Steps.{Accepts, unrefused, first_fails, found, same_lists, in_store, in_store-with_bytes}
use Rattle.machine_model.specs.{Claims.is_away, Commands.{Work, Io, Management}, Events.{Event, Reply, Reaped}, Memory.{with_pages, without_pages}}
use Rattle.machine_model.specs.Refusals.{served_queue, front_completion, entry_of, refusal_of, host_queue, seen_entry, is_of, asks_for, is_drafted, is_submitted, is_held, is_collected, is_live, is_deleting, is_deleted, is_gone, is_half_made, is_asked, is_making_cq, is_making_sq, has_cq_alone, in_service, is_reaped, run_for, in_state, record_is, no_io_queue, is_io_queue, deletes_sq_of, creates_cq_of, creates_sq_of, slot_page, slot_offset}
use Rattle.machine_model.specs.State.{State, PostedCompletion, HostQueue, HostState, Live, Deleting, Gone, MakingCq, HalfMade, MakingSq, Record, Phase, Drafted, Submitted, Collected, record_at, with_record, without_record, pages_of}
use Rattle.machine_model.specs.Step.{IsController, IsReserved, IsNewIdentifier, finished_from, reaped, fits_ring}
use Rattle.admin_commands.specs.{Entries.admin_entry, declared.AdminKind.{AdminKind, TheVariants.{Abort, DeleteSq, DeleteCq, CreateCq, CreateSq}}}
use Rattle.entry_codec.specs.{Status.is_success, Submission.submission_bytes, declared.{completion.ComEntry.ComEntry, status.Status.Status, submission.SubEntry.SubEntry}}
use Rattle.entry_codec.specs.declared.hints.TheConstants.Hints.{NONE}
use Rattle.io_commands.specs.{Asked.Request, Drafts.DraftContents, Values.{FinishedContents, numbers_of}}
use Rattle.page_memory.specs.{Pages.{Pages, with_page_bytes}, declared.page.Half.{Half, TheVariants.{Submission, Completion}}}
use Rattle.queue_pair.specs.{Memory.half_pages, Rings.next_tail}
use Rattle.page_ledger.specs.Owners.{pages_from}
use Rattle.machine_model.specs.After as a
use Rattle.machine_model.specs.Events as events
use Rattle.std.proofs.lemmas.Bool.{cases_Bool}
use Rattle.slot_table.proofs.Rows.{option_is}

-- What a posted entry leaves: only the memory depends on whether the queue is there

abbrev pub posted_bytes : ℕ → SubEntry → State → Pages
posted_bytes q entry s =
    option_map_or (λ queue. with_page_bytes s.memory (slot_page queue.sq_pages 64 queue.ring.tail) (slot_offset 64 queue.ring.tail) (submission_bytes entry)) (host_queue s q) s.memory

abbrev pub posts : ℕ → SubEntry → State → State
posts q entry s = a.on_ring q (next_tail s.entries) (a.on_served_queue q (λ at. record at { unfetched = at.unfetched ++ entry ∷ [] }) (record s { memory = posted_bytes q entry s }))

pub posted_is : (q : ℕ) (entry : SubEntry) (s : State) → posts q entry s ≡ a.posted q entry s
posted_is q entry s = grind arith

pub posted_bits : (q : ℕ) (entry : SubEntry) (s : State) → in_store (posted_bytes q entry s) ≡ in_store s.memory
posted_bits q entry s = grind (arith, in_store-with_bytes)

-- Records that begin

abbrev pub drafted_record : DraftContents → Record
drafted_record d = record { q = d.q; cid = d.cid; phase = Drafted; work = Io d.request; data_pages = numbers_of d.data_pages; chain_pages = numbers_of d.chain_pages; status = None; hints = NONE }

abbrev pub sent_record : AdminKind → ℕ → Record
sent_record adm id = record { q = 0; cid = id; phase = Submitted; work = Management adm; data_pages = []; chain_pages = []; status = None; hints = NONE }

abbrev pub sends : AdminKind → ℕ → State → State
sends adm id s = posts 0 (admin_entry adm id) (a.on_records (λ records. records ++ sent_record adm id ∷ []) s)

-- What is found

-- the record of a draft or of a finished command
pub record IsOf (s : State) (test : Phase → Bool) (request : Request) (q cid : ℕ) (bytes chain : List (ℕ × List ℕ)) (r : Record) : Type 0 where
  pub found : record_at s.host q cid ≡ Some r
  pub is : is_of test request (numbers_of bytes) (numbers_of chain) r ≡ true
  pub phase : test r.phase ≡ true
  pub away : is_away r ≡ true
  pub quiet : is_submitted r.phase ≡ false
  pub asked : (asked : Request) × (r.work ≡ Io asked)
  pub asks : asks_for request r.work ≡ true
  pub data_list : numbers_of bytes ≡ r.data_pages
  pub chain_list : numbers_of chain ≡ r.chain_pages
  pub pages : numbers_of (bytes ++ chain) ≡ pages_of r

-- a queue that is live
pub record IsLiveQueue (s : State) (q : ℕ) (queue : HostQueue) : Type 0 where
  pub there : host_queue s q ≡ Some queue
  pub live : queue.state ≡ Live
  pub other : (q == 0) ≡ false

-- a queue that gets a half: it is in a state, and the half is the lowest run of free pages
pub record IsGranted (s : State) (q : ℕ) (half : Half) (was : HostState) (queue : HostQueue) (first : ℕ) : Type 0 where
  pub there : host_queue s q ≡ Some queue
  pub state : queue.state ≡ was
  pub other : (q == 0) ≡ false
  pub run : run_for s half ≡ Some first

abbrev pub half_from : Half → ℕ → State → List ℕ
half_from half first s = pages_from first (half_pages s.entries half)

-- the queue with its new half, which is in and zero
abbrev pub grants_cq : ℕ → ℕ → State → State
grants_cq q first s = a.on_host_queue q (a.making_cq (half_from Completion first s)) (a.half_granted (half_from Completion first s) s)

abbrev pub grants_sq : ℕ → ℕ → State → State
grants_sq q first s = a.on_host_queue q (a.making_sq (half_from Submission first s)) (a.half_granted (half_from Submission first s) s)

abbrev pub creates_cq : ℕ → Option ℕ → ℕ → State → AdminKind
creates_cq q vector first s = CreateCq q s.entries (a.base_of (half_from Completion first s)) vector

abbrev pub creates_sq : ℕ → ℕ → State → AdminKind
creates_sq q first s = CreateSq q s.entries (a.base_of (half_from Submission first s))

-- the entry that a reap sees, and the command that it ends
pub record IsHeard (s : State) (q cid : ℕ) (st : Status) (e : ComEntry) (r : Record) : Type 0 where
  pub seen : seen_entry s q ≡ Some e
  pub its_id : e.cid ≡ cid
  pub its_status : e.status ≡ st
  pub fits : fits_ring s q e ≡ true
  pub found : record_at s.host q cid ≡ Some r
  pub submitted : is_submitted r.phase ≡ true

-- how a command is told: by an I/O reply or an admin one
abbrev pub named : Reaped → Option ℕ
named (events.Done cid st) = Some cid
named (events.AdminDone cid st dw0) = Some cid
named x = None

abbrev pub status_in : Reaped → Option Status
status_in (events.Done cid st) = Some st
status_in (events.AdminDone cid st dw0) = Some st
status_in x = None

pub record ReapTells (s : State) (q cid : ℕ) (st : Status) (what : Reaped) : Type 0 where
  pub is : what ≡ reaped s q
  pub names : named what ≡ Some cid
  pub status : status_in what ≡ Some st

abbrev pub heard_without : ℕ → ℕ → ComEntry → State → State
heard_without q cid e s = a.on_records (without_record q cid) (a.heard q e s)

-- The cases

pub record HostMoves (P : Event → Reply → State → Type 0) (s : State) : Type 0 where
  pub reserves : (q : ℕ) (request : Request) (d : DraftContents) → refusal_of s (events.Reserve q request) ≡ None → IsReserved s q request d → P (events.Reserve q request) (events.Reserved d) (a.after_reserve d s)
  pub submits : (d : DraftContents) (entry : SubEntry) (r : Record) → refusal_of s (events.Submit d) ≡ None → d.entry ≡ Some entry → IsOf s is_drafted d.request d.q d.cid d.data_pages d.chain_pages r → in_state is_live s d.q ≡ true
      → P (events.Submit d) events.Accepted (posts d.q entry (a.on_records (with_record d.q d.cid a.submitted) (a.on_memory (with_pages (d.data_pages ++ d.chain_pages)) s)))
  pub cancels : (d : DraftContents) (r : Record) → IsOf s is_drafted d.request d.q d.cid d.data_pages d.chain_pages r → P (events.Cancel d) events.Accepted (a.after_end d.q d.cid (d.data_pages ++ d.chain_pages) s)
  pub rings : (q : ℕ) → refusal_of s (events.Ring q) ≡ None → P (events.Ring q) events.Accepted (a.after_ring q s)
  pub rests : (q : ℕ) → events.Empty ≡ reaped s q → P (events.Reap q) (events.Reaps events.Empty) s
  pub rejects : (q : ℕ) (why : events.RejectedFor) → events.Rejected why ≡ reaped s q → P (events.Reap q) (events.Reaps (events.Rejected why)) (a.consumed q s)
  pub tells : (q cid : ℕ) (st : Status) (what : Reaped) (e : ComEntry) (r : Record) (request : Request) → ReapTells s q cid st what → IsHeard s q cid st e r → r.work ≡ Io request
      → P (events.Reap q) (events.Reaps what) (a.on_records (with_record q cid (a.held st e.hints)) (a.heard q e s))
  pub hears : (q cid : ℕ) (st : Status) (what : Reaped) (e : ComEntry) (r : Record) (adm : AdminKind) → ReapTells s q cid st what → IsHeard s q cid st e r → r.work ≡ Management adm
      → ((k : ℕ) → deletes_sq_of k (Management adm) ≡ false) → ((k : ℕ) → (creates_cq_of k (Management adm) || creates_sq_of k (Management adm)) ≡ true → host_queue (a.heard q e s) k ≡ None)
      → P (events.Reap q) (events.Reaps what) (heard_without q cid e s)
  pub notes : (q cid : ℕ) (st : Status) (what : Reaped) (e : ComEntry) (r : Record) (k : ℕ) → ReapTells s q cid st what → IsHeard s q cid st e r → r.work ≡ Management (DeleteSq k)
      → P (events.Reap q) (events.Reaps what) (a.on_host_queue k (λ queue. record queue { state = if is_success st then Deleting true else Live }) (heard_without q cid e s))
  pub frees : (q cid : ℕ) (st : Status) (what : Reaped) (e : ComEntry) (r : Record) (k : ℕ) (queue : HostQueue) → ReapTells s q cid st what → IsHeard s q cid st e r → r.work ≡ Management (DeleteCq k)
      → host_queue (a.heard q e s) k ≡ Some queue → has_cq_alone queue.state ≡ true → is_success st ≡ true → P (events.Reap q) (events.Reaps what) (a.on_host_queue k a.gone (a.given_back queue.cq_pages (heard_without q cid e s)))
  pub makes_cq : (q cid : ℕ) (st : Status) (what : Reaped) (e : ComEntry) (r : Record) (k n base : ℕ) (vector : Option ℕ) → ReapTells s q cid st what → IsHeard s q cid st e r → r.work ≡ Management (CreateCq k n base vector)
      → is_success st ≡ true → P (events.Reap q) (events.Reaps what) (a.on_host_queue k a.half_made (heard_without q cid e s))
  pub unmakes_cq : (q cid : ℕ) (st : Status) (what : Reaped) (e : ComEntry) (r : Record) (k n base : ℕ) (vector : Option ℕ) (queue : HostQueue) → ReapTells s q cid st what → IsHeard s q cid st e r
      → r.work ≡ Management (CreateCq k n base vector) → host_queue (a.heard q e s) k ≡ Some queue → is_success st ≡ false
      → P (events.Reap q) (events.Reaps what) (a.on_host_queue k a.gone (a.given_back queue.cq_pages (heard_without q cid e s)))
  pub makes_sq : (q cid : ℕ) (st : Status) (what : Reaped) (e : ComEntry) (r : Record) (k n base : ℕ) → ReapTells s q cid st what → IsHeard s q cid st e r → r.work ≡ Management (CreateSq k n base)
      → is_success st ≡ true → P (events.Reap q) (events.Reaps what) (a.on_host_queue k a.live (heard_without q cid e s))
  pub unmakes_sq : (q cid : ℕ) (st : Status) (what : Reaped) (e : ComEntry) (r : Record) (k n base : ℕ) (queue : HostQueue) → ReapTells s q cid st what → IsHeard s q cid st e r
      → r.work ≡ Management (CreateSq k n base) → host_queue (a.heard q e s) k ≡ Some queue → is_success st ≡ false
      → P (events.Reap q) (events.Reaps what) (a.on_host_queue k a.unmade_sq (a.given_back queue.sq_pages (heard_without q cid e s)))
  pub collects : (q cid : ℕ) (r : Record) (f : FinishedContents) → record_at s.host q cid ≡ Some r → is_held r.phase ≡ true → finished_from s r ≡ Some f
      → P (events.Collect q cid) (events.Collects f) (a.on_records (with_record q cid a.collected) (a.on_memory (without_pages (pages_of r)) s))
  pub releases : (f : FinishedContents) (r : Record) → IsOf s is_collected f.request f.q f.cid f.data_pages f.chain_pages r → P (events.Release f) events.Accepted (a.after_end f.q f.cid (f.data_pages ++ f.chain_pages) s)
  pub aborts : (q cid id : ℕ) → refusal_of s (events.Abort q cid) ≡ None → IsNewIdentifier s 0 id → P (events.Abort q cid) (events.Sent id) (sends (Abort q cid) id s)
  pub asks : (q id : ℕ) (queue : HostQueue) → refusal_of s (events.DeleteSq q) ≡ None → IsNewIdentifier s 0 id → IsLiveQueue s q queue → P (events.DeleteSq q) (events.Sent id) (a.on_host_queue q a.deleting (sends (DeleteSq q) id s))
  pub drops : (q id : ℕ) → refusal_of s (events.DeleteCq q) ≡ None → IsNewIdentifier s 0 id → P (events.DeleteCq q) (events.Sent id) (sends (DeleteCq q) id s)
  pub creates_cqs : (q : ℕ) (vector : Option ℕ) (id first : ℕ) (queue : HostQueue) → refusal_of s (events.CreateCq q vector) ≡ None → IsNewIdentifier s 0 id → IsGranted s q Completion Gone queue first
      → P (events.CreateCq q vector) (events.Sent id) (sends (creates_cq q vector first s) id (grants_cq q first s))
  pub creates_sqs : (q id first : ℕ) (queue : HostQueue) → refusal_of s (events.CreateSq q) ≡ None → IsNewIdentifier s 0 id → IsGranted s q Submission HalfMade queue first
      → P (events.CreateSq q) (events.Sent id) (sends (creates_sq q first s) id (grants_sq q first s))
  pub retires : (q : ℕ) (queue : HostQueue) → refusal_of s (events.Retire q) ≡ None → host_queue s q ≡ Some queue → queue.state ≡ Deleting true
      → P (events.Retire q) events.Accepted (a.on_host_queue q a.retired (a.given_back queue.sq_pages (a.on_records (λ records. map (a.lost q) records) s)))
  pub forges : (q slot : ℕ) (bytes : List ℕ) (queue : HostQueue) → refusal_of s (events.Forge q slot bytes) ≡ None → host_queue s q ≡ Some queue
      → P (events.Forge q slot bytes) events.Accepted (record (a.on_memory (λ m. with_page_bytes m (slot_page queue.cq_pages 16 slot) (slot_offset 16 slot) bytes) s) { trusted = false })
  pub resets : P events.Reset events.Accepted (a.after_reset s)

-- Finding it

pub is_of_found : (s : State) (phase : Phase → Bool) (request : Request) (q cid : ℕ) (bytes chain : List (ℕ × List ℕ)) → ((ph : Phase) → phase ph ≡ true → ((is_drafted ph || is_collected ph) ≡ true) × (is_submitted ph ≡ false))
    → not (record_is (is_of phase request (numbers_of bytes) (numbers_of chain)) s q cid) ≡ false → (r : Record) × IsOf s phase request q cid bytes chain r
is_of_found s phase request q cid bytes chain away fits =
    let x = found (is_of phase request (numbers_of bytes) (numbers_of chain)) s q cid (not-false _ fits) in
    let r = x.0 in
    let abc_d = and_parts (phase r.phase && asks_for request r.work && pointwise nat_eq (numbers_of bytes) r.data_pages) (pointwise nat_eq (numbers_of chain) r.chain_pages) x.2 in
    let ab_c = and_parts (phase r.phase && asks_for request r.work) (pointwise nat_eq (numbers_of bytes) r.data_pages) abc_d.0 in
    let a_b = and_parts (phase r.phase) (asks_for request r.work) ab_c.0 in (
      r,
      record {
        found = x.1;
        is = x.2;
        phase = a_b.0;
        away = (away r.phase a_b.0).0;
        quiet = (away r.phase a_b.0).1;
        asked = asked r.work refl a_b.1;
        asks = a_b.1;
        data_list = same_lists (numbers_of bytes) r.data_pages ab_c.1;
        chain_list = same_lists (numbers_of chain) r.chain_pages abc_d.1;
        pages = map-append (λ (page : ℕ × List ℕ). page.0) bytes chain ∙ ap₂ ◌++◌ (same_lists (numbers_of bytes) r.data_pages ab_c.1) (same_lists (numbers_of chain) r.chain_pages abc_d.1);
      },
    )
  where
    asked : {v : Work} (w : Work) → v ≡ w → asks_for request w ≡ true → (asked : Request) × (v ≡ Io asked)
    asked (Io r) is h = (r, is)
    asked (Management adm) is h = absurd (true≢false (sym h))

pub drafted_away : (ph : Phase) → is_drafted ph ≡ true → ((is_drafted ph || is_collected ph) ≡ true) × (is_submitted ph ≡ false)
drafted_away Drafted h = (refl, refl)
drafted_away ph h = absurd (true≢false (sym h))

pub collected_away : (ph : Phase) → is_collected ph ≡ true → ((is_drafted ph || is_collected ph) ≡ true) × (is_submitted ph ≡ false)
collected_away Collected h = (refl, refl)
collected_away ph h = absurd (true≢false (sym h))

-- the record of a draft that is submitted, and its queue
pub draft_found : (s : State) (d : DraftContents) → refusal_of s (events.Submit d) ≡ None → (r : Record) × IsOf s is_drafted d.request d.q d.cid d.data_pages d.chain_pages r
draft_found s d none = is_of_found s is_drafted d.request d.q d.cid d.data_pages d.chain_pages drafted_away (unrefused s (events.Submit d) none).0

pub draft_lives : (s : State) (d : DraftContents) → refusal_of s (events.Submit d) ≡ None → in_state is_live s d.q ≡ true
draft_lives s d none = not-false _ (unrefused s (events.Submit d) none).1.1.0

-- a queue whose state passes a test
pub queue_found : (test : HostState → Bool) (s : State) (q : ℕ) → in_state test s q ≡ true → (queue : HostQueue) × (host_queue s q ≡ Some queue) × (test queue.state ≡ true)
queue_found test s q h = grind arith

-- then it is known
pub queue_known : (test : HostState → Bool) (s : State) (q : ℕ) → not (in_state test s q) ≡ false → is_none (host_queue s q) ≡ false
queue_known test s q h = ap is_none (queue_found test s q (not-false _ h)).1

pub live_queue : (s : State) (q : ℕ) → no_io_queue s q ≡ false → in_state is_deleting s q ≡ false → (queue : HostQueue) × IsLiveQueue s q queue
live_queue s q known deleting =
    let live : (st : HostState) → in_service st ≡ true → is_deleting st ≡ false → st ≡ Live = λ st h d. grind arith in
    let known = or_parts (q == 0) (not (in_state in_service s q)) known in
    let x = queue_found in_service s q (not-false _ known.1) in
    (x.0, record { there = x.1; live = live x.0.state x.2 (sym (ap (λ (o : Option HostQueue). option_map_or (λ queue. is_deleting queue.state) o false) x.1) ∙ deleting); other = known.0 })

pub deleted_is : (st : HostState) → is_deleted st ≡ true → st ≡ Deleting true
deleted_is st e = grind arith

pub half_made_is : (st : HostState) → is_half_made st ≡ true → st ≡ HalfMade
half_made_is st e = grind arith

pub asked_is : (st : HostState) → is_asked st ≡ true → st ≡ Deleting false
asked_is st e = grind arith

pub making_cq_is : (st : HostState) → is_making_cq st ≡ true → st ≡ MakingCq
making_cq_is st e = grind arith

pub making_sq_is : (st : HostState) → is_making_sq st ≡ true → st ≡ MakingSq
making_sq_is st e = grind arith

pub io_queue : (s : State) (q : ℕ) → not (is_io_queue s q) ≡ false → (q == 0) ≡ false
io_queue s q h = let h1 = (and_parts (not (q == 0)) (is_some (host_queue s q)) (not-false _ h)).0 in grind arith

-- where a run is free, it begins somewhere
pub run_found : (s : State) (half : Half) → is_none (run_for s half) ≡ false → (first : ℕ) × (run_for s half ≡ Some first)
run_found s half h = elim (option_is (run_for s half)) [ inl e ↦ let h = rw e at h in absurd (true≢false h) | inr (first, e) ↦ (first, e) ]

pub heard_of : (s : State) (q cid : ℕ) (st : Status) (what : Reaped) → ReapTells s q cid st what → (e : ComEntry) × (r : Record) × IsHeard s q cid st e r
heard_of s q cid st what t = grind arith

-- Where nothing was forged, an entry that is reaped is the oldest completion

pub record HeardCompletion (s : State) (q cid : ℕ) (st : Status) (e : ComEntry) : Type 0 where
  pub completion : PostedCompletion
  pub first : option_and_then (λ queue. front_completion queue.completions) (served_queue s q) ≡ Some completion
  pub its_id : completion.cid ≡ cid
  pub its_status : completion.status ≡ st
  pub is : e ≡ entry_of q completion

pub seen_trusted : (s : State) (q : ℕ) → s.trusted ≡ true → seen_entry s q ≡ option_map (entry_of q) (option_and_then (λ queue. front_completion queue.completions) (served_queue s q))
seen_trusted s q t = rw t refl

pub completion_heard : (s : State) (q cid : ℕ) (st : Status) (e : ComEntry) (r : Record) → s.trusted ≡ true → IsHeard s q cid st e r → HeardCompletion s q cid st e
completion_heard s q cid st e r t heard = grind (arith, sym (seen_trusted s q t) ∙ heard.seen)

-- Each event of the host is one of the cases

nobody : (hs : List HostQueue) (z k : ℕ) → (k == z) ≡ true → slice_get hs k ≡ None → slice_get hs z ≡ None
nobody hs z k is at = subst (λ (n : ℕ). slice_get hs n ≡ None) (eqb-true k z is) at

alone : (b : Bool) → (b || false) ≡ true → b ≡ true
alone b h = grind arith

told : (P : Event → Reply → State → Type 0) (s : State) (q cid : ℕ) (st : Status) (what : Reaped) → HostMoves P s → ReapTells s q cid st what
    → P (events.Reap q) (events.Reaps what) (option_map_or (λ r. option_map_or (λ e. a.after_work r.work q cid st e.hints (a.heard q e s)) (seen_entry s q) s) (record_at s.host q cid) s)
told P s q cid st what move t =
    let x = heard_of s q cid st what t in
    subst (λ (o : Option Record). P (events.Reap q) (events.Reaps what) (option_map_or (λ r. option_map_or (λ e. a.after_work r.work q cid st e.hints (a.heard q e s)) (seen_entry s q) s) o s)) (sym x.2.found)
    (subst (λ (o : Option ComEntry). P (events.Reap q) (events.Reaps what) (option_map_or (λ e. a.after_work x.1.work q cid st e.hints (a.heard q e s)) o s)) (sym x.2.seen) (by x.0 x.1 x.2 x.1.work refl))
  where
    by : (e : ComEntry) (r : Record) → IsHeard s q cid st e r → (w : Work) → r.work ≡ w → P (events.Reap q) (events.Reaps what) (a.after_work w q cid st e.hints (a.heard q e s))
    by e r heard (Io request) w = move.tells q cid st what e r request t heard w
    by e r heard (Management (Abort k c)) w = move.hears q cid st what e r (Abort k c) t heard w (λ k. refl) (λ k is. absurd (true≢false (sym is)))
    by e r heard (Management (DeleteSq k)) w = move.notes q cid st what e r k t heard w
    by e r heard (Management (DeleteCq k)) w = free (is_success st) refl (host_queue (a.heard q e s) k) refl
      where
        kept : P (events.Reap q) (events.Reaps what) (heard_without q cid e s)
        kept = move.hears q cid st what e r (DeleteCq k) t heard w (λ k. refl) (λ k is. absurd (true≢false (sym is)))

        free : (b : Bool) → is_success st ≡ b → (o : Option HostQueue) → host_queue (a.heard q e s) k ≡ o
            → P (events.Reap q) (events.Reaps what) (if b && option_map_or (λ queue. has_cq_alone queue.state) o false then option_map_or (λ queue. a.on_host_queue k a.gone (a.given_back queue.cq_pages (heard_without q cid e s))) o (heard_without q cid e s) else heard_without q cid e s)
        free true good (Some queue) at = elim (cases_Bool (has_cq_alone queue.state)) [
          | inl is ↦ rw is (move.frees q cid st what e r k queue t heard w at is good)
          | inr is ↦ rw is (kept)
        ]
        free b good o at = kept
    by e r heard (Management (CreateCq k n base vector)) w = elim (cases_Bool (is_success st)) [
      | inl good ↦ rw good (move.makes_cq q cid st what e r k n base vector t heard w good)
      | inr bad ↦ rw bad (unmade (host_queue (a.heard q e s) k) refl bad)
    ]
      where
        unmade : (o : Option HostQueue) → host_queue (a.heard q e s) k ≡ o → is_success st ≡ false
            → P (events.Reap q) (events.Reaps what) (option_map_or (λ queue. a.on_host_queue k a.gone (a.given_back queue.cq_pages (heard_without q cid e s))) o (heard_without q cid e s))
        unmade None at bad = move.hears q cid st what e r (CreateCq k n base vector) t heard w (λ k. refl) (λ z is. nobody (a.heard q e s).host.queues z k (alone (k == z) is) at)
        unmade (Some queue) at bad = move.unmakes_cq q cid st what e r k n base vector queue t heard w at bad
    by e r heard (Management (CreateSq k n base)) w = made (is_success st) refl
      where
        unmade : (o : Option HostQueue) → host_queue (a.heard q e s) k ≡ o → is_success st ≡ false
            → P (events.Reap q) (events.Reaps what) (option_map_or (λ queue. a.on_host_queue k a.unmade_sq (a.given_back queue.sq_pages (heard_without q cid e s))) o (heard_without q cid e s))
        unmade None at bad = move.hears q cid st what e r (CreateSq k n base) t heard w (λ k. refl) (λ z is. nobody (a.heard q e s).host.queues z k is at)
        unmade (Some queue) at bad = move.unmakes_sq q cid st what e r k n base queue t heard w at bad

        made : (b : Bool) → is_success st ≡ b
            → P (events.Reap q) (events.Reaps what) (if b then a.on_host_queue k a.live (heard_without q cid e s) else option_map_or (λ queue. a.on_host_queue k a.unmade_sq (a.given_back queue.sq_pages (heard_without q cid e s))) (host_queue (a.heard q e s) k) (heard_without q cid e s))
        made true good = move.makes_sq q cid st what e r k n base t heard w good
        made false bad = unmade (host_queue (a.heard q e s) k) refl bad

pub host_moves : (P : Event → Reply → State → Type 0) (s : State) (e : Event) (reply : Reply) → Accepts s e reply → IsController e ≡ false → HostMoves P s → P e reply (a.after s e reply)
host_moves P s e (events.Refused why touched) ok c move = absurd (grind (arith, ok.1))
host_moves P s (events.Reserve q request) (events.Reserved d) ok c move = move.reserves q request d ok.0 ok.1
host_moves P s (events.Submit d) events.Accepted ok c move = by_entry d.entry refl
  where
    by_entry : (o : Option SubEntry) → d.entry ≡ o
        → P (events.Submit d) events.Accepted (option_map_or (λ entry. a.posted d.q entry (a.on_records (with_record d.q d.cid a.submitted) (a.on_memory (with_pages (d.data_pages ++ d.chain_pages)) s))) o s)
    by_entry None e = absurd (true≢false (sym (ap is_none e) ∙ (unrefused s (events.Submit d) ok.0).1.0))
    by_entry (Some entry) e =
        let r = draft_found s d ok.0 in
        subst (P (events.Submit d) events.Accepted) (posted_is d.q entry (a.on_records (with_record d.q d.cid a.submitted) (a.on_memory (with_pages (d.data_pages ++ d.chain_pages)) s))) (move.submits d entry r.0 ok.0 e r.1 (draft_lives s d ok.0))
host_moves P s (events.Cancel d) events.Accepted ok c move =
    let r = is_of_found s is_drafted d.request d.q d.cid d.data_pages d.chain_pages drafted_away (first_fails _ events.Stranger [] ok.0) in move.cancels d r.0 r.1
host_moves P s (events.Ring q) events.Accepted ok c move = move.rings q ok.0
host_moves P s (events.Reap q) (events.Reaps events.Empty) ok c move = move.rests q ok.1
host_moves P s (events.Reap q) (events.Reaps (events.Rejected why)) ok c move = move.rejects q why ok.1
host_moves P s (events.Reap q) (events.Reaps (events.Done cid st)) ok c move = told P s q cid st (events.Done cid st) move (record { is = ok.1; names = refl; status = refl })
host_moves P s (events.Reap q) (events.Reaps (events.AdminDone cid st dw0)) ok c move = told P s q cid st (events.AdminDone cid st dw0) move (record { is = ok.1; names = refl; status = refl })
host_moves P s (events.Collect q cid) (events.Collects f) ok c move = grind (arith, unrefused)
host_moves P s (events.Release f) events.Accepted ok c move =
    let r = is_of_found s is_collected f.request f.q f.cid f.data_pages f.chain_pages collected_away (first_fails _ events.Stranger [] ok.0) in move.releases f r.0 r.1
host_moves P s (events.Abort q cid) (events.Sent id) ok c move = subst (P (events.Abort q cid) (events.Sent id)) (posted_is 0 (admin_entry (Abort q cid) id) (a.on_records (λ records. records ++ sent_record (Abort q cid) id ∷ []) s)) (move.aborts q cid id ok.0 ok.1)
host_moves P s (events.DeleteSq q) (events.Sent id) ok c move =
    let live : (queue : HostQueue) × IsLiveQueue s q queue = let fails = unrefused s (events.DeleteSq q) ok.0 in live_queue s q fails.0 fails.1.0 in
    subst (λ (t : State). P (events.DeleteSq q) (events.Sent id) (a.on_host_queue q a.deleting t)) (posted_is 0 (admin_entry (DeleteSq q) id) (a.on_records (λ records. records ++ sent_record (DeleteSq q) id ∷ []) s))
    (move.asks q id live.0 ok.0 ok.1 live.1)
host_moves P s (events.DeleteCq q) (events.Sent id) ok c move = subst (P (events.DeleteCq q) (events.Sent id)) (posted_is 0 (admin_entry (DeleteCq q) id) (a.on_records (λ records. records ++ sent_record (DeleteCq q) id ∷ []) s)) (move.drops q id ok.0 ok.1)
host_moves P s (events.CreateCq q vector) (events.Sent id) ok c move =
    let fails = unrefused s (events.CreateCq q vector) ok.0 in
    let x = queue_found is_gone s q (not-false _ fails.1.0) in
    let run = run_found s Completion fails.1.1.1.1.0 in
    let granted : IsGranted s q Completion Gone x.0 run.0 = record { there = x.1; state = (grind (arith, x.2)); other = io_queue s q fails.0; run = run.1 } in
    let pages = half_from Completion run.0 s in
    subst (λ (ps : List ℕ). P (events.CreateCq q vector) (events.Sent id) (a.sent (CreateCq q s.entries (a.base_of ps) vector) id (admin_entry (CreateCq q s.entries (a.base_of ps) vector) id) (a.on_host_queue q (a.making_cq ps) (a.half_granted ps s))))
    (sym (ap (λ (o : Option ℕ). option_map_or (λ first. pages_from first (half_pages s.entries Completion)) o []) run.1))
    (subst (P (events.CreateCq q vector) (events.Sent id)) (posted_is 0 (admin_entry (creates_cq q vector run.0 s) id) (a.on_records (λ records. records ++ sent_record (creates_cq q vector run.0 s) id ∷ []) (grants_cq q run.0 s)))
    (move.creates_cqs q vector id run.0 x.0 ok.0 ok.1 granted))
host_moves P s (events.CreateSq q) (events.Sent id) ok c move =
    let fails = unrefused s (events.CreateSq q) ok.0 in
    let states = or_parts (not (in_state is_half_made s q)) _ fails.1.0 in
    let x = queue_found is_half_made s q (not-false _ states.0) in
    let run = run_found s Submission fails.1.1.1.0 in
    let granted : IsGranted s q Submission HalfMade x.0 run.0 = record { there = x.1; state = half_made_is x.0.state x.2; other = io_queue s q fails.0; run = run.1 } in
    subst (λ (ps : List ℕ). P (events.CreateSq q) (events.Sent id) (a.sent (CreateSq q s.entries (a.base_of ps)) id (admin_entry (CreateSq q s.entries (a.base_of ps)) id) (a.on_host_queue q (a.making_sq ps) (a.half_granted ps s))))
    (sym (ap (λ (o : Option ℕ). option_map_or (λ first. pages_from first (half_pages s.entries Submission)) o []) run.1))
    (subst (P (events.CreateSq q) (events.Sent id)) (posted_is 0 (admin_entry (creates_sq q run.0 s) id) (a.on_records (λ records. records ++ sent_record (creates_sq q run.0 s) id ∷ []) (grants_sq q run.0 s)))
    (move.creates_sqs q id run.0 x.0 ok.0 ok.1 granted))
host_moves P s (events.Retire q) events.Accepted ok c move =
    let x = queue_found is_deleted s q (not-false _ (unrefused s (events.Retire q) ok.0).0) in
    subst (λ (o : Option HostQueue). P (events.Retire q) events.Accepted (option_map_or (λ queue. a.on_host_queue q a.retired (a.given_back queue.sq_pages (a.on_records (λ records. map (a.lost q) records) s))) o (a.on_records (λ records. map (a.lost q) records) s)))
    (sym x.1) (move.retires q x.0 ok.0 x.1 (deleted_is x.0.state x.2))
host_moves P s (events.Forge q slot bytes) events.Accepted ok c move =
    let x = queue_found is_reaped s q (not-false _ (unrefused s (events.Forge q slot bytes) ok.0).0) in
    subst (λ (o : Option HostQueue). P (events.Forge q slot bytes) events.Accepted (option_map_or (λ queue. record (a.on_memory (λ m. with_page_bytes m (slot_page queue.cq_pages 16 slot) (slot_offset 16 slot) bytes) s) { trusted = false }) o s)) (sym x.1)
    (move.forges q slot bytes x.0 ok.0 x.1)
host_moves P s events.Reset events.Accepted ok c move = move.resets
host_moves P s (events.Fetch q) reply ok c move = absurd (true≢false c)
host_moves P s (events.Walk q cid) reply ok c move = absurd (true≢false c)
host_moves P s (events.Complete q cid) reply ok c move = absurd (true≢false c)
host_moves P s e reply ok c move = absurd ok.1
