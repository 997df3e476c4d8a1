-- A sound state stays sound.
use Rattle.machine_model.specs.After as a
use Rattle.machine_model.specs.Events as events
use Rattle.std.proofs.Common.{◌≡◌, ℕ, zero, suc, ◌+◌, ◌<◌, Bool, true, false, ◌||◌, not, Some, List, [], find, slice_get, refl, ap, sym, ◌∙◌, arith, eq-eqb, ◌≤◌, ◌==◌, nat_lt, ◌&&◌, None, ◌∷◌, ◌++◌, length, map, is_some, if◌then◌else◌, subst, length-set, inl, inr}
use Rattle.std.{proofs.lemmas.Bool.{cases_Bool, true≢false}}
use Rattle.entry_codec.specs.{Status.is_success, declared.{completion.ComEntry.ComEntry, status.{Status.Status, TheConstants.Status.ABORTED_SQ_DELETION}}}
use Rattle.entry_codec.specs.declared.submission.SubEntry.{SubEntry}
use Rattle.entry_codec.specs.declared.hints.TheConstants.Hints.{NONE}
use Rattle.admin_commands.specs.{Entries.admin_entry, declared.AdminKind.{AdminKind, TheVariants.{DeleteSq, Abort, DeleteCq, CreateCq, CreateSq}}}
use Rattle.page_memory.specs.{Pages.{Pages, with_page_bytes}, declared.page.Half.TheVariants.{Submission, Completion}}
use Rattle.queue_pair.specs.{Memory.half_pages, Rings.{HostRing, next_tail, next_head, knowing}}
use Rattle.machine_model.proofs.Counting.{one, times_granted, times_joined, not_held, held_once, total, here, total-change_same, total-change, total_without, times-outstanding, total-append, total-map, total_with, run_times, zeroed_numbers}
use Rattle.machine_model.proofs.Kept.{Waits, awaited_event, asked_as_heard, ring_at, deletions_awaited, completions_awaited, submissions_awaited, deletions_fit, creations_fit, bare_event, halves_event, zero_host}
use Rattle.machine_model.proofs.Moves.{IsLiveQueue, IsHeard, host_moves, posts, posted_bytes, posted_bits, sent_record, sends, heard_without, half_from, creates_cq, creates_sq, grants_cq, grants_sq, drafted_record, heard_of, ReapTells}
use Rattle.machine_model.proofs.Owned.{HoldsPart, in_queue, in_record, Owns, OwnsPart, owns_of, owns_queues, KeepsRecord, owns_map, owns_more, owns_less, awaited_at, was_awaited as was_awaited_for, lost_keeps, all_reset, reset_fewer, reset_pages, reset_halves, reset_taken, admin_has, submitted_in, Taken, taken, is_out, none, none_here, some_here, taken_le, out_same, out_other, in_same, in_other}
use Rattle.machine_model.proofs.Steps.{Accepts, IsKept, in_store, length-in_store, length-with_pages, length-without_pages, in_store-with_bytes, first_fails, found_all}
use Rattle.machine_model.specs.{After.change, Claims.{DeletionsFit, CreationsFit, OwnsFit, HasNoOtherPages}, Commands.{Work, Management, Io}}
use Rattle.machine_model.specs.{Events.{Event, Reply, Reaped}, Memory.{with_pages, without_pages, zeroed_pages}, Opening.{opening, queues_from}}
use Rattle.machine_model.specs.Placement.{without_numbers}
use Rattle.machine_model.specs.Refusals.{is_asked, is_making_cq, is_making_sq, deletes_sq_of, creates_cq_of, creates_sq_of, slot_page, slot_offset, host_queue, refusal_of, is_submitted, has_sq, has_cq, is_drafted, is_held, in_service, in_state, lacks_queue, takes_admin}
use Rattle.machine_model.specs.State.{State, Host, HostQueue, HostState, Live, Record, is_at, Held, Drafted, Deleting, record_at, pages_of, with_record, without_record, Phase}
use Rattle.machine_model.specs.Step.{HostPart, host_part, IsController, IsNewIdentifier, times, reaped}
use Rattle.page_ledger.specs.Owners.{is_among}
use Rattle.io_commands.specs.{Asked.Request, Drafts.DraftContents, Requests.is_admin, Values.numbers_of}
use Rattle.machine_model.specs.declared.words.Peer.{Peer, TheVariants.Modelled}
pub use Rattle.machine_model.proofs.Moves.{named, status_in}
use Rattle.std.proofs.lemmas.Grind.{common_steps}
use Rattle.page_memory.proofs.Lists.{all-at}
use Rattle.std.proofs.lemmas.Bool.{or_left, or_right}

-- One deletion of a queue's submission side is outstanding where the host waits for it, and one creation of a half where it waits for that: each event of the host keeps it so.

-- Deletions

abbrev pub asked_at : List HostQueue → ℕ → Bool
asked_at hs q = awaited_at is_asked hs q

abbrev pub asks_work : ℕ → Work → ℕ
asks_work q w = one (deletes_sq_of q w)

abbrev pub asks : ℕ → Record → ℕ
asks q r = asks_work q r.work

abbrev pub Asked : List Record → List HostQueue → Type 0
Asked rs hs = (q : ℕ) → total (asks q) rs ≡ one (asked_at hs q)

abbrev pub AskedPart : HostPart → Type 0
AskedPart part = Asked part.host.records part.host.queues

abbrev pub AskedS : State → Type 0
AskedS s = AskedPart (host_part s)

pub asked_from_fit : (h : Host) → DeletionsFit h → Asked h.records h.queues
asked_from_fit h fit = deletions_awaited h fit

-- where a deletion is outstanding, its queue waits for it
pub was_asked : (rs : List Record) (hs : List HostQueue) (k at c : ℕ) (r : Record) → find (is_at at c) rs ≡ Some r → r.work ≡ Management (DeleteSq k) → total (here at c) rs < 2
    → Asked rs hs → asked_at hs k ≡ true
was_asked rs hs k at c r is work once asked = was_awaited_for deletes_sq_of is_asked rs hs k at c r is (ap (deletes_sq_of k) work ∙ eq-eqb k k refl) once asked

pub asked_note : (s : State) (q cid : ℕ) (st : Status) (e : ComEntry) (r : Record) (k : ℕ) → HoldsPart (host_part s) → AskedS s → IsHeard s q cid st e r → r.work ≡ Management (DeleteSq k)
    → (x : HostQueue) → slice_get (a.heard q e s).host.queues k ≡ Some x → is_asked x.state ≡ true
asked_note s q cid st e r k holds f heard w x ex = ap is_asked (asked_as_heard s q cid st e r k holds heard w x ex)

-- a live queue after a move of a ring
pub still_live : (s : State) (q k : ℕ) (g : HostRing → HostRing) (queue y : HostQueue) → IsLiveQueue s q queue → slice_get (change k (λ x. record x { ring = g x.ring }) s.host.queues) q ≡ Some y → y.state ≡ Live
still_live s q k g queue y live e = grind (arith, ring_at)

-- What waits for what

deletions_wait : Waits deletes_sq_of is_asked
deletions_wait = record {
  io = λ z request. refl;
  aborts = λ z k cid. refl;
  drops = λ z k. refl;
  deletes = λ z k far. far;
  creates_cq = λ z k n base vector far. refl;
  creates_sq = λ z k n base far. refl;
  kinds = λ z w is. or_left (deletes_sq_of z w) _ is;
  asked = λ k. eq-eqb k k refl;
  making_cq = λ k n base vector. refl;
  making_sq = λ k n base. refl;
  live = refl;
  noted = refl;
  retired = refl;
  gone = refl;
  half_made = refl;
}

completions_wait : Waits creates_cq_of is_making_cq
completions_wait = record {
  io = λ z request. refl;
  aborts = λ z k cid. refl;
  drops = λ z k. refl;
  deletes = λ z k far. refl;
  creates_cq = λ z k n base vector far. far;
  creates_sq = λ z k n base far. refl;
  kinds = λ z w is. or_right (deletes_sq_of z w) _ (or_left (creates_cq_of z w) _ is);
  asked = λ k. refl;
  making_cq = λ k n base vector. eq-eqb k k refl;
  making_sq = λ k n base. refl;
  live = refl;
  noted = refl;
  retired = refl;
  gone = refl;
  half_made = refl;
}

submissions_wait : Waits creates_sq_of is_making_sq
submissions_wait = record {
  io = λ z request. refl;
  aborts = λ z k cid. refl;
  drops = λ z k. refl;
  deletes = λ z k far. refl;
  creates_cq = λ z k n base vector far. refl;
  creates_sq = λ z k n base far. far;
  kinds = λ z w is. or_right (deletes_sq_of z w) _ (or_right (creates_cq_of z w) _ is);
  asked = λ k. refl;
  making_cq = λ k n base vector. refl;
  making_sq = λ k n base. eq-eqb k k refl;
  live = refl;
  noted = refl;
  retired = refl;
  gone = refl;
  half_made = refl;
}

-- Each event

pub asked_event : (s : State) (e : Event) (reply : Reply) → Accepts s e reply → IsController e ≡ false → HoldsPart (host_part s) → AskedS s → AskedS (a.after s e reply)
asked_event s e reply ok c holds h = awaited_event deletes_sq_of is_asked deletions_wait s e reply ok c holds h

pub creations_event : (s : State) (e : Event) (reply : Reply) → Accepts s e reply → IsController e ≡ false → HoldsPart (host_part s) → CreationsFit (a.after s e reply).host
creations_event s e reply ok c holds =
    creations_fit (a.after s e reply).host (awaited_event creates_cq_of is_making_cq completions_wait s e reply ok c holds (completions_awaited s.host holds.creations))
    (awaited_event creates_sq_of is_making_sq submissions_wait s e reply ok c holds (submissions_awaited s.host holds.creations))

-- As it opens

pub opened_waits_not : (test : HostState → Bool) → test Live ≡ false → (page n count q : ℕ) → awaited_at test (queues_from page n count) q ≡ false
opened_waits_not test live page n zero q = refl
opened_waits_not test live page n (suc count) zero = live
opened_waits_not test live page n (suc count) (suc q) = opened_waits_not test live (page + half_pages n Submission + half_pages n Completion) n count q

pub opened_quiet : (page n count q : ℕ) → asked_at (queues_from page n count) q ≡ false
opened_quiet page n count q = opened_waits_not is_asked refl page n count q

pub asked_at_opening : (page n count : ℕ) → Asked [] (queues_from page n count)
asked_at_opening page n count q = sym (ap one (opened_quiet page n count q))

pub deletions_at_opening : (pages queues n s : ℕ) (image : List ℕ) → DeletionsFit (opening pages queues n s image).host
deletions_at_opening pages queues n s image = deletions_fit (opening pages queues n s image).host (asked_at_opening 0 n (queues + 1))

pub creations_at_opening : (pages queues n s : ℕ) (image : List ℕ) → CreationsFit (opening pages queues n s image).host
creations_at_opening pages queues n s image =
    creations_fit (opening pages queues n s image).host (λ q. sym (ap one (opened_waits_not is_making_cq refl 0 n (queues + 1) q))) (λ q. sym (ap one (opened_waits_not is_making_sq refl 0 n (queues + 1) q)))

-- Each event of the host keeps the invariant.

-- The invariant of a state

abbrev pub Ok : State → Type 0
Ok s = OwnsPart (host_part s)

recount : (m n : ℕ) (h : Host) → m ≡ n → Owns m h → Owns n h
recount m n h e holds = subst (λ (k : ℕ). Owns k h) e holds

-- Rings and states of queues

ok-queue : (q : ℕ) (f : HostQueue → HostQueue) (s : State) → ((p : ℕ) (queue : HostQueue) → in_queue p (f queue) ≡ in_queue p queue) → Ok s → Ok (a.on_host_queue q f s)
ok-queue q f s same h = owns_queues (length (in_store s.memory)) s.host (a.change q f s.host.queues) (λ p. total-change_same (in_queue p) f (same p) q s.host.queues) h

ok-ring : (q : ℕ) (f : HostRing → HostRing) (s : State) → Ok s → Ok (a.on_ring q f s)
ok-ring q f s h = ok-queue q (λ queue. record queue { ring = f queue.ring }) s (λ p queue. refl) h

ok-posted : (q : ℕ) (entry : SubEntry) (s : State) → Ok s → Ok (posts q entry s)
ok-posted q entry s h = recount (length (in_store s.memory)) (length (in_store (posted_bytes q entry s))) (a.on_ring q (next_tail s.entries) s).host (ap length (sym (posted_bits q entry s))) (ok-ring q (next_tail s.entries) s h)

-- Records

abbrev pub changed : ℕ → ℕ → (Record → Record) → Record → Record
changed q cid f r = if is_at q cid r then f r else r

keeps_changed : (q cid : ℕ) (f : Record → Record) → KeepsRecord f → KeepsRecord (changed q cid f)
keeps_changed q cid f k = record {
  q = λ r. (elim (is_at q cid r) as (λ b. (if b then f r else r).q ≡ r.q) [ true ↦ k.q r | false ↦ refl ]);
  cid = λ r. (elim (is_at q cid r) as (λ b. (if b then f r else r).cid ≡ r.cid) [ true ↦ k.cid r | false ↦ refl ]);
  work = λ r. (elim (is_at q cid r) as (λ b. (if b then f r else r).work ≡ r.work) [ true ↦ k.work r | false ↦ refl ]);
  pages = λ r. (elim (is_at q cid r) as (λ b. pages_of (if b then f r else r) ≡ pages_of r) [ true ↦ k.pages r | false ↦ refl ]);
}

ok-with : (q cid : ℕ) (f : Record → Record) (s : State) → KeepsRecord f → Ok s → Ok (a.on_records (with_record q cid f) s)
ok-with q cid f s k h = owns_map (length (in_store s.memory)) s.host (changed q cid f) (keeps_changed q cid f k) h

-- pages put back or taken out
ok-memory : (g : Pages → Pages) (s : State) → length (g s.memory) ≡ length s.memory → Ok s → Ok (a.on_memory g s)
ok-memory g s e h = recount (length (in_store s.memory)) (length (in_store (g s.memory))) s.host (length-in_store s.memory ∙ sym e ∙ sym (length-in_store (g s.memory))) h

-- Reserving

pub unused : (s : State) (q cid : ℕ) → IsNewIdentifier s q cid → total (here q cid) s.host.records ≡ 0
unused s q cid new = grind (arith, times-outstanding, not_held)

few_free : (count p : ℕ) (h : Host) → Owns count h → times p h.free ≤ one (nat_lt p count)
few_free count p h holds = omega (arith, holds.owner p)

at_most_one : (b : Bool) → one b ≤ 1
at_most_one b = grind arith

ok-reserve : (s : State) (d : DraftContents) → (d.q == 0) ≡ (takes_admin s.host.peer && is_admin d.request.kind) → IsNewIdentifier s d.q d.cid
    → ((p : ℕ) → times p (numbers_of d.data_pages ++ numbers_of d.chain_pages) ≡ (if is_among (numbers_of d.data_pages ++ numbers_of d.chain_pages) p && is_among s.host.free p then 1 else 0))
    → Ok s → Ok (a.after_reserve d s)
ok-reserve s d fit new are h =
    let pages = numbers_of d.data_pages ++ numbers_of d.chain_pages in
    let record' : Record = record { q = d.q; cid = d.cid; phase = Drafted; work = Io d.request; data_pages = numbers_of d.data_pages; chain_pages = numbers_of d.chain_pages; status = None; hints = NONE } in
    let count = length (in_store s.memory) in
    recount count (length (in_store (without_pages pages s.memory)))
    (record s.host { free = without_numbers pages s.host.free; records = s.host.records ++ record' ∷ [] })
    (length-in_store s.memory ∙ sym (length-without_pages pages s.memory) ∙ sym (length-in_store (without_pages pages s.memory)))
    (owns_more count s.host record' (without_numbers pages s.host.free) (unused s d.q d.cid new) fit
    (λ p. let few = few_free count p s.host h in times_granted p pages s.host.free (are p) (omega (arith, at_most_one (nat_lt p count))))
    h)

-- Sending

ok-sent : (adm : AdminKind) (cid : ℕ) (s : State) → IsNewIdentifier s 0 cid → Ok s → Ok (sends adm cid s)
ok-sent adm cid s new h =
    ok-posted 0 (admin_entry adm cid) (a.on_records (λ records. records ++ sent_record adm cid ∷ []) s)
    (owns_more (length (in_store s.memory)) s.host (sent_record adm cid) s.host.free (unused s 0 cid new) (refl, refl) (λ p. omega arith) h)

-- Ending

ok-end : (q cid : ℕ) (pages : List (ℕ × List ℕ)) (s : State) (r : Record) → record_at s.host q cid ≡ Some r → numbers_of pages ≡ pages_of r
    → Ok s → Ok (a.after_end q cid pages s)
ok-end q cid pages s r here' same h =
    let count = length (in_store s.memory) in
    let count' = length (with_pages pages s.memory) in
    let free = a.joined_in_order count' (numbers_of pages) s.host.free in
    let counts : count' ≡ count = length-with_pages pages s.memory ∙ sym (length-in_store s.memory) in
    recount count (length (in_store (with_pages pages s.memory)))
    (record s.host { free = free; records = without_record q cid s.host.records })
    (sym counts ∙ sym (length-in_store (with_pages pages s.memory)))
    (owns_less count s.host q cid r free here'
    (λ p.
    let t : times p (numbers_of pages) ≡ in_record p r = ap (times p) same in
    let few : times p s.host.free + times p (numbers_of pages) ≤ one (nat_lt p count) =
    omega (arith, h.owner p, total_without (in_record p) q cid s.host.records r here' (h.once q cid)) in
    let few' : times p s.host.free + times p (numbers_of pages) ≤ one (nat_lt p count') = subst (λ (k : ℕ). times p s.host.free + times p (numbers_of pages) ≤ one (nat_lt p k)) (sym counts) few in
    omega (arith, times_joined p count' (numbers_of pages) s.host.free few'))
    h)

-- Freeing a half

ok-half_freed : (pages : List ℕ) (without : HostQueue → HostQueue) (q : ℕ) (queue : HostQueue) (s : State) → host_queue s q ≡ Some queue
    → ((p : ℕ) → in_queue p (without queue) + times p pages ≡ in_queue p queue) → Ok s → Ok (a.on_host_queue q without (a.given_back pages s))
ok-half_freed pages without q queue s e parts h =
    let count = length (in_store s.memory) in
    let count' = length s.memory in
    let counts : count' ≡ count = sym (length-in_store s.memory) in
    let free = a.joined_in_order count' pages s.host.free in
    let moved : (p : ℕ) → times p free ≡ times p s.host.free + times p pages = λ p.
    let few : times p s.host.free + times p pages ≤ one (nat_lt p count) =
    omega (arith, h.owner p, parts p, total-change (in_queue p) without q s.host.queues queue e) in
    times_joined p count' pages s.host.free (subst (λ (k : ℕ). times p s.host.free + times p pages ≤ one (nat_lt p k)) (sym counts) few) in
    record {
      owner = λ p. omega (arith, h.owner p, moved p, parts p, total-change (in_queue p) without q s.host.queues queue e);
      once = h.once;
      admins = h.admins;
    }

-- Granting a half: its run goes from the free pages to the queue

ok-half_granted : (pages : List ℕ) (with : HostQueue → HostQueue) (q : ℕ) (queue : HostQueue) (s : State) → host_queue s q ≡ Some queue → ((p : ℕ) → in_queue p (with queue) ≡ in_queue p queue + times p pages)
    → ((p : ℕ) → times p pages ≡ (if is_among pages p && is_among s.host.free p then 1 else 0)) → Ok s → Ok (a.on_host_queue q with (a.half_granted pages s))
ok-half_granted pages with q queue s e parts are h =
    let count = length (in_store s.memory) in
    recount count (length (in_store (with_pages (zeroed_pages pages) s.memory)))
    (record s.host { free = without_numbers pages s.host.free; queues = a.change q with s.host.queues })
    (length-in_store s.memory ∙ sym (length-with_pages (zeroed_pages pages) s.memory) ∙ sym (length-in_store (with_pages (zeroed_pages pages) s.memory)))
    (record {
      owner = λ p. omega (arith, h.owner p, parts p, total-change (in_queue p) with q s.host.queues queue e, times_granted p pages s.host.free (are p) (omega (arith, few_free count p s.host h, at_most_one (nat_lt p count))));
      once = h.once;
      admins = h.admins;
    })

-- Resetting: the halves of the I/O queues are free, and the admin commands owned no page

ok-reset : (s : State) → Ok s → Ok (a.after_reset s)
ok-reset s h =
    let count = length (in_store s.memory) in
    let count' = length s.memory in
    let memory = with_pages (zeroed_pages (a.admin_pages s.host.queues)) s.memory in
    recount count (length (in_store memory)) (a.reset_host count' s.host)
    (length-in_store s.memory ∙ sym (length-with_pages (zeroed_pages (a.admin_pages s.host.queues)) s.memory) ∙ sym (length-in_store memory))
    (record {
      owner = λ p.
          let few : times p s.host.free + times p (a.io_pages s.host.queues) ≤ one (nat_lt p count) = omega (arith, h.owner p, reset_halves p s.host.queues) in
          let few' : times p s.host.free + times p (a.io_pages s.host.queues) ≤ one (nat_lt p count') =
          subst (λ (k : ℕ). times p s.host.free + times p (a.io_pages s.host.queues) ≤ one (nat_lt p k)) (length-in_store s.memory) few in
          omega (arith, h.owner p, reset_halves p s.host.queues, reset_pages s.host.peer p s.host.records h.admins, times_joined p count' (a.io_pages s.host.queues) s.host.free few');
      once = λ q cid. omega (arith, h.once q cid, reset_fewer (here q cid) (λ r. rw (lost_keeps.q r, lost_keeps.cid r) refl) s.host.records);
      admins = all_reset (λ r. OwnsFit s.host.peer r.q r.work (pages_of r)) (λ r. OwnsFit s.host.peer r.q r.work (pages_of r)) (λ r io f. rw (lost_keeps.q r, lost_keeps.work r, lost_keeps.pages r) f) s.host.records h.admins;
    })

-- Every accepted event of the host

-- a command is reserved on queue 0 exactly where it is an admin command, if the host takes any
queue_of_kind : (takes admin first out : Bool) → (if admin then not (takes && first) else first || out) ≡ false → first ≡ (takes && admin)
queue_of_kind true true true out h = refl
queue_of_kind true true false out h = absurd (true≢false h)
queue_of_kind false true first out h = absurd (true≢false h)
queue_of_kind true false true out h = absurd (true≢false h)
queue_of_kind true false false out h = refl
queue_of_kind false false true out h = absurd (true≢false h)
queue_of_kind false false false out h = refl

has_queue : (s : State) (q : ℕ) (r : Request) → refusal_of s (events.Reserve q r) ≡ None → lacks_queue s q r.kind ≡ false
has_queue s q r none = grind (arith, first_fails, is_some, nat_lt, length, none)

pub reserve_fits : (s : State) (q : ℕ) (r : Request) → refusal_of s (events.Reserve q r) ≡ None → (q == 0) ≡ (takes_admin s.host.peer && is_admin r.kind)
reserve_fits s q r none = queue_of_kind (takes_admin s.host.peer) (is_admin r.kind) (q == 0) (not (in_state in_service s q)) (has_queue s q r none)

-- so a host that speaks to the modelled controller takes it on an I/O queue alone, and it is no admin command
pub io_queue : (s : State) (q : ℕ) (r : Request) → s.host.peer ≡ Modelled → refusal_of s (events.Reserve q r) ≡ None → (q == 0) ≡ false
io_queue s q r modelled none = reserve_fits s q r none ∙ ap (λ (peer : Peer). takes_admin peer && is_admin r.kind) modelled

no_admin : (takes admin first out : Bool) → takes ≡ false → (if admin then not (takes && first) else first || out) ≡ false → admin ≡ false
no_admin takes false first out never h = refl
no_admin false true first out never h = absurd (true≢false h)
no_admin true true first out never h = absurd (true≢false never)

pub of_blocks : (s : State) (q : ℕ) (r : Request) → s.host.peer ≡ Modelled → refusal_of s (events.Reserve q r) ≡ None → is_admin r.kind ≡ false
of_blocks s q r modelled none = no_admin (takes_admin s.host.peer) (is_admin r.kind) (q == 0) (not (in_state in_service s q)) (ap takes_admin modelled) (has_queue s q r none)

owns_event : (s : State) (e : Event) (reply : Reply) → Accepts s e reply → IsController e ≡ false → HoldsPart (host_part s) → OwnsPart (host_part (a.after s e reply))
owns_event s e reply ok c holds =
    let others : (q : ℕ) (queue : HostQueue) → host_queue s q ≡ Some queue → HasNoOtherPages queue = λ q queue there. all-at HasNoOtherPages s.host.queues q queue there holds.halves in
    host_moves (λ (e : Event) (reply : Reply) (t : State). Ok t) s e reply ok c
    (record {
      reserves = λ q request d none is. ok-reserve s d (ap (λ (k : ℕ). k == 0) is.queue ∙ reserve_fits s q request none ∙ ap (λ (r : Request). takes_admin s.host.peer && is_admin r.kind) (sym is.request)) (subst (λ (k : ℕ). IsNewIdentifier s k d.cid) (sym is.queue) is.identifier) is.free h;
      submits = λ d entry r none built its live.
          let s1 = a.on_memory (with_pages (d.data_pages ++ d.chain_pages)) s in
          ok-posted d.q entry (a.on_records (with_record d.q d.cid a.submitted) s1)
          (ok-with d.q d.cid a.submitted s1 (record { q = λ r'. refl; cid = λ r'. refl; work = λ r'. refl; pages = λ r'. refl })
          (ok-memory (with_pages (d.data_pages ++ d.chain_pages)) s (length-with_pages (d.data_pages ++ d.chain_pages) s.memory) h));
      cancels = λ d r its. ok-end d.q d.cid (d.data_pages ++ d.chain_pages) s r its.found its.pages h;
      rings = λ q none. h;
      rests = λ q is. h;
      rejects = λ q why is. ok-ring q (next_head s.entries) s h;
      tells = λ q cid st what e r request t heard w. ok-with q cid (a.held st e.hints) (a.heard q e s) (record { q = λ r'. refl; cid = λ r'. refl; work = λ r'. refl; pages = λ r'. refl }) (told q e);
      hears = λ q cid st what e r adm t heard w quiet unmade. ended q cid e r adm heard.found w;
      notes = λ q cid st what e r k t heard w.
          ok-queue k (λ queue. record queue { state = if is_success st then Deleting true else Live }) (heard_without q cid e s) (λ p queue. refl) (ended q cid e r (DeleteSq k) heard.found w);
      frees = λ q cid st what e r k queue t heard w at retired good. ok-half_freed queue.cq_pages a.gone k queue (heard_without q cid e s) at (λ p. omega arith) (ended q cid e r (DeleteCq k) heard.found w);
      makes_cq = λ q cid st what e r k n base vector t heard w good. ok-queue k a.half_made (heard_without q cid e s) (λ p queue. refl) (ended q cid e r (CreateCq k n base vector) heard.found w);
      unmakes_cq = λ q cid st what e r k n base vector queue t heard w at bad.
          ok-half_freed queue.cq_pages a.gone k queue (heard_without q cid e s) at (λ p. omega arith) (ended q cid e r (CreateCq k n base vector) heard.found w);
      makes_sq = λ q cid st what e r k n base t heard w good. ok-queue k a.live (heard_without q cid e s) (λ p queue. refl) (ended q cid e r (CreateSq k n base) heard.found w);
      unmakes_sq = λ q cid st what e r k n base queue t heard w at bad.
          ok-half_freed queue.sq_pages a.unmade_sq k queue (heard_without q cid e s) at (λ p. omega arith) (ended q cid e r (CreateSq k n base) heard.found w);
      collects = λ q cid r f at held is.
          ok-with q cid a.collected (a.on_memory (without_pages (pages_of r)) s) (record { q = λ r'. refl; cid = λ r'. refl; work = λ r'. refl; pages = λ r'. refl })
          (ok-memory (without_pages (pages_of r)) s (length-without_pages (pages_of r) s.memory) h);
      releases = λ f r its. ok-end f.q f.cid (f.data_pages ++ f.chain_pages) s r its.found its.pages h;
      aborts = λ q cid id none new. ok-sent (Abort q cid) id s new h;
      asks = λ q id queue none new live. ok-queue q a.deleting (sends (DeleteSq q) id s) (λ p queue. refl) (ok-sent (DeleteSq q) id s new h);
      drops = λ q id none new. ok-sent (DeleteCq q) id s new h;
      creates_cqs = λ q vector id first queue none new granted.
          ok-sent (creates_cq q vector first s) id (grants_cq q first s) (record { in_range = new.in_range; unused = new.unused })
          (ok-half_granted (half_from Completion first s) (a.making_cq (half_from Completion first s)) q queue s granted.there
          (λ p. omega (arith, ap (times p) ((others q queue granted.there).completion (ap has_cq granted.state)))) (run_times s.host.free (half_pages s.entries Completion) first granted.run) h);
      creates_sqs = λ q id first queue none new granted.
          ok-sent (creates_sq q first s) id (grants_sq q first s) (record { in_range = new.in_range; unused = new.unused })
          (ok-half_granted (half_from Submission first s) (a.making_sq (half_from Submission first s)) q queue s granted.there
          (λ p. omega (arith, ap (times p) ((others q queue granted.there).submission (ap has_sq granted.state)))) (run_times s.host.free (half_pages s.entries Submission) first granted.run) h);
      retires = λ q queue none at deleted.
          ok-half_freed queue.sq_pages a.retired q queue (a.on_records (λ records. map (a.lost q) records) s) at (λ p. omega arith)
          (owns_map (length (in_store s.memory)) s.host (a.lost q)
          (record {
            q = λ r. (elim ((r.q == q) && is_submitted r.phase) as (λ b. (if b then a.aborted r else r).q ≡ r.q) [ true ↦ refl | false ↦ refl ]);
            cid = λ r. (elim ((r.q == q) && is_submitted r.phase) as (λ b. (if b then a.aborted r else r).cid ≡ r.cid) [ true ↦ refl | false ↦ refl ]);
            work = λ r. (elim ((r.q == q) && is_submitted r.phase) as (λ b. (if b then a.aborted r else r).work ≡ r.work) [ true ↦ refl | false ↦ refl ]);
            pages = λ r. (elim ((r.q == q) && is_submitted r.phase) as (λ b. pages_of (if b then a.aborted r else r) ≡ pages_of r) [ true ↦ refl | false ↦ refl ]);
          })
          h);
      forges = λ q slot bytes queue none at.
          ok-memory (λ m. with_page_bytes m (slot_page queue.cq_pages 16 slot) (slot_offset 16 slot) bytes) s (length-set s.memory (slot_page queue.cq_pages 16 slot) _) h;
      resets = ok-reset s h;
    })
  where
    h : Ok s
    h = owns_of (length (in_store s.memory)) s.host holds

    told : (q : ℕ) (e : ComEntry) → Ok (a.heard q e s)
    told q e = ok-ring q (knowing e.sqhd) (a.consumed q s) (ok-ring q (next_head s.entries) s h)

    -- an admin command owns no page
    ended : (q cid : ℕ) (e : ComEntry) (r : Record) (adm : AdminKind) → record_at s.host q cid ≡ Some r → r.work ≡ Management adm → Ok (heard_without q cid e s)
    ended q cid e r adm at w =
        let fit : OwnsFit s.host.peer r.q (Management adm) (pages_of r) = rw w at (found_all (λ r'. OwnsFit s.host.peer r'.q r'.work (pages_of r')) (is_at q cid) s.host.records r at h.admins) in
        let t = a.heard q e s in
        owns_less (length (in_store t.memory)) t.host q cid r t.host.free at (λ p. omega (arith, ap (times p) fit.1)) (told q e)

pub host_event : (s : State) (e : Event) (reply : Reply) → Accepts s e reply → IsController e ≡ false → IsKept HoldsPart s e reply
host_event s e reply ok c holds =
    let owns = owns_event s e reply ok c holds in
    record {
      owner = owns.owner;
      once = owns.once;
      admins = owns.admins;
      deletions = (deletions_fit (a.after s e reply).host (asked_event s e reply ok c holds (deletions_awaited s.host holds.deletions)));
      creations = creations_event s e reply ok c holds;
      bare = bare_event s e reply ok c holds;
      halves = halves_event s e reply ok c holds;
      admin = zero_host s e reply ok c holds;
    }

-- Each event of the host keeps which pages are out.

abbrev pub TakenPart : HostPart → Type 0
TakenPart part = Taken part.in_store part.host.records

abbrev pub Both : HostPart → Type 0
Both part = HoldsPart part × TakenPart part

abbrev Fits : State → Type 0
Fits s = TakenPart (host_part s)

fits-posted : (q : ℕ) (entry : SubEntry) (s : State) → Fits s → Fits (posts q entry s)
fits-posted q entry s h = subst (λ bits. Taken bits s.host.records) (sym (posted_bits q entry s)) h

pub small : (b : Bool) → one b ≤ 1
small b = grind arith

-- of a taken record at most one page is there, so what is left of a sum without it is none
at_most : (s : State) (p : ℕ) → HoldsPart (host_part s) → total (taken p) s.host.records ≤ 1
at_most s p h = omega (arith, taken_le p s.host.records, h.owner p, small (nat_lt p (length (in_store s.memory))))

-- pages go out with a command that is then taken
taken_out : (s : State) (pages : List ℕ) (records : List Record) → ((p : ℕ) → total (taken p) records ≡ total (taken p) s.host.records + times p pages)
    → Fits s → Taken (in_store (without_pages pages s.memory)) records
taken_out s pages records more h p l = grind (arith, length-in_store, length-without_pages, out_same, some_here, held_once, out_other, not_held)

-- pages come in with a command that was taken and no longer is
brought_in : (s : State) (pages : List (ℕ × List ℕ)) (records : List Record) → ((p : ℕ) → total (taken p) records + times p (numbers_of pages) ≡ total (taken p) s.host.records)
    → HoldsPart (host_part s) → Fits s → Taken (in_store (with_pages pages s.memory)) records
brought_in s pages records less holds h p l = grind (arith, length-in_store, length-with_pages, in_same, none_here, held_once, at_most, in_other, not_held)

-- free pages are in, and stay in as a half is granted
zeroed_in : (s : State) (pages : List ℕ) → ((p : ℕ) → times p pages ≡ (if is_among pages p && is_among s.host.free p then 1 else 0)) → HoldsPart (host_part s) → Fits s → Taken (in_store (with_pages (zeroed_pages pages) s.memory)) s.host.records
zeroed_in s pages are holds h p l =
    let l' : p < length s.memory = omega (arith, length-in_store (with_pages (zeroed_pages pages) s.memory), length-with_pages (zeroed_pages pages) s.memory) in
    let among = ap (λ (ps : List ℕ). is_among ps p) (zeroed_numbers pages) in
    elim (cases_Bool (is_among pages p)) [
      | inl e ↦ in_same (zeroed_pages pages) s.memory p (among ∙ e) l' ∙ ap Some (sym (none_here _ (untaken e)))
      | inr e ↦ in_other (zeroed_pages pages) s.memory p (among ∙ e) ∙ h p (omega (arith, l', length-in_store s.memory))
    ]
  where
    -- a page of the run is free, so no command has it
    untaken : is_among pages p ≡ true → total (taken p) s.host.records ≡ 0
    untaken e = grind (arith, taken_le, held_once, small, nat_lt, length, in_store, none)

-- the pages of queue 0 are in, and stay in as they are made zero; the admin commands that go had no page
reset_in : (s : State) → HoldsPart (host_part s) → Fits s → Fits (a.after_reset s)
reset_in s holds h p l =
    let l' : p < length s.memory = omega (arith, length-in_store (with_pages (zeroed_pages pages) s.memory), length-with_pages (zeroed_pages pages) s.memory) in
    let among : is_among (numbers_of (zeroed_pages pages)) p ≡ is_among pages p = ap (λ (ps : List ℕ). is_among ps p) (zeroed_numbers pages) in
    elim (cases_Bool (is_among pages p)) [
      | inl e ↦ in_same (zeroed_pages pages) s.memory p (among ∙ e) l' ∙ ap Some (sym (none_here _ (untaken e)))
      | inr e ↦ in_other (zeroed_pages pages) s.memory p (among ∙ e) ∙ h p (omega (arith, l', length-in_store s.memory)) ∙ ap (λ n. Some (none n)) (sym (reset_taken s.host.peer p s.host.records holds.admins))
    ]
  where
    pages : List ℕ
    pages = a.admin_pages s.host.queues

    untaken : is_among pages p ≡ true → total (taken p) (a.reset_records s.host.records) ≡ 0
    untaken e = grind (arith, reset_taken s.host.peer p s.host.records holds.admins, taken_le, held_once, admin_has, small, in_store, common_steps)

-- records change and the store doesn't
same_taken : (s : State) (records : List Record) → ((p : ℕ) → total (taken p) records ≡ total (taken p) s.host.records) → Fits s → Taken (in_store s.memory) records
same_taken s records same h p l = h p l ∙ ap (λ n. Some (none n)) (sym (same p))

-- what a record in a phase has taken
taken_when : (p : ℕ) (r : Record) (b : Bool) → is_out r.phase ≡ b → taken p r ≡ (if b then in_record p r else 0)
taken_when p r b e = rw e refl

drafted_out : (ph : Phase) → is_drafted ph ≡ true → is_out ph ≡ true
drafted_out ph e = grind arith

held_in : (ph : Phase) → is_held ph ≡ true → is_out ph ≡ false
held_in ph e = grind arith

-- What a reap finds is submitted

abbrev pub IsSubmittedAt : State → ℕ → ℕ → Type 0
IsSubmittedAt s q cid = (r : Record) × (record_at s.host q cid ≡ Some r) × (is_submitted r.phase ≡ true)

pub reaped_submitted : (s : State) (q cid : ℕ) → named (reaped s q) ≡ Some cid → IsSubmittedAt s q cid
reaped_submitted s q cid h = by_reap (reaped s q) refl h
  where
    of : (st : Status) (what : Reaped) → ReapTells s q cid st what → IsSubmittedAt s q cid
    of st what t = let x = heard_of s q cid st what t in (x.1, x.2.found, x.2.submitted)

    by_reap : (what : Reaped) → reaped s q ≡ what → named what ≡ Some cid → IsSubmittedAt s q cid
    by_reap (events.Done c st) is n = of st (events.Done c st) (record { is = sym is; names = n; status = refl })
    by_reap (events.AdminDone c st dw0) is n = of st (events.AdminDone c st dw0) (record { is = sym is; names = n; status = refl })
    by_reap what is n = absurd cc

-- Each event

fits-lost : (p q : ℕ) (r : Record) → taken p (a.lost q r) ≡ taken p r
fits-lost p q r = grind arith

fits_event : (s : State) (e : Event) (reply : Reply) → Accepts s e reply → IsController e ≡ false → Both (host_part s) → Fits (a.after s e reply)
fits_event s e reply ok c h =
    host_moves (λ (e : Event) (reply : Reply) (t : State). Fits t) s e reply ok c
    (record {
      reserves = λ q request d none is.
          taken_out s (numbers_of d.data_pages ++ numbers_of d.chain_pages) (s.host.records ++ drafted_record d ∷ []) (λ p. omega (arith, total-append (taken p) s.host.records (drafted_record d ∷ []))) h.1;
      submits = λ d entry r none built its live.
          fits-posted d.q entry (a.on_records (with_record d.q d.cid a.submitted) (a.on_memory (with_pages (d.data_pages ++ d.chain_pages)) s))
          (brought_in s (d.data_pages ++ d.chain_pages) (with_record d.q d.cid a.submitted s.host.records)
          (λ p. omega (arith, total_with (taken p) d.q d.cid a.submitted s.host.records r its.found (h.0.once d.q d.cid), taken_when p r true (drafted_out r.phase its.phase), ap (times p) its.pages)) h.0 h.1);
      cancels = λ d r its. ended d.q d.cid r (d.data_pages ++ d.chain_pages) its.found (drafted_out r.phase its.phase) its.pages;
      rings = λ q none. h.1;
      rests = λ q is. h.1;
      rejects = λ q why is. h.1;
      tells = λ q cid st what e r request t heard w.
          same_taken s (with_record q cid (a.held st e.hints) s.host.records)
          (λ p. omega (arith, total_with (taken p) q cid (a.held st e.hints) s.host.records r heard.found (h.0.once q cid), taken_when p r false (submitted_in r.phase heard.submitted))) h.1;
      hears = λ q cid st what e r adm t heard w quiet unmade. without q cid r heard.found heard.submitted;
      notes = λ q cid st what e r k t heard w. without q cid r heard.found heard.submitted;
      frees = λ q cid st what e r k queue t heard w at retired good. without q cid r heard.found heard.submitted;
      makes_cq = λ q cid st what e r k n base vector t heard w good. without q cid r heard.found heard.submitted;
      unmakes_cq = λ q cid st what e r k n base vector queue t heard w at bad. without q cid r heard.found heard.submitted;
      makes_sq = λ q cid st what e r k n base t heard w good. without q cid r heard.found heard.submitted;
      unmakes_sq = λ q cid st what e r k n base queue t heard w at bad. without q cid r heard.found heard.submitted;
      collects = λ q cid r f at held is.
          taken_out s (pages_of r) (with_record q cid a.collected s.host.records)
          (λ p. omega (arith, total_with (taken p) q cid a.collected s.host.records r at (h.0.once q cid), taken_when p r false (held_in r.phase held))) h.1;
      releases = λ f r its. ended f.q f.cid r (f.data_pages ++ f.chain_pages) its.found (grind (arith, its.phase)) its.pages;
      aborts = λ q cid id none new. sent (Abort q cid) id s h.1;
      asks = λ q id queue none new live. sent (DeleteSq q) id s h.1;
      drops = λ q id none new. sent (DeleteCq q) id s h.1;
      creates_cqs = λ q vector id first queue none new granted.
          sent (creates_cq q vector first s) id (grants_cq q first s) (zeroed_in s (half_from Completion first s) (run_times s.host.free (half_pages s.entries Completion) first granted.run) h.0 h.1);
      creates_sqs = λ q id first queue none new granted.
          sent (creates_sq q first s) id (grants_sq q first s) (zeroed_in s (half_from Submission first s) (run_times s.host.free (half_pages s.entries Submission) first granted.run) h.0 h.1);
      retires = λ q queue none at deleted. same_taken s (map (a.lost q) s.host.records) (λ p. total-map (taken p) (a.lost q) (fits-lost p q) s.host.records) h.1;
      forges = λ q slot bytes queue none at. subst (λ bits. Taken bits s.host.records) (sym (in_store-with_bytes s.memory (slot_page queue.cq_pages 16 slot) (slot_offset 16 slot) bytes)) h.1;
      resets = reset_in s h.0 h.1;
    })
  where
    ended : (q cid : ℕ) (r : Record) (pages : List (ℕ × List ℕ)) → record_at s.host q cid ≡ Some r → is_out r.phase ≡ true → numbers_of pages ≡ pages_of r → Taken (in_store (with_pages pages s.memory)) (without_record q cid s.host.records)
    ended q cid r pages at out same =
        brought_in s pages (without_record q cid s.host.records) (λ p. omega (arith, total_without (taken p) q cid s.host.records r at (h.0.once q cid), taken_when p r true out, ap (times p) same)) h.0 h.1

    without : (q cid : ℕ) (r : Record) → record_at s.host q cid ≡ Some r → is_submitted r.phase ≡ true → Taken (in_store s.memory) (without_record q cid s.host.records)
    without q cid r at sub =
        same_taken s (without_record q cid s.host.records) (λ p. omega (arith, total_without (taken p) q cid s.host.records r at (h.0.once q cid), taken_when p r false (submitted_in r.phase sub))) h.1

    sent : (adm : AdminKind) (id : ℕ) (s : State) → Fits s → Fits (sends adm id s)
    sent adm id s h =
        fits-posted 0 (admin_entry adm id) (a.on_records (λ records. records ++ sent_record adm id ∷ []) s)
        (same_taken s (s.host.records ++ sent_record adm id ∷ []) (λ p. omega (arith, total-append (taken p) s.host.records (sent_record adm id ∷ []))) h)

pub both_events : (s : State) (e : Event) (reply : Reply) → Accepts s e reply → IsController e ≡ false → IsKept Both s e reply
both_events s e reply ok c h = (host_event s e reply ok c h.0, fits_event s e reply ok c h)
