-- Completions that are posted, taken and forged.
use Rattle.controller_core.specs.declared.refusal.ControllerRefusal.TheVariants as refusal
use Rattle.machine_model.specs.Events as events
use Rattle.std.proofs.Common.{◌≡◌, ◌≢◌, ℕ, ◌+◌, ◌*◌, ◌/◌, ◌%◌, ◌<◌, Bool, true, false, Option, Some, None, IsSome, List, [], ◌∷◌, ◌++◌, length, map, is_none, slice_get, if◌then◌else◌, refl, ap, ap₂, sym, ◌∙◌, arith, subst, inl, inr, zero, suc, drop, is_some}
use Rattle.std.{proofs.lemmas.Bool.{true≢false, not-false, Decides.nat_tests}, specs.{List.AllByRecursion, Option.{option_map, option_map_or}}}
use Rattle.machine_model.proofs.{Counting.held_once, Kept.reaped_has_cq, Steps.{in_store-with_bytes, unrefused}}
use Rattle.machine_model.specs.{After.{with_posted_completion, change, after, on_memory}, Always.HasHalves, Memory.is_in}
use Rattle.machine_model.specs.Refusals.{fetch_slot, host_queue, in_service, post_slot, slot_offset, slot_page, entry_of, is_reaped, seen_entry, refusal_of}
use Rattle.machine_model.specs.{State.{State, HostQueue, PostedCompletion, ServedQueue}, Step.{Step, host_part}}
use Rattle.admin_commands.specs.Verdicts.{is_absent}
use Rattle.controller_core.specs.{Posting.{completion_by, memory_posted, page_posted, post_refusal, with_posted}, Doorbells.{with_side, with_head}}
use Rattle.controller_core.specs.declared.queue.ControllerQueue.{ControllerQueue}
use Rattle.entry_codec.{proofs.CompletionLemmas.round_trip, specs.Completion.{completion_bytes, FitsCompletion, IsComEntry}}
use Rattle.entry_codec.specs.declared.{completion.ComEntry.ComEntry, status.Status.Status, submission.SubEntry.SubEntry}
use Rattle.entry_codec.specs.declared.hints.TheConstants.Hints.{NONE}
use Rattle.two_sides.proofs.{Agreed.recovery_kept, Assembling.{ends_in_range, sides_served, into}}
use Rattle.two_sides.proofs.Frames.{SparesQueue, SparesSubmitted, apart_from_queues, halves_apart, own_halves_apart, one_queue, one_stands, IsKnown, queue_ring, controller_at, known, reaped_ring, half_in, half_lies, tied_of, queue_page_in}
use Rattle.two_sides.proofs.JobLaws.{length-completion_bytes}
use Rattle.two_sides.proofs.Places.{Shows, map-append, fetch_slot_is, post_slot_is, own_page, in_ring, completion_slot_page, heads_heard, HasCompletion, first_completion_there, has_completion, head_below, seen_first, seen_none}
use Rattle.two_sides.proofs.{Provided.all_append, Shared.length-controller, Untouched.bytes_elsewhere}
use Rattle.two_sides.specs.Sides.{Sides, posted_completion, completions_between, served_queue_of, present, state_of, served_queues_of}
use Rattle.two_sides.specs.Stepping.{LeavesPages, completion_slots_are_in, forged, forged_entries_step, served}
use Rattle.two_sides.specs.Ties.{HeadsFollow, IsOwned, IsWorld, QueueStands, RingsStand, ShareQueue, has_ring, AllQueuesStand, AreTied, AreSides, first_completion_page}
use Rattle.page_ledger.specs.Owners.{is_among, pages_from}
use Rattle.page_memory.{proofs.Bytes.bytes_missing, specs.{Memory.{Memory, written, bytes_at}, Pages.{Pages, IsPool, byte_at, page_at, with_page_bytes}}}
use Rattle.page_memory.specs.declared.page.Half.TheVariants.{Submission, Completion}
use Rattle.host_core.proofs.{PageOwners.among-from, QueueLists.{page-written, place-written}}
use Rattle.queue_pair.proofs.Halves.{entries_agree, completion_there, pages_agree}
use Rattle.queue_pair.proofs.Rings.{completions_append, next_below, phases_kept, tie_kept_by_post, tie_kept_by_advance, told_alike}
use Rattle.queue_pair.specs.{Lists.{HasPhases, completions_from, expected_phase}, Members.change as change_members}
use Rattle.queue_pair.specs.Memory.{half_pages, completion_page, completion_place, completion_slot}
use Rattle.queue_pair.specs.{Rings.{ControllerSide, hearing_head, knowing, next_head, next_phase}, Slots.{is_full, is_in_range, next_slot}}
use Rattle.slot_table.proofs.Rows.{option_is}
use Rattle.page_memory.proofs.Lists.{all-at}

-- A completion that the controller posts is the machine's, and leaves rings that stand.

-- The pages, whatever was forged: a slot that is not missing is in, and what is written to it are those bytes of its page.

slot_place : (cq slot : ℕ) → 4096 * completion_page cq slot + slot_offset 16 slot ≡ completion_place cq slot
slot_place cq slot = omega arith

pub slot_is_in : (pages : Pages) (cq slot : ℕ) → completion_slot (byte_at pages) cq slot ≢ None → is_in pages (completion_page cq slot) ≡ true
slot_is_in pages cq slot there = elim (option_is (page_at pages (completion_page cq slot))) [
  | inl out ↦ absurd (there (ap (λ (p : ℕ). bytes_at (byte_at pages) p 16) (sym (slot_place cq slot)) ∙ bytes_missing pages (completion_page cq slot) 16 (slot_offset 16 slot) out (omega arith) (omega arith)))
  | inr (page, out) ↦ rw out refl
]

pub slot_written : (pages new : Pages) (cq slot : ℕ) (bytes : List ℕ) → IsPool pages → LeavesPages pages new → is_in pages (completion_page cq slot) ≡ true → length bytes ≡ 16
    → byte_at new ≡ written (byte_at pages) (completion_place cq slot) bytes → new ≡ with_page_bytes pages (completion_page cq slot) (slot_offset 16 slot) bytes
slot_written pages new cq slot bytes pool leaves there count wrote =
    page-written pages new (completion_page cq slot) (slot_offset 16 slot) bytes there (omega (arith, count)) pool leaves.whole leaves.count
    (wrote ∙ ap (λ (place : ℕ). written (byte_at pages) place bytes) (sym (slot_place cq slot)))

slot_shown : (pages : Pages) (cq slot : ℕ) (bytes : List ℕ) → IsPool pages → is_in pages (completion_page cq slot) ≡ true → length bytes ≡ 16
    → byte_at (with_page_bytes pages (completion_page cq slot) (slot_offset 16 slot) bytes) ≡ written (byte_at pages) (completion_place cq slot) bytes
slot_shown pages cq slot bytes pool there count =
    let page : completion_place cq slot / 4096 ≡ completion_page cq slot = omega arith in
    let offset : completion_place cq slot % 4096 ≡ slot_offset 16 slot = omega arith in
    ap₂ (λ (p at : ℕ). byte_at (with_page_bytes pages p at bytes)) (sym page) (sym offset)
    ∙ place-written pages (completion_place cq slot) bytes (subst (λ (p : ℕ). is_in pages p ≡ true) (sym page) there) (omega (arith, offset, count)) pool

-- what a completion that was not refused tells
pub post_room : (m : Memory) (controller : ControllerSide) → post_refusal m controller ≡ None → (is_full controller.entries controller.ring.known_head controller.ring.tail ≡ false) × (completion_slot m controller.cq controller.ring.tail ≢ None)
post_room m controller none = by_room (is_full controller.entries controller.ring.known_head controller.ring.tail) (completion_slot m controller.cq controller.ring.tail) none
  where
    by_room : (full : Bool) (slot : Option (List ℕ)) → (if full then Some refusal.Full else if is_none slot then Some refusal.SlotOut else None) ≡ None → (full ≡ false) × (slot ≢ None)
    by_room false (Some bytes) e = (refl, λ none. cc)
    by_room x slot e = cc

-- and both sides have the queue
pub posted_shares : (n i : ℕ) (h : HostQueue) (c : ControllerQueue) → ShareQueue n i h c → ShareQueue n i h (with_posted c)
posted_shares n i h c share =
    record {
      number = share.number;
      entries = share.entries;
      side = record {
        least = share.side.least;
        most = share.side.most;
        head = share.side.head;
        bell = share.side.bell;
        tail = next_below c.controller.entries c.controller.ring.tail share.side.tail;
        known_head = share.side.known_head;
      };
    }

-- Where nothing was forged

-- A completion can be posted in a queue: the controller has the queue, the host has it in service, and there is room.
pub record CanPostCompletion (s : Sides) (q : ℕ) (h : HostQueue) (c : ControllerQueue) (e : ComEntry) : Type 0 where
  pub known : IsKnown s q h c
  pub there : is_absent c.state ≡ false
  pub served : in_service h.state ≡ true
  pub room : is_full c.controller.entries c.controller.ring.known_head c.controller.ring.tail ≡ false
  pub typed : IsComEntry e
  pub fits : FitsCompletion e

-- its rings are in use, and stand
rings_of : (s : Sides) (q : ℕ) (h : HostQueue) (c : ControllerQueue) (e : ComEntry) → CanPostCompletion s q h c e → RingsStand (byte_at s.pages) q h c
rings_of s q h c e can = can.known.rings (queue_ring s q h c can.known can.there)

-- the pages after it: the slot at the controller's tail has the completion's bytes
abbrev pub with_completion : Sides → ControllerQueue → ComEntry → Pages
with_completion s c e = with_page_bytes s.pages (page_posted c.controller) (slot_offset 16 c.controller.ring.tail) (completion_bytes e)

-- the page of the slot is one of the queue's completion half, which is in
pub page_is_own : (s : Sides) (q : ℕ) (h : HostQueue) (c : ControllerQueue) → IsKnown s q h c → has_ring h c ≡ true → is_among h.cq_pages (page_posted c.controller) ≡ true
page_is_own s q h c known has =
    subst (λ (pages : List ℕ). is_among pages (page_posted c.controller) ≡ true) (sym (known.completion has))
    (among-from c.controller.cq (half_pages s.host.entries Completion) (c.controller.ring.tail / 256) (omega (arith, known.placed.share.entries, known.placed.share.side.tail)))

pub byte_in_page : (pages : Pages) (place : ℕ) → IsSome (byte_at pages place) → is_in pages (place / 4096) ≡ true
byte_in_page pages place some = grind arith

pub page_is_in : (s : Sides) (q : ℕ) (h : HostQueue) (c : ControllerQueue) → IsKnown s q h c → has_ring h c ≡ true → is_in s.pages (page_posted c.controller) ≡ true
page_is_in s q h c known has =
    let page : (4096 * c.controller.cq + 16 * c.controller.ring.tail) / 4096 ≡ page_posted c.controller = omega arith in
    subst (λ (p : ℕ). is_in s.pages p ≡ true) page
    (byte_in_page s.pages (4096 * c.controller.cq + 16 * c.controller.ring.tail) ((known.completion_in has).there (16 * c.controller.ring.tail) (omega (arith, known.placed.share.entries, known.placed.share.side.tail))))

-- the memory after it
posted_shown : (s : Sides) (q : ℕ) (h : HostQueue) (c : ControllerQueue) (e : ComEntry) → IsWorld s → IsKnown s q h c → has_ring h c ≡ true → byte_at (with_completion s c e) ≡ memory_posted (byte_at s.pages) c.controller e
posted_shown s q h c e world known has = slot_shown s.pages c.controller.cq c.controller.ring.tail (completion_bytes e) world.sides.over.pool (page_is_in s q h c known has) (length-completion_bytes e)

-- A page that is not that of the slot is the same.
page_spared : (s : Sides) (q : ℕ) (h : HostQueue) (c : ControllerQueue) (e : ComEntry) (p : ℕ) → IsKnown s q h c → has_ring h c ≡ true → is_among h.cq_pages p ≡ false → page_at (with_completion s c e) p ≡ page_at s.pages p
page_spared s q h c e p known has far =
    bytes_elsewhere s.pages (page_posted c.controller) p (slot_offset 16 c.controller.ring.tail) (completion_bytes e)
    (λ same. true≢false (sym (page_is_own s q h c known has) ∙ (ap (is_among h.cq_pages) same ∙ far)))

-- The halves of the other queues are the same, and so are the pages of the submitted commands.
pub posted_spares_queues : (s : Sides) (q k : ℕ) (h x : HostQueue) (c : ControllerQueue) (e : ComEntry) → IsWorld s → IsKnown s q h c → has_ring h c ≡ true
    → slice_get s.host.host.queues q ≡ Some h → slice_get s.host.host.queues k ≡ Some x → k ≢ q → SparesQueue s.pages (with_completion s c e) x
posted_spares_queues s q k h x c e world known has at there apart =
    record {
      submission = λ p among. page_spared s q h c e p known has ((halves_apart s world k q x h p there at apart).0 among).1;
      completion = λ p among. page_spared s q h c e p known has ((halves_apart s world k q x h p there at apart).1 among).1;
    }

pub posted_spares_commands : (s : Sides) (q : ℕ) (h : HostQueue) (c : ControllerQueue) (e : ComEntry) → IsWorld s → IsKnown s q h c → has_ring h c ≡ true
    → slice_get s.host.host.queues q ≡ Some h → SparesSubmitted s (with_completion s c e)
posted_spares_commands s q h c e world known has at i r there submitted p among = page_spared s q h c e p known has (apart_from_queues s world q i h r p at there among).1

-- The queue itself

present-append : {X : Type 0} (xs : List (Option X)) (x : X) → present (xs ++ Some x ∷ []) ≡ present xs ++ x ∷ []
present-append [] x = refl
present-append (None ∷ xs) x = present-append xs x
present-append (Some y ∷ xs) x = ap (λ ys. y ∷ ys) (present-append xs x)

completions_grow : (s : Sides) (q : ℕ) (h : HostQueue) (c : ControllerQueue) (e : ComEntry) → IsWorld s → CanPostCompletion s q h c e
    → completions_between (byte_at (with_completion s c e)) h.ring (with_posted c).controller ≡ completions_between (byte_at s.pages) h.ring c.controller ++ e ∷ []
completions_grow s q h c e world can =
    let n = c.controller.entries in
    let tail = c.controller.ring.tail in
    ap (λ (m : Memory). completions_between m h.ring (with_posted c).controller) (posted_shown s q h c e world can.known (queue_ring s q h c can.known can.there))
    ∙ ap present (completions_append (byte_at s.pages) c.controller.cq n h.ring.head tail (completion_bytes e) e (length-completion_bytes e) (round_trip e can.typed can.fits) (in_ring s q h c can.known).head can.known.placed.share.side.tail
    (subst (λ (k : ℕ). is_full n k tail ≡ false) (rings_of s q h c e can).heard can.room))
    ∙ present-append (completions_from (byte_at s.pages) c.controller.cq n h.ring.head tail) e

-- the machine's queue has one completion more
pub posted_seen : (s : Sides) (q : ℕ) (h : HostQueue) (c : ControllerQueue) (e : ComEntry) → IsWorld s → slice_get s.host.host.queues q ≡ Some h → CanPostCompletion s q h c e
    → served_queue_of (byte_at (with_completion s c e)) h.ring (with_posted c)
    ≡ record (served_queue_of (byte_at s.pages) h.ring c) { completions = (served_queue_of (byte_at s.pages) h.ring c).completions ++ posted_completion e ∷ [] }
posted_seen s q h c e world at can =
    ap₂ (λ (entries : List SubEntry) (answers : List PostedCompletion). record (served_queue_of (byte_at s.pages) h.ring c) { unfetched = if is_absent c.state then [] else entries; completions = answers })
    -- the entries that wait stay, and the completions are one more
    (let sq = can.known.submission can.there in
    let n = can.known.placed.share.entries in
    let many = half_pages c.controller.entries Submission in
    let spared : (p : ℕ) → p < many → page_at s.pages (c.controller.sq + p) ≡ page_at (with_completion s c e) (c.controller.sq + p) =
    λ p l. sym (page_spared s q h c e (c.controller.sq + p) can.known (queue_ring s q h c can.known can.there) (own_halves_apart s world q h (c.controller.sq + p) at
    (subst (λ (pages : List ℕ). is_among pages (c.controller.sq + p) ≡ true) (sym sq) (among-from c.controller.sq (half_pages s.host.entries Submission) p (subst (λ (k : ℕ). p < half_pages k Submission) n l))))) in
    ap present (sym (entries_agree (byte_at s.pages) (byte_at (with_completion s c e)) c.controller.sq c.controller.entries c.controller.ring.head h.ring.tail
    (pages_agree s.pages (with_completion s c e) c.controller.sq many spared) can.known.placed.share.side.head)))
    (more c.cq_there (can.known.fits.half can.there))
  where
    old : List ComEntry
    old = completions_between (byte_at s.pages) h.ring c.controller

    new : List ComEntry
    new = completions_between (byte_at (with_completion s c e)) h.ring (with_posted c).controller

    more : (b : Bool) → b ≡ true → (if b then map posted_completion new else []) ≡ (if b then map posted_completion old else []) ++ posted_completion e ∷ []
    more true there = ap (map posted_completion) (completions_grow s q h c e world can) ∙ map-append posted_completion old e
    more false there = absurd (true≢false (sym there))

heads_grow : (n from to : ℕ) (e : ComEntry) (es : List ComEntry) → to < n → e.sqhd ≡ to → HeadsFollow n from to es → HeadsFollow n from to (es ++ e ∷ [])
heads_grow n from to e [] l same h = (subst (λ (x : ℕ). is_in_range n from to x ≡ true) (sym same) (ends_in_range n from to l), ends_in_range n e.sqhd to l)
heads_grow n from to e (x ∷ es) l same h = (h.0, heads_grow n x.sqhd to e es l same h.1)

posted_rings : (s : Sides) (q cid : ℕ) (st : Status) (dw0 : ℕ) (h : HostQueue) (c : ControllerQueue) → IsWorld s → CanPostCompletion s q h c (completion_by q cid st dw0 c.controller)
    → RingsStand (byte_at (with_completion s c (completion_by q cid st dw0 c.controller))) q h (with_posted c)
posted_rings s q cid st dw0 h c world can =
    let e : ComEntry = completion_by q cid st dw0 c.controller in
    let old = rings_of s q h c e can in
    let side = can.known.placed.share.side in
    let n = c.controller.entries in
    let grown = completions_grow s q h c e world can in
    record {
      fetched = old.fetched;
      rung = old.rung;
      heard = old.heard;
      expected = old.expected
          ∙ sym (tie_kept_by_post n h.ring.head c.controller.ring.tail c.controller.ring.phase (in_ring s q h c can.known).head side.tail (subst (λ (k : ℕ). is_full n k c.controller.ring.tail ≡ false) old.heard can.room));
      phases = subst (λ (m : Memory). HasPhases m (with_posted c).controller) (sym (posted_shown s q h c e world can.known (queue_ring s q h c can.known can.there)))
          (phases_kept (byte_at s.pages) c.controller.cq n c.controller.ring.tail c.controller.ring.phase (completion_bytes e) (length-completion_bytes e) (ap (λ (y : ComEntry). y.phase) (round_trip e can.typed can.fits)) side.tail old.phases);
      owned = subst (AllByRecursion (IsOwned q)) (sym grown) (all_append (IsOwned q) (completions_between (byte_at s.pages) h.ring c.controller) (e ∷ []) old.owned ((refl, refl), tt));
      follow = subst (HeadsFollow n h.ring.known_head c.controller.ring.head) (sym grown)
          (heads_grow n h.ring.known_head c.controller.ring.head e (completions_between (byte_at s.pages) h.ring c.controller) side.head refl old.follow);
      drained = λ x. absurd (true≢false (sym can.served ∙ x));
    }

pub posted_stands : (s : Sides) (q cid : ℕ) (st : Status) (dw0 : ℕ) (h : HostQueue) (c : ControllerQueue) → IsWorld s → CanPostCompletion s q h c (completion_by q cid st dw0 c.controller)
    → QueueStands s.host.entries (byte_at (with_completion s c (completion_by q cid st dw0 c.controller))) q h (with_posted c)
posted_stands s q cid st dw0 h c world can =
    record {
      halves = record { submission = can.known.submission; completion = can.known.completion };
      rings = λ has. posted_rings s q cid st dw0 h c world can;
      granted = λ making none. absurd (true≢false (sym (can.known.fits.half can.there) ∙ none));
    }

-- What was posted is the machine's completion, in each state that shows the queue and the pages as both sides have them.
posted_as : (u : State) (q cid : ℕ) (st : Status) (dw0 : ℕ) (h : HostQueue) (head tail page : ℕ) (phase : Bool) → host_queue u q ≡ Some h → fetch_slot u q ≡ head → post_slot u q ≡ tail
    → slot_page h.cq_pages 16 tail ≡ page → expected_phase h.ring.head tail h.ring.phase ≡ phase
    → record u {
      memory = with_page_bytes u.memory page (slot_offset 16 tail) (completion_bytes (record { dw0 = dw0; sqhd = head; sqid = q; cid = cid; phase = phase; status = st; hints = NONE }));
      controller = record u.controller { queues = change q (λ at. record at { completions = at.completions ++ record { cid = cid; status = st; dw0 = dw0; sq_head = head } ∷ [] }) u.controller.queues };
    }
    ≡ with_posted_completion q cid st dw0 u
posted_as u q cid st dw0 h head tail page phase eh ef ep epg eph = rw (← eph, ← epg, ← ef, ← ep, eh) refl

pub posted_is : (u : State) (s : Sides) (q cid : ℕ) (st : Status) (dw0 : ℕ) (h : HostQueue) (c : ControllerQueue) → Shows u s q h c → u.memory ≡ s.pages → CanPostCompletion s q h c (completion_by q cid st dw0 c.controller)
    → record u {
      memory = with_completion s c (completion_by q cid st dw0 c.controller);
      controller = record u.controller { queues = change q (λ at. record at { completions = at.completions ++ posted_completion (completion_by q cid st dw0 c.controller) ∷ [] }) u.controller.queues };
    }
    ≡ with_posted_completion q cid st dw0 u
posted_is u s q cid st dw0 h c shown memory can =
    let has = queue_ring s q h c can.known can.there in
    let ring = c.controller.ring in
    let e : ComEntry = completion_by q cid st dw0 c.controller in
    ap (λ (m : Pages). record u {
      memory = with_page_bytes m (page_posted c.controller) (slot_offset 16 ring.tail) (completion_bytes e);
      controller = record u.controller { queues = change q (λ at. record at { completions = at.completions ++ posted_completion e ∷ [] }) u.controller.queues };
    }) (sym memory)
    ∙ posted_as u q cid st dw0 h ring.head ring.tail (page_posted c.controller) ring.phase shown.host (fetch_slot_is u s q h c shown can.known can.there) (post_slot_is u s q h c shown can.known (can.known.fits.half can.there)) (own_page s q h c can.known has)
    (ap (expected_phase h.ring.head ring.tail) (rings_of s q h c e can).expected ∙ sym (told_alike h.ring.head ring.tail ring.phase))

-- A completion is taken from a ring, and its head doorbell is rung.

-- Positions: what is in range from a later position is so from an earlier one, and the other way round

-- heads that follow from a later head follow from an earlier one
follow_before : (n from mid to : ℕ) (es : List ComEntry) → from < n → to < n → is_in_range n from to mid ≡ true → HeadsFollow n mid to es → HeadsFollow n from to es
follow_before n from mid to [] lf lt hm h = ends_in_range n from to lt
follow_before n from mid to (e ∷ es) lf lt hm h = (grind (arith, nat_tests), h.1)

-- What is known where the host sees an entry

-- the queue on both sides, and the completion at its head
pub record Sees (s : Sides) (q : ℕ) (h : HostQueue) (c : ControllerQueue) : Type 0 where
  pub at : slice_get s.host.host.queues q ≡ Some h
  pub there : slice_get s.controller.queues q ≡ Some c
  pub has : has_ring h c ≡ true
  pub cq : c.cq_there ≡ true
  pub known : IsKnown s q h c
  pub apart : h.ring.head ≢ c.controller.ring.tail
  pub completion : HasCompletion (byte_at s.pages) h c

-- the entries after that completion
abbrev pub behind : Memory → HostQueue → ControllerQueue → List ComEntry
behind m h c = present (completions_from m c.controller.cq c.controller.entries (next_slot c.controller.entries h.ring.head) c.controller.ring.tail)

pub sees : (s : Sides) → IsWorld s → s.trusted ≡ true → (q : ℕ) (h : HostQueue) (e : ComEntry) → slice_get s.host.host.queues q ≡ Some h → is_reaped h.state ≡ true → seen_entry (state_of s) q ≡ Some e
    → (c : ControllerQueue) × (x : Sees s q h c) × (x.completion.entry.sqhd ≡ e.sqhd)
sees s world t q h e at reaped seen =
    let c = controller_at s world q h at in
    let k = known s world t q h c.0 at c.1 in
    let has = reaped_ring h c.0 reaped in
    let apart : h.ring.head ≢ c.0.controller.ring.tail = λ same. let none : None ≡ Some e = sym (seen_none s q h c.0 t at c.1 same) ∙ seen in absurd cc in
    let cq = first_completion_there s q h c.0 k has apart in
    let completion = has_completion s q h c.0 k has apart in
    let first : Some (entry_of q (posted_completion completion.entry)) ≡ Some e = sym (seen_first s q h c.0 t at c.1 cq completion) ∙ seen in
    let same : entry_of q (posted_completion completion.entry) ≡ e = cc in
    (c.0, record { at = at; there = c.1; has = has; cq = cq; known = k; apart = apart; completion = completion }, ap (λ (x : ComEntry). x.sqhd) same)

-- A submission head that the host may take for the controller's: the completions that are left follow from it.
pub record Follows (h : HostQueue) (c : ControllerQueue) (m : Memory) (head : ℕ) : Type 0 where
  pub fetched : is_in_range c.controller.entries head h.ring.tail c.controller.ring.head ≡ true
  pub heads : HeadsFollow c.controller.entries head c.controller.ring.head (behind m h c)

first_follows : (s : Sides) (q : ℕ) (h : HostQueue) (c : ControllerQueue) → (x : Sees s q h c)
    → HeadsFollow c.controller.entries h.ring.known_head c.controller.ring.head (x.completion.entry ∷ behind (byte_at s.pages) h c)
first_follows s q h c x = subst (λ (es : List ComEntry). HeadsFollow c.controller.entries h.ring.known_head c.controller.ring.head es) x.completion.list (x.known.rings x.has).follow

-- the head that it knows, and the one that the completion tells
pub known_follows : (s : Sides) (q : ℕ) (h : HostQueue) (c : ControllerQueue) → Sees s q h c → Follows h c (byte_at s.pages) h.ring.known_head
known_follows s q h c x =
    let first = first_follows s q h c x in
    let known : h.ring.known_head < c.controller.entries = subst (λ (n : ℕ). h.ring.known_head < n) (sym x.known.placed.share.entries) x.known.placed.ring.known_head in
    record {
      fetched = (x.known.rings x.has).fetched;
      heads = follow_before c.controller.entries h.ring.known_head x.completion.entry.sqhd c.controller.ring.head (behind (byte_at s.pages) h c) known x.known.placed.share.side.head first.0 first.1;
    }

pub completion_follows : (s : Sides) (q : ℕ) (h : HostQueue) (c : ControllerQueue) → (x : Sees s q h c) → Follows h c (byte_at s.pages) x.completion.entry.sqhd
completion_follows s q h c x =
    let n : c.controller.entries ≡ s.host.entries = x.known.placed.share.entries in
    let known : h.ring.known_head < c.controller.entries = subst (λ (n : ℕ). h.ring.known_head < n) (sym n) x.known.placed.ring.known_head in
    let tail : h.ring.tail < c.controller.entries = subst (λ (n : ℕ). h.ring.tail < n) (sym n) x.known.placed.ring.tail in
    record { fetched = grind (arith, nat_tests); heads = (first_follows s q h c x).1 }

-- The queue without that completion

abbrev pub taken : ℕ → ℕ → HostQueue → HostQueue
taken n head h = record h { ring = knowing head (next_head n h.ring) }

abbrev pub one_fewer : ServedQueue → ServedQueue
one_fewer at = record at { completions = drop 1 at.completions }

-- the controller's queue, once it saw the head
abbrev heard : ℕ → ControllerQueue → ControllerQueue
heard v c = with_side (record c.controller { ring = hearing_head v c.controller.ring }) c

taken_stands : (s : Sides) (q head : ℕ) (h : HostQueue) (c : ControllerQueue) → Sees s q h c → Follows h c (byte_at s.pages) head
    → RingsStand (byte_at s.pages) q (taken c.controller.entries head h) (heard (next_slot c.controller.entries h.ring.head) c)
taken_stands s q head h c x follows =
    let rings = x.known.rings x.has in
    record {
      fetched = follows.fetched;
      rung = rings.rung;
      heard = refl;
      expected = ap (next_phase c.controller.entries h.ring.head) rings.expected
          ∙ tie_kept_by_advance c.controller.entries h.ring.head c.controller.ring.tail c.controller.ring.phase (head_below s q h c x.known.placed) x.known.placed.share.side.tail x.apart;
      phases = rings.phases;
      owned = (subst (λ (es : List ComEntry). AllByRecursion (IsOwned q) es) x.completion.list rings.owned).1;
      follow = follows.heads;
      drained = λ over. absurd (x.apart (rings.drained over));
    }

-- All queues, once the completion and its head are taken

pub record IsTaken (s : Sides) (q v : ℕ) (hs : List HostQueue) : Type 0 where
  pub controller : served_queues_of (byte_at s.pages) hs (change_members q (with_head v) s.controller.queues) ≡ change_members q one_fewer (served_queues_of (byte_at s.pages) s.host.host.queues s.controller.queues)
  pub queues : AllQueuesStand s.host.entries (byte_at s.pages) zero hs (change_members q (with_head v) s.controller.queues)
  pub head : option_map (λ h. h.ring.head) (slice_get hs q) ≡ Some v

-- what holds of one pair of queues holds of the pair at that number
only : {A B : Type 0} (P : A → B → Type 0) (xs : List A) (ys : List B) (q : ℕ) (x : A) (y : B) → slice_get xs q ≡ Some x → slice_get ys q ≡ Some y → P x y
    → (x' : A) (y' : B) → slice_get xs q ≡ Some x' → slice_get ys q ≡ Some y' → P x' y'
only {A = A} {B = B} P xs ys q x y at there p x' y' at' there' =
    let first : x ≡ x' = cc in
    let second : y ≡ y' = cc in
    subst (λ (b : B). P x' b) second (subst (λ (a : A). P a y) first p)

at_changed : (f : HostQueue → HostQueue) (q : ℕ) (hs : List HostQueue) (h : HostQueue) → slice_get hs q ≡ Some h → slice_get (change_members q f hs) q ≡ Some (f h)
at_changed f q [] h e = absurd cc
at_changed f zero (x ∷ hs) h e = ap (option_map f) e
at_changed f (suc q) (x ∷ hs) h e = at_changed f q hs h e

pub takes : (s : Sides) → IsWorld s → AreTied s → (q head : ℕ) (h : HostQueue) (c : ControllerQueue) (f : HostQueue → HostQueue) → Sees s q h c → Follows h c (byte_at s.pages) head
    → f h ≡ taken s.host.entries head h → IsTaken s q (next_slot s.host.entries h.ring.head) (change_members q f s.host.host.queues)
takes s world tied q head h c f x follows is =
    let m : Memory = byte_at s.pages in
    let hs : List HostQueue = s.host.host.queues in
    let cs : List ControllerQueue = s.controller.queues in
    let v : ℕ = next_slot s.host.entries h.ring.head in
    let n : c.controller.entries ≡ s.host.entries = x.known.placed.share.entries in
    let heard_here : with_head v c ≡ heard v c = heads_heard s q h c world.sides tied x.at x.there x.has x.apart in
    record {
      controller = one_queue m m q f (with_head v) one_fewer hs cs
          (only (λ (y : HostQueue) (d : ControllerQueue). served_queue_of m (f y).ring (with_head v d) ≡ one_fewer (served_queue_of m y.ring d)) hs cs q h c x.at x.there
          (subst (λ (y : HostQueue). served_queue_of m y.ring (with_head v c) ≡ one_fewer (served_queue_of m h.ring c)) (sym is)
          (subst (λ (d : ControllerQueue). served_queue_of m (taken s.host.entries head h).ring d ≡ one_fewer (served_queue_of m h.ring c)) (sym heard_here)
          (subst (λ (n : ℕ). served_queue_of m (taken n head h).ring (heard (next_slot n h.ring.head) c) ≡ one_fewer (served_queue_of m h.ring c)) n (grind arith)))))
          (λ i y d far at there. refl);
      queues = one_stands s.host.entries m m q f (with_head v) hs cs
          (only (λ (y : HostQueue) (d : ControllerQueue). QueueStands s.host.entries m q y d → QueueStands s.host.entries m q (f y) (with_head v d)) hs cs q h c x.at x.there
          (λ stands. subst (λ (y : HostQueue). QueueStands s.host.entries m q y (with_head v c)) (sym is)
          (subst (λ (d : ControllerQueue). QueueStands s.host.entries m q (taken s.host.entries head h) d) (sym heard_here)
          (subst (λ (n : ℕ). QueueStands s.host.entries m q (taken n head h) (heard (next_slot n h.ring.head) c)) n (record {
            halves = record { submission = x.known.submission; completion = x.known.completion };
            rings = λ has. taken_stands s q head h c x follows;
            granted = x.known.granted;
          })))))
          (λ i y d far at there stands. stands) tied.queues;
      head = ap (option_map (λ y. y.ring.head)) (at_changed f q hs h x.at) ∙ ap (λ (y : HostQueue). Some y.ring.head) is;
    }

-- An entry is forged in a completion slot that the host still has.

-- A slot that may be forged: the host has the completion half, whose pages lie together, and the slot is one of it.
record IsSlot (s : Sides) (slot : ℕ) (h : HostQueue) : Type 0 where
  below : slot < s.host.entries
  half : h.cq_pages ≡ pages_from (first_completion_page h) (half_pages s.host.entries Completion)

slot_of : (s : Sides) (q slot : ℕ) (bytes : List ℕ) (h : HostQueue) → IsWorld s → refusal_of (state_of s) (events.Forge q slot bytes) ≡ None → slice_get s.host.host.queues q ≡ Some h → IsSlot s slot h
slot_of s q slot bytes h world none at =
    let causes = unrefused (state_of s) (events.Forge q slot bytes) none in
    let reaped : is_reaped h.state ≡ true = sym (ap (λ (o : Option HostQueue). option_map_or (λ queue. is_reaped queue.state) o false) at) ∙ not-false _ causes.0 in
    let below = (let within : slot < s.host.entries = grind (arith, nat_tests) in within) in
    record {
      below = below;
      half = half_lies s.host.entries h (omega (arith, below)) (all-at (HasHalves s.host.entries) s.host.host.queues q h at world.sides.provided.queues) (reaped_has_cq h.state reaped);
    }

pub slots_are_in : completion_slots_are_in
slots_are_in s q slot bytes h world none at out =
    let is = slot_of s q slot bytes h world none at in
    grind (arith, completion_there (byte_at s.pages) (first_completion_page h) s.host.entries slot (half_in s world q h at h.cq_pages (λ p l. omega (arith, l)) (first_completion_page h) (half_pages s.host.entries Completion) is.half) is.below)

-- Its page is in, and the bytes are written there.

page_is_in_forgery : (s : Sides) (q slot : ℕ) (h : HostQueue) → IsWorld s → slice_get s.host.host.queues q ≡ Some h → IsSlot s slot h → IsSome (page_at s.pages (completion_page (first_completion_page h) slot))
page_is_in_forgery s q slot h world at is =
    let first = first_completion_page h in
    let own : is_among h.cq_pages (completion_page first slot) ≡ true =
    ap (λ (ps : List ℕ). is_among ps (completion_page first slot)) is.half ∙ among-from first (half_pages s.host.entries Completion) (slot / 256) (omega arith) in
    queue_page_in s world.sides q h (completion_page first slot) at (omega (arith, held_once (completion_page first slot) h.cq_pages own))

pages_forged : (s : Sides) (q slot : ℕ) (bytes : List ℕ) (h : HostQueue) (pages : Pages) → IsWorld s → slice_get s.host.host.queues q ≡ Some h → IsSlot s slot h → length bytes ≡ 16 → LeavesPages s.pages pages
    → byte_at pages ≡ written (byte_at s.pages) (completion_place (first_completion_page h) slot) bytes → pages ≡ with_page_bytes s.pages (slot_page h.cq_pages 16 slot) (slot_offset 16 slot) bytes
pages_forged s q slot bytes h pages world at is count leaves wrote =
    let first = first_completion_page h in
    let page : slot_page h.cq_pages 16 slot ≡ completion_page first slot = ap (λ (ps : List ℕ). slot_page ps 16 slot) is.half ∙ completion_slot_page first s.host.entries slot is.below in
    page-written s.pages pages (completion_page first slot) (slot_offset 16 slot) bytes (page_is_in_forgery s q slot h world at is) (omega (arith, count)) world.sides.over.pool leaves.whole leaves.count
    (wrote ∙ ap (λ (place : ℕ). written (byte_at s.pages) place bytes) (omega arith))
    ∙ ap (λ (p : ℕ). with_page_bytes s.pages p (slot_offset 16 slot) bytes) (sym page)

pub forged_stepped : forged_entries_step
forged_stepped s q slot bytes h pages world count none at leaves wrote =
    let forges_at : (u : State) (h : HostQueue) → host_queue u q ≡ Some h
    → after u (events.Forge q slot bytes) events.Accepted ≡ record (on_memory (λ m. with_page_bytes m (slot_page h.cq_pages 16 slot) (slot_offset 16 slot) bytes) u) { trusted = false } = λ u h e.
    rw e refl in
    let due : after (state_of s) (events.Forge q slot bytes) events.Accepted
    ≡ record (on_memory (λ m. with_page_bytes m (slot_page h.cq_pages 16 slot) (slot_offset 16 slot) bytes) (state_of s)) { trusted = false } =
    forges_at (state_of s) h at in
    let memory : pages ≡ with_page_bytes s.pages (slot_page h.cq_pages 16 slot) (slot_offset 16 slot) bytes =
    pages_forged s q slot bytes h pages world at (slot_of s q slot bytes h world none at) count leaves wrote in
    let sides : AreSides (served s s.controller pages) = sides_served s s.controller pages world.sides (record {
      leaves = leaves;
      in_store = ap (λ (m : Pages). map is_some m) memory ∙ in_store-with_bytes s.pages (slot_page h.cq_pages 16 slot) (slot_offset 16 slot) bytes;
      controller = world.sides.controller;
      queues = world.sides.queues;
      admin = world.sides.admin;
      image = refl;
    }) in
    let step : Step (state_of s) (events.Forge q slot bytes) events.Accepted (state_of (forged s pages)) = (
      count,
      into _ s.trusted false refl (none, tt),
      record {
        part = ap (λ (m : Pages). host_part (state_of (forged s m))) memory ∙ sym (ap host_part due);
        memory = memory ∙ sym (ap (λ (x : State). x.memory) due);
        controller = record {
          image = refl;
          queues = length-controller (byte_at pages) s.host.entries 0 s.host.host.queues s.controller.queues world.sides.queues
              ∙ sym (length-controller (byte_at s.pages) s.host.entries 0 s.host.host.queues s.controller.queues world.sides.queues);
        };
      },
    ) in (
      step,
      record {
        sides = record { over = sides.over; sound = sides.sound; kept = sides.kept; provided = sides.provided; controller = sides.controller; queues = sides.queues; admin = sides.admin };
        recovers = recovery_kept (state_of s) (events.Forge q slot bytes) events.Accepted (state_of (forged s pages)) step (λ t. (tied_of s world t).agree) world.recovers;
        tied = tt;
      },
    )
