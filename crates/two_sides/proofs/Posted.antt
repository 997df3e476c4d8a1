-- Entries that are posted and taken.
use Rattle.std.proofs.Common.{◌≡◌, ℕ, zero, suc, ◌^◌, ◌<◌, ◌%◌, List, [], ◌∷◌, Some, refl, sym, arith, subst, ◌≢◌, ◌+◌, ◌*◌, ◌/◌, ◌≤◌, ◌++◌, Bool, true, false, Option, None, IsSome, IfSome, length, map, slice_get, if◌then◌else◌, ap, ap₂, ◌∙◌, length-append, inl, inr, ◌-◌, drop, replicate}
use Rattle.std.{proofs.lemmas.Bool.{true≢false, OnTrue_at, Decides.nat_tests}, specs.{List.AllByRecursion, Option.option_map, Prelude.slice_index}}
use Rattle.admin_commands.specs.{Entries.{admin_entry, base_of, named_by, pointer_to, qualified_by}, Verdicts.{is_absent, is_live}}
use Rattle.admin_commands.specs.declared.{AdminKind.AdminKind, SqState.SqState}
use Rattle.entry_codec.{proofs.SubmissionLemmas.round_trip, specs.Bytes.IsBytes}
use Rattle.entry_codec.specs.{Submission.{FitsSubmission, IsSubEntry, command_words, submission_bytes, submission_of}, declared.completion.ComEntry.ComEntry}
use Rattle.entry_codec.specs.declared.submission.SubEntry.{SubEntry}
use Rattle.io_commands.proofs.{Building.{carries_entry, draft_of_blocks, few_blocks, flags_fit}, Pointers.psdt_fits}
use Rattle.io_commands.specs.{Drafts.{DraftContents, draft_first, pointer_of}, Requests.{flag_bits, has_list, is_admin, names_ranges, opcode_of}, declared.request.Kind.{Kind, TheVariants.{Admin}}}
use Rattle.machine_model.specs.{Memory.memory_of, Proper.IsProperDraft, Refusals.{slot_page, slot_offset}}
use Rattle.machine_model.specs.State.{HostQueue, ServedQueue}
use Rattle.sgl_descriptor.specs.{Spelling.{spelling, descriptor_bytes}, declared.Descriptor.Descriptor}
use Rattle.sgl_descriptor.specs.declared.Descriptor.TheVariants.{DataBlock, BitBucket, Segment, LastSegment}
use Rattle.controller_core.specs.{Managing.with_taken, declared.queue.ControllerQueue.ControllerQueue}
use Rattle.host_core.proofs.PageOwners.{among-from}
use Rattle.two_sides.proofs.Frames.{Spares, SparesQueue, SparesSubmitted, apart_from_queues, halves_apart, one_queue, one_stands, own_halves_apart, queue_stays, rings_stay, stands_still, unchanged, walks_stay, IsKnown, known, queue_ring}
use Rattle.two_sides.proofs.{Places.in_ring, PoolBytes.{entry_pages, entries_written}, Untouched.bytes_elsewhere}
use Rattle.two_sides.specs.Sides.{Sides, posted_completion, completions_between, served_queue_of, served_queues_of, present, unfetched_between}
use Rattle.two_sides.specs.Ties.{AllQueuesStand, HeadsFollow, IsOwned, IsWorld, QueueStands, RingsStand, WalksStand, has_ring, ShareQueue}
use Rattle.page_ledger.specs.Owners.{is_among}
use Rattle.page_memory.specs.{Memory.written, Pages.{AreWhole, Pages, byte_at, page_at, with_page_bytes}}
use Rattle.page_memory.specs.declared.page.Half.TheVariants.{Submission, Completion}
use Rattle.queue_pair.proofs.Halves.{posted_agree, phases_agree, submission_there, pages_agree}
use Rattle.queue_pair.proofs.Rings.{entries_posted, room, entries_pop, distance_grows, in_range_below, in_range_near, room_ahead, next_below, distance_none, distance_shrinks, distance_parts}
use Rattle.queue_pair.specs.{Halves.Agree, Lists.entries_between, Members.change}
use Rattle.queue_pair.specs.{Memory.{half_pages, submission_page, submission_place, entry_at, submission_slot}, Rings.next_tail}
use Rattle.queue_pair.specs.Slots.{distance, is_full, is_in_range, next_slot}
use Rattle.slot_table.proofs.Rows.{option_is}

-- The numbers of an entry that the host posts are those of its type: a built draft's entry, and an admin command's.

-- an entry whose bytes give it back
pub record IsTyped (entry : SubEntry) : Type 0 where
  pub typed : IsSubEntry entry
  pub fits : FitsSubmission entry

-- Sixteen bytes

below_in : (xs : List ℕ) → AllByRecursion (λ b. b < 256) xs → (i : ℕ) → slice_index xs i < 256
below_in [] all i = omega arith
below_in (x ∷ xs) all zero = all.0
below_in (x ∷ xs) all (suc i) = below_in xs all.1 i

byte : (n : ℕ) → n % 256 < 256
byte n = omega arith

descriptor_is_bytes : (addr len last : ℕ) → last < 256 → IsBytes 16 (descriptor_bytes addr len last)
descriptor_is_bytes addr len last small =
    let zero_byte : 0 < 256 = omega arith in
    record {
      count = refl;
      below = below_in (descriptor_bytes addr len last)
          (byte _, (byte _, (byte _, (byte _, (byte _, (byte _, (byte _, (byte _, (byte _, (byte _, (byte _, (byte _, (zero_byte, (zero_byte, (zero_byte, (small, tt))))))))))))))));
    }

spelled_in_bytes : (x : Descriptor) → IsBytes 16 (spelling x)
spelled_in_bytes (DataBlock addr len) = descriptor_is_bytes addr len 0x00 (omega arith)
spelled_in_bytes (BitBucket len) = descriptor_is_bytes 0 len 0x10 (omega arith)
spelled_in_bytes (Segment addr len) = descriptor_is_bytes addr len 0x20 (omega arith)
spelled_in_bytes (LastSegment addr len) = descriptor_is_bytes addr len 0x30 (omega arith)

pointer_is_bytes : (address : ℕ) → IsBytes 16 (pointer_to address)
pointer_is_bytes address =
    let zero_byte : 0 < 256 = omega arith in
    record {
      count = refl;
      below = below_in (pointer_to address)
          (byte _, (byte _, (byte _, (byte _, (byte _, (byte _, (byte _, (byte _, (zero_byte, (zero_byte, (zero_byte, (zero_byte, (zero_byte, (zero_byte, (zero_byte, (zero_byte, tt))))))))))))))));
    }

-- a command without a list has zeros there
pointer_in_bytes : (kind : Kind) (sgl1 : List ℕ) → IsBytes 16 sgl1 → IsBytes 16 (pointer_of kind sgl1)
pointer_in_bytes kind sgl1 bytes = by_list (has_list kind)
  where
    by_list : (list : Bool) → IsBytes 16 (if list then sgl1 else replicate 16 0)
    by_list true = bytes
    by_list false = descriptor_is_bytes 0 0 0 (omega arith)

-- The entries

either_below : (b : Bool) (x y n : ℕ) → x < n → y < n → (if b then x else y) < n
either_below true x y n low low' = low
either_below false x y n low low' = low'

opcode_fits : (kind : Kind) → is_admin kind ≡ false → opcode_of kind < 2 ^ 8
opcode_fits (Admin command) far = absurd (true≢false far)
opcode_fits kind far = grind arith

pub draft_typed : (d : DraftContents) (entry : SubEntry) → IsProperDraft d → is_admin d.request.kind ≡ false → d.cid < 2 ^ 16 → d.entry ≡ Some entry → IsTyped entry
draft_typed d entry proper blocks cid built =
    let request = proper.request in
    let ranges = names_ranges d.request.kind in
    let few = few_blocks d.request.kind d.request.block_size d.request.blocks d.request.pieces proper.draft.good in
    subst IsTyped (sym (carries_entry d entry proper.draft built ∙ draft_of_blocks d blocks)) (record {
      typed = record {
        opcode = opcode_fits d.request.kind blocks;
        cid = cid;
        nsid = request.nsid;
        mptr = omega arith;
        sgl1 = pointer_in_bytes d.request.kind (spelling (draft_first d)) (spelled_in_bytes (draft_first d));
        cdw10 = either_below ranges (d.request.blocks - 1) (d.request.slba % 4294967296) (2 ^ 32) (omega (arith, few)) (omega arith);
        cdw11 = either_below ranges 4 (d.request.slba / 4294967296) (2 ^ 32) (omega arith) (omega (arith, request.slba));
        cdw12 = either_below ranges 0 (d.request.blocks - 1 + flag_bits d.request.flags) (2 ^ 32) (omega arith) (omega (arith, few, flags_fit d.request.flags));
        cdw13 = omega arith;
        cdw14 = omega arith;
        cdw15 = omega arith;
      };
      fits = record { fuse = omega arith; psdt = psdt_fits (has_list d.request.kind) };
    })

pub admin_typed : (kind : AdminKind) (cid : ℕ) → cid < 2 ^ 16 → named_by kind < 2 ^ 32 → qualified_by kind < 2 ^ 32 → IsTyped (admin_entry kind cid)
admin_typed kind cid id named qualified =
    let opcode : (k : AdminKind) → (admin_entry k cid).opcode < 2 ^ 8 = λ k. grind arith in
    record {
      typed = record {
        opcode = opcode kind;
        cid = id;
        nsid = omega arith;
        mptr = omega arith;
        sgl1 = pointer_is_bytes (base_of kind);
        cdw10 = named;
        cdw11 = qualified;
        cdw12 = omega arith;
        cdw13 = omega arith;
        cdw14 = omega arith;
        cdw15 = omega arith;
      };
      fits = record { fuse = omega arith; psdt = omega arith };
    }

-- The host posts an entry over a memory in which each half stands as it did: the machine's queues have it, and the queues stand after it.

-- a queue whose tail moved on, and the machine's with one more entry
abbrev pub tail_moved : ℕ → HostQueue → HostQueue
tail_moved n queue = record queue { ring = next_tail n queue.ring }

abbrev pub with_entry : SubEntry → ServedQueue → ServedQueue
with_entry entry at = record at { unfetched = at.unfetched ++ entry ∷ [] }

-- the memory with the entry in the slot at the tail
abbrev pub slot_written : HostQueue → SubEntry → Pages → Pages
slot_written h entry m = with_page_bytes m (slot_page h.sq_pages 64 h.ring.tail) (slot_offset 64 h.ring.tail) (submission_bytes entry)

-- An entry can be posted, over a memory to which pages came in that are of no half.
pub record CanPost (s : Sides) (mid : Pages) (q : ℕ) (h : HostQueue) (c : ControllerQueue) (entry : SubEntry) : Type 0 where
  pub world : IsWorld s
  pub trusted : s.trusted ≡ true
  pub at : slice_get s.host.host.queues q ≡ Some h
  pub beside : slice_get s.controller.queues q ≡ Some c
  pub there : is_absent c.state ≡ false
  pub room : is_full s.host.entries h.ring.known_head h.ring.tail ≡ false
  pub is : IsTyped entry
  pub whole : AreWhole mid
  pub spares : Spares s mid

-- What is written, and in which page

submission_length : (entry : SubEntry) → IsSubEntry entry → length (submission_bytes entry) ≡ 64
unfolding submission_bytes
submission_length entry typed = omega (arith, length-append entry.sgl1 (command_words entry), typed.sgl1.count)

-- a page with a byte is in
page_of_byte : (pages : Pages) (p : ℕ) → IsSome (byte_at pages (4096 * p + 0)) → (page : List ℕ) × (page_at pages p ≡ Some page)
page_of_byte pages p there =
    let index : (p : ℕ) → (4096 * p + 0) / 4096 ≡ p = λ p. omega arith in
    elim (option_is (page_at pages p)) [
      | inl e ↦ let none : byte_at pages (4096 * p + 0) ≡ None = rw (index p, e) refl in absurd cc
      | inr (page, e) ↦ (page, e)
    ]

is_whole : (pages : Pages) (p : ℕ) (page : List ℕ) → AreWhole pages → page_at pages p ≡ Some page → length page ≡ 4096
is_whole pages p page whole e = subst (λ (o : Option (List ℕ)). IfSome o (λ x. length x ≡ 4096)) e (whole p)

-- the entries that are there
present_append : {X : Type 0} (xs ys : List (Option X)) → present (xs ++ ys) ≡ present xs ++ present ys
present_append [] ys = refl
present_append (None ∷ xs) ys = present_append xs ys
present_append {X = X} (Some x ∷ xs) ys = ap (λ (l : List X). x ∷ l) (present_append xs ys)

-- a position in range stays so as the tail moves on
pub in_range : (n from to slot : ℕ) → slot < n → distance n from slot ≤ distance n from to → is_in_range n from to slot ≡ true
in_range n from to slot l m = grind (arith, nat_tests, l, m)

range_grows : (n from tail slot : ℕ) → from < n → tail < n → is_in_range n from tail slot ≡ true → is_full n from tail ≡ false → is_in_range n from (next_slot n tail) slot ≡ true
range_grows n from tail slot f l h free =
    in_range n from (next_slot n tail) slot (in_range_below n from tail slot h)
    (omega (arith, in_range_near n from tail slot h, distance_grows n from tail f l (room n from tail free)))

module _ (s : Sides) (mid : Pages) (q : ℕ) (h : HostQueue) (c : ControllerQueue) (entry : SubEntry) (can : CanPost s mid q h c entry) where
  abbrev new : Pages
  new = slot_written h entry mid

  knows : IsKnown s q h c
  knows = known s can.world can.trusted q h c can.at can.beside

  has : has_ring h c ≡ true
  has = queue_ring s q h c knows can.there

  tail_below : h.ring.tail < c.controller.entries
  tail_below = omega (arith, knows.placed.share.entries, knows.placed.ring.tail)

  -- the slot's page is one of the submission half
  page_is : slot_page h.sq_pages 64 h.ring.tail ≡ submission_page c.controller.sq h.ring.tail
  page_is =
      ap (λ (ps : List ℕ). slot_page ps 64 h.ring.tail) (knows.submission can.there)
      ∙ entry_pages c.controller.sq (half_pages s.host.entries Submission) h.ring.tail (omega (arith, knows.placed.ring.tail))

  own_page : is_among h.sq_pages (slot_page h.sq_pages 64 h.ring.tail) ≡ true
  own_page =
      rw (page_is, knows.submission can.there)
      (among-from c.controller.sq (half_pages s.host.entries Submission) (h.ring.tail / 64) (omega (arith, knows.placed.ring.tail)))

  pub elsewhere : (p : ℕ) → is_among h.sq_pages p ≡ false → page_at new p ≡ page_at mid p
  elsewhere p out =
      bytes_elsewhere mid (slot_page h.sq_pages 64 h.ring.tail) p (slot_offset 64 h.ring.tail) (submission_bytes entry)
      (λ same. true≢false (sym own_page ∙ ap (is_among h.sq_pages) same ∙ out))

  written_there : byte_at new ≡ written (byte_at mid) (submission_place c.controller.sq h.ring.tail) (submission_bytes entry)
  written_there =
      let p : ℕ = submission_page c.controller.sq h.ring.tail in
      let many : ℕ = half_pages s.host.entries Submission in
      let l = knows.placed.ring.tail in
      let at : 4096 * c.controller.sq + 4096 * (h.ring.tail / 64) ≡ 4096 * p + 0 = omega arith in
      let found = page_of_byte s.pages p (subst (λ (place : ℕ). IsSome (byte_at s.pages place)) at ((knows.submission_in can.there).there (4096 * (h.ring.tail / 64)) (omega (arith, l)))) in
      let brought : page_at mid p ≡ Some found.0 = (can.spares q h can.at).submission p (subst (λ (k : ℕ). is_among h.sq_pages k ≡ true) page_is own_page) ∙ found.1 in
      ap (λ (ps : List ℕ). byte_at (with_page_bytes mid (slot_page ps 64 h.ring.tail) (slot_offset 64 h.ring.tail) (submission_bytes entry))) (knows.submission can.there)
      ∙ entries_written mid c.controller.sq many h.ring.tail found.0 (submission_bytes entry) (omega (arith, l)) brought (is_whole mid p found.0 can.whole brought) (submission_length entry can.is.typed)

  -- the halves of another queue, and the completion half of this one, stay
  spares_other : (k : ℕ) (x : HostQueue) → k ≢ q → slice_get s.host.host.queues k ≡ Some x → SparesQueue s.pages new x
  spares_other k x far at =
      record {
        submission = λ p among. elsewhere p ((halves_apart s can.world k q x h p at can.at far).0 among).0 ∙ (can.spares k x at).submission p among;
        completion = λ p among. elsewhere p ((halves_apart s can.world k q x h p at can.at far).1 among).0 ∙ (can.spares k x at).completion p among;
      }

  not_submission : (p : ℕ) (b : Bool) → is_among h.sq_pages p ≡ b → is_among h.cq_pages p ≡ true → b ≡ false
  not_submission p false e among = refl
  not_submission p true e among = absurd (true≢false (sym among ∙ own_halves_apart s can.world q h p can.at e))

  completions_agree : Agree (byte_at mid) (byte_at new) c.controller.cq (half_pages c.controller.entries Completion)
  completions_agree =
      let many : ℕ = half_pages s.host.entries Completion in
      let own : (k : ℕ) → k < many → is_among h.cq_pages (c.controller.cq + k) ≡ true =
      λ k l. subst (λ (ps : List ℕ). is_among ps (c.controller.cq + k) ≡ true) (sym (knows.completion has)) (among-from c.controller.cq many k l) in
      subst (λ (n : ℕ). Agree (byte_at mid) (byte_at new) c.controller.cq (half_pages n Completion)) (sym knows.placed.share.entries)
      (pages_agree mid new c.controller.cq many (λ k l. sym (elsewhere (c.controller.cq + k) (not_submission (c.controller.cq + k) _ refl (own k l)))))

  pub post_walks : SparesSubmitted s mid → WalksStand (memory_of new) s.controller.commands
  post_walks spares =
      walks_stay s new can.world can.trusted
      (λ i r at submitted p among. elsewhere p (apart_from_queues s can.world q i h r p can.at at among).0 ∙ spares i r at submitted p among)

  -- the machine's queue has the entry
  room_behind : is_full c.controller.entries c.controller.ring.head h.ring.tail ≡ false
  room_behind =
      let n = knows.placed.share.entries in
      room_ahead c.controller.entries h.ring.known_head c.controller.ring.head h.ring.tail (omega (arith, n, knows.placed.ring.known_head)) tail_below (knows.rings has).fetched
      (subst (λ (k : ℕ). is_full k h.ring.known_head h.ring.tail ≡ false) (sym n) can.room)

  completions_stay : completions_between (byte_at new) h.ring c.controller ≡ completions_between (byte_at mid) h.ring c.controller
  completions_stay =
      ap present (sym (posted_agree (byte_at mid) (byte_at new) c.controller.cq c.controller.entries h.ring.head c.controller.ring.tail
      completions_agree (omega (arith, knows.placed.share.entries, knows.placed.ring.head))))

  unfetched_grow : unfetched_between (byte_at new) (next_tail s.host.entries h.ring) c.controller ≡ unfetched_between (byte_at mid) h.ring c.controller ++ entry ∷ []
  unfetched_grow =
      let controller = c.controller in
      let n = s.host.entries in
      ap present (entries_posted (byte_at mid) (byte_at new) controller.sq n h.ring.tail (next_slot n h.ring.tail) (submission_place controller.sq h.ring.tail) (submission_bytes entry) entry controller
      written_there refl refl (submission_length entry can.is.typed) (round_trip entry can.is.typed can.is.fits) refl (sym knows.placed.share.entries) knows.placed.ring.tail knows.placed.share.side.head room_behind)
      ∙ present_append (entries_between (byte_at mid) controller.sq controller.entries controller.ring.head h.ring.tail) (Some entry ∷ [])

  queue_posted : served_queue_of (byte_at new) (next_tail s.host.entries h.ring) c ≡ with_entry entry (served_queue_of (byte_at s.pages) h.ring c)
  queue_posted =
      ap₂ seen unfetched_grow completions_stay ∙ rw can.there refl
      ∙ ap (with_entry entry) (queue_stays s mid q h c knows (can.spares q h can.at))
    where
      seen : List SubEntry → List ComEntry → ServedQueue
      seen es cs = record {
        state = c.state;
        cq_there = c.cq_there;
        unfetched = if is_absent c.state then [] else es;
        rung = if is_absent c.state then 0 else distance c.controller.entries c.controller.ring.head c.controller.ring.bell;
        completions = if c.cq_there then map posted_completion cs else [];
      }

  -- its rings stand
  rings_posted : RingsStand (byte_at new) q (tail_moved s.host.entries h) c
  rings_posted =
      let stands = rings_stay s mid q h c knows (can.spares q h can.at) has in
      let n = knows.placed.share.entries in
      let known_below : h.ring.known_head < c.controller.entries = omega (arith, n, knows.placed.ring.known_head) in
      let known_room : is_full c.controller.entries h.ring.known_head h.ring.tail ≡ false = subst (λ (k : ℕ). is_full k h.ring.known_head h.ring.tail ≡ false) (sym n) can.room in
      record {
        fetched = subst (λ (k : ℕ). is_in_range c.controller.entries h.ring.known_head (next_slot k h.ring.tail) c.controller.ring.head ≡ true) n
            (range_grows c.controller.entries h.ring.known_head h.ring.tail c.controller.ring.head known_below tail_below stands.fetched known_room);
        rung = subst (λ (k : ℕ). is_in_range c.controller.entries c.controller.ring.head (next_slot k h.ring.tail) c.controller.ring.bell ≡ true) n
            (range_grows c.controller.entries c.controller.ring.head h.ring.tail c.controller.ring.bell knows.placed.share.side.head tail_below stands.rung room_behind);
        heard = stands.heard;
        expected = stands.expected;
        phases = phases_agree (byte_at mid) (byte_at new) c.controller.cq c.controller.entries c.controller.ring.tail c.controller.ring.phase completions_agree stands.phases;
        owned = subst (λ (xs : List ComEntry). AllByRecursion (IsOwned q) xs) (sym completions_stay) stands.owned;
        follow = subst (λ (xs : List ComEntry). HeadsFollow c.controller.entries h.ring.known_head c.controller.ring.head xs) (sym completions_stay) stands.follow;
        drained = stands.drained;
      }

  queue_stands : QueueStands s.host.entries (byte_at new) q (tail_moved s.host.entries h) c
  queue_stands = record {
    halves = record { submission = knows.submission; completion = knows.completion };
    rings = λ x. rings_posted;
    granted = λ making absent. absurd (true≢false (sym (knows.fits.half can.there) ∙ absent));
  }

  -- All queues

  this : (x : HostQueue) (y : ControllerQueue) → slice_get s.host.host.queues q ≡ Some x → slice_get s.controller.queues q ≡ Some y → (h ≡ x) × (c ≡ y)
  this x y e f =
      let g : Some h ≡ Some x = sym can.at ∙ e in
      let k : Some c ≡ Some y = sym can.beside ∙ f in
      (cc, cc)

  pub post_queues : served_queues_of (byte_at new) (change q (tail_moved s.host.entries) s.host.host.queues) s.controller.queues
      ≡ change q (with_entry entry) (served_queues_of (byte_at s.pages) s.host.host.queues s.controller.queues)
  post_queues =
      ap (served_queues_of (byte_at new) (change q (tail_moved s.host.entries) s.host.host.queues)) (sym (unchanged q s.controller.queues))
      ∙ one_queue (byte_at s.pages) (byte_at new) q (tail_moved s.host.entries) (λ y. y) (with_entry entry) s.host.host.queues s.controller.queues
      (λ x y e f. let same = this x y e f in
      subst (λ (y : ControllerQueue). served_queue_of (byte_at new) (next_tail s.host.entries x.ring) y ≡ with_entry entry (served_queue_of (byte_at s.pages) x.ring y)) same.1
      (subst (λ (x : HostQueue). served_queue_of (byte_at new) (next_tail s.host.entries x.ring) c ≡ with_entry entry (served_queue_of (byte_at s.pages) x.ring c)) same.0 queue_posted))
      (λ k x y far e f. queue_stays s new k x y (known s can.world can.trusted k x y e f) (spares_other k x far e))

  pub post_stands : AllQueuesStand s.host.entries (byte_at new) zero (change q (tail_moved s.host.entries) s.host.host.queues) s.controller.queues
  post_stands =
      subst (λ (cs : List ControllerQueue). AllQueuesStand s.host.entries (byte_at new) zero (change q (tail_moved s.host.entries) s.host.host.queues) cs) (unchanged q s.controller.queues)
      (one_stands s.host.entries (byte_at s.pages) (byte_at new) q (tail_moved s.host.entries) (λ y. y) s.host.host.queues s.controller.queues
      (λ x y e f stands. let same = this x y e f in
      subst (λ (y : ControllerQueue). QueueStands s.host.entries (byte_at new) q (tail_moved s.host.entries x) y) same.1
      (subst (λ (x : HostQueue). QueueStands s.host.entries (byte_at new) q (tail_moved s.host.entries x) c) same.0 queue_stands))
      (λ k x y far e f stands. stands_still s new k x y (known s can.world can.trusted k x y e f) (spares_other k x far e))
      (OnTrue_at can.trusted can.world.tied).queues)

-- The controller takes the entry at its head: the machine's list is shorter by that entry, and the rings stand.

-- Positions after a take

not_last : (n known head tail : ℕ) → known < n → head < n → tail < n → is_in_range n known tail head ≡ true → head ≢ tail → distance n known head + 1 < n
not_last n known head tail k h t inside some = grind arith

not_taken : (n head bell tail : ℕ) → head < n → bell < n → is_in_range n head tail bell ≡ true → head ≢ bell → head ≢ tail
not_taken n head bell tail h b inside some e = grind arith

heads_on : (n from to : ℕ) (es : List ComEntry) → from < n → to < n → distance n from to + 1 < n → HeadsFollow n from to es → HeadsFollow n from (next_slot n to) es
heads_on n from to [] f t last h = in_range n from (next_slot n to) (next_slot n to) (next_below n to t) (omega arith)
heads_on n from to (e ∷ es) f t last h =
    let below = in_range_below n from to e.sqhd h.0 in
    let grows = distance_grows n from to f t (λ x. absurd (omega arith)) in
    let parts = distance_parts n from e.sqhd to f below t (in_range_near n from to e.sqhd h.0) in
    (in_range n from (next_slot n to) e.sqhd below (omega arith), heads_on n e.sqhd to es below t (omega arith) h.1)

-- The queue itself

-- A queue from which the controller can take an entry, where nothing was forged
pub record CanTake (s : Sides) (q : ℕ) (h : HostQueue) (c : ControllerQueue) : Type 0 where
  pub known : IsKnown s q h c
  pub live : is_live c.state ≡ true
  pub rung : c.controller.ring.head ≢ c.controller.ring.bell

pub not_absent : (sq : SqState) → is_live sq ≡ true → is_absent sq ≡ false
not_absent sq e = grind arith

-- its rings are in use, and stand
rings_of : (s : Sides) (q : ℕ) (h : HostQueue) (c : ControllerQueue) → CanTake s q h c → RingsStand (byte_at s.pages) q h c
rings_of s q h c can = can.known.rings (queue_ring s q h c can.known (not_absent c.state can.live))

some_left : (s : Sides) (q : ℕ) (h : HostQueue) (c : ControllerQueue) → CanTake s q h c → c.controller.ring.head ≢ h.ring.tail
some_left s q h c can =
    let side = can.known.placed.share.side in
    not_taken c.controller.entries c.controller.ring.head c.controller.ring.bell h.ring.tail side.head side.bell (rings_of s q h c can).rung can.rung

pub entry_there : (s : Sides) (q : ℕ) (h : HostQueue) (c : ControllerQueue) → CanTake s q h c → (e : SubEntry) × (entry_at (byte_at s.pages) c.controller.sq c.controller.ring.head ≡ Some e)
entry_there s q h c can =
    let placed = can.known.placed in
    by_slot (submission_slot (byte_at s.pages) c.controller.sq c.controller.ring.head) refl
    (submission_there (byte_at s.pages) c.controller.sq s.host.entries c.controller.ring.head (can.known.submission_in (not_absent c.state can.live)) (omega (arith, placed.share.entries, placed.share.side.head)))
  where
    by_slot : (o : Option (List ℕ)) → submission_slot (byte_at s.pages) c.controller.sq c.controller.ring.head ≡ o → IsSome o → (e : SubEntry) × (entry_at (byte_at s.pages) c.controller.sq c.controller.ring.head ≡ Some e)
    by_slot None e some = cc
    by_slot (Some bytes) e some = (submission_of bytes, ap (option_map submission_of) e)

pub entries_first : (s : Sides) (q : ℕ) (h : HostQueue) (c : ControllerQueue) (e : SubEntry) → CanTake s q h c → entry_at (byte_at s.pages) c.controller.sq c.controller.ring.head ≡ Some e
    → unfetched_between (byte_at s.pages) h.ring c.controller ≡ e ∷ unfetched_between (byte_at s.pages) h.ring (with_taken c).controller
entries_first s q h c e can at =
    ap present (entries_pop (byte_at s.pages) c.controller.sq c.controller.entries c.controller.ring.head h.ring.tail can.known.placed.share.side.head (in_ring s q h c can.known).tail (some_left s q h c can))
    ∙ ap (λ (o : Option SubEntry). present (o ∷ entries_between (byte_at s.pages) c.controller.sq c.controller.entries (next_slot c.controller.entries c.controller.ring.head) h.ring.tail)) at

-- the machine's queue has one entry less
pub taken_seen : (s : Sides) (q : ℕ) (h : HostQueue) (c : ControllerQueue) → CanTake s q h c
    → served_queue_of (byte_at s.pages) h.ring (with_taken c)
    ≡ record (served_queue_of (byte_at s.pages) h.ring c) { unfetched = drop 1 (served_queue_of (byte_at s.pages) h.ring c).unfetched; rung = (served_queue_of (byte_at s.pages) h.ring c).rung - 1 }
taken_seen s q h c can =
    let m = byte_at s.pages in
    let n = c.controller.entries in
    let ring = c.controller.ring in
    let side = can.known.placed.share.side in
    let (e, at) = entry_there s q h c can in
    let less : distance n (next_slot n ring.head) ring.bell ≡ distance n ring.head ring.bell - 1 = omega (arith, distance_shrinks n ring.head ring.bell side.head side.bell can.rung) in
    by (is_absent c.state) (unfetched_between m h.ring (with_taken c).controller) (unfetched_between m h.ring c.controller) (distance n (next_slot n ring.head) ring.bell) (distance n ring.head ring.bell)
    (not_absent c.state can.live) (ap (drop 1) (sym (entries_first s q h c e can at))) less
  where
    by : (b : Bool) (us vs : List SubEntry) (k l : ℕ) → b ≡ false → us ≡ drop 1 vs → k ≡ l - 1
        → record (served_queue_of (byte_at s.pages) h.ring c) { unfetched = if b then [] else us; rung = if b then 0 else k }
        ≡ record (served_queue_of (byte_at s.pages) h.ring c) { unfetched = drop 1 (if b then [] else vs); rung = (if b then 0 else l) - 1 }
    by true us vs k l b e f = absurd (true≢false b)
    by false us vs k l b e f = ap₂ (λ (xs : List SubEntry) (r : ℕ). record (served_queue_of (byte_at s.pages) h.ring c) { unfetched = xs; rung = r }) e f

-- and its rings stand
taken_rings : (s : Sides) (q : ℕ) (h : HostQueue) (c : ControllerQueue) → CanTake s q h c → RingsStand (byte_at s.pages) q h (with_taken c)
taken_rings s q h c can =
    let old = rings_of s q h c can in
    let side = can.known.placed.share.side in
    let n = c.controller.entries in
    let ring = c.controller.ring in
    let is = in_ring s q h c can.known in
    let left = some_left s q h c can in
    record {
      fetched =
          let last = not_last n h.ring.known_head ring.head h.ring.tail is.known_head side.head is.tail old.fetched left in
          let grows = distance_grows n h.ring.known_head ring.head is.known_head side.head (λ e. absurd (omega arith)) in
          let parts = distance_parts n h.ring.known_head ring.head h.ring.tail is.known_head side.head is.tail (in_range_near n h.ring.known_head h.ring.tail ring.head old.fetched) in
          let apart : distance n ring.head h.ring.tail ≢ 0 = λ e. left (distance_none n ring.head h.ring.tail side.head is.tail e) in
          in_range n h.ring.known_head h.ring.tail (next_slot n ring.head) (next_below n ring.head side.head) (omega arith);
      rung =
          let near = in_range_near n ring.head h.ring.tail ring.bell old.rung in
          let first = distance_shrinks n ring.head ring.bell side.head side.bell can.rung in
          let second = distance_shrinks n ring.head h.ring.tail side.head is.tail left in
          in_range n (next_slot n ring.head) h.ring.tail ring.bell side.bell (omega arith);
      heard = old.heard;
      expected = old.expected;
      phases = old.phases;
      owned = old.owned;
      follow = heads_on n h.ring.known_head ring.head (completions_between (byte_at s.pages) h.ring c.controller) is.known_head side.head
          (not_last n h.ring.known_head ring.head h.ring.tail is.known_head side.head is.tail old.fetched left) old.follow;
      drained = old.drained;
    }

pub taken_stands : (s : Sides) (q : ℕ) (h : HostQueue) (c : ControllerQueue) → CanTake s q h c → QueueStands s.host.entries (byte_at s.pages) q h (with_taken c)
taken_stands s q h c can =
    record { halves = record { submission = can.known.submission; completion = can.known.completion }; rings = λ has. taken_rings s q h c can; granted = can.known.granted }

-- Whatever was forged, both sides have the queue.
pub taken_shares : (n i : ℕ) (h : HostQueue) (c : ControllerQueue) → ShareQueue n i h c → ShareQueue n i h (with_taken c)
taken_shares n i h c share =
    record {
      number = share.number;
      entries = share.entries;
      side = record {
        least = share.side.least;
        most = share.side.most;
        head = next_below c.controller.entries c.controller.ring.head share.side.head;
        bell = share.side.bell;
        tail = share.side.tail;
        known_head = share.side.known_head;
      };
    }
