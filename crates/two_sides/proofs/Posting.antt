-- What the host posts.
use Rattle.machine_model.specs.After as a
use Rattle.machine_model.specs.Events as events
use Rattle.machine_model.specs.declared.words.HostState.TheVariants as states
use Rattle.std.proofs.Common.{◌≡◌, ℕ, zero, suc, ◌+◌, ◌*◌, ◌-◌, ◌^◌, ◌<◌, ◌≤◌, ◌==◌, ◌++◌, ◌∷◌, [], Bool, true, false, not, Option, Some, None, IfSome, is_none, List, length, map, slice_get, refl, ap, ap₂, sym, ◌∙◌, subst, arith, eqb-true, inl, inr}
use Rattle.std.proofs.lemmas.{Bool.{true≢false, not-false, and_parts, or_parts, OnTrue_at}, List.Folds.find_at, Option.slice_get_within}
use Rattle.std.specs.{List.position_or_len, Option.option_map_or}
use Rattle.machine_model.proofs.{Kept.service_is_reaped as served_reaped}
use Rattle.machine_model.proofs.{Moves.{IsOf, draft_found, draft_lives, queue_found, sent_record, io_queue, run_found}, Steps.{found, found_all, unrefused}}
use Rattle.machine_model.specs.{After.after, Agreeing.is_known_deleted, Always.IsProvided, Events.{Event, Reply}}
use Rattle.machine_model.specs.{Memory.{memory_of, with_pages}, Placement.first_of_run, Proper.IsProperDraft}
use Rattle.machine_model.specs.Refusals.{asks_for, has_cq, host_queue, in_service, in_state, is_drafted, is_live, is_submitted, queue_full, refusal_of, is_gone, is_half_made, is_making}
use Rattle.machine_model.specs.{State.{Controller, HostQueue, Record, State, is_at, pages_of, record_at, with_record}, Step.{HostPart, LeavesByHost, Permits}}
use Rattle.machine_model.specs.declared.words.{HostState.{HostState, TheVariants.{Deleting, MakingSq}}, Work.TheVariants.{Io}}
use Rattle.admin_commands.specs.{Entries.{admin_entry, named_by, qualified_by}, Verdicts.is_absent, declared.AdminKind.AdminKind}
use Rattle.admin_commands.specs.declared.AdminKind.TheVariants.{Abort, DeleteSq, DeleteCq, CreateCq, CreateSq}
use Rattle.controller_core.specs.{Contents.Contents, declared.queue.ControllerQueue.ControllerQueue}
use Rattle.entry_codec.specs.declared.submission.SubEntry.{SubEntry}
use Rattle.host_core.{proofs.{Ending.joined-pages, Lists.all-from, PageOwners.{pool-with, among-from}}, specs.Alone.{HostView, HostStep, alone, nothing}}
use Rattle.io_commands.specs.{Asked.Request, Drafts.DraftContents, Requests.is_admin}
use Rattle.two_sides.proofs.Assembling.{Ties, answer_as_machine}
use Rattle.two_sides.proofs.Frames.{Spares, SparesSubmitted, apart_from_commands, apart_from_queues, host_lists, host_stands, state_stands, free_apart_from_queues, controller_at, reaped_ring, first_of_half, known, there_ring}
use Rattle.two_sides.proofs.Granting.{granted_pool, granted_spares, granted_submitted, granted_whole, free, granted_zero, zeros_granted}
use Rattle.two_sides.proofs.Places.{known_live, known_absent, known_gone}
use Rattle.two_sides.proofs.Posted.{CanPost, post_queues, post_stands, post_walks, slot_written, tail_moved, with_entry, elsewhere, IsTyped, admin_typed, draft_typed}
use Rattle.two_sides.proofs.Served.{requests_same}
use Rattle.two_sides.specs.{Hearing.heard, Recovering.IsChecked}
use Rattle.two_sides.specs.Sides.{Sides, state_of, controller_part, served_queue_of, served_queues_of, job_of}
use Rattle.two_sides.specs.Ties.{AllQueuesStand, IsWorld, QueueStands, WalksStand, RingsStand, first_completion_page}
use Rattle.page_ledger.specs.Owners.{is_among, pages_from}
use Rattle.page_memory.specs.{Memory.Memory, Pages.{IsWhole, Pages, byte_at, page_at}, declared.page.Half.TheVariants.{Submission, Completion}}
use Rattle.queue_pair.specs.{Lists.PhasesStand, Members.change, Memory.half_pages, Rings.{next_tail, HostRing, fresh_host_ring}, Slots.is_full}
use Rattle.slot_table.proofs.Rows.{option_is}
use Rattle.page_memory.proofs.Lists.{found_is, all-found}
use Rattle.host_core.proofs.PageOwners.{with-other}

-- The host's calls that post an entry, where nothing was forged: the machine's lists follow, and the rings and the walks stand.

-- A live queue with room can be posted to

can_post : (s : Sides) (mid : Pages) (q : ℕ) (h : HostQueue) (entry : SubEntry) → IsWorld s → s.trusted ≡ true → slice_get s.host.host.queues q ≡ Some h → is_live h.state ≡ true
    → is_full s.host.entries h.ring.known_head h.ring.tail ≡ false → IsTyped entry → ((p : ℕ) → IsWhole mid p) → Spares s mid → (c : ControllerQueue) × CanPost s mid q h c entry
can_post s mid q h entry world t at live room is whole spares =
    let c = controller_at s world q h at in (
      c.0,
      record {
        world = world;
        trusted = t;
        at = at;
        beside = c.1;
        there = known_live s world t q h c.0 at c.1 live;
        room = room;
        is = is;
        whole = whole;
        spares = spares;
      },
    )

-- a queue that is not full is there
room_found : (s : State) (q : ℕ) → queue_full s q ≡ false → (h : HostQueue) × (host_queue s q ≡ Some h) × (is_full s.entries h.ring.known_head h.ring.tail ≡ false)
room_found s q free = elim (option_is (host_queue s q)) [
  | inl e ↦ let free = rw e at free in absurd (true≢false free)
  | inr (h, e) ↦ let free = rw e at free in (h, e, free)
]

-- What a posted entry leaves

-- of any state
after_posts : (q : ℕ) (entry : SubEntry) (h : HostQueue) (x : State) → host_queue x q ≡ Some h
    → a.posted q entry x ≡ a.on_ring q (next_tail x.entries) (a.on_served_queue q (with_entry entry) (a.on_memory (slot_written h entry) x))
after_posts q entry h x at = grind arith

-- A call leaves these queues of the host, and the entry posted over a memory.
record Posts (s : Sides) (e : Event) (reply : Reply) (q : ℕ) (h : HostQueue) (entry : SubEntry) (mid : Pages) (hs : List HostQueue) : Type 0 where
  queues : (after (alone s.host s.pages) e reply).host.queues ≡ hs
  memory : (after (alone s.host s.pages) e reply).memory ≡ slot_written h entry mid
  controller : (after (state_of s) e reply).controller ≡ record (controller_part s) { queues = change q (with_entry entry) (controller_part s).queues }

-- Other queues of the host, which show the machine the same over a memory, and stand where those do.
record StaysAlike (n : ℕ) (m : Memory) (cs : List ControllerQueue) (hs hs' : List HostQueue) : Type 0 where
  lists : served_queues_of m hs' cs ≡ served_queues_of m hs cs
  stands : AllQueuesStand n m zero hs cs → AllQueuesStand n m zero hs' cs

-- a call that posts an entry, of which the controller sees nothing
ties : (s : Sides) (e : Event) (reply : Reply) (host : HostView) (pages mid : Pages) (q : ℕ) (h : HostQueue) (c : ControllerQueue) (entry : SubEntry) (hs : List HostQueue)
    → CanPost s mid q h c entry → SparesSubmitted s mid → Permits (state_of s) e reply → heard e reply host s.controller ≡ s.controller
    → LeavesByHost (alone s.host s.pages) (after (alone s.host s.pages) e reply) (alone host pages)
    → Posts s e reply q h entry mid hs → StaysAlike s.host.entries (byte_at (slot_written h entry mid)) s.controller.queues (change q (tail_moved s.host.entries) s.host.host.queues) hs
    → Ties s e reply host pages
ties s e reply host pages mid q h c entry hs can spares permits unheard leaves posts stays =
    let shown : Pages → List HostQueue → Contents → Controller = λ ps xs k. record { queues = served_queues_of (byte_at ps) xs k.queues; jobs = map job_of k.commands; image = k.image } in
    let new : Pages = slot_written h entry mid in
    let queues : host.host.queues ≡ hs = ap (λ (part : HostPart). part.host.queues) leaves.part ∙ posts.queues in
    let memory : pages ≡ new = leaves.memory ∙ posts.memory in
    record {
      permits = permits;
      controller = ap (shown pages host.host.queues) unheard
          ∙ (ap₂ (λ (ps : Pages) (xs : List HostQueue). shown ps xs s.controller) memory queues
          ∙ (ap (λ qs. record (controller_part s) { queues = qs }) (stays.lists ∙ post_queues s mid q h c entry can) ∙ sym posts.controller));
      queues = subst (λ (k : Contents). AllQueuesStand s.host.entries (byte_at pages) zero host.host.queues k.queues) (sym unheard)
          (subst (λ (xs : List HostQueue). AllQueuesStand s.host.entries (byte_at pages) zero xs s.controller.queues) (sym queues)
          (subst (λ (ps : Pages). AllQueuesStand s.host.entries (byte_at ps) zero hs s.controller.queues) (sym memory) (stays.stands (post_stands s mid q h c entry can))));
      walks = subst (λ (ps : Pages). WalksStand (memory_of ps) s.controller.commands) (sym memory) (post_walks s mid q h c entry can spares);
    }

-- Identifiers are small

pub few_entries : (s : Sides) → IsWorld s → (q : ℕ) (h : HostQueue) → slice_get s.host.host.queues q ≡ Some h → s.host.entries ≤ 1024
few_entries s world q h at = grind arith

small_identifier : (s : Sides) → IsWorld s → (q cid : ℕ) (r : Record) → record_at s.host.host q cid ≡ Some r → cid < s.host.entries - 1
small_identifier s world q cid r found =
    let given = all-found (IsProvided s.host.entries s.host.segment) (is_at q cid) s.host.host.records r found world.sides.provided.commands in
    omega (arith, given.identifier, eqb-true r.cid cid (and_parts (r.q == q) (r.cid == cid) (found_is (is_at q cid) s.host.host.records r found)).1)

-- A draft is submitted

-- the memory with its pages
abbrev brought : Sides → DraftContents → Pages
brought s d = with_pages (d.data_pages ++ d.chain_pages) s.pages

brought_whole : (s : Sides) (d : DraftContents) → IsWorld s → IsProperDraft d → (p : ℕ) → IsWhole (brought s d) p
brought_whole s d world proper =
    (pool-with (d.data_pages ++ d.chain_pages) s.pages (all-from (λ (page : ℕ × List ℕ). length page.1 ≡ 4096) (d.data_pages ++ d.chain_pages)
    (joined-pages d.data_pages d.chain_pages proper.data_pages proper.chain_pages)) world.sides.over.pool).whole

module _ (s : Sides) (d : DraftContents) (r : Record) (world : IsWorld s) (is : IsOf (state_of s) is_drafted d.request d.q d.cid d.data_pages d.chain_pages r) where
  -- the index of its record
  abbrev place : ℕ
  place = position_or_len (is_at d.q d.cid) s.host.host.records

  stands : slice_get s.host.host.records place ≡ Some r
  stands = sym (find_at (is_at d.q d.cid) s.host.host.records) ∙ is.found

  -- other pages stay, so those of the halves and of submitted commands do
  other : (p : ℕ) → (is_among (pages_of r) p ≡ true → ⊥) → page_at (brought s d) p ≡ page_at s.pages p
  other p not_mine = with-other (d.data_pages ++ d.chain_pages) s.pages p (ap (λ (ps : List ℕ). is_among ps p) is.pages ∙ (grind arith))

  spares_halves : Spares s (brought s d)
  spares_halves q h at =
      record {
        submission = λ p among. other p (λ mine. true≢false (sym among ∙ (apart_from_queues s world q place h r p at stands mine).0));
        completion = λ p among. other p (λ mine. true≢false (sym among ∙ (apart_from_queues s world q place h r p at stands mine).1));
      }

  spares_walks : SparesSubmitted s (brought s d)
  spares_walks i k at submitted p among =
      other p (λ mine. true≢false (sym among ∙ apart_from_commands s world place i r k p stands at
      (λ same. let this : Some r ≡ Some k = sym stands ∙ ap (slice_get s.host.host.records) same ∙ at in
      let one : r ≡ k = cc in
      true≢false (sym submitted ∙ ap (λ (x : Record). is_submitted x.phase) (sym one) ∙ is.quiet)) mine))

-- what the call leaves
submitted_posts : (s : Sides) (d : DraftContents) (entry : SubEntry) (h : HostQueue) → d.entry ≡ Some entry → slice_get s.host.host.queues d.q ≡ Some h
    → Posts s (events.Submit d) events.Accepted d.q h entry (brought s d) (change d.q (tail_moved s.host.entries) s.host.host.queues)
submitted_posts s d entry h built at =
    let marked : State → State = λ x. a.on_records (with_record d.q d.cid a.submitted) (a.on_memory (with_pages (d.data_pages ++ d.chain_pages)) x) in
    let leaves : (x : State) → host_queue x d.q ≡ Some h → a.after_submit d x ≡ a.on_ring d.q (next_tail x.entries) (a.on_served_queue d.q (with_entry entry) (a.on_memory (slot_written h entry) (marked x))) = λ x at.
    ap (λ (o : Option SubEntry). option_map_or (λ e. a.posted d.q e (marked x)) o x) built ∙ after_posts d.q entry h (marked x) at in
    record {
      queues = ap (λ (x : State). x.host.queues) (leaves (alone s.host s.pages) at);
      memory = ap (λ (x : State). x.memory) (leaves (alone s.host s.pages) at);
      controller = ap (λ (x : State). x.controller) (leaves (state_of s) at);
    }

-- a draft of an outstanding command is no admin command's
draft_blocks : (s : Sides) (d : DraftContents) (r : Record) → IsWorld s → IsOf (state_of s) is_drafted d.request d.q d.cid d.data_pages d.chain_pages r → is_admin d.request.kind ≡ false
draft_blocks s d r world is =
    let work = is.asked.1 in
    let checked : IsChecked (Io is.asked.0) = subst IsChecked work (found_all (λ r. IsChecked r.work) (is_at d.q d.cid) s.host.host.records r is.found world.recovers.checked) in
    ap (λ (x : Request). is_admin x.kind) (requests_same d.request is.asked.0 (ap (asks_for d.request) (sym work) ∙ is.asks)) ∙ checked.2

pub submit_ties : (s : Sides) (d : DraftContents) (host : HostView) (pages : Pages) → IsWorld s → s.trusted ≡ true → HostStep s.host s.pages (events.Submit d) events.Accepted host pages
    → Ties s (events.Submit d) events.Accepted host pages
submit_ties s d host pages world t step =
    let none : refusal_of (state_of s) (events.Submit d) ≡ None = step.1.0 in
    elim (option_is d.entry) [
      | inl e ↦ absurd (true≢false (ap is_none (sym e) ∙ (unrefused (state_of s) (events.Submit d) none).1.0))
      | inr (entry, e) ↦
          let r = draft_found (state_of s) d none in
          let live = queue_found is_live (state_of s) d.q (draft_lives (state_of s) d none) in
          let h : HostQueue = live.0 in
          let small : d.cid < 2 ^ 16 = omega (arith, small_identifier s world d.q d.cid r.0 r.1.found, few_entries s world d.q h live.1) in
          let room : is_full s.host.entries h.ring.known_head h.ring.tail ≡ false =
          sym (ap (λ (o : Option HostQueue). option_map_or (λ x. is_full s.host.entries x.ring.known_head x.ring.tail) o true) live.1) ∙ (unrefused (state_of s) (events.Submit d) none).1.1.1.0 in
          let can = can_post s (brought s d) d.q h entry world t live.1 live.2 room (draft_typed d entry step.0 (draft_blocks s d r.0 world r.1) small e) (brought_whole s d world step.0) (spares_halves s d r.0 world r.1) in
          ties s (events.Submit d) events.Accepted host pages (brought s d) d.q h can.0 entry (change d.q (tail_moved s.host.entries) s.host.host.queues) can.1 (spares_walks s d r.0 world r.1)
          (answer_as_machine s (events.Submit d) events.Accepted host pages refl refl step) refl step.2 (submitted_posts s d entry h e live.1)
          (record { lists = refl; stands = λ stands. stands })
    ]

-- An admin command is sent

-- queue 0 is live
admin_live : (s : Sides) → IsWorld s → s.trusted ≡ true → (h : HostQueue) → slice_get s.host.host.queues 0 ≡ Some h → is_live h.state ≡ true
admin_live s world t h at = ap (λ (o : Option HostQueue). option_map_or (λ x. is_live x.state) o true) (sym at) ∙ (OnTrue_at t world.tied).agree.sound.admin

-- the call leaves what a sending does, and the queues of the host that it makes of those
sent_ties : (s : Sides) (e : Event) (kind : AdminKind) (id : ℕ) (host : HostView) (pages : Pages) (g : List HostQueue → List HostQueue) → IsWorld s → s.trusted ≡ true
    → queue_full (state_of s) 0 ≡ false → id < s.host.entries - 1 → named_by kind < 2 ^ 32 → qualified_by kind < 2 ^ 32
    → ((x : State) → after x e (events.Sent id) ≡ a.on_host (λ h. record h { queues = g h.queues }) (a.sent kind id (admin_entry kind id) x))
    → Permits (state_of s) e (events.Sent id) → heard e (events.Sent id) host s.controller ≡ s.controller
    → LeavesByHost (alone s.host s.pages) (after (alone s.host s.pages) e (events.Sent id)) (alone host pages)
    → ((m : Memory) → StaysAlike s.host.entries m s.controller.queues (change 0 (tail_moved s.host.entries) s.host.host.queues) (g (change 0 (tail_moved s.host.entries) s.host.host.queues)))
    → Ties s e (events.Sent id) host pages
sent_ties s e kind id host pages g world t free new named qualified is permits unheard leaves stays =
    let noted : State → State = λ x. a.on_records (λ records. records ++ sent_record kind id ∷ []) x in
    let posts : (h : HostQueue) (x : State) → host_queue x 0 ≡ Some h
    → a.sent kind id (admin_entry kind id) x ≡ a.on_ring 0 (next_tail x.entries) (a.on_served_queue 0 (with_entry (admin_entry kind id)) (a.on_memory (slot_written h (admin_entry kind id)) (noted x))) = λ h x at.
    after_posts 0 (admin_entry kind id) h (noted x) at in
    let room = room_found (state_of s) 0 free in
    let h : HostQueue = room.0 in
    let small : id < 2 ^ 16 = omega (arith, new, few_entries s world 0 h room.1) in
    let can = can_post s s.pages 0 h (admin_entry kind id) world t room.1 (admin_live s world t h room.1) room.2 (admin_typed kind id small named qualified) world.sides.over.pool.whole
    (λ q x at. record { submission = λ p among. refl; completion = λ p among. refl }) in
    ties s e (events.Sent id) host pages s.pages 0 h can.0 (admin_entry kind id) (g (change 0 (tail_moved s.host.entries) s.host.host.queues)) can.1 (λ i r at submitted p among. refl)
    permits unheard leaves
    (record {
      queues = ap (λ (x : State). x.host.queues) (is (alone s.host s.pages)) ∙ ap (λ (x : State). g x.host.queues) (posts h (alone s.host s.pages) room.1);
      memory = ap (λ (x : State). x.memory) (is (alone s.host s.pages)) ∙ ap (λ (x : State). x.memory) (posts h (alone s.host s.pages) room.1);
      controller = ap (λ (x : State). x.controller) (is (state_of s)) ∙ ap (λ (x : State). x.controller) (posts h (state_of s) room.1);
    })
    (stays (byte_at (slot_written h (admin_entry kind id) s.pages)))

-- queues are few
pub queue_below : (s : Sides) → IsWorld s → s.trusted ≡ true → (test : HostState → Bool) (q : ℕ) → in_state test (state_of s) q ≡ true → q < 65536
queue_below s world t test q there =
    let found = queue_found test (state_of s) q there in
    omega (arith, slice_get_within s.host.host.queues q found.0 found.1, (OnTrue_at t world.tied).agree.few_queues)

pub abort_ties : (s : Sides) (q cid id : ℕ) (host : HostView) (pages : Pages) → IsWorld s → s.trusted ≡ true → HostStep s.host s.pages (events.Abort q cid) (events.Sent id) host pages
    → Ties s (events.Abort q cid) (events.Sent id) host pages
abort_ties s q cid id host pages world t step =
    let causes = unrefused (state_of s) (events.Abort q cid) step.1.0 in
    let queue = queue_below s world t in_service q (not-false _ (or_parts (q == 0) (not (in_state in_service (state_of s) q)) causes.0).1) in
    let r = found (λ r. is_submitted r.phase) (state_of s) q cid (not-false _ causes.1.1.0) in
    let room = room_found (state_of s) 0 causes.1.1.1.1.0 in
    let named : q + 65536 * cid < 2 ^ 32 = omega (arith, queue, small_identifier s world q cid r.0 r.1, few_entries s world 0 room.0 room.1) in
    sent_ties s (events.Abort q cid) (Abort q cid) id host pages (λ hs. hs) world t causes.1.1.1.1.0 step.1.1.in_range named (omega arith) (λ x. refl)
    (answer_as_machine s (events.Abort q cid) (events.Sent id) host pages refl refl step) refl step.2
    (λ m. record { lists = refl; stands = λ stands. stands })

pub delete_cq_ties : (s : Sides) (q id : ℕ) (host : HostView) (pages : Pages) → IsWorld s → s.trusted ≡ true → HostStep s.host s.pages (events.DeleteCq q) (events.Sent id) host pages
    → Ties s (events.DeleteCq q) (events.Sent id) host pages
delete_cq_ties s q id host pages world t step =
    let causes = unrefused (state_of s) (events.DeleteCq q) step.1.0 in
    let queue = queue_below s world t has_cq q (not-false _ (or_parts (q == 0) (not (in_state has_cq (state_of s) q)) causes.0).1) in
    sent_ties s (events.DeleteCq q) (DeleteCq q) id host pages (λ hs. hs) world t causes.1.1.1.0 step.1.1.in_range (omega (arith, queue)) (omega arith) (λ x. refl)
    (answer_as_machine s (events.DeleteCq q) (events.Sent id) host pages refl refl step) refl step.2
    (λ m. record { lists = refl; stands = λ stands. stands })

-- the deletion of a submission queue is asked for: only the host's state of it changes

deleting_stands : (n : ℕ) (m : Memory) (q : ℕ) (h : HostQueue) (c : ControllerQueue) → in_service h.state ≡ true → QueueStands n m q h c → QueueStands n m q (a.deleting h) c
deleting_stands n m q h c serves stands =
    let has = reaped_ring h c (served_reaped h.state serves) in
    record {
      halves = record { submission = stands.halves.submission; completion = λ x. stands.halves.completion has };
      rings = λ x. state_stands m q h c (Deleting false) h.sq_pages h.cq_pages (stands.rings has) (λ e. absurd (true≢false e));
      granted = λ making absent. absurd (true≢false (sym making));
    }

-- a queue of an I/O number is as it was
past_first : (f : HostQueue → HostQueue) (q : ℕ) (hs : List HostQueue) → (q == 0) ≡ false → slice_get (change 0 f hs) q ≡ slice_get hs q
past_first f zero hs io = absurd (true≢false io)
past_first f (suc q) [] io = refl
past_first f (suc q) (h ∷ hs) io = refl

-- what holds of the queue that is found there
found_past_first : (P : HostQueue → Type 0) (f : HostQueue → HostQueue) (q : ℕ) (hs : List HostQueue) (h x : HostQueue) → (q == 0) ≡ false → slice_get hs q ≡ Some h → slice_get (change 0 f hs) q ≡ Some x → P h → P x
found_past_first P f q hs h x io at at' p =
    let same : Some h ≡ Some x = sym at ∙ sym (past_first f q hs io) ∙ at' in
    let one : h ≡ x = cc in
    subst P one p

pub delete_sq_ties : (s : Sides) (q id : ℕ) (host : HostView) (pages : Pages) → IsWorld s → s.trusted ≡ true → HostStep s.host s.pages (events.DeleteSq q) (events.Sent id) host pages
    → Ties s (events.DeleteSq q) (events.Sent id) host pages
delete_sq_ties s q id host pages world t step =
    let causes = unrefused (state_of s) (events.DeleteSq q) step.1.0 in
    let io = or_parts (q == 0) (not (in_state in_service (state_of s) q)) causes.0 in
    let queue = queue_found in_service (state_of s) q (not-false _ io.1) in
    let sent : List HostQueue = change 0 (tail_moved s.host.entries) s.host.host.queues in
    sent_ties s (events.DeleteSq q) (DeleteSq q) id host pages (change q a.deleting) world t causes.1.1.1.0 step.1.1.in_range (omega (arith, queue_below s world t in_service q (not-false _ io.1))) (omega arith) (λ x. refl)
    (answer_as_machine s (events.DeleteSq q) (events.Sent id) host pages refl refl step) refl step.2
    (λ m. record {
      lists = host_lists m q a.deleting sent s.controller.queues (λ h c at there. refl);
      stands = host_stands s.host.entries m q a.deleting sent s.controller.queues
          (λ h c at there stands. deleting_stands s.host.entries m q h c
          (found_past_first (λ (x : HostQueue). in_service x.state ≡ true) (tail_moved s.host.entries) q s.host.host.queues queue.0 h io.0 queue.1 at queue.2) stands);
    })

-- A queue gets a half

-- the halves of other queues are changed before or after
changed_past_first : (f g : HostQueue → HostQueue) (q : ℕ) (hs : List HostQueue) → (q == 0) ≡ false → change 0 f (change q g hs) ≡ change q g (change 0 f hs)
changed_past_first f g zero hs io = absurd (true≢false io)
changed_past_first f g (suc q) [] io = refl
changed_past_first f g (suc q) (h ∷ hs) io = refl

first_stays : (g : HostQueue → HostQueue) (q : ℕ) (hs : List HostQueue) → (q == 0) ≡ false → slice_get (change q g hs) 0 ≡ slice_get hs 0
first_stays g zero hs io = absurd (true≢false io)
first_stays g (suc q) [] io = refl
first_stays g (suc q) (h ∷ hs) io = refl

-- the state of either side, as the host has it
abbrev pub seen_by : Sides → Controller → Bool → State
seen_by s d b = record (state_of s) { controller = d; trusted = b }

-- what a queue with its new half is over a memory with an entry of queue 0 written, and with the half's pages as zeros
pub record IsMade (s : Sides) (m : Memory) (q : ℕ) (f : HostQueue → HostQueue) : Type 0 where
  pub lists : (h : HostQueue) (c : ControllerQueue) → slice_get s.host.host.queues q ≡ Some h → slice_get s.controller.queues q ≡ Some c → served_queue_of m (f h).ring c ≡ served_queue_of m h.ring c
  pub stands : (h : HostQueue) (c : ControllerQueue) → slice_get s.host.host.queues q ≡ Some h → slice_get s.controller.queues q ≡ Some c → QueueStands s.host.entries m q h c → QueueStands s.host.entries m q (f h) c

pub made_ties : (s : Sides) (e : Event) (kind : AdminKind) (id : ℕ) (host : HostView) (pages : Pages) (q count first : ℕ) (f : HostQueue → HostQueue) → (world : IsWorld s) → s.trusted ≡ true → (q == 0) ≡ false
    → (run : first_of_run s.host.host.free count ≡ Some first) → queue_full (state_of s) 0 ≡ false → id < s.host.entries - 1 → named_by kind < 2 ^ 32 → qualified_by kind < 2 ^ 32
    → ((d : Controller) (b : Bool) → after (seen_by s d b) e (events.Sent id) ≡ a.sent kind id (admin_entry kind id) (a.on_host_queue q f (a.half_granted (pages_from first count) (seen_by s d b))))
    → Permits (state_of s) e (events.Sent id) → heard e (events.Sent id) host s.controller ≡ s.controller
    → LeavesByHost (alone s.host s.pages) (after (alone s.host s.pages) e (events.Sent id)) (alone host pages)
    → ((h : HostQueue) (c : ControllerQueue) → CanPost s (granted_pool s world count first run) 0 h c (admin_entry kind id) → IsMade s (byte_at (slot_written h (admin_entry kind id) (granted_pool s world count first run))) q f)
    → Ties s e (events.Sent id) host pages
made_ties s e kind id host pages q count first f world t io run free new named qualified is permits unheard leaves made =
    let granted_to : Controller → Bool → State = λ d b. a.on_host_queue q f (a.half_granted (pages_from first count) (seen_by s d b)) in
    let noted : State → State = λ x. a.on_records (λ records. records ++ sent_record kind id ∷ []) x in
    let leaves_of : (h : HostQueue) → slice_get s.host.host.queues 0 ≡ Some h → (d : Controller) (b : Bool)
    → after (seen_by s d b) e (events.Sent id)
    ≡ a.on_ring 0 (next_tail s.host.entries) (a.on_served_queue 0 (with_entry (admin_entry kind id)) (a.on_memory (slot_written h (admin_entry kind id)) (noted (granted_to d b)))) = λ h at d b.
    is d b ∙ after_posts 0 (admin_entry kind id) h (noted (granted_to d b)) (first_stays f q s.host.host.queues io ∙ at) in
    let room = room_found (state_of s) 0 free in
    let h : HostQueue = room.0 in
    let entry : SubEntry = admin_entry kind id in
    let small : id < 2 ^ 16 = omega (arith, new, few_entries s world 0 h room.1) in
    let mid : Pages = granted_pool s world count first run in
    let sent : List HostQueue = change 0 (tail_moved s.host.entries) s.host.host.queues in
    let can = can_post s mid 0 h entry world t room.1 (admin_live s world t h room.1) room.2 (admin_typed kind id small named qualified) (granted_whole s world count first run) (granted_spares s world count first run) in
    let its = made h can.0 can.1 in
    ties s e (events.Sent id) host pages mid 0 h can.0 entry (change q f sent) can.1 (granted_submitted s world count first run) permits unheard leaves
    (record {
      queues = ap (λ (x : State). x.host.queues) (leaves_of h room.1 nothing false) ∙ changed_past_first (tail_moved s.host.entries) f q s.host.host.queues io;
      memory = ap (λ (x : State). x.memory) (leaves_of h room.1 nothing false);
      controller = ap (λ (x : State). x.controller) (leaves_of h room.1 (controller_part s) s.trusted);
    })
    (record {
      lists = host_lists (byte_at (slot_written h entry mid)) q f sent s.controller.queues
          (λ x c at there. its.lists x c (sym (past_first (tail_moved s.host.entries) q s.host.host.queues io) ∙ at) there);
      stands = host_stands s.host.entries (byte_at (slot_written h entry mid)) q f sent s.controller.queues
          (λ x c at there. its.stands x c (sym (past_first (tail_moved s.host.entries) q s.host.host.queues io) ∙ at) there);
    })

-- A queue is made again: the host grants it a half, and posts the command that makes it.

-- States

half_known : (st : HostState) → is_half_made st ≡ true → (is_known_deleted st ≡ true) × (is_making st ≡ true) × (in_service st ≡ false)
half_known states.HalfMade e = (refl, refl, refl)
half_known st e = absurd (true≢false (sym e))

-- the queue of a number is the one that was found
found_here : (P : HostQueue → Type 0) (hs : List HostQueue) (q : ℕ) (h x : HostQueue) → slice_get hs q ≡ Some h → slice_get hs q ≡ Some x → P h → P x
found_here P hs q h x at at' p = let same : h ≡ x = cc (at, at') in subst P same p

-- The completion half

-- a queue of which the controller has neither half shows the machine the same, whatever the host's positions are
absent_alike : (m : Memory) (r r' : HostRing) (c : ControllerQueue) → is_absent c.state ≡ true → c.cq_there ≡ false → served_queue_of m r c ≡ served_queue_of m r' c
absent_alike m r r' c absent gone = rw (absent, gone) refl

-- no slot of the new half is new, once the entry is posted
half_is_granted : (s : Sides) (world : IsWorld s) (first : ℕ) (run : first_of_run s.host.host.free (half_pages s.host.entries Completion) ≡ Some first) (entry : SubEntry) (h x : HostQueue) (c : ControllerQueue)
    → CanPost s (granted_pool s world (half_pages s.host.entries Completion) first run) 0 h c entry → 0 < s.host.entries
    → PhasesStand (byte_at (slot_written h entry (granted_pool s world (half_pages s.host.entries Completion) first run)))
    (first_completion_page (a.making_cq (pages_from first (half_pages s.host.entries Completion)) x)) s.host.entries 0 true
half_is_granted s world first run entry h x c can some =
    let n = s.host.entries in
    let count = half_pages n Completion in
    let mid = granted_pool s world count first run in
    subst (λ (p : ℕ). PhasesStand (byte_at (slot_written h entry mid)) p n 0 true) (sym (first_of_half n first (a.making_cq (pages_from first count) x) some refl))
    (zeros_granted (slot_written h entry mid) n first
    (λ k l. elsewhere s mid 0 h c entry can (first + k) (free_apart_from_queues s world 0 h (first + k) can.at (free s world count first run (first + k) (among-from first count k l))).0
    ∙ granted_zero s world count first run k l))

-- the Dword of interrupts on a vector of 16 bits is one
vector_fits : (q n base : ℕ) (vector : Option ℕ) → IfSome vector (λ v. v < 2 ^ 16) → qualified_by (CreateCq q n base vector) < 2 ^ 32
vector_fits q n base None fits = omega arith
vector_fits q n base (Some v) fits = omega (arith, fits)

pub create_cq_ties : (s : Sides) (q : ℕ) (vector : Option ℕ) (id : ℕ) (host : HostView) (pages : Pages) → IsWorld s → s.trusted ≡ true → HostStep s.host s.pages (events.CreateCq q vector) (events.Sent id) host pages
    → Ties s (events.CreateCq q vector) (events.Sent id) host pages
create_cq_ties s q vector id host pages world t step =
    let sends : Controller → Bool → List ℕ → State = λ d b ps.
    a.sent (CreateCq q s.host.entries (a.base_of ps) vector) id (admin_entry (CreateCq q s.host.entries (a.base_of ps) vector) id) (a.on_host_queue q (a.making_cq ps) (a.half_granted ps (seen_by s d b))) in
    let is_gone_here : ((x : HostQueue) × (slice_get s.host.host.queues q ≡ Some x) × (is_gone x.state ≡ true)) → (x : HostQueue) → slice_get s.host.host.queues q ≡ Some x → is_gone x.state ≡ true = λ its x at.
    found_here (λ y. is_gone y.state ≡ true) s.host.host.queues q its.0 x its.1 at its.2 in
    let causes = unrefused (state_of s) (events.CreateCq q vector) step.1.0 in
    let io = io_queue (state_of s) q causes.0 in
    let its = queue_found is_gone (state_of s) q (not-false _ causes.1.0) in
    let run = run_found (state_of s) Completion causes.1.1.1.1.0 in
    let n = s.host.entries in
    let half : List ℕ = pages_from run.0 (half_pages n Completion) in
    let kind : AdminKind = CreateCq q n (a.base_of half) vector in
    let few = few_entries s world q its.0 its.1 in
    let below = queue_below s world t is_gone q (not-false _ causes.1.0) in
    made_ties s (events.CreateCq q vector) kind id host pages q (half_pages n Completion) run.0 (a.making_cq half) world t io run.1 causes.1.1.1.1.1.0 step.1.1.in_range (omega (arith, below, few)) (vector_fits q n (a.base_of half) vector step.0)
    (λ d b. ap (λ (o : Option ℕ). sends d b (option_map_or (λ first. pages_from first (half_pages n Completion)) o [])) run.1)
    (answer_as_machine s (events.CreateCq q vector) (events.Sent id) host pages refl refl step) refl step.2
    (λ h c can. record {
      lists = λ x y at there. let gone = is_gone_here its x at in
          absent_alike (byte_at (slot_written h (admin_entry kind id) (granted_pool s world (half_pages n Completion) run.0 run.1))) fresh_host_ring x.ring y
          (known_absent s world t q x y at there (grind arith)) (known_gone s world t q x y at there gone);
      stands = λ x y at there stands.
          let none = known_gone s world t q x y at there (is_gone_here its x at) in
          record {
            halves = record { submission = λ e. absurd (true≢false (sym (known_absent s world t q x y at there (grind arith)) ∙ e)); completion = λ e. absurd (true≢false (sym e ∙ none)) };
            rings = λ e. absurd (true≢false (sym e ∙ none));
            granted = λ making e. half_is_granted s world run.0 run.1 (admin_entry kind id) h x c can (omega (arith, step.1.1.in_range));
          };
    })

-- The submission half

-- the rings of a half made queue are as they open, and its submission queue is absent
half_gets_submission : (s : Sides) → IsWorld s → s.trusted ≡ true → (m : Memory) (q : ℕ) (h : HostQueue) (c : ControllerQueue) (half : List ℕ) → slice_get s.host.host.queues q ≡ Some h → slice_get s.controller.queues q ≡ Some c
    → is_half_made h.state ≡ true → h.ring ≡ fresh_host_ring → QueueStands s.host.entries m q h c → QueueStands s.host.entries m q (a.making_sq half h) c
half_gets_submission s world t m q h c half at there made fresh stands =
    record {
      halves = record {
        submission = λ e. absurd (true≢false (sym (known_absent s world t q h c at there (half_known h.state made).0) ∙ e));
        completion = λ e. stands.halves.completion (there_ring h c e);
      };
      rings = λ e. subst (λ (r : HostRing). RingsStand m q (record h { state = MakingSq; ring = r; sq_pages = half }) c) fresh
          (state_stands m q h c MakingSq half h.cq_pages (stands.rings (there_ring h c e)) (λ x. (stands.rings (there_ring h c e)).drained (half_known h.state made).2));
      granted = λ making e. absurd (true≢false (sym making));
    }

pub create_sq_ties : (s : Sides) (q id : ℕ) (host : HostView) (pages : Pages) → IsWorld s → s.trusted ≡ true → HostStep s.host s.pages (events.CreateSq q) (events.Sent id) host pages
    → Ties s (events.CreateSq q) (events.Sent id) host pages
create_sq_ties s q id host pages world t step =
    let sends : Controller → Bool → List ℕ → State = λ d b ps.
    a.sent (CreateSq q s.host.entries (a.base_of ps)) id (admin_entry (CreateSq q s.host.entries (a.base_of ps)) id) (a.on_host_queue q (a.making_sq ps) (a.half_granted ps (seen_by s d b))) in
    let here : ((x : HostQueue) × (slice_get s.host.host.queues q ≡ Some x) × (is_half_made x.state ≡ true)) → (x : HostQueue) → slice_get s.host.host.queues q ≡ Some x → is_half_made x.state ≡ true = λ its x at.
    found_here (λ y. is_half_made y.state ≡ true) s.host.host.queues q its.0 x its.1 at its.2 in
    let fresh : ((x : HostQueue) × (slice_get s.host.host.queues q ≡ Some x) × (is_half_made x.state ≡ true)) → (x : HostQueue) (y : ControllerQueue) → slice_get s.host.host.queues q ≡ Some x → slice_get s.controller.queues q ≡ Some y → x.ring ≡ fresh_host_ring = λ its x y at there.
    (known s world t q x y at there).fits.fresh (half_known x.state (here its x at)).1 in
    let causes = unrefused (state_of s) (events.CreateSq q) step.1.0 in
    let io = io_queue (state_of s) q causes.0 in
    let is = not-false _ (or_parts (not (in_state is_half_made (state_of s) q)) _ causes.1.0).0 in
    let its = queue_found is_half_made (state_of s) q is in
    let run = run_found (state_of s) Submission causes.1.1.1.0 in
    let n = s.host.entries in
    let half : List ℕ = pages_from run.0 (half_pages n Submission) in
    let kind : AdminKind = CreateSq q n (a.base_of half) in
    let few = few_entries s world q its.0 its.1 in
    let below = queue_below s world t is_half_made q is in
    made_ties s (events.CreateSq q) kind id host pages q (half_pages n Submission) run.0 (a.making_sq half) world t io run.1 causes.1.1.1.1.0 step.1.1.in_range (omega (arith, below, few)) (omega (arith, below))
    (λ d b. ap (λ (o : Option ℕ). sends d b (option_map_or (λ first. pages_from first (half_pages n Submission)) o [])) run.1)
    (answer_as_machine s (events.CreateSq q) (events.Sent id) host pages refl refl step) refl step.2
    (λ h c can.
    let m = byte_at (slot_written h (admin_entry kind id) (granted_pool s world (half_pages n Submission) run.0 run.1)) in
    record {
      lists = λ x y at there. ap (λ (r : HostRing). served_queue_of m r y) (sym (fresh its x y at there));
      stands = λ x y at there stands. half_gets_submission s world t m q x y half at there (here its x at) (fresh its x y at there) stands;
    })
