-- The host's calls are steps of the machine.
use Rattle.controller_core.specs.Doorbells as controller
use Rattle.machine_model.specs.After as a
use Rattle.machine_model.specs.Events as events
use Rattle.machine_model.specs.declared.words.Reaped.TheVariants as found
use Rattle.machine_model.specs.declared.words.Refusal.TheVariants as refusal
use Rattle.std.proofs.Common.{◌≡◌, ℕ, zero, suc, ◌<◌, Bool, true, false, Option, Some, None, List, [], ◌∷◌, slice_get, if◌then◌else◌, refl, ap, sym, ◌∙◌, subst, arith, inl, inr, not, is_some, map}
use Rattle.std.{proofs.lemmas.{Bool.{OnTrue_at, not-false, cases_eq, true≢false}, Option.slice_get_within}, specs.Option.{option_map_or, option_map}}
use Rattle.machine_model.proofs.Kept.{asked_as_heard, making_cq_as_heard, making_sq_as_heard, ring_at, service_is_reaped as served_reaped, deleted_serves}
use Rattle.machine_model.proofs.{Moves.{HostMoves, IsHeard, heard_without, host_moves, named, queue_found}, Owned.HoldsPart}
use Rattle.machine_model.{proofs.Steps.{first_fails, Accepts, unrefused}, specs.After.{after, after_reap, after_retire}}
use Rattle.machine_model.specs.{Agreeing.{has_completions_at, is_known_deleted}, Events.{Event, Reply}}
use Rattle.machine_model.specs.Refusals.{in_service, is_reaped, refusal_of, seen_entry, in_state, is_deleted}
use Rattle.machine_model.specs.{State.{State, HostQueue, Record, with_record, Controller}, Step.{host_part, reaped, reaped_entry, Permits}}
use Rattle.machine_model.specs.declared.words.{HostState.{HostState, TheVariants.{Live, Deleting}}, Reaped.Reaped, Refusal.Refusal, RejectedFor.RejectedFor}
use Rattle.machine_model.specs.{declared.words.Work.TheVariants.Management, Memory.memory_of}
use Rattle.admin_commands.specs.{Verdicts.is_absent, declared.AdminKind.TheVariants.{DeleteSq, DeleteCq, CreateCq, CreateSq, Abort}}
use Rattle.controller_core.specs.{Contents.Contents, declared.queue.ControllerQueue.ControllerQueue}
use Rattle.entry_codec.specs.{Status.is_success, declared.{completion.ComEntry.ComEntry, status.Status.Status}}
use Rattle.host_core.specs.{Alone.{HostView, HostStep, alone}, Ringing.{head_of, head_rung}}
use Rattle.two_sides.proofs.{Agreed.stood_of, CompletionPosts.{Follows, IsTaken, completion_follows, known_follows, sees, taken, takes}}
use Rattle.two_sides.proofs.Assembling.{Ties, host_refused, host_stepped, into, refuses, refuse_as_machine, cancel_ties, collect_ties, release_ties, reserve_ties, ring_ties, left_bare}
use Rattle.two_sides.proofs.{Frames.{host_stands, known, IsKnown, reaped_ring}, Blind.bare}
use Rattle.two_sides.proofs.Places.{comes_live, frees_half, makes_half, still_serves, unmakes_half, retires_half, seen_alike, told, first_completion_there, completions_seen, has_completion, seen_first, absent_is, carried, completions_is, freed_not_there, made_there, unmade_absent, unmade_not_there, known_absent}
use Rattle.two_sides.proofs.{Posting.{create_cq_ties, create_sq_ties, abort_ties, delete_cq_ties, delete_sq_ties, submit_ties}, Shared.never_alone}
use Rattle.two_sides.specs.{Hearing.heard, Laws.behind, Sides.{Sides, state_of, controller_part, served_queue_of, served_queues_of}, Stepping.{StepsTo, hosts_step}}
use Rattle.two_sides.specs.Ties.{AllQueuesStand, AreTied, IsWorld, QueueStands, has_ring, WalksStand}
use Rattle.page_memory.specs.{Pages.{Pages, byte_at}, Memory.Memory}
use Rattle.queue_pair.specs.{Members.change, Rings.{hearing_head, knowing, next_head}, Slots.{is_in_range, next_slot}}
use Rattle.controller_walk.specs.Units.{first_passing}
use Rattle.slot_table.proofs.Rows.{option_is}

abbrev pub view : State → HostView
view n = record { entries = n.entries; segment = n.segment; host = n.host }

-- What is left, by the machine's host and memory

record Leads (s : Sides) (e : Event) (reply : Reply) (host : HostView) (pages : Pages) (left : Controller) : Type 0 where
  pub controller : controller_part (behind s e reply host pages) ≡ left
  pub queues : AllQueuesStand s.host.entries (byte_at pages) zero host.host.queues (heard e reply host s.controller).queues
  pub walks : WalksStand (memory_of pages) s.controller.commands

leads_to_ties : (s : Sides) (e : Event) (reply : Reply) (host : HostView) (pages : Pages) (n : State) → Permits (state_of s) e reply → alone host pages ≡ bare n → n ≡ after (state_of s) e reply
    → Leads s e reply (view n) n.memory n.controller → Ties s e reply host pages
leads_to_ties s e reply host pages n permits same is leads =
    let here : Leads s e reply host pages n.controller = subst (λ (x : State). Leads s e reply (view x) x.memory n.controller) (sym same) leads in
    record { permits = permits; controller = here.controller ∙ ap (λ (x : State). x.controller) is; queues = here.queues; walks = here.walks }

-- A queue in another state: the machine's queues are the same

rings_kept : (m : Memory) (k : ℕ) (f : HostQueue → HostQueue) (hs : List HostQueue) (cs : List ControllerQueue) → ((h : HostQueue) → (f h).ring ≡ h.ring) → served_queues_of m (change k f hs) cs ≡ served_queues_of m hs cs
rings_kept m zero f (h ∷ hs) (c ∷ cs) same = ap (λ ring. served_queue_of m ring c ∷ served_queues_of m hs cs) (same h)
rings_kept m (suc k) f (h ∷ hs) (c ∷ cs) same = ap (λ queues. served_queue_of m h.ring c ∷ queues) (rings_kept m k f hs cs same)
rings_kept m k f x cs same = refl

head_kept : (k q : ℕ) (f : HostQueue → HostQueue) (hs : List HostQueue) → ((h : HostQueue) → (f h).ring ≡ h.ring)
    → option_map (λ h. h.ring.head) (slice_get (change k f hs) q) ≡ option_map (λ h. h.ring.head) (slice_get hs q)
head_kept k q f [] same = refl
head_kept zero zero f (h ∷ hs) same = ap (λ ring. Some ring.head) (same h)
head_kept zero (suc q) f (h ∷ hs) same = refl
head_kept (suc k) zero f (h ∷ hs) same = refl
head_kept (suc k) (suc q) f (h ∷ hs) same = head_kept k q f hs same

-- A reap: its answer is the machine's, and the completion that it takes is gone on both sides.

-- What is reaped

-- the queue of a reap that is not refused
reaped_queue : (s : Sides) (q : ℕ) → refusal_of (state_of s) (events.Reap q) ≡ None → (h : HostQueue) × (slice_get s.host.host.queues q ≡ Some h) × (is_reaped h.state ≡ true)
reaped_queue s q none = queue_found is_reaped (state_of s) q (not-false _ (first_fails _ refusal.NoQueue [] none))

reaped_told : (s : State) (q : ℕ) (o : Option ComEntry) → option_map_or (reaped_entry s q) o found.Empty ≡ option_map_or (reaped_entry s q) (told o) found.Empty
reaped_told s q o = grind arith

reaped_alike : (s : Sides) (q : ℕ) → told (seen_entry (alone s.host s.pages) q) ≡ told (seen_entry (state_of s) q) → reaped (alone s.host s.pages) q ≡ reaped (state_of s) q
reaped_alike s q alike = grind arith

-- What the controller sees

rung : (what : Reaped) (q : ℕ) (host : HostView) → (what ≡ found.Empty → ⊥) → head_rung host q what ≡ head_of host q
rung what q host some = grind arith

reap_leads : (s : Sides) → AreTied s → (q v : ℕ) (what : Reaped) (host : HostView) → (what ≡ found.Empty → ⊥) → IsTaken s q v host.host.queues
    → Leads s (events.Reap q) (events.Reaps what) host s.pages (a.consumed q (state_of s)).controller
reap_leads s tied q v what host some t =
    let hears : heard (events.Reap q) (events.Reaps what) host s.controller ≡ controller.head_rung q v s.controller =
    ap (λ (o : Option ℕ). option_map_or (λ head. controller.head_rung q head s.controller) o s.controller) (rung what q host some ∙ t.head) in
    record {
      controller = ap (λ (c : Contents). controller_part (record s { host = host; controller = c })) hears ∙ ap (λ queues. record (controller_part s) { queues = queues }) t.controller;
      queues = subst (λ (c : Contents). AllQueuesStand s.host.entries (byte_at s.pages) 0 host.host.queues c.queues) (sym hears) t.queues;
      walks = tied.walks;
    }

-- The queues after it

change_twice : {A : Type 0} (f g : A → A) (q : ℕ) (xs : List A) → change q f (change q g xs) ≡ change q (λ x. f (g x)) xs
change_twice f g q [] = refl
change_twice f g zero (x ∷ xs) = refl
change_twice {A = A} f g (suc q) (x ∷ xs) = ap (λ (l : List A). x ∷ l) (change_twice f g q xs)

-- a queue's state is changed too
restated : (s : Sides) (q v k : ℕ) (f : HostQueue → HostQueue) (hs : List HostQueue) → ((h : HostQueue) → (f h).ring ≡ h.ring)
    → ((h : HostQueue) (c : ControllerQueue) → slice_get hs k ≡ Some h → slice_get (change q (controller.with_head v) s.controller.queues) k ≡ Some c
    → QueueStands s.host.entries (byte_at s.pages) k h c → QueueStands s.host.entries (byte_at s.pages) k (f h) c)
    → IsTaken s q v hs → IsTaken s q v (change k f hs)
restated s q v k f hs same here t =
    record {
      controller = rings_kept (byte_at s.pages) k f hs (change q (controller.with_head v) s.controller.queues) same ∙ t.controller;
      queues = host_stands s.host.entries (byte_at s.pages) k f hs (change q (controller.with_head v) s.controller.queues) here t.queues;
      head = head_kept k q f hs same ∙ t.head;
    }

-- the completion that is reaped
hears : (s : Sides) → IsWorld s → AreTied s → s.trusted ≡ true → (q : ℕ) (e : ComEntry) → refusal_of (state_of s) (events.Reap q) ≡ None → seen_entry (state_of s) q ≡ Some e
    → (v : ℕ) × IsTaken s q v (a.heard q e (state_of s)).host.queues
hears s world tied t q e none seen =
    let h = reaped_queue s q none in
    let x = sees s world t q h.0 e h.1 h.2 seen in
    let n : ℕ = s.host.entries in (
      next_slot n h.0.ring.head,
      subst (λ (hs : List HostQueue). IsTaken s q (next_slot n h.0.ring.head) hs)
          (sym (change_twice (λ (queue : HostQueue). record queue { ring = knowing e.sqhd queue.ring }) (λ (queue : HostQueue). record queue { ring = next_head n queue.ring }) q s.host.host.queues))
          (takes s world tied q e.sqhd h.0 x.0 (taken n e.sqhd) x.1 (subst (λ (head : ℕ). Follows h.0 x.0 (byte_at s.pages) head) x.2 (completion_follows s q h.0 x.0 x.1)) refl),
    )

-- a rejected one is consumed
consumes : (s : Sides) → IsWorld s → AreTied s → s.trusted ≡ true → (q : ℕ) (why : RejectedFor) → refusal_of (state_of s) (events.Reap q) ≡ None → found.Rejected why ≡ reaped (state_of s) q
    → (v : ℕ) × IsTaken s q v (a.consumed q (state_of s)).host.queues
consumes s world tied t q why none is = elim (option_is (seen_entry (state_of s) q)) [
  | inl seen ↦ let is = rw seen at is in absurd cc
  | inr (e, seen) ↦
      let h = reaped_queue s q none in
      let x = sees s world t q h.0 e h.1 h.2 seen in
      let n : ℕ = s.host.entries in
      (next_slot n h.0.ring.head, takes s world tied q h.0.ring.known_head h.0 x.0 (λ queue. record queue { ring = next_head n queue.ring }) x.1 (known_follows s q h.0 x.0 x.1) refl)
]

-- What a completion that is reaped tells of the queues after it

-- a queue after it, as it was before
record Was (s : Sides) (k : ℕ) (h : HostQueue) (c : ControllerQueue) : Type 0 where
  host : HostQueue
  at : slice_get s.host.host.queues k ≡ Some host
  queue : ControllerQueue
  there : slice_get s.controller.queues k ≡ Some queue
  state : c.state ≡ queue.state
  completions : c.cq_there ≡ queue.cq_there

head_keeps : (v : ℕ) (c : ControllerQueue) → ((controller.with_head v c).state ≡ c.state) × ((controller.with_head v c).cq_there ≡ c.cq_there)
head_keeps v c = by_range (is_in_range c.controller.entries c.controller.ring.known_head c.controller.ring.tail v)
  where
    by_range : (b : Bool) → (let d : ControllerQueue = (if b then controller.with_side (record c.controller { ring = hearing_head v c.controller.ring }) c else c) in (d.state ≡ c.state) × (d.cq_there ≡ c.cq_there))
    by_range true = (refl, refl)
    by_range false = (refl, refl)

head_at : (q k v : ℕ) (cs : List ControllerQueue) (c : ControllerQueue) → slice_get (change q (controller.with_head v) cs) k ≡ Some c
    → (d : ControllerQueue) × (slice_get cs k ≡ Some d) × (c.state ≡ d.state) × (c.cq_there ≡ d.cq_there)
head_at q k v [] c e = absurd cc
head_at zero zero v (x ∷ cs) c e =
    let same : controller.with_head v x ≡ c = cc in
    let keeps = head_keeps v x in
    (x, refl, ap (λ (z : ControllerQueue). z.state) (sym same) ∙ keeps.0, ap (λ (z : ControllerQueue). z.cq_there) (sym same) ∙ keeps.1)
head_at zero (suc k) v (x ∷ cs) c e = (c, e, refl, refl)
head_at (suc q) zero v (x ∷ cs) c e = (c, e, refl, refl)
head_at (suc q) (suc k) v (x ∷ cs) c e = head_at q k v cs c e

was : (s : Sides) (q v k : ℕ) (e : ComEntry) (h : HostQueue) (c : ControllerQueue) → slice_get (a.heard q e (state_of s)).host.queues k ≡ Some h → slice_get (change q (controller.with_head v) s.controller.queues) k ≡ Some c → Was s k h c
was s q v k e h c at there =
    let known = ring_at q k (knowing e.sqhd) (a.consumed q (state_of s)).host.queues h at in
    let next = ring_at q k (next_head s.host.entries) s.host.host.queues known.0 known.1 in
    let d = head_at q k v s.controller.queues c there in
    record { host = next.0; at = next.1; queue = d.0; there = d.1; state = d.2; completions = d.3 }

module _ (s : Sides) (world : IsWorld s) (tied : AreTied s) (t : s.trusted ≡ true) (q v k cid : ℕ) (st : Status) (e : ComEntry) (r : Record) (heard : IsHeard (state_of s) q cid st e r) where
  holds : HoldsPart (host_part (state_of s))
  holds = (stood_of (state_of s) tied.agree).grounds.stands.0

  few : (h : HostQueue) (c : ControllerQueue) → Was s k h c → k < 65536
  few h c w = omega (arith, slice_get_within s.host.host.queues k w.host w.at, tied.agree.few_queues)

  none_there : (h : HostQueue) (c : ControllerQueue) → (x : Was s k h c) → has_completions_at (state_of s).controller.queues k ≡ false → c.cq_there ≡ false
  none_there h c x none = x.completions ∙ completions_is s k x.host x.queue false x.at x.there none

  -- a queue whose deletion the host is told of is in service, and stays so
  noted : r.work ≡ Management (DeleteSq k) → (h : HostQueue) (c : ControllerQueue) → slice_get (a.heard q e (state_of s)).host.queues k ≡ Some h
      → QueueStands s.host.entries (byte_at s.pages) k h c → QueueStands s.host.entries (byte_at s.pages) k (record h { state = if is_success st then Deleting true else Live }) c
  noted w h c at stands = by_success (is_success st)
    where
      served : in_service h.state ≡ true
      served = ap in_service (asked_as_heard (state_of s) q cid st e r k holds heard w h at)

      by_success : (b : Bool) → QueueStands s.host.entries (byte_at s.pages) k (record h { state = if b then Deleting true else Live }) c
      by_success true = still_serves s.host.entries (byte_at s.pages) k h c (Deleting true) served refl refl stands
      by_success false = still_serves s.host.entries (byte_at s.pages) k h c Live served refl refl stands

  -- a completion half is given back that was deleted, or that was not made
  freed : r.work ≡ Management (DeleteCq k) → is_success st ≡ true → (h : HostQueue) (c : ControllerQueue) → slice_get (a.heard q e (state_of s)).host.queues k ≡ Some h
      → slice_get (change q (controller.with_head v) s.controller.queues) k ≡ Some c → QueueStands s.host.entries (byte_at s.pages) k h c → QueueStands s.host.entries (byte_at s.pages) k (a.gone h) c
  freed w good h c at there stands =
      let x = was s q v k e h c at there in
      frees_half s.host.entries (byte_at s.pages) k h c
      (none_there h c x (freed_not_there (state_of s) k (is_success st) tied.agree (few h c x) good (carried (state_of s) q cid st e r (DeleteCq k) t tied.agree heard w))) stands

  unmade_cq : (n base : ℕ) (vector : Option ℕ) → r.work ≡ Management (CreateCq k n base vector) → is_success st ≡ false → (h : HostQueue) (c : ControllerQueue) → slice_get (a.heard q e (state_of s)).host.queues k ≡ Some h
      → slice_get (change q (controller.with_head v) s.controller.queues) k ≡ Some c → QueueStands s.host.entries (byte_at s.pages) k h c → QueueStands s.host.entries (byte_at s.pages) k (a.gone h) c
  unmade_cq n base vector w bad h c at there stands =
      let x = was s q v k e h c at there in
      frees_half s.host.entries (byte_at s.pages) k h c
      (none_there h c x (unmade_not_there (state_of s) k n base vector (is_success st) tied.agree (few h c x) bad (carried (state_of s) q cid st e r (CreateCq k n base vector) t tied.agree heard w))) stands

  -- a completion queue is made
  made_cq : (n base : ℕ) (vector : Option ℕ) → r.work ≡ Management (CreateCq k n base vector) → (h : HostQueue) (c : ControllerQueue) → slice_get (a.heard q e (state_of s)).host.queues k ≡ Some h
      → QueueStands s.host.entries (byte_at s.pages) k h c → QueueStands s.host.entries (byte_at s.pages) k (a.half_made h) c
  made_cq n base vector w h c at stands =
      makes_half s.host.entries (byte_at s.pages) k h c (ap in_service (making_cq_as_heard (state_of s) q cid st e r k n base vector holds heard w h at)) stands

  -- a submission queue is made, or not
  made_sq : (n base : ℕ) → r.work ≡ Management (CreateSq k n base) → is_success st ≡ true → (h : HostQueue) (c : ControllerQueue) → slice_get (a.heard q e (state_of s)).host.queues k ≡ Some h
      → slice_get (change q (controller.with_head v) s.controller.queues) k ≡ Some c → QueueStands s.host.entries (byte_at s.pages) k h c → QueueStands s.host.entries (byte_at s.pages) k (a.live h) c
  made_sq n base w good h c at there stands =
      let x = was s q v k e h c at there in
      let present = made_there (state_of s) k n base (is_success st) tied.agree (slice_get_within s.host.host.queues k x.host x.at) good (carried (state_of s) q cid st e r (CreateSq k n base) t tied.agree heard w) in
      comes_live s.host.entries (byte_at s.pages) k h c (x.completions ∙ (known s world t k x.host x.queue x.at x.there).fits.half (absent_is s k x.host x.queue false x.at x.there present)) stands

  unmade_sq : (n base : ℕ) → r.work ≡ Management (CreateSq k n base) → is_success st ≡ false → (h : HostQueue) (c : ControllerQueue) → slice_get (a.heard q e (state_of s)).host.queues k ≡ Some h
      → slice_get (change q (controller.with_head v) s.controller.queues) k ≡ Some c → QueueStands s.host.entries (byte_at s.pages) k h c → QueueStands s.host.entries (byte_at s.pages) k (a.unmade_sq h) c
  unmade_sq n base w bad h c at there stands =
      let x = was s q v k e h c at there in
      let gone = unmade_absent (state_of s) k n base (is_success st) tied.agree (few h c x) bad (carried (state_of s) q cid st e r (CreateSq k n base) t tied.agree heard w) in
      unmakes_half s.host.entries (byte_at s.pages) k h c (ap in_service (making_sq_as_heard (state_of s) q cid st e r k n base holds heard w h at))
      (ap is_absent x.state ∙ absent_is s k x.host x.queue true x.at x.there gone) stands

-- Every answer of a reap

abbrev ReapLeads : Sides → Event → Reply → State → Type 0
ReapLeads s (events.Reap q) (events.Reaps what) n = refusal_of (state_of s) (events.Reap q) ≡ None → Leads s (events.Reap q) (events.Reaps what) (view n) n.memory n.controller
ReapLeads s e reply n = Unit {0}

some_named : (cid : ℕ) (what : Reaped) → named what ≡ Some cid → what ≡ found.Empty → ⊥
some_named cid what names same = let none : None ≡ Some cid = ap named (sym same) ∙ names in absurd cc

moves : (s : Sides) → IsWorld s → AreTied s → s.trusted ≡ true → HostMoves (ReapLeads s) (state_of s)
moves s world tied t =
    record {
      reserves = λ q request d none is. tt;
      submits = λ d entry r none built its live. tt;
      cancels = λ d r its. tt;
      rings = λ q none. tt;
      rests = λ q is none. record { controller = refl; queues = tied.queues; walks = tied.walks };
      rejects = λ q why is none. let x = consumes s world tied t q why none is in reap_leads s tied q x.0 (found.Rejected why) (view (a.consumed q (state_of s))) (λ e. absurd cc) x.1;
      tells = λ q cid st what e r request told heard w none.
          let x = hears s world tied t q e none heard.seen in reap_leads s tied q x.0 what (view (a.on_records (with_record q cid (a.held st e.hints)) (a.heard q e (state_of s)))) (some_named cid what told.names) x.1;
      hears = λ q cid st what e r adm told heard w quiet unmade none.
          let x = hears s world tied t q e none heard.seen in reap_leads s tied q x.0 what (view (heard_without q cid e (state_of s))) (some_named cid what told.names) x.1;
      notes = λ q cid st what e r k told heard w none.
          let x = hears s world tied t q e none heard.seen in
          let f : HostQueue → HostQueue = λ queue. record queue { state = if is_success st then Deleting true else Live } in
          reap_leads s tied q x.0 what (view (a.on_host_queue k f (heard_without q cid e (state_of s)))) (some_named cid what told.names)
          (restated s q x.0 k f (a.heard q e (state_of s)).host.queues (λ h. refl) (λ h c at there. noted s world tied t q x.0 k cid st e r heard w h c at) x.1);
      frees = λ q cid st what e r k queue told heard w at alone good none.
          let x = hears s world tied t q e none heard.seen in
          reap_leads s tied q x.0 what (view (a.on_host_queue k a.gone (a.given_back queue.cq_pages (heard_without q cid e (state_of s))))) (some_named cid what told.names)
          (restated s q x.0 k a.gone (a.heard q e (state_of s)).host.queues (λ h. refl) (freed s world tied t q x.0 k cid st e r heard w good) x.1);
      makes_cq = λ q cid st what e r k n base vector told heard w good none.
          let x = hears s world tied t q e none heard.seen in
          reap_leads s tied q x.0 what (view (a.on_host_queue k a.half_made (heard_without q cid e (state_of s)))) (some_named cid what told.names)
          (restated s q x.0 k a.half_made (a.heard q e (state_of s)).host.queues (λ h. refl) (λ h c at there. made_cq s world tied t q x.0 k cid st e r heard n base vector w h c at) x.1);
      unmakes_cq = λ q cid st what e r k n base vector queue told heard w at bad none.
          let x = hears s world tied t q e none heard.seen in
          reap_leads s tied q x.0 what (view (a.on_host_queue k a.gone (a.given_back queue.cq_pages (heard_without q cid e (state_of s))))) (some_named cid what told.names)
          (restated s q x.0 k a.gone (a.heard q e (state_of s)).host.queues (λ h. refl) (unmade_cq s world tied t q x.0 k cid st e r heard n base vector w bad) x.1);
      makes_sq = λ q cid st what e r k n base told heard w good none.
          let x = hears s world tied t q e none heard.seen in
          reap_leads s tied q x.0 what (view (a.on_host_queue k a.live (heard_without q cid e (state_of s)))) (some_named cid what told.names)
          (restated s q x.0 k a.live (a.heard q e (state_of s)).host.queues (λ h. refl) (made_sq s world tied t q x.0 k cid st e r heard n base w good) x.1);
      unmakes_sq = λ q cid st what e r k n base queue told heard w at bad none.
          let x = hears s world tied t q e none heard.seen in
          reap_leads s tied q x.0 what (view (a.on_host_queue k a.unmade_sq (a.given_back queue.sq_pages (heard_without q cid e (state_of s))))) (some_named cid what told.names)
          (restated s q x.0 k a.unmade_sq (a.heard q e (state_of s)).host.queues (λ h. refl) (unmade_sq s world tied t q x.0 k cid st e r heard n base w bad) x.1);
      collects = λ q cid r f at held is. tt;
      releases = λ f r its. tt;
      aborts = λ q cid id none new. tt;
      asks = λ q id queue none new live. tt;
      drops = λ q id none new. tt;
      creates_cqs = λ q vector id first queue none new granted. tt;
      creates_sqs = λ q id first queue none new granted. tt;
      retires = λ q queue none at deleted. tt;
      forges = λ q slot bytes queue none at. tt;
      resets = tt;
    }

-- The step

pub reap_ties : (s : Sides) (q : ℕ) (what : Reaped) (host : HostView) (pages : Pages) → IsWorld s → s.trusted ≡ true → HostStep s.host s.pages (events.Reap q) (events.Reaps what) host pages
    → Ties s (events.Reap q) (events.Reaps what) host pages
reap_ties s q what host pages world t step =
    let none : refusal_of (state_of s) (events.Reap q) ≡ None = step.1.0 in
    let h = reaped_queue s q none in
    let accepts : Accepts (state_of s) (events.Reap q) (events.Reaps what) = (none, step.1.1 ∙ reaped_alike s q (seen_alike s world q h.0 h.1 h.2)) in
    let leads : ReapLeads s (events.Reap q) (events.Reaps what) (after (state_of s) (events.Reap q) (events.Reaps what)) =
    host_moves (ReapLeads s) (state_of s) (events.Reap q) (events.Reaps what) accepts refl (moves s world (OnTrue_at t world.tied) t) in
    leads_to_ties s (events.Reap q) (events.Reaps what) host pages (after_reap q what (state_of s)) (into _ s.trusted false refl accepts) (left_bare s (events.Reap q) (events.Reaps what) host pages world refl refl step step.1) refl (leads none)

pub reap_refused : (s : Sides) (q : ℕ) (why : Refusal) (touched : List ℕ) (host : HostView) (pages : Pages) → IsWorld s → HostStep s.host s.pages (events.Reap q) (events.Refused why touched) host pages
    → StepsTo s (events.Reap q) (events.Refused why touched) (behind s (events.Reap q) (events.Refused why touched) host pages)
reap_refused s q why touched host pages world step =
    host_refused s (events.Reap q) (events.Refused why touched) host pages world step.2 (ap (λ (x : State). record s { host = view x; pages = x.memory }) step.2) tt
    (into _ s.trusted false refl (refuses s (events.Reap q) why touched refl refl step.1)) refl

-- A queue is retired: the controller has no such queue, and no completion of it is left.

-- The refusal is the machine's, whatever was forged

deleted_known : (st : HostState) → is_deleted st ≡ true → is_known_deleted st ≡ true
deleted_known st e = grind arith

retire_refusal : (s : Sides) → IsWorld s → (q : ℕ) → refusal_of (alone s.host s.pages) (events.Retire q) ≡ refusal_of (state_of s) (events.Retire q)
retire_refusal s world q = by_state (in_state is_deleted (state_of s) q) refl
  where
    by_state : (b : Bool) → in_state is_deleted (state_of s) q ≡ b
        → first_passing ((not b, refusal.NotDeleted) ∷ (is_some (seen_entry (alone s.host s.pages) q), refusal.NotDrained) ∷ [])
        ≡ first_passing ((not b, refusal.NotDeleted) ∷ (is_some (seen_entry (state_of s) q), refusal.NotDrained) ∷ [])
    by_state true e =
        let h = (queue_found is_deleted (state_of s) q e) in
        ap (λ (b : Bool). first_passing ((false, refusal.NotDeleted) ∷ (b, refusal.NotDrained) ∷ [])) (completions_seen s q h.0 world h.1 (served_reaped h.0.state (deleted_serves h.0.state h.2)))
    by_state false e = refl

pub retire_refused : (s : Sides) (q : ℕ) (why : Refusal) (touched : List ℕ) (host : HostView) (pages : Pages) → IsWorld s → HostStep s.host s.pages (events.Retire q) (events.Refused why touched) host pages
    → StepsTo s (events.Retire q) (events.Refused why touched) (behind s (events.Retire q) (events.Refused why touched) host pages)
retire_refused s q why touched host pages world step =
    host_refused s (events.Retire q) (events.Refused why touched) host pages world step.2 (ap (λ (x : State). record s { host = view x; pages = x.memory }) step.2) tt
    (into _ s.trusted false refl (refuses s (events.Retire q) why touched refl (retire_refusal s world q) step.1)) refl

-- Where nothing was forged

-- a ring at whose head nothing is seen is empty
empty : (s : Sides) → IsWorld s → s.trusted ≡ true → (q : ℕ) (h : HostQueue) (c : ControllerQueue) → slice_get s.host.host.queues q ≡ Some h → slice_get s.controller.queues q ≡ Some c → is_reaped h.state ≡ true
    → is_some (seen_entry (state_of s) q) ≡ false → h.ring.head ≡ c.controller.ring.tail
empty s world t q h c at there reaped none =
    let k : IsKnown s q h c = known s world t q h c at there in
    let has : has_ring h c ≡ true = reaped_ring h c reaped in
    elim (cases_eq h.ring.head c.controller.ring.tail) [
      | inl same ↦ same
      | inr apart ↦ absurd (true≢false (sym (ap is_some (seen_first s q h c t at there (first_completion_there s q h c k has apart) (has_completion s q h c k has apart))) ∙ none))
    ]

abbrev retired : ℕ → HostQueue → State → State
retired q h s = a.on_host_queue q a.retired (a.given_back h.sq_pages (a.on_records (λ records. map (a.lost q) records) s))

retire_leads : (s : Sides) → IsWorld s → AreTied s → s.trusted ≡ true → (q : ℕ) (h : HostQueue) → slice_get s.host.host.queues q ≡ Some h → is_deleted h.state ≡ true → is_some (seen_entry (state_of s) q) ≡ false
    → Leads s (events.Retire q) events.Accepted (view (retired q h (state_of s))) s.pages (controller_part s)
retire_leads s world tied t q h at deleted none =
    record {
      controller = ap (λ queues. record (controller_part s) { queues = queues }) (rings_kept (byte_at s.pages) q a.retired s.host.host.queues s.controller.queues (λ y. refl));
      queues = host_stands s.host.entries (byte_at s.pages) q a.retired s.host.host.queues s.controller.queues
          (λ y c at' there stands.
          let same : h ≡ y = cc (at, at') in
          let was = subst (λ (z : HostQueue). is_deleted z.state ≡ true) same deleted in
          let serves = deleted_serves y.state was in
          retires_half s.host.entries (byte_at s.pages) q y c serves (known_absent s world t q y c at' there (deleted_known y.state was)) (empty s world t q y c at' there (served_reaped y.state serves) none) stands)
          tied.queues;
      walks = tied.walks;
    }

pub retire_ties : (s : Sides) (q : ℕ) (host : HostView) (pages : Pages) → IsWorld s → s.trusted ≡ true → HostStep s.host s.pages (events.Retire q) events.Accepted host pages → Ties s (events.Retire q) events.Accepted host pages
retire_ties s q host pages world t step =
    let none : refusal_of (state_of s) (events.Retire q) ≡ None = sym (retire_refusal s world q) ∙ step.1.0 in
    let passed = unrefused (state_of s) (events.Retire q) none in
    let h = (queue_found is_deleted (state_of s) q (not-false _ passed.0)) in
    let lost : State = a.on_records (λ records. map (a.lost q) records) (state_of s) in
    let is : after_retire q (state_of s) ≡ retired q h.0 (state_of s) = ap (λ (o : Option HostQueue). option_map_or (λ queue. a.on_host_queue q a.retired (a.given_back queue.sq_pages lost)) o lost) h.1 in
    leads_to_ties s (events.Retire q) events.Accepted host pages (retired q h.0 (state_of s)) (into _ s.trusted false refl (none, tt))
    (left_bare s (events.Retire q) events.Accepted host pages world refl refl step step.1 ∙ ap bare is) (sym is)
    (retire_leads s world (OnTrue_at t world.tied) t q h.0 h.1 h.2 passed.1.0)

-- Each call of the host, with what the controller sees of it, is a step of the machine, and leaves both sides tied.

pub hosts_stepped : hosts_step
hosts_stepped s (events.Reap q) (events.Refused why touched) host pages world c f step over = reap_refused s q why touched host pages world step
hosts_stepped s (events.Retire q) (events.Refused why touched) host pages world c f step over = retire_refused s q why touched host pages world step
hosts_stepped s e (events.Refused why touched) host pages world c f step over =
    let left = refuse_as_machine s e why touched host pages c refl step in
    subst (λ (x : Sides). StepsTo s e (events.Refused why touched) x) (sym left.0) (left.1, world)
hosts_stepped s (events.Reserve q r) (events.Reserved d) host pages world c f step over = host_stepped s _ _ host pages world c f step over (λ t. reserve_ties s q r d host pages world t step)
hosts_stepped s (events.Submit d) events.Accepted host pages world c f step over = host_stepped s _ _ host pages world c f step over (λ t. submit_ties s d host pages world t step)
hosts_stepped s (events.Cancel d) events.Accepted host pages world c f step over = host_stepped s _ _ host pages world c f step over (λ t. cancel_ties s d host pages world t step)
hosts_stepped s (events.Ring q) events.Accepted host pages world c f step over = host_stepped s _ _ host pages world c f step over (λ t. ring_ties s q host pages world t step)
hosts_stepped s (events.Reap q) (events.Reaps what) host pages world c f step over = host_stepped s _ _ host pages world c f step over (λ t. reap_ties s q what host pages world t step)
hosts_stepped s (events.Collect q cid) (events.Collects fin) host pages world c f step over = host_stepped s _ _ host pages world c f step over (λ t. collect_ties s q cid fin host pages world t step)
hosts_stepped s (events.Release fin) events.Accepted host pages world c f step over = host_stepped s _ _ host pages world c f step over (λ t. release_ties s fin host pages world t step)
hosts_stepped s (events.Abort q cid) (events.Sent id) host pages world c f step over = host_stepped s _ _ host pages world c f step over (λ t. abort_ties s q cid id host pages world t step)
hosts_stepped s (events.DeleteSq q) (events.Sent id) host pages world c f step over = host_stepped s _ _ host pages world c f step over (λ t. delete_sq_ties s q id host pages world t step)
hosts_stepped s (events.DeleteCq q) (events.Sent id) host pages world c f step over = host_stepped s _ _ host pages world c f step over (λ t. delete_cq_ties s q id host pages world t step)
hosts_stepped s (events.CreateCq q vector) (events.Sent id) host pages world c f step over = host_stepped s _ _ host pages world c f step over (λ t. create_cq_ties s q vector id host pages world t step)
hosts_stepped s (events.CreateSq q) (events.Sent id) host pages world c f step over = host_stepped s _ _ host pages world c f step over (λ t. create_sq_ties s q id host pages world t step)
hosts_stepped s (events.Retire q) events.Accepted host pages world c f step over = host_stepped s _ _ host pages world c f step over (λ t. retire_ties s q host pages world t step)
hosts_stepped s (events.Forge q slot bytes) reply host pages world c f step over = absurd (true≢false f)
hosts_stepped s events.Reset reply host pages world c f step over = absurd (never_alone s.host host s.pages pages reply step)
hosts_stepped s (events.Fetch q) reply host pages world c f step over = absurd (true≢false c)
hosts_stepped s (events.Walk q cid) reply host pages world c f step over = absurd (true≢false c)
hosts_stepped s (events.Complete q cid) reply host pages world c f step over = absurd (true≢false c)
hosts_stepped s e reply host pages world c f step over = absurd step.1.1
