-- Fetches are steps of the machine.
use Rattle.controller_core.specs.declared.refusal.ControllerRefusal.TheVariants as because
use Rattle.machine_model.specs.Events as events
use Rattle.machine_model.specs.declared.words.Refusal.TheVariants as refusal
use Rattle.controller_core.specs.declared.refusal.ControllerRefusal.{ControllerRefusal}
use Rattle.machine_model.specs.After as after
use Rattle.std.proofs.Common.{◌≡◌, ◌≢◌, ◌⊎◌, inl, inr, ℕ, zero, suc, ◌+◌, ◌*◌, ◌/◌, ◌==◌, ◌&&◌, nat_lt, not, Bool, true, false, Option, Some, None, is_none, is_some, List, [], ◌∷◌, slice_get, if◌then◌else◌, refl, ap, sym, ◌∙◌, arith, subst, eqb-true, ◌-◌, ◌<◌, Ok, Err, ◌++◌, length, map, drop}
use Rattle.std.{proofs.lemmas.Bool.{true≢false, eqb-false, OnTrue_at, cases_Bool}, specs.Option.{option_map, option_map_or}}
use Rattle.machine_model.{proofs.Steps.in_store-with_bytes, specs.{After.after_fetch, Memory.{is_in, memory_of}}}
use Rattle.machine_model.specs.Refusals.{completions_full, conflicts, fetch_page, job_at, next_rung, post_page, refusal_of}
use Rattle.machine_model.specs.{State.{State, HostQueue, ServedQueue, Job}, Step.{MayRefuse, Permits, Refuses, touched_by_fetch}}
use Rattle.admin_commands.specs.{Verdicts.{is_absent, is_live, decision}, declared.DeviceView.DeviceView}
use Rattle.controller_core.specs.Posting.{post_refusal_at, completion_by, page_posted, post_refusal, with_posted}
use Rattle.controller_core.specs.Contents.{Contents, FetchedCommand, IsController, change}
use Rattle.controller_core.specs.Fetching.{LooksAt, fetch_refusal, is_known, live_side, look_refusal, PostsConflict, IsBegun, RefusedBy, RefusedEntry, Takes, TakesIn, begun, entry_refusal, side_refusal}
use Rattle.controller_core.specs.Managing.{admin_work, command_of, commands_after, managed, verdict_for, view_for, with_taken}
use Rattle.controller_core.specs.declared.{command.FetchedWork.TheVariants.Io, queue.ControllerQueue.ControllerQueue}
use Rattle.entry_codec.specs.{Completion.completion_bytes, declared.{completion.ComEntry.ComEntry, status.TheConstants.Status.COMMAND_ID_CONFLICT}}
use Rattle.entry_codec.specs.declared.submission.SubEntry.{SubEntry}
use Rattle.two_sides.proofs.{AdminKept.{admin_verdict, places_left}, Agreed.stood_of}
use Rattle.two_sides.proofs.CompletionPosts.{byte_in_page, posted_shares, post_room, slot_is_in, slot_written}
use Rattle.two_sides.proofs.{Assembling.{ServesOver, serve_refused, served_stepped}, Frames.{host_at, known}, Heads.no_conflict}
use Rattle.two_sides.proofs.JobLaws.{length-completion_bytes}
use Rattle.two_sides.proofs.Managing.{Suits, acted, managed_is, taken_view, verdict_shares, verdict_stand, verdict_walks, suited}
use Rattle.two_sides.proofs.{Places.{job-at, Shows, fetch_page_is, shows, map-append, controllers_changed, stands_changed}, PlacesKept.in_hand}
use Rattle.two_sides.proofs.{Posted.{CanTake, entry_there, entries_first, not_absent, taken_seen, taken_shares, taken_stands}, Serving.{either_by, same_pages}}
use Rattle.two_sides.{proofs.Shared.belled, specs.{Serving.why_of, Sides.{Sides, state_of, served_queue_of, served_queues_of, unfetched_between, job_of}}}
use Rattle.two_sides.specs.Stepping.{fetches_refuse_alike, LeavesPages, StepsTo, fetches_step, served}
use Rattle.two_sides.specs.Ties.{IsWorld, AllQueuesStand, ShareQueues, SharesAdmin, WalkStands, WalksStand}
use Rattle.page_memory.specs.{Memory.Memory, Pages.{byte_at, Pages}}
use Rattle.queue_pair.{proofs.Rings.{distance_none, distance_same}, specs.{Memory.{entry_at, submission_page, completion_slot}, Rings.ControllerSide}}
use Rattle.queue_pair.specs.Slots.{distance, is_full}
use Rattle.controller_walk.specs.Units.{course_of_list}
use Rattle.io_commands.specs.Jobs.{JobContents, direction_of_entry, need_of_entry}
use Rattle.slot_table.proofs.Rows.{option_is}
use Rattle.page_memory.proofs.Lists.{all-append, some_is}

-- What the controller finds at the head of a queue is what the machine has there, where nothing was forged; so both refuse a fetch alike.

-- What a fetch looks at, whatever was forged

-- a live queue with something announced, and the entry at the controller's head
pub record IsLooked (s : Sides) (q : ℕ) (c : ControllerQueue) (e : SubEntry) : Type 0 where
  pub here : slice_get s.controller.queues q ≡ Some c
  pub live : is_live c.state ≡ true
  pub rung : c.controller.ring.head ≢ c.controller.ring.bell
  pub at : entry_at (byte_at s.pages) c.controller.sq c.controller.ring.head ≡ Some e

abbrev pub page_of_head : ControllerQueue → ℕ
page_of_head c = submission_page c.controller.sq c.controller.ring.head

live_queue : (o : Option ControllerQueue) (controller : ControllerSide) → live_side o ≡ Some controller → (c : ControllerQueue) × (o ≡ Some c) × (is_live c.state ≡ true) × (c.controller ≡ controller)
live_queue None controller e = absurd cc
live_queue (Some c) controller e = elim (cases_Bool (is_live c.state)) [
  | inl live ↦ let f = rw live at e in (c, refl, live, (let same : c.controller ≡ controller = cc in same))
  | inr live ↦ let f = rw live at e in absurd cc
]

pub looked : (s : Sides) (q : ℕ) (e : SubEntry) (touched : List ℕ) → LooksAt s.controller (byte_at s.pages) [] q e touched → (c : ControllerQueue) × IsLooked s q c e × (touched ≡ page_of_head c ∷ [])
looked s q e touched l =
    let (c, here, live, same) = live_queue (slice_get s.controller.queues q) l.controller l.here in (
      c,
      record {
        here = here;
        live = live;
        rung = subst (λ (controller : ControllerSide). controller.ring.head ≢ controller.ring.bell) (sym same) l.rung;
        at = subst (λ (controller : ControllerSide). entry_at (byte_at s.pages) controller.sq controller.ring.head ≡ Some e) (sym same) l.at;
      },
      l.touches ∙ ap (λ (controller : ControllerSide). submission_page controller.sq controller.ring.head ∷ []) (sym same),
    )

-- The machine's entry, where nothing was forged

pub record IsSeen (s : Sides) (q : ℕ) (c : ControllerQueue) (e : SubEntry) : Type 0 where
  pub host : HostQueue
  pub found : slice_get s.host.host.queues q ≡ Some host
  pub can : CanTake s q host c
  pub next : next_rung (state_of s) q ≡ Some e
  pub page : fetch_page (state_of s) q ≡ page_of_head c
  pub inside : is_in s.pages (fetch_page (state_of s) q) ≡ true
  -- each identifier occurs once
  pub unknown : is_known s.controller q e ≡ false
  pub alone : conflicts (state_of s) q ≡ false

next_seen : (s : Sides) (q : ℕ) (h : HostQueue) (c : ControllerQueue) (e : SubEntry) → Shows (state_of s) s q h c → CanTake s q h c → entry_at (byte_at s.pages) c.controller.sq c.controller.ring.head ≡ Some e → next_rung (state_of s) q ≡ Some e
next_seen s q h c e shown can at =
    let by : (l b : Bool) (k : ℕ) (us vs : List SubEntry) → l ≡ true → b ≡ false → k ≢ 0 → us ≡ e ∷ vs → (if l && nat_lt 0 (if b then 0 else k) then slice_get (if b then [] else us) 0 else None) ≡ Some e = λ l b k us vs el eb far eu.
    grind arith in
    let ring = c.controller.ring in
    let side = can.known.placed.share.side in
    let far : distance c.controller.entries ring.head ring.bell ≢ 0 = λ none. can.rung (distance_none c.controller.entries ring.head ring.bell side.head side.bell none) in
    rw shown.controller refl
    ∙ by (is_live c.state) (is_absent c.state) (distance c.controller.entries ring.head ring.bell) (unfetched_between (byte_at s.pages) h.ring c.controller) _ can.live (not_absent c.state can.live) far (entries_first s q h c e can at)

pub seen : (s : Sides) (q : ℕ) (c : ControllerQueue) (e : SubEntry) → IsWorld s → s.trusted ≡ true → IsLooked s q c e → IsSeen s q c e
seen s q c e world t l =
    let (h, found) = host_at s world q c l.here in
    let can : CanTake s q h c = record { known = known s world t q h c found l.here; live = l.live; rung = l.rung } in
    let shown = shows s q h c found l.here in
    let next = next_seen s q h c e shown can l.at in
    let page = fetch_page_is (state_of s) s q h c shown can.known (not_absent c.state l.live) in
    let alone = no_conflict (state_of s) (stood_of (state_of s) (OnTrue_at t world.tied).agree) q e (in_hand (state_of s) q e next) in
    let placed = can.known.placed in
    let head : (4096 * c.controller.sq + 64 * c.controller.ring.head) / 4096 ≡ page_of_head c = omega arith in
    record {
      host = h;
      found = found;
      can = can;
      next = next;
      page = page;
      inside = ap (is_in s.pages) page ∙ subst (λ (p : ℕ). is_in s.pages p ≡ true) head
          (byte_in_page s.pages (4096 * c.controller.sq + 64 * c.controller.ring.head)
          ((can.known.submission_in (not_absent c.state l.live)).there (64 * c.controller.ring.head) (omega (arith, placed.share.entries, placed.share.side.head))));
      unknown = (grind arith) ∙ sym (ap is_some (job-at s q e.cid)) ∙ alone;
      alone = ap (λ (o : Option SubEntry). option_map_or (λ e. is_some (job_at (state_of s) q e.cid)) o false) next ∙ alone;
    }

-- the machine serves no queue that the controller does not have
no_controller : (m : Memory) (hs : List HostQueue) (cs : List ControllerQueue) (q : ℕ) → slice_get cs q ≡ None → slice_get (served_queues_of m hs cs) q ≡ None
no_controller m (h ∷ hs) (c ∷ cs) zero e = cc
no_controller m (h ∷ hs) (c ∷ cs) (suc q) e = no_controller m hs cs q e
no_controller m x cs q e = refl

next_idle : (s : Sides) (q : ℕ) (c : ControllerQueue) → IsWorld s → slice_get s.controller.queues q ≡ Some c → (is_live c.state ≡ false) ⊎ ((c.controller.ring.head == c.controller.ring.bell) ≡ true) → next_rung (state_of s) q ≡ None
next_idle s q c world here idle =
    let (h, found) = host_at s world q c here in
    let d = served_queue_of (byte_at s.pages) h.ring c in
    let ring = c.controller.ring in
    let n = c.controller.entries in
    rw (shows s q h c found here).controller refl
    ∙ elim idle [
      | inl dead ↦ ap (λ (b : Bool). if b && nat_lt 0 d.rung then slice_get d.unfetched 0 else None) dead
      | inr same ↦
          let none : distance n ring.head ring.bell ≡ 0 = ap (distance n ring.head) (sym (eqb-true ring.head ring.bell same)) ∙ distance_same n ring.head in
          (grind arith)
    ]

-- The controller finds nothing to fetch, or an entry.
abbrev pub Looks : Sides → ℕ → Type 0
Looks s q =
    ((look_refusal s.controller (byte_at s.pages) q ≡ Some because.Idle) × (fetch_refusal s.controller (byte_at s.pages) q ≡ Some because.Idle) × (next_rung (state_of s) q ≡ None))
    ⊎ ((look_refusal s.controller (byte_at s.pages) q ≡ None) × (fetch_refusal s.controller (byte_at s.pages) q ≡ None) × ((c : ControllerQueue) × (e : SubEntry) × IsSeen s q c e))

pub looks : (s : Sides) (q : ℕ) → IsWorld s → s.trusted ≡ true → Looks s q
looks s q world t = elim (option_is (slice_get s.controller.queues q)) [
  | inl e ↦ inl (rw e refl, rw e refl, rw (no_controller (byte_at s.pages) s.host.host.queues s.controller.queues q e) refl)
  | inr (c, e) ↦ found c e (is_live c.state) refl (c.controller.ring.head == c.controller.ring.bell) refl
]
  where
    found : (c : ControllerQueue) → slice_get s.controller.queues q ≡ Some c → (a : Bool) → is_live c.state ≡ a → (b : Bool) → (c.controller.ring.head == c.controller.ring.bell) ≡ b → Looks s q
    found c here false live b same = inl (rw (here, live) refl, rw (here, live) refl, next_idle s q c world here (inl live))
    found c here true live true same = inl (rw (here, live, same) refl, rw (here, live, same) refl, next_idle s q c world here (inr same))
    found c here true live false same =
        let rung = eqb-false c.controller.ring.head c.controller.ring.bell same in
        let (h, at) = host_at s world q c here in
        let (e, entry) = entry_there s q h c (record { known = known s world t q h c at here; live = live; rung = rung }) in
        let is : IsSeen s q c e = seen s q c e world t (record { here = here; live = live; rung = rung; at = entry }) in
        inr (rw (here, live, same, entry) refl, rw (here, live, same, entry, is.unknown) refl, (c, e, is))

-- The machine refuses what the controller does.

idle_by : (u : State) (q : ℕ) → next_rung u q ≡ None → refusal_of u (events.Fetch q) ≡ Some refusal.Idle
idle_by u q e = rw e refl

taken_by : (u : State) (q : ℕ) (a b c : Bool) → is_none (next_rung u q) ≡ a → is_in u.memory (fetch_page u q) ≡ b → conflicts u q ≡ c
    → refusal_of u (events.Fetch q)
    ≡ (if a then Some refusal.Idle else if not b then Some refusal.SlotOut else if c && completions_full u q then Some refusal.Full else if c && not (is_in u.memory (post_page u q)) then Some refusal.SlotOut else None)
taken_by u q a b c ea eb ec = rw (← ea, ← eb, ← ec) refl

pub accepts : (s : Sides) (q : ℕ) (c : ControllerQueue) (e : SubEntry) → IsSeen s q c e → refusal_of (state_of s) (events.Fetch q) ≡ None
accepts s q c e is = taken_by (state_of s) q false true false (ap is_none is.next) is.inside is.alone

pub refuse_alike : fetches_refuse_alike
refuse_alike s q world t = elim (looks s q world t) [
  | inl (look, none, idle) ↦ idle_by (state_of s) q idle ∙ sym (ap (option_map why_of) none)
  | inr (look, none, (c, e, is)) ↦ accepts s q c e is ∙ sym (ap (option_map why_of) none)
]

-- A fetch is a step of the machine, and leaves both sides tied.

-- What is refused

-- a look finds nothing, or no bytes
look_is : (P : ControllerRefusal → Type 0) → P because.Idle → P because.SlotOut → (s : Sides) (q : ℕ) (why : ControllerRefusal) → look_refusal s.controller (byte_at s.pages) q ≡ Some why → P why
look_is P idle out s q why e = by_queue (slice_get s.controller.queues q) e
  where
    is : (cause : ControllerRefusal) → P cause → Some cause ≡ Some why → P why
    is cause p e = let same : cause ≡ why = cc in subst P same p

    side : (b : Bool) (o : Option SubEntry) → (if b then Some because.Idle else option_map_or (λ e. None) o (Some because.SlotOut)) ≡ Some why → P why
    side true o e = is because.Idle idle e
    side false None e = is because.SlotOut out e
    side false (Some x) e = absurd cc

    live : (c : ControllerQueue) (b : Bool) → option_map_or (side_refusal (byte_at s.pages)) (if b then Some c.controller else None) (Some because.Idle) ≡ Some why → P why
    live c true e = side (c.controller.ring.head == c.controller.ring.bell) (entry_at (byte_at s.pages) c.controller.sq c.controller.ring.head) e
    live c false e = is because.Idle idle e

    by_queue : (o : Option ControllerQueue) → option_map_or (side_refusal (byte_at s.pages)) (live_side o) (Some because.Idle) ≡ Some why → P why
    by_queue None e = is because.Idle idle e
    by_queue (Some c) e = live c (is_live c.state) e

look_permits : (s : Sides) (q : ℕ) (why : ControllerRefusal) → IsWorld s → look_refusal s.controller (byte_at s.pages) q ≡ Some why → Permits (state_of s) (events.Fetch q) (events.Refused (why_of why) [])
look_permits s q why world e =
    either_by s.trusted _ _
    (λ t. elim (looks s q world t) [
      | inl (look, none, idle) ↦
          let is : Some because.Idle ≡ Some why = sym look ∙ e in
          let same : because.Idle ≡ why = cc in
          subst (λ (w : ControllerRefusal). Refuses (state_of s) (events.Fetch q) (why_of w) []) same (refuse_alike s q world t ∙ ap (option_map why_of) none, refl)
      | inr (look, none, found) ↦ absurd (let bad : None ≡ Some why = sym look ∙ e in cc)
    ])
    (λ f. look_is (λ (w : ControllerRefusal). MayRefuse (events.Fetch q) (why_of w) []) refl (omega arith) s q why e)

-- no room for a completion at once, or no memory for the command
cause_is : (P : ControllerRefusal → Type 0) → P because.Full → P because.SlotOut → P because.Memory → (m : Memory) (why : ControllerRefusal) (known : Bool) (o : Option ControllerQueue)
    → (if known then (if known then option_map_or (λ queue. post_refusal m queue.controller) o None else None) else Some because.Memory) ≡ Some why → P why
cause_is P full out memory m why known o e = by_identifier known o e
  where
    is : (cause : ControllerRefusal) → P cause → Some cause ≡ Some why → P why
    is cause p e = let same : cause ≡ why = cc in subst P same p

    post : (a b : Bool) → (if a then Some because.Full else if b then Some because.SlotOut else None) ≡ Some why → P why
    post true b e = is because.Full full e
    post false true e = is because.SlotOut out e
    post false false e = absurd cc

    by_identifier : (known : Bool) (o : Option ControllerQueue) → (if known then (if known then option_map_or (λ queue. post_refusal m queue.controller) o None else None) else Some because.Memory) ≡ Some why → P why
    by_identifier true None e = absurd cc
    by_identifier true (Some c) e = post (is_full c.controller.entries c.controller.ring.known_head c.controller.ring.tail) (is_none (completion_slot m c.controller.cq c.controller.ring.tail)) e
    by_identifier false o e = is because.Memory memory e

entry_permits : (s : Sides) (q : ℕ) (why : ControllerRefusal) (touched : List ℕ) → IsWorld s → RefusedEntry s.controller (byte_at s.pages) [] q why touched → Permits (state_of s) (events.Fetch q) (events.Refused (why_of why) touched)
entry_permits s q why touched world r =
    let (c, l, one) = looked s q r.entry touched r.looks in
    either_by s.trusted _ _
    (λ t. let is = seen s q c r.entry world t l in
    let cause : Some because.Memory ≡ Some why = ap (λ (b : Bool). if b then entry_refusal s.controller (byte_at s.pages) q r.entry else Some because.Memory) (sym is.unknown) ∙ r.cause in
    let same : because.Memory ≡ why = cc in
    subst (λ (w : ControllerRefusal). Refuses (state_of s) (events.Fetch q) (why_of w) touched) same (refl, accepts s q c r.entry is, one ∙ ap (λ (p : ℕ). p ∷ []) (sym is.page)))
    (λ f. subst (λ (pages : List ℕ). MayRefuse (events.Fetch q) (why_of why) pages) (sym one)
    (cause_is (λ (w : ControllerRefusal). MayRefuse (events.Fetch q) (why_of w) (page_of_head c ∷ [])) refl (omega arith) refl (byte_at s.pages) why (is_known s.controller q r.entry) (slice_get s.controller.queues q) r.cause))

refused : (s : Sides) (q : ℕ) (why : ControllerRefusal) (touched : List ℕ) → IsWorld s → (o : Option ControllerRefusal) → look_refusal s.controller (byte_at s.pages) q ≡ o → RefusedBy o s.controller (byte_at s.pages) [] q why touched
    → Permits (state_of s) (events.Fetch q) (events.Refused (why_of why) touched)
refused s q why touched world None e r = entry_permits s q why touched world r
refused s q why touched world (Some cause) e r =
    subst (λ (pages : List ℕ). Permits (state_of s) (events.Fetch q) (events.Refused (why_of why) pages)) (sym r.1)
    (look_permits s q why world (e ∙ ap Some (sym r.0)))

-- What is accepted

touched_by : (u : State) (q : ℕ) → conflicts u q ≡ false → fetch_page u q ∷ [] ≡ touched_by_fetch u q
touched_by u q alone = ap (λ (c : Bool). if c then fetch_page u q ∷ post_page u q ∷ [] else fetch_page u q ∷ []) (sym alone)

after_by : (u : State) (q : ℕ) (e : SubEntry) → next_rung u q ≡ Some e → conflicts u q ≡ false → after_fetch q u ≡ (if q == 0 then after.managed e (after.taken_off 0 u) else after.begun q e (after.taken_off q u))
after_by u q e next alone = rw (alone, next) refl

-- An entry was taken: where nothing was forged, the queue had it, and its identifier was new.
fetch_stepped : (s : Sides) (q : ℕ) (c : ControllerQueue) (e : SubEntry) (new : Contents) (pages : Pages) (touched : List ℕ) → IsWorld s → IsLooked s q c e → ServesOver s new pages → length touched < 3
    → (s.trusted ≡ true → IsSeen s q c e → (touched ≡ page_of_head c ∷ []) × (state_of (served s new pages) ≡ after_fetch q (state_of s)) × AllQueuesStand s.host.entries (byte_at pages) zero s.host.host.queues new.queues × WalksStand (memory_of pages) new.commands)
    → StepsTo s (events.Fetch q) (events.Fetched e.cid touched) (served s new pages)
fetch_stepped s q c e new pages touched world l serves few exact =
    let (h, found) = host_at s world q c l.here in
    served_stepped s (events.Fetch q) (events.Fetched e.cid touched) new pages world refl serves (λ u. refl)
    (either_by s.trusted _ _
    (λ t. let is = seen s q c e world t l in
    (accepts s q c e is, (ap (option_map (λ (e : SubEntry). e.cid)) is.next, (exact t is).0 ∙ ap (λ (p : ℕ). p ∷ []) (sym is.page) ∙ touched_by (state_of s) q is.alone)))
    (λ f. (ap is_some found, few)))
    (λ t. let done = exact t (seen s q c e world t l) in (done.1, done.2, done.3))

-- The sides after the entry was taken

abbrev taken : ℕ → Sides → Sides
taken q s = record s { controller = record s.controller { queues = change q with_taken s.controller.queues } }

can_take : (s : Sides) (q : ℕ) (c : ControllerQueue) (e : SubEntry) → IsLooked s q c e → IsSeen s q c e → (h : HostQueue) (x : ControllerQueue) → slice_get s.host.host.queues q ≡ Some h → slice_get s.controller.queues q ≡ Some x → CanTake s q h x
can_take s q c e l is h x at here =
    subst (λ (h : HostQueue). CanTake s q h x) (some_is (sym is.found ∙ at))
    (subst (λ (x : ControllerQueue). CanTake s q is.host x) (some_is (sym l.here ∙ here)) is.can)

taken_state : (s : Sides) (q : ℕ) (c : ControllerQueue) (e : SubEntry) → IsLooked s q c e → IsSeen s q c e → state_of (taken q s) ≡ after.taken_off q (state_of s)
taken_state s q c e l is =
    ap (λ (queues : List ServedQueue). record (state_of s) { controller = record (state_of s).controller { queues = queues } })
    (controllers_changed (byte_at s.pages) (byte_at s.pages) q with_taken (λ (at : ServedQueue). record at { unfetched = drop 1 at.unfetched; rung = at.rung - 1 }) s.host.host.queues s.controller.queues
    (λ h x at here. taken_seen s q h x (can_take s q c e l is h x at here)) (λ i h x far at here. refl))

taken_stand : (s : Sides) (q : ℕ) (c : ControllerQueue) (e : SubEntry) → IsLooked s q c e → IsSeen s q c e → AllQueuesStand s.host.entries (byte_at s.pages) zero s.host.host.queues s.controller.queues
    → AllQueuesStand s.host.entries (byte_at s.pages) zero s.host.host.queues (change q with_taken s.controller.queues)
taken_stand s q c e l is all =
    stands_changed s.host.entries (byte_at s.pages) (byte_at s.pages) q with_taken s.host.host.queues s.controller.queues
    (λ h x at here r. taken_stands s q h x (can_take s q c e l is h x at here)) (λ i h x far at here r. r) all

-- An entry of an I/O queue

begins_walk : (m : Memory) (q : ℕ) (image : List ℕ) (e : SubEntry) (job : JobContents) (commands : List FetchedCommand) → IsBegun image e job → WalksStand m commands → WalksStand m (commands ++ command_of q (Io job) ∷ [])
begins_walk m q image e job commands b walks =
    all-append (λ (k : FetchedCommand). WalkStands m k.units_done k.work) commands (command_of q (Io job)) walks
    (λ none. grind arith
    ∙ ap (λ (x : SubEntry). course_of_list m x.sgl1 (direction_of_entry x) (need_of_entry x)) (sym b.entry))

begun_is : (s : Sides) (q : ℕ) (e : SubEntry) (job : JobContents) → IsBegun s.controller.image e job → state_of (served s (begun q job s.controller) s.pages) ≡ after.begun q e (state_of (taken q s))
begun_is s q e job b =
    ap (λ (jobs : List Job). record (state_of (taken q s)) { controller = record (state_of (taken q s)).controller { jobs = jobs } }) (map-append job_of s.controller.commands (command_of q (Io job)))
    ∙ ap (λ (j : Job). after.with_job j (state_of (taken q s))) (λ i. record { q = q; entry = b.entry i; bytes = b.bytes i; units_done = 0; verdict = b.verdict i; dw0 = 0; waiting_abort = None })

-- where no page is written
serves_there : (s : Sides) (new : Contents) → IsWorld s → IsController new → ShareQueues s.host.entries zero s.host.host.queues new.queues → SharesAdmin s.host.entries s.host.host.queues new.queues → length new.image ≡ length s.controller.image
    → ServesOver s new s.pages
serves_there s new world is share admin image = record { leaves = record { whole = world.sides.over.pool.whole; count = refl }; in_store = refl; controller = is; queues = share; admin = admin; image = image }

taken_share : (s : Sides) (q : ℕ) → IsWorld s → ShareQueues s.host.entries zero s.host.host.queues (change q with_taken s.controller.queues)
taken_share s q world = belled s.host.entries zero q with_taken s.host.host.queues s.controller.queues (taken_shares s.host.entries) world.sides.queues

taken_admin : (s : Sides) (q : ℕ) → IsWorld s → SharesAdmin s.host.entries s.host.host.queues (change q with_taken s.controller.queues)
taken_admin s q world = places_left s.host.entries q with_taken s.host.host.queues s.controller.queues (λ x. (refl, refl)) world.sides.admin

begins : (s : Sides) (q : ℕ) (c : ControllerQueue) (e : SubEntry) (job : JobContents) → IsWorld s → IsLooked s q c e → IsController (begun q job s.controller) → (q == 0) ≡ false → IsBegun s.controller.image e job
    → StepsTo s (events.Fetch q) (events.Fetched e.cid (page_of_head c ∷ [])) (served s (begun q job s.controller) s.pages)
begins s q c e job world l is io b =
    fetch_stepped s q c e (begun q job s.controller) s.pages (page_of_head c ∷ []) world l (serves_there s (begun q job s.controller) world is (taken_share s q world) (taken_admin s q world) refl) (omega arith)
    (λ t seen. let tied = OnTrue_at t world.tied in (
      refl,
      begun_is s q e job b ∙ ap (after.begun q e) (taken_state s q c e l seen)
          ∙ ap (λ (z : Bool). if z then after.managed e (after.taken_off 0 (state_of s)) else after.begun q e (after.taken_off q (state_of s))) (sym io)
          ∙ sym (after_by (state_of s) q e seen.next seen.alone),
      taken_stand s q c e l seen tied.queues,
      begins_walk (memory_of s.pages) q s.controller.image e job s.controller.commands b tied.walks,
    ))

-- An entry of queue 0

manages : (s : Sides) (c : ControllerQueue) (e : SubEntry) → IsWorld s → IsLooked s zero c e → IsController (managed (length s.pages) e s.controller)
    → StepsTo s (events.Fetch zero) (events.Fetched e.cid (page_of_head c ∷ [])) (served s (managed (length s.pages) e s.controller) s.pages)
manages s c e world l is =
    let many = length s.pages in
    let v = verdict_for many s.controller e in
    let hosts = s.host.host.queues in
    let m = memory_of s.pages in
    let queues = change zero with_taken s.controller.queues in
    let share = taken_share s zero world in
    let same = taken_view many s.controller.queues s.controller.commands zero e in
    fetch_stepped s zero c e (managed many e s.controller) s.pages (page_of_head c ∷ []) world l (serves_there s (managed many e s.controller) world is (verdict_shares v s.host.entries hosts queues share) (admin_verdict e (view_for many s.controller.queues s.controller.commands e) s.host.entries hosts queues (taken_admin s zero world)) refl)
    (omega arith)
    (λ t seen. let tied = OnTrue_at t world.tied in
    let suits = suited s world t e seen.next in (
      refl,
      ap (λ (view : DeviceView). state_of (acted e (decision e view) (taken zero s))) (sym same)
          ∙ managed_is (taken zero s) e share (subst (λ (view : DeviceView). Suits (taken zero s) (decision e view)) (sym same) suits)
          ∙ ap (after.managed e) (taken_state s zero c e l seen) ∙ sym (after_by (state_of s) zero e seen.next seen.alone),
      verdict_stand v (taken zero s) suits share (taken_stand s zero c e l seen tied.queues),
      all-append (λ (k : FetchedCommand). WalkStands m k.units_done k.work) (commands_after e.cid v s.controller.commands) (command_of zero (admin_work e v)) (verdict_walks v m e.cid s.controller.commands tied.walks) tt,
    ))

-- An identifier that was fetched already: only after a forged entry

answers : (s : Sides) (q : ℕ) (c : ControllerQueue) (e : SubEntry) (new : Contents) (pages : Pages) (looked touched : List ℕ) → IsWorld s → IsLooked s q c e → IsController new → LeavesPages s.pages pages
    → is_known s.controller q e ≡ true → entry_refusal s.controller (byte_at s.pages) q e ≡ None → looked ≡ page_of_head c ∷ []
    → PostsConflict s.controller.queues q e.cid (byte_at s.pages) looked new.queues (byte_at pages) touched → new.image ≡ s.controller.image
    → StepsTo s (events.Fetch q) (events.Fetched e.cid touched) (served s new pages)
answers s q c e new pages looked touched world l is leaves knows room one a image =
    let m = byte_at s.pages in
    let n = s.host.entries in
    let controller = a.queue.controller in
    let entry : ComEntry = completion_by q e.cid COMMAND_ID_CONFLICT 0 (with_taken a.queue).controller in
    let none : post_refusal m controller ≡ None =
    ap (λ (o : Option ControllerQueue). option_map_or (λ queue. post_refusal m queue.controller) o None) (sym a.here)
    ∙ ap (λ (b : Bool). if b then post_refusal_at s.controller.queues m q else None) (sym knows) ∙ room in
    let inside = slot_is_in s.pages controller.cq controller.ring.tail (post_room m controller none).1 in
    let wrote = slot_written s.pages pages controller.cq controller.ring.tail (completion_bytes entry) world.sides.over.pool leaves inside (length-completion_bytes entry) a.memory in
    let serves : ServesOver s new pages =
    record {
      leaves = leaves;
      in_store = ap (map is_some) wrote ∙ in_store-with_bytes s.pages _ _ (completion_bytes entry);
      controller = is;
      queues = subst (ShareQueues n zero s.host.host.queues) (sym a.leaves)
          (belled n zero q (λ queue. with_posted (with_taken queue)) s.host.host.queues s.controller.queues (λ i h x share. posted_shares n i h (with_taken x) (taken_shares n i h x share)) world.sides.queues);
      admin = subst (SharesAdmin n s.host.host.queues) (sym a.leaves)
          (places_left n q (λ queue. with_posted (with_taken queue)) s.host.host.queues s.controller.queues (λ x. (refl, refl)) world.sides.admin);
      image = ap length image;
    } in
    fetch_stepped s q c e new pages touched world l serves
    (subst (λ (xs : List ℕ). length xs < 3) (sym (a.touches ∙ ap (λ (xs : List ℕ). xs ++ page_posted controller ∷ []) one)) (omega arith))
    (λ t seen. absurd (true≢false (sym knows ∙ seen.unknown)))

-- All of them

takes_in : (s : Sides) (q : ℕ) (c : ControllerQueue) (e : SubEntry) (new : Contents) → IsWorld s → IsLooked s q c e → IsController new → (b : Bool) → (q == 0) ≡ b → TakesIn b s.controller (length s.pages) q e new
    → StepsTo s (events.Fetch q) (events.Fetched e.cid (page_of_head c ∷ [])) (served s new s.pages)
takes_in s q c e new world l is false io begin =
    subst (λ (x : Contents). StepsTo s (events.Fetch q) (events.Fetched e.cid (page_of_head c ∷ [])) (served s x s.pages)) (sym begin.leaves)
    (begins s q c e begin.job world l (subst IsController begin.leaves is) io begin.is)
takes_in s q c e new world l is true z done =
    subst (λ (x : Contents). StepsTo s (events.Fetch q) (events.Fetched e.cid (page_of_head c ∷ [])) (served s x s.pages)) (sym done)
    (subst (λ (k : ℕ). IsLooked s k c e → StepsTo s (events.Fetch k) (events.Fetched e.cid (page_of_head c ∷ [])) (served s (managed (length s.pages) e s.controller) s.pages)) (sym (eqb-true q 0 z))
    (λ l. manages s c e world l (subst IsController done is)) l)

taken_up : (s : Sides) (q : ℕ) (c : ControllerQueue) (e : SubEntry) (new : Contents) (pages : Pages) (looked touched : List ℕ) → IsWorld s → IsLooked s q c e → IsController new → LeavesPages s.pages pages
    → looked ≡ page_of_head c ∷ [] → entry_refusal s.controller (byte_at s.pages) q e ≡ None → (b : Bool) → is_known s.controller q e ≡ b → Takes b s.controller (length s.pages) q e (byte_at s.pages) looked new (byte_at pages) touched
    → StepsTo s (events.Fetch q) (events.Fetched e.cid touched) (served s new pages)
taken_up s q c e new pages looked touched world l is leaves one room true knows took = answers s q c e new pages looked touched world l is leaves knows room one took.0 took.2
taken_up s q c e new pages looked touched world l is leaves one room false unknown took =
    subst (λ (x : Pages). StepsTo s (events.Fetch q) (events.Fetched e.cid touched) (served s new x)) (sym (same_pages s pages world leaves took.1))
    (subst (λ (xs : List ℕ). StepsTo s (events.Fetch q) (events.Fetched e.cid xs) (served s new s.pages)) (sym (took.2 ∙ one)) (takes_in s q c e new world l is (q == 0) refl took.0))

pub fetches : fetches_step
fetches s q (Err why) c pages touched world is leaves f =
    serve_refused s (events.Fetch q) (why_of why) touched c pages world refl f.1 (same_pages s pages world leaves f.2) (refused s q why touched world (look_refusal s.controller (byte_at s.pages) q) refl f.0)
fetches s q (Ok cid) c pages touched world is leaves f =
    let (queue, l, one) = looked s q f.entry f.looked f.looks in
    subst (λ (id : ℕ). StepsTo s (events.Fetch q) (events.Fetched id touched) (served s c pages)) (sym f.named)
    (taken_up s q queue f.entry c pages f.looked touched world l is leaves one f.room (is_known s.controller q f.entry) refl f.takes)
