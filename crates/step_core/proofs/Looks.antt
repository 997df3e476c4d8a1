-- What looks at a world tell, and that each touch is counted and told.
use Rattle.controller_core.specs.Looks as controller
use Rattle.machine_model.specs.Events as events
use Rattle.std.proofs.Common.{◌≡◌, ℕ, suc, ◌+◌, ◌<◌, ◌≤◌, Bool, true, false, ◌&&◌, Option, Some, None, List, [], ◌∷◌, length, is_none, IfSome, IfNone, IsTrue, refl, ap, sym, ◌∙◌, subst, arith, ◌⊎◌, inl, inr, get_or, below_more, not, is_some, if◌then◌else◌, zero, ◌-◌, ◌*◌, ◌++◌, Result, Ok, Err}
use Rattle.std.{proofs.lemmas.{Bool.{OnTrue_from, eq-eqb}, Option.{slice_get_cases, none-some, slice_get_past, slice_get_read}}, specs.Bool.OnTrue}
use Rattle.std.specs.{Option.{option_map, option_map_or}, Prelude.{slice_get, nat_eq, OnOk, OnErr}}
use Rattle.controller_core.specs.{Contents.Contents, Fetching.fetch_refusal}
use Rattle.controller_core.specs.Looks.{refusal_by, post_touches, post_touches_at, entry_touches, fetch_touches, heads_touch, looked, queue_numbers}
use Rattle.controller_core.specs.declared.{look.ControllerStep.{ControllerStep, TheVariants.{Fetch, Walk, Complete}}, queue.ControllerQueue.ControllerQueue}
use Rattle.controller_core.specs.declared.refusal.ControllerRefusal.{ControllerRefusal}
use Rattle.host_core.specs.{Alone.alone, Looks.completion_waits}
use Rattle.machine_model.specs.{Agreeing.{has_completions_at, is_absent_at}, Events.Reply, Refusals.{refusal_of, is_reaped, fetch_slot}}
use Rattle.machine_model.specs.{State.{State, HostQueue, ServedQueue, outstanding_on}, Touch.touched_by, declared.words.HostState.HostState}
use Rattle.page_memory.specs.{Memory.{Memory, counted, page_of, pages_reached, TouchesMore}, Pages.byte_at}
use Rattle.two_sides.proofs.{CompleteSteps.complete_refused_alike, FetchSteps.refuse_alike}
use Rattle.two_sides.proofs.Frames.{IsKnown, controller_at, served_at, known, placed, there_ring}
use Rattle.two_sides.proofs.{Places.{completions_seen, fetch_slot_is, post_slot_is, shows}, WalkSteps.walk_refused_alike}
use Rattle.two_sides.specs.{Serving.{why_of, fetch_reply, walk_reply, complete_reply}, Sides.{Sides, state_of, served_queue_of}, Ties.{ShareQueues, IsWorld}}
use Rattle.step_core.specs.Looks.{event_of, has_completion, IsAtRest}
use Rattle.step_core.specs.Rings.{fetching_of, posting_of, ShowsHalves, TellsRung, TellsFetching, TellsPosting, IsPosting}
use Rattle.step_core.specs.{Touching.{touches_more, LooksAtMost}, declared.rings.{FetchPositions.FetchPositions, PostPositions.PostPositions, Rings.Rings}}
use Rattle.admin_commands.specs.Verdicts.{is_absent}
use Rattle.queue_pair.specs.{Lists.expected_phase, Memory.completion_place, Positions.host_positions, Rings.ControllerSide, Slots.distance}
use Rattle.queue_pair.specs.declared.positions.HostPositions.{HostPositions}
use Rattle.entry_codec.specs.declared.submission.SubEntry.{SubEntry}
use Rattle.controller_walk.specs.declared.walk.WalkState.{WalkState}

-- What looks at a world tell, from those at its sides.

-- Completions

-- the host alone finds a completion where the world has one
pub waits_alike : (s : Sides) (q : ℕ) → IsWorld s → completion_waits (alone s.host s.pages) q ≡ has_completion (state_of s) q
waits_alike s q l = by_queue (slice_get s.host.host.queues q) refl
  where
    by_queue : (o : Option HostQueue) → slice_get s.host.host.queues q ≡ o → completion_waits (alone s.host s.pages) q ≡ has_completion (state_of s) q
    by_queue None at = rw at refl
    by_queue (Some h) at = inner (is_reaped h.state) refl
      where
        inner : (b : Bool) → is_reaped h.state ≡ b → completion_waits (alone s.host s.pages) q ≡ has_completion (state_of s) q
        inner false live = rw (at, live) refl
        inner true live = ap (λ (b : Bool). is_none (refusal_of (state_of s) (events.Reap q)) && b) (completions_seen s q h l at live)

-- a test that fails at one more queue
pub fails-more : {S : Type 0} (test : S → ℕ → Bool) (first now new : S) (n : ℕ) (b : Bool) → (now ≡ first) × ((k : ℕ) → k < n → test first k ≡ false) → new ≡ now → b ≡ test now n → b ≡ false
    → (new ≡ first) × ((k : ℕ) → k < n + 1 → test first k ≡ false)
fails-more test first now new n b kept same is fails =
    (same ∙ kept.0, below_more (λ k. test first k ≡ false) n kept.1 (ap (λ s. test s n) (sym kept.0) ∙ (sym is ∙ fails)))

-- no queue past the last one has a completion
pub no-completions : (s : State) (n : ℕ) → length s.host.queues ≤ n → ((k : ℕ) → k < n → has_completion s k ≡ false) → (q : ℕ) → has_completion s q ≡ false
no-completions s n past below q = by_presence (slice_get_cases s.host.queues q).1
  where
    by_presence : ((x : HostQueue) × (q < length s.host.queues) × (slice_get s.host.queues q ≡ Some x) × (get_or s.host.queues q x ≡ x)) ⊎ ((length s.host.queues ≤ q) × (slice_get s.host.queues q ≡ None)) → has_completion s q ≡ false
    by_presence (inl (x, within, at, same)) = below q (omega arith)
    by_presence (inr (beyond, none)) = rw none refl

-- The controller's steps

refusal_alike : (s : Sides) (step : ControllerStep) → IsWorld s → s.trusted ≡ true → refusal_of (state_of s) (event_of step) ≡ option_map why_of (refusal_by s.controller (byte_at s.pages) step)
refusal_alike s (Fetch q) l trust = refuse_alike s q l trust
refusal_alike s (Walk q cid) l trust = walk_refused_alike s q cid l trust
refusal_alike s (Complete q cid) l trust = complete_refused_alike s q cid l trust

pub possible : (s : Sides) (old : State) (o : Option ControllerStep) → state_of s ≡ old → IsWorld s → IfSome o (λ step. refusal_by s.controller (byte_at s.pages) step ≡ None)
    → IfSome o (λ step. IsTrue old.trusted → refusal_of old (event_of step) ≡ None)
possible s old None is l none = none
possible s old (Some step) is l none =
    subst (λ (old : State). IsTrue old.trusted → refusal_of old (event_of step) ≡ None) is (λ trust. refusal_alike s step l trust ∙ ap (option_map why_of) none)

refused_alike : (s : Sides) (step : ControllerStep) → IsWorld s → s.trusted ≡ true → is_none (refusal_by s.controller (byte_at s.pages) step) ≡ false → is_none (refusal_of (state_of s) (event_of step)) ≡ false
refused_alike s step l trust some = ap is_none (refusal_alike s step l trust) ∙ (same (refusal_by s.controller (byte_at s.pages) step) ∙ some)
  where
    same : (o : Option ControllerRefusal) → is_none (option_map why_of o) ≡ is_none o
    same None = refl
    same (Some why) = refl

pub as_many : (n k : ℕ) (hs : List HostQueue) (cs : List ControllerQueue) → ShareQueues n k hs cs → length cs ≡ length hs
as_many n k [] [] share = refl
as_many n k [] (c ∷ cs) share = absurd share
as_many n k (h ∷ hs) [] share = absurd share
as_many n k (h ∷ hs) (c ∷ cs) share = ap suc (as_many n (suc k) hs cs share.1)

-- no entry is fetched from a queue past the last one
past_last : (c : Contents) (m : Memory) (q : ℕ) → length c.queues ≤ q → is_none (fetch_refusal c m q) ≡ false
past_last c m q past = by_presence (slice_get_cases c.queues q).1
  where
    by_presence : ((x : ControllerQueue) × (q < length c.queues) × (slice_get c.queues q ≡ Some x) × (get_or c.queues q x ≡ x)) ⊎ ((length c.queues ≤ q) × (slice_get c.queues q ≡ None)) → is_none (fetch_refusal c m q) ≡ false
    by_presence (inl (x, within, at, same)) = absurd (omega arith)
    by_presence (inr (beyond, none)) = rw none refl

at_rest : (s : Sides) → IsWorld s → length s.host.host.queues < 65536 → controller.IsAtRest s.controller (byte_at s.pages) → s.trusted ≡ true → IsAtRest (state_of s)
at_rest s l few rest trust =
    record {
      fetches = λ q. refused_alike s (Fetch q) l trust (fetch q);
      walks = λ q cid. refused_alike s (Walk q cid) l trust (rest.commands q cid).0;
      completes = λ q cid. refused_alike s (Complete q cid) l trust (rest.commands q cid).1;
    }
  where
    many : length s.controller.queues ≡ length s.host.host.queues
    many = as_many s.host.entries 0 s.host.host.queues s.controller.queues l.sides.queues

    fetch : (q : ℕ) → is_none (fetch_refusal s.controller (byte_at s.pages) q) ≡ false
    fetch q = by_presence (slice_get_cases s.controller.queues q).1
      where
        by_presence : ((x : ControllerQueue) × (q < length s.controller.queues) × (slice_get s.controller.queues q ≡ Some x) × (get_or s.controller.queues q x ≡ x)) ⊎ ((length s.controller.queues ≤ q) × (slice_get s.controller.queues q ≡ None)) → is_none (fetch_refusal s.controller (byte_at s.pages) q) ≡ false
        by_presence (inl (x, within, at, same)) = rest.fetches q (omega (arith, many, few, within))
        by_presence (inr (beyond, none)) = past_last s.controller (byte_at s.pages) q beyond

pub rests : (s : Sides) (old : State) (o : Option ControllerStep) → state_of s ≡ old → IsWorld s → length s.host.host.queues < 65536 → IfNone o (controller.IsAtRest s.controller (byte_at s.pages))
    → IfNone o (IsTrue old.trusted → IsAtRest old)
rests s old None is l few rest = subst (λ (old : State). IsTrue old.trusted → IsAtRest old) is (λ trust. at_rest s l few rest trust)
rests s old (Some step) is l few rest = rest

-- What a look at the rings of a queue tells, from what both sides keep of it.

-- a look at a queue that both sides have
pub record IsLook (s : Sides) (q : ℕ) (h : HostQueue) (c : ControllerQueue) (rings : Rings) : Type 0 where
  pub world : IsWorld s
  pub host : slice_get s.host.host.queues q ≡ Some h
  pub controller : slice_get s.controller.queues q ≡ Some c
  pub positions : rings.host ≡ host_positions h.ring
  pub submission : rings.submission ≡ fetching_of c
  pub completion : rings.completion ≡ posting_of c

module _ (s : Sides) (q : ℕ) (h : HostQueue) (c : ControllerQueue) (rings : Rings) (l : IsLook s q h c rings) where
  queue : ServedQueue
  queue = served_queue_of (byte_at s.pages) h.ring c

  beside : slice_get (state_of s).controller.queues q ≡ Some (served_queue_of (byte_at s.pages) h.ring c)
  beside = served_at s q h c l.host l.controller

  absent : is_absent_at (state_of s).controller.queues q ≡ is_absent c.state
  absent = ap (λ (o : Option ServedQueue). option_map_or (λ at. is_absent at.state) o true) beside

  there : has_completions_at (state_of s).controller.queues q ≡ c.cq_there
  there = ap (λ (o : Option ServedQueue). option_map_or (λ at. at.cq_there) o false) beside

  none_if : (b : Bool) (at : FetchPositions) → is_some (if b then None else Some at) ≡ not b
  none_if true at = refl
  none_if false at = refl

  some_if : (b : Bool) (at : PostPositions) → is_some (if b then Some at else None) ≡ b
  some_if true at = refl
  some_if false at = refl

  pub shows_halves : ShowsHalves (state_of s) q rings
  shows_halves =
      record {
        submission = ap is_some l.submission ∙ none_if (is_absent c.state) _ ∙ ap not (sym absent);
        completion = ap is_some l.completion ∙ some_if c.cq_there _ ∙ sym there;
      }

  rung : (b : Bool) → is_absent c.state ≡ b → is_absent c.state ≡ false → option_map_or (λ (at : ServedQueue). at.rung) (slice_get (state_of s).controller.queues q) 0 ≡ distance c.controller.entries c.controller.ring.head c.controller.ring.bell
  rung b is has =
      ap (λ (o : Option ServedQueue). option_map_or (λ (at : ServedQueue). at.rung) o 0) beside
      ∙ ap (λ (b : Bool). if b then 0 else distance c.controller.entries c.controller.ring.head c.controller.ring.bell) has

  pub tells_rung : TellsRung (state_of s) q rings
  tells_rung = subst (λ (o : Option FetchPositions). IfSome o Tells) (sym l.submission) (by_absence (is_absent c.state) refl)
    where
      Tells : FetchPositions → Type 0
      Tells at = distance s.host.entries at.head at.tail_doorbell ≡ option_map_or (λ (queue : ServedQueue). queue.rung) (slice_get (state_of s).controller.queues q) 0

      by_absence : (b : Bool) → is_absent c.state ≡ b → IfSome (if b then None else Some (record { head = c.controller.ring.head; tail_doorbell = c.controller.ring.bell })) Tells
      by_absence true is = tt
      by_absence false is =
          ap (λ (n : ℕ). distance n c.controller.ring.head c.controller.ring.bell) (sym (placed s l.world q h c l.host l.controller).share.entries) ∙ sym (rung false is is)

  pub tells_fetching : s.trusted ≡ true → TellsFetching (state_of s) q rings
  tells_fetching t = subst (λ (o : Option FetchPositions). IfSome o (λ at. at.head ≡ fetch_slot (state_of s) q)) (sym l.submission) (by_absence (is_absent c.state) refl)
    where
      by_absence : (b : Bool) → is_absent c.state ≡ b → IfSome (if b then None else Some (record { head = c.controller.ring.head; tail_doorbell = c.controller.ring.bell })) (λ (at : FetchPositions). at.head ≡ fetch_slot (state_of s) q)
      by_absence true is = tt
      by_absence false is = sym (fetch_slot_is (state_of s) s q h c (shows s q h c l.host l.controller) (known s l.world t q h c l.host l.controller) is)

  pub tells_posting : s.trusted ≡ true → TellsPosting (state_of s) q rings
  tells_posting t = subst (λ (o : Option PostPositions). IfSome o (λ at. IsPosting (state_of s) q rings at)) (sym l.completion) (by_completion_queue c.cq_there refl)
    where
      k : IsKnown s q h c
      k = known s l.world t q h c l.host l.controller

      head : rings.host.completion_head ≡ h.ring.head
      head = ap (λ (at : HostPositions). at.completion_head) l.positions

      by_completion_queue : (b : Bool) → c.cq_there ≡ b
          → IfSome (if b then Some (record { tail = c.controller.ring.tail; phase = c.controller.ring.phase; head_doorbell = c.controller.ring.known_head }) else None) (λ (at : PostPositions). IsPosting (state_of s) q rings at)
      by_completion_queue false is = tt
      by_completion_queue true is =
          record {
            tail = sym (post_slot_is (state_of s) s q h c (shows s q h c l.host l.controller) k is);
            heard = (k.rings (there_ring h c is)).heard ∙ sym head;
            phase = ap (λ (at : HostPositions). at.phase) l.positions ∙ ((k.rings (there_ring h c is)).expected ∙ ap (λ (n : ℕ). expected_phase n c.controller.ring.tail c.controller.ring.phase) (sym head));
          }

-- all that a look tells of a state
pub record TellsAll (w : State) (q : ℕ) (looked : Option Rings) : Type 0 where
  pub state : option_map (λ rings. rings.state) looked ≡ option_map (λ queue. queue.state) (slice_get w.host.queues q)
  pub host : option_map (λ rings. rings.host) looked ≡ option_map (λ queue. host_positions queue.ring) (slice_get w.host.queues q)
  pub outstanding : IfSome looked (λ rings. rings.outstanding ≡ length (outstanding_on w.host q))
  pub halves : IfSome looked (λ rings. ShowsHalves w q rings)
  pub rung : IfSome looked (λ rings. TellsRung w q rings)
  pub fetching : IfSome looked (λ rings. OnTrue w.trusted (TellsFetching w q rings))
  pub posting : IfSome looked (λ rings. OnTrue w.trusted (TellsPosting w q rings))

pub tells_none : (w : State) (q : ℕ) (looked : Option Rings) → looked ≡ None → slice_get w.host.queues q ≡ None → TellsAll w q looked
tells_none w q looked is none =
    subst (λ (o : Option Rings). TellsAll w q o) (sym is)
    (record {
      state = sym (ap (option_map (λ (queue : HostQueue). queue.state)) none);
      host = sym (ap (option_map (λ (queue : HostQueue). host_positions queue.ring)) none);
      outstanding = tt;
      halves = tt;
      rung = tt;
      fetching = tt;
      posting = tt;
    })

pub tells_some : (s : Sides) (q : ℕ) (h : HostQueue) (c : ControllerQueue) (rings : Rings) → IsLook s q h c rings → rings.state ≡ h.state → rings.outstanding ≡ length (outstanding_on s.host.host q)
    → TellsAll (state_of s) q (Some rings)
tells_some s q h c rings l state outstanding =
    record {
      state = ap (λ (st : HostState). Some st) state ∙ sym (ap (option_map (λ (queue : HostQueue). queue.state)) l.host);
      host = ap (λ (at : HostPositions). Some at) l.positions ∙ sym (ap (option_map (λ (queue : HostQueue). host_positions queue.ring)) l.host);
      outstanding = outstanding;
      halves = shows_halves s q h c rings l;
      rung = tells_rung s q h c rings l;
      fetching = OnTrue_from s.trusted (TellsFetching (state_of s) q rings) (λ t. tells_fetching s q h c rings l t);
      posting = OnTrue_from s.trusted (TellsPosting (state_of s) q rings) (λ t. tells_posting s q h c rings l t);
    }

-- one that is told
pub host_told : (queues : List HostQueue) (q : ℕ) (state : HostState) (at : HostPositions) → Some state ≡ option_map (λ (queue : HostQueue). queue.state) (slice_get queues q)
    → Some at ≡ option_map (λ (queue : HostQueue). host_positions queue.ring) (slice_get queues q) → (h : HostQueue) × (slice_get queues q ≡ Some h) × (state ≡ h.state) × (at ≡ host_positions h.ring)
host_told queues q state at known is = by_queue (slice_get queues q) refl known is
  where
    by_queue : (o : Option HostQueue) → slice_get queues q ≡ o → Some state ≡ option_map (λ (queue : HostQueue). queue.state) o → Some at ≡ option_map (λ (queue : HostQueue). host_positions queue.ring) o
        → (h : HostQueue) × (slice_get queues q ≡ Some h) × (state ≡ h.state) × (at ≡ host_positions h.ring)
    by_queue None e known told = absurd (none-some _ (sym told))
    by_queue (Some h) e known told = (h, e, cc, cc)

-- a queue of the host is one of the controller too
pub not_beside : (s : Sides) (q : ℕ) → IsWorld s → slice_get s.controller.queues q ≡ None → slice_get s.host.host.queues q ≡ None
not_beside s q world none = by_queue (slice_get s.host.host.queues q) refl
  where
    by_queue : (o : Option HostQueue) → slice_get s.host.host.queues q ≡ o → slice_get s.host.host.queues q ≡ None
    by_queue None e = e
    by_queue (Some h) e = let c = controller_at s world q h e in absurd (none-some _ (sym none ∙ c.1))

at_place : (queues xs : List ControllerQueue) (q i : ℕ) (o : Option ControllerQueue) → xs ≡ queues → i ≡ q → slice_get xs i ≡ o → slice_get queues q ≡ o
at_place queues xs q i o same place is =
    subst (λ (k : ℕ). slice_get queues k ≡ o) place (subst (λ (l : List ControllerQueue). slice_get l i ≡ o) same is)

-- what is told where the controller has a queue at this index
pub told_there : (s : Sides) (w : State) (q i : ℕ) (xs : List ControllerQueue) (c : ControllerQueue) (rings : Rings) → IsWorld s → state_of s ≡ w → xs ≡ s.controller.queues → i ≡ q → i < length xs → c ≡ get_or xs i c
    → Some rings.state ≡ option_map (λ (queue : HostQueue). queue.state) (slice_get s.host.host.queues q) → Some rings.host ≡ option_map (λ (queue : HostQueue). host_positions queue.ring) (slice_get s.host.host.queues q)
    → rings.submission ≡ fetching_of c → rings.completion ≡ posting_of c → rings.outstanding ≡ length (outstanding_on s.host.host q) → TellsAll w q (Some rings)
told_there s w q i xs c rings world view same place inside is known told submission completion outstanding =
    let h = host_told s.host.host.queues q rings.state rings.host known told in
    subst (λ (w : State). TellsAll w q (Some rings)) view
    (tells_some s q h.0 c rings
    (record {
      world = world;
      host = h.1;
      controller = at_place s.controller.queues xs q i (Some c) same place (slice_get_read xs (length xs) i c refl inside is);
      positions = h.3;
      submission = submission;
      completion = completion;
    })
    h.2 outstanding)

-- and where it has none
pub told_past : (s : Sides) (w : State) (q i : ℕ) (xs : List ControllerQueue) (looked : Option Rings) → IsWorld s → state_of s ≡ w → xs ≡ s.controller.queues → i ≡ q → length xs ≤ i → looked ≡ None → TellsAll w q looked
told_past s w q i xs looked world view same place past is =
    subst (λ (w : State). TellsAll w q looked) view
    (tells_none (state_of s) q looked is (not_beside s q world (at_place s.controller.queues xs q i None same place (slice_get_past xs i past))))

-- Each touch is counted, and told.

-- what the replies of the controller's steps tell

pub fetch_told : (answer : Result ℕ ControllerRefusal) (touched : List ℕ) → touched_by (fetch_reply answer touched) ≡ touched
fetch_told (Ok cid) touched = refl
fetch_told (Err why) touched = refl

pub walk_told : (answer : Result WalkState ControllerRefusal) (touched : List ℕ) → touched_by (walk_reply answer touched) ≡ touched
walk_told (Ok state) touched = refl
walk_told (Err why) touched = refl

pub complete_told : (answer : Result (Unit {0}) ControllerRefusal) (touched : List ℕ) → touched_by (complete_reply answer touched) ≡ touched
complete_told (Ok done) touched = refl
complete_told (Err why) touched = refl

counted_none : (u n : ℕ) → counted (counted u n) 0 ≡ counted u n
counted_none u n = omega arith

counted_so : (u n more : ℕ) → counted (counted u n) more ≡ touches_more (counted u n) more
counted_so u n zero = counted_none u n
counted_so u n (suc more) = refl

-- the count after a step that began with an empty list, by what it reports
pub told_all : (u n touches u' : ℕ) (reached told : List ℕ) (reply : Reply) → u' ≡ counted u n → counted u n ≡ touches → told ≡ reached → touched_by reply ≡ told
    → counted u' (length reached) ≡ touches_more touches (length (touched_by reply))
told_all u n touches u' reached told reply cleared was is tells = rw (tells, is, cleared, ← was) (counted_so u n (length reached))

counted_sum : (u n more : ℕ) → counted u (n + more) ≡ counted (counted u n) more
counted_sum u n more = omega arith

-- a call touched this many more pages
pub touches_at : (touches touches' u u' pages : ℕ) (reached reached' : List ℕ) → counted u (length reached) ≡ touches → touches' ≡ counted u' (length reached')
    → TouchesMore u reached pages u' reached' → touches' ≡ touches_more touches pages
touches_at touches touches' u u' pages reached reached' was is more =
    is ∙ (more ∙ (counted_sum u (length reached) pages ∙ (counted_so u (length reached) pages ∙ rw was refl)))

pub looks_at : (most touches touches' u u' pages : ℕ) (reached reached' : List ℕ) → pages ≤ most → counted u (length reached) ≡ touches → touches' ≡ counted u' (length reached')
    → TouchesMore u reached pages u' reached' → LooksAtMost most touches touches'
looks_at most touches touches' u u' pages reached reached' few was is more =
    record { pages = pages; few = few; counts = touches_at touches touches' u u' pages reached reached' was is more }

-- a completion slot lies in one page
one_page : (a b : ℕ) → a ≡ b → length (if nat_eq a b then a ∷ [] else a ∷ b ∷ []) ≡ 1
one_page a b same = rw (eq-eqb a b same) refl

slot_reached : (cq slot : ℕ) → length (pages_reached (completion_place cq slot) 16) ≡ 1
slot_reached cq slot = one_page (page_of (completion_place cq slot)) (page_of (completion_place cq slot + 16 - 1)) (omega arith)

-- the count after a completion that was written into its slot
pub forged_one : (touches u u1 u2 : ℕ) (reached reached1 reached2 : List ℕ) (cq slot : ℕ) → counted u (length reached) ≡ touches → reached1 ≡ [] → u1 ≡ counted u (length reached)
    → reached2 ≡ reached1 ++ pages_reached (completion_place cq slot) 16 → u2 ≡ u1 → counted u2 (length reached2) ≡ counted touches 1
forged_one touches u u1 u2 reached reached1 reached2 cq slot was none cleared is same =
    rw (is, none, slot_reached cq slot, same, cleared, was) refl

-- looks follow one another
more_on : (touches a b : ℕ) → touches_more (touches_more touches a) b ≡ touches_more touches (a + b)
more_on touches zero b = rw none refl
  where
    none : 0 + b ≡ b
    none = omega arith
more_on touches (suc a) zero = rw none refl
  where
    none : suc a + 0 ≡ suc a
    none = omega arith
more_on touches (suc a) (suc b) = rw sum (sym (counted_sum touches (suc a) (suc b)) ∙ ap (λ n. counted touches n) sum)
  where
    sum : suc a + suc b ≡ suc (a + suc b)
    sum = omega arith

pub looks_on : (most more old mid new : ℕ) → LooksAtMost most old mid → LooksAtMost more mid new → LooksAtMost (most + more) old new
looks_on most more old mid new first second =
    record {
      pages = first.pages + second.pages;
      few = omega (arith, first.few, second.few);
      counts = second.counts ∙ rw first.counts (more_on old first.pages second.pages);
    }

pub looks_none : (touches : ℕ) → LooksAtMost 0 touches touches
looks_none touches = record { pages = 0; few = omega arith; counts = refl }

pub looks_fewer : (few most old new : ℕ) → few ≤ most → LooksAtMost few old new → LooksAtMost most old new
looks_fewer few most old new less looks = record { pages = looks.pages; few = omega (arith, looks.few, less); counts = looks.counts }

-- A look for a step of the controller touches two pages of each queue at most, and one of a completion.

either_few : (b : Bool) (x y most : ℕ) → x ≤ most → y ≤ most → (if b then x else y) ≤ most
either_few true x y most hx hy = hx
either_few false x y most hx hy = hy

mapped_few : {X : Type 0} (f : X → ℕ) (o : Option X) (most : ℕ) → ((x : X) → f x ≤ most) → option_map_or f o 0 ≤ most
mapped_few f None most few = omega arith
mapped_few f (Some x) most few = few x

post_few : (m : Memory) (controller : ControllerSide) → post_touches m controller ≤ 1
post_few m controller = either_few _ 1 0 1 (omega arith) (omega arith)

answer_few : (queues : List ControllerQueue) (m : Memory) (q : ℕ) → post_touches_at queues m q ≤ 1
answer_few queues m q = mapped_few (λ queue. post_touches m queue.controller) (slice_get queues q) 1 (λ queue. post_few m queue.controller)

entry_few : (c : Contents) (m : Memory) (q : ℕ) (e : SubEntry) → entry_touches c m q e ≤ 2
entry_few c m q e = either_few _ (1 + post_touches_at c.queues m q) 1 2 (omega (arith, answer_few c.queues m q)) (omega arith)

head_few : (c : Contents) (m : Memory) (q : ℕ) → fetch_touches c m q ≤ 2
head_few c m q = either_few _ 0 _ 2 (omega arith) (mapped_few (entry_touches c m q) _ 2 (λ e. entry_few c m q e))

heads_twice : (c : Contents) (m : Memory) (n : ℕ) → heads_touch c m n ≤ 2 * n
heads_twice c m zero = omega arith
heads_twice c m (suc n) = omega (arith, heads_twice c m n, head_few c m n)

-- past the last queue no page is touched
head_none : (c : Contents) (m : Memory) (q : ℕ) → slice_get c.queues q ≡ None → fetch_touches c m q ≡ 0
head_none c m q none = rw none refl

heads_few : (c : Contents) (m : Memory) (n : ℕ) → heads_touch c m n ≤ 2 * length c.queues
heads_few c m zero = omega arith
heads_few c m (suc n) = by_presence (heads_few c m n) (slice_get_cases c.queues n).1
  where
    by_presence : heads_touch c m n ≤ 2 * length c.queues → ((x : ControllerQueue) × (n < length c.queues) × (slice_get c.queues n ≡ Some x) × (get_or c.queues n x ≡ x)) ⊎ ((length c.queues ≤ n) × (slice_get c.queues n ≡ None)) → heads_touch c m (suc n) ≤ 2 * length c.queues
    by_presence before (inl (x, within, at, same)) = omega (arith, heads_twice c m n, head_few c m n, within)
    by_presence before (inr (beyond, none)) = omega (arith, before, head_none c m n none)

pub looked_few : (c : Contents) (m : Memory) (step : Option ControllerStep) → looked c m step ≤ 2 * length c.queues + 1
looked_few c m None = omega (arith, heads_few c m (queue_numbers c))
looked_few c m (Some (Fetch q)) = omega (arith, heads_few c m (q + 1))
looked_few c m (Some (Walk q cid)) = omega (arith, heads_few c m (queue_numbers c))
looked_few c m (Some (Complete q cid)) = omega (arith, heads_few c m (queue_numbers c), answer_few c.queues m q)

-- touches that were all taken off the list
pub cleared_more : (u u' pages : ℕ) (reached reached' : List ℕ) → u' ≡ counted u (length reached + pages) → reached' ≡ [] → TouchesMore u reached pages u' reached'
cleared_more u u' pages reached reached' is none = rw (none, is) (counted_none u (length reached + pages))

-- a read after an emptied list touches at most two pages
pub reads_few : {E : Type 0} (result : Result (Unit {0}) E) (into into' : List ℕ) (touches u u1 u2 : ℕ) (reached reached1 reached2 more : List ℕ) → counted u (length reached) ≡ touches → reached1 ≡ [] → u1 ≡ counted u (length reached) → u2 ≡ u1
    → length more ≤ 2 → OnOk result (reached2 ≡ reached1 ++ more) → OnErr result ((into' ≡ into) × (reached2 ≡ reached1)) → LooksAtMost 2 touches (counted u2 (length reached2))
reads_few (Ok done) into into' touches u u1 u2 reached reached1 reached2 more was none cleared same few read stays =
    record { pages = length more; few = few; counts = rw (read, none, same, cleared, ← was) (counted_so u (length reached) (length more)) }
reads_few (Err why) into into' touches u u1 u2 reached reached1 reached2 more was none cleared same few read stays =
    record { pages = 0; few = omega arith; counts = rw (stays.1, none, same, cleared, ← was) (counted_none u (length reached)) }
