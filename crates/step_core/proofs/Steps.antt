-- Each call of a world is a step of the machine, after which both sides are tied.
use Rattle.controller_core.specs.declared.refusal.ControllerRefusal.{ControllerRefusal}
use Rattle.host_core.specs.Ringing as ringing
use Rattle.machine_model.specs.Events as events
use Rattle.machine_model.specs.Step as machine
use Rattle.page_memory.specs.Pages as store
use Rattle.controller_core.specs.Opening as controller
use Rattle.std.proofs.Common.{◌≡◌, ℕ, Bool, true, false, Option, Some, List, [], Result, Ok, Err, OnErr, IfOk, length, refl, ap, sym, ◌∙◌, subst, rules, ◌≢◌, ◌+◌, ◌*◌, ◌<◌, ◌≤◌, None, ◌∷◌, ap₂, arith, ◌⊎◌, inl, inr, get_or, zero, suc, ◌++◌}
use Rattle.std.{proofs.lemmas.{Bool.{true≢false, OnTrue_at, OnTrue_from, lt-leb}, Option.slice_get_cases}, specs.Option.{option_map_or, option_map}}
use Rattle.std.specs.{Prelude.{slice_get, slice_index, option_and_then, if◌then◌else◌}, Result.result_err}
use Rattle.controller_core.specs.{Completing.{CompletesTo, complete_refusal}, Contents.{Contents, IsController}, Doorbells.{tail_rung, head_rung}}
use Rattle.controller_core.specs.{Fetching.Fetches, Resetting.reset, Walking.{WalksTo, walk_refusal}, declared.queue.QueuePages.QueuePages}
use Rattle.controller_walk.specs.declared.walk.WalkState.{WalkState}
use Rattle.host_core.specs.{Alone.{HostView, HostStep, IsOver, alone}, Looks.completion_base, Opening.{refusal_of_config, opened_view, opened_pages}}
use Rattle.host_core.specs.{Resetting.{host_reset, pages_reset}, Ringing.tail_of, declared.config.Config.Config}
use Rattle.machine_model.specs.{Agreeing.SidesAgree, Claims.IsSound, Events.{Event, Reply}, Refusals.{refusal_of, in_state, is_reaped}}
use Rattle.machine_model.specs.{State.{State, HostQueue}, Step.{Step, forges, Refuses}, declared.words.{Reaped.Reaped, Refusal.Refusal}}
use Rattle.two_sides.proofs.{Agreed.agreed_stays, CompletionPosts.{forged_stepped, slots_are_in}, CompleteSteps.complete_steps, FetchSteps.fetches}
use Rattle.two_sides.{proofs.{HostSteps.hosts_stepped, Resets.{reset_stepped, opened_are_worlds}, WalkSteps.walk_steps}, specs.{Hearing.heard, Laws.behind}}
use Rattle.two_sides.specs.{Opening.halves_from, Serving.{Walks, Completes, fetch_reply, walk_reply, complete_reply}, Sides.{Sides, state_of}}
use Rattle.two_sides.specs.{Stepping.{StepsTo, LeavesPages, forged, reset_sides}, Ties.{IsWorld, first_completion_page}}
use Rattle.page_memory.{proofs.Bytes.none_at, specs.{Memory.{Memory, counted, bytes_at, page_of, written}, Pages.{Pages, byte_at, AreWhole, IsPool}}}
use Rattle.page_memory.specs.declared.page.Half.TheVariants.{Submission, Completion}
use Rattle.step_core.specs.{Opening.opening_of, Replies.ring_reply, Touching.StaysAllowed, World.sides_of}
use Rattle.queue_pair.specs.Memory.{completion_place, completion_slot, half_pages}
use Rattle.machine_model.specs.declared.words.Peer.TheVariants.{Modelled}

-- Each call of a world is a step of the machine, after which both sides are tied.

pub record Goes (s : Sides) (e : Event) (reply : Reply) (new : Sides) : Type 0 where
  pub step : Step (state_of s) e reply (state_of new)
  pub world : IsWorld new

pub goes : (s : Sides) (e : Event) (reply : Reply) (new : Sides) → IsWorld s → StepsTo s e reply new → Goes s e reply new
goes s e reply new l h =
    record { step = h.0; world = h.1 }

-- what a world shows is sound
pub shown_sound : (s : Sides) → IsWorld s → IsSound (state_of s)
shown_sound s l =
    let kept = l.sides.kept in
    search (rules, kept)

-- the same from the state that is seen of a world
pub step_from : {s new : Sides} {e : Event} {reply : Reply} {old : State} → Goes s e reply new → state_of s ≡ old → Step old e reply (state_of new)
step_from {s} {new} {e} {reply} g is = subst (λ (old : State). Step old e reply (state_of new)) is g.step

-- what a step may touch
pub allowed : {s new : Sides} {e : Event} {reply : Reply} {old : State} → Goes s e reply new → state_of s ≡ old → IsWorld s → StaysAllowed old e reply
allowed {s} {new} {e} {reply} g is l =
    subst (λ (old : State). StaysAllowed old e reply) is
    (OnTrue_from s.trusted _ (λ on. agreed_stays (state_of s) (state_of new) e reply ((OnTrue_at on l.tied).agree) on g.step))

-- The host's calls

pub host_goes : (s : Sides) (e : Event) (reply : Reply) (host : HostView) (pages : Pages) (c : Contents) → IsWorld s → machine.IsController e ≡ false → forges e ≡ false
    → HostStep s.host s.pages e reply host pages → IsOver host pages → c ≡ heard e reply host s.controller → Goes s e reply (sides_of host c pages s.trusted)
host_goes s e reply host pages c l h f step over is =
    subst (λ (c : Contents). Goes s e reply (sides_of host c pages s.trusted)) (sym is) (goes s e reply (behind s e reply host pages) l (hosts_stepped s e reply host pages l h f step over))

-- the calls that ring a doorbell
abbrev pub rings : Event → Bool
rings (events.Ring q) = true
rings (events.Reap q) = true
rings e = false

unheard : (e : Event) (reply : Reply) (v : HostView) (c : Contents) → rings e ≡ false → c ≡ heard e reply v c
unheard (events.Ring q) reply v c h = absurd (true≢false h)
unheard (events.Reap q) reply v c h = absurd (true≢false h)
unheard e (events.Refused why touched) v c h = refl
unheard e reply v c h = refl

pub silent_goes : (s : Sides) (e : Event) (reply : Reply) (host : HostView) (pages : Pages) → IsWorld s → machine.IsController e ≡ false → forges e ≡ false → rings e ≡ false
    → HostStep s.host s.pages e reply host pages → IsOver host pages → Goes s e reply (sides_of host s.controller pages s.trusted)
silent_goes s e reply host pages l h f quiet step over = host_goes s e reply host pages s.controller l h f step over (unheard e reply host s.controller quiet)

-- the tail doorbell is rung, and the head doorbell where a completion was taken

pub ring_goes : (s : Sides) (q tail : ℕ) (c : Contents) → IsWorld s → ((pages : Pages) → HostStep s.host pages (events.Ring q) events.Accepted s.host pages) → tail_of s.host q ≡ Some tail
    → c ≡ tail_rung q tail s.controller → Goes s (events.Ring q) events.Accepted (sides_of s.host c s.pages s.trusted)
ring_goes s q tail c l step at is =
    host_goes s (events.Ring q) events.Accepted s.host s.pages c l refl refl (step s.pages) l.sides.over
    (is ∙ sym (ap (λ (o : Option ℕ). option_map_or (λ tail. tail_rung q tail s.controller) o s.controller) at))

pub ring_refused : (s : Sides) (old : State) (q : ℕ) (why : Refusal) (result : Result (Unit {0}) Refusal) → state_of s ≡ old → IsWorld s → ((pages : Pages) → HostStep s.host pages (events.Ring q) (events.Refused why []) s.host pages)
    → result ≡ Err why → Step old (events.Ring q) (ring_reply result) old
ring_refused s old q why result is l step refused =
    subst (λ (result : Result (Unit {0}) Refusal). Step old (events.Ring q) (ring_reply result) old) (sym refused)
    (subst (λ (old : State). Step old (events.Ring q) (events.Refused why []) old) is (host_goes s (events.Ring q) (events.Refused why []) s.host s.pages s.controller l refl refl (step s.pages) l.sides.over refl).step)

pub reap_goes : (s : Sides) (q : ℕ) (what : Reaped) (head : Option ℕ) (host : HostView) (pages : Pages) (c : Contents) → IsWorld s → HostStep s.host s.pages (events.Reap q) (events.Reaps what) host pages
    → head ≡ ringing.head_rung host q what → IsOver host pages → c ≡ option_map_or (λ head. head_rung q head s.controller) head s.controller
    → Goes s (events.Reap q) (events.Reaps what) (sides_of host c pages s.trusted)
reap_goes s q what head host pages c l step at over is =
    host_goes s (events.Reap q) (events.Reaps what) host pages c l refl refl step over
    (is ∙ ap (λ (o : Option ℕ). option_map_or (λ head. head_rung q head s.controller) o s.controller) at)

-- The controller's calls. Each begins with no page touched.

leaves : (old cleared new : store.Contents) → cleared ≡ record old { touched = []; unlisted = counted old.unlisted (length old.touched) } → AreWhole new.pages → length new.pages ≡ length cleared.pages → LeavesPages old.pages new.pages
leaves old cleared new is whole count = record { whole = whole; count = count ∙ ap (λ (x : store.Contents). length x.pages) is }

pub fetch_goes : (host : HostView) (controller c : Contents) (old cleared new : store.Contents) (trusted : Bool) (q : ℕ) (result : Result ℕ ControllerRefusal)
    → IsWorld (sides_of host controller old.pages trusted) → cleared ≡ record old { touched = []; unlisted = counted old.unlisted (length old.touched) } → IsController c → AreWhole new.pages → length new.pages ≡ length cleared.pages
    → Fetches controller (length cleared.pages) (byte_at cleared.pages) cleared.touched q result c (byte_at new.pages) new.touched
    → (touched : List ℕ) (reply : Reply) → touched ≡ new.touched → reply ≡ fetch_reply result touched
    → Goes (sides_of host controller old.pages trusted) (events.Fetch q) reply (sides_of host c new.pages trusted)
fetch_goes host controller c old cleared new trusted q result l is ok whole count f touched reply same says =
    let s = sides_of host controller old.pages trusted in
    subst (λ (reply : Reply). Goes s (events.Fetch q) reply (sides_of host c new.pages trusted)) (sym (says ∙ ap (λ (touched : List ℕ). fetch_reply result touched) same))
    (goes s (events.Fetch q) (fetch_reply result new.touched) _ l
    (fetches s q result c new.pages new.touched l ok (leaves old cleared new is whole count)
    (subst (λ (x : store.Contents). Fetches controller (length x.pages) (byte_at x.pages) x.touched q result c (byte_at new.pages) new.touched) is f)))

-- what a refused call leaves
abbrev pub Stays : Contents → Memory → List ℕ → Contents → Memory → List ℕ → Type 0
Stays c m reached c' m' reached' = (c' ≡ c) × (m' ≡ m) × (reached' ≡ reached)

walks_by : (c : Contents) (m : Memory) (reached : List ℕ) (q cid : ℕ) (result : Result WalkState ControllerRefusal) (c' : Contents) (m' : Memory) (reached' : List ℕ)
    → result_err result ≡ walk_refusal c q cid → OnErr result (Stays c m reached c' m' reached') → IfOk result (λ state. WalksTo c q cid m reached state c' m' reached')
    → Walks c m reached q cid result c' m' reached'
walks_by c m reached q cid (Ok state) c' m' reached' why stays walks = (sym why, walks)
walks_by c m reached q cid (Err cause) c' m' reached' why stays walks = (sym why, stays.0, stays.1, stays.2)

pub walk_goes : (host : HostView) (controller c : Contents) (old cleared new : store.Contents) (trusted : Bool) (q cid : ℕ) (result : Result WalkState ControllerRefusal)
    → IsWorld (sides_of host controller old.pages trusted) → cleared ≡ record old { touched = []; unlisted = counted old.unlisted (length old.touched) } → IsController c → AreWhole new.pages → length new.pages ≡ length cleared.pages
    → result_err result ≡ walk_refusal controller q cid
    → OnErr result (Stays controller (byte_at cleared.pages) cleared.touched c (byte_at new.pages) new.touched)
    → IfOk result (λ state. WalksTo controller q cid (byte_at cleared.pages) cleared.touched state c (byte_at new.pages) new.touched)
    → (touched : List ℕ) (reply : Reply) → touched ≡ new.touched → reply ≡ walk_reply result touched
    → Goes (sides_of host controller old.pages trusted) (events.Walk q cid) reply (sides_of host c new.pages trusted)
walk_goes host controller c old cleared new trusted q cid result l is ok whole count why stays walks touched reply same says =
    let s = sides_of host controller old.pages trusted in
    subst (λ (reply : Reply). Goes s (events.Walk q cid) reply (sides_of host c new.pages trusted)) (sym (says ∙ ap (λ (touched : List ℕ). walk_reply result touched) same))
    (goes s (events.Walk q cid) (walk_reply result new.touched) _ l
    (walk_steps s q cid result c new.pages new.touched l ok (leaves old cleared new is whole count)
    (subst (λ (x : store.Contents). Walks controller (byte_at x.pages) x.touched q cid result c (byte_at new.pages) new.touched) is
    (walks_by controller (byte_at cleared.pages) cleared.touched q cid result c (byte_at new.pages) new.touched why stays walks))))

completes_by : (c : Contents) (m : Memory) (reached : List ℕ) (q cid : ℕ) (result : Result (Unit {0}) ControllerRefusal) (c' : Contents) (m' : Memory) (reached' : List ℕ)
    → result_err result ≡ complete_refusal c m q cid → OnErr result (Stays c m reached c' m' reached') → IfOk result (λ done. CompletesTo c q cid m reached c' m' reached')
    → Completes c m reached q cid result c' m' reached'
completes_by c m reached q cid (Ok done) c' m' reached' why stays completes = (sym why, completes)
completes_by c m reached q cid (Err cause) c' m' reached' why stays completes = (sym why, stays.0, stays.1, stays.2)

pub complete_goes : (host : HostView) (controller c : Contents) (old cleared new : store.Contents) (trusted : Bool) (q cid : ℕ) (result : Result (Unit {0}) ControllerRefusal)
    → IsWorld (sides_of host controller old.pages trusted) → cleared ≡ record old { touched = []; unlisted = counted old.unlisted (length old.touched) } → IsController c → AreWhole new.pages → length new.pages ≡ length cleared.pages
    → result_err result ≡ complete_refusal controller (byte_at cleared.pages) q cid
    → OnErr result (Stays controller (byte_at cleared.pages) cleared.touched c (byte_at new.pages) new.touched)
    → IfOk result (λ done. CompletesTo controller q cid (byte_at cleared.pages) cleared.touched c (byte_at new.pages) new.touched)
    → (touched : List ℕ) (reply : Reply) → touched ≡ new.touched → reply ≡ complete_reply result touched
    → Goes (sides_of host controller old.pages trusted) (events.Complete q cid) reply (sides_of host c new.pages trusted)
complete_goes host controller c old cleared new trusted q cid result l is ok whole count why stays completes touched reply same says =
    let s = sides_of host controller old.pages trusted in
    subst (λ (reply : Reply). Goes s (events.Complete q cid) reply (sides_of host c new.pages trusted)) (sym (says ∙ ap (λ (touched : List ℕ). complete_reply result touched) same))
    (goes s (events.Complete q cid) (complete_reply result new.touched) _ l
    (complete_steps s q cid result c new.pages new.touched l ok (leaves old cleared new is whole count)
    (subst (λ (x : store.Contents). Completes controller (byte_at x.pages) x.touched q cid result c (byte_at new.pages) new.touched) is
    (completes_by controller (byte_at cleared.pages) cleared.touched q cid result c (byte_at new.pages) new.touched why stays completes))))

-- Where a forged completion goes.

-- an address whose byte is there is in the pool
in_pool : (pages : Pages) (place : ℕ) → IsPool pages → byte_at pages place ≢ None → place < 268435456
in_pool pages place pool there = by_presence (slice_get_cases pages (page_of place)).1
  where
    by_presence : ((x : Option (List ℕ)) × (page_of place < length pages) × (slice_get pages (page_of place) ≡ Some x) × (get_or pages (page_of place) x ≡ x)) ⊎ ((length pages ≤ page_of place) × (slice_get pages (page_of place) ≡ None)) → place < 268435456
    by_presence (inl (x, within, at, same)) = let few = pool.few in omega (arith, within, few)
    by_presence (inr (beyond, none)) = absurd (there (rw none refl))

-- what a forged completion's address is
pub record IsSlot (s : Sides) (q slot place : ℕ) : Type 0 where
  pub queue : HostQueue
  pub here : slice_get s.host.host.queues q ≡ Some queue
  pub is : place ≡ completion_place (first_completion_page queue) slot
  pub there : completion_slot (byte_at s.pages) (first_completion_page queue) slot ≢ None
  pub fits : place < 268435456

-- a ring begins at the first page of its half
begins_at : (reaped : Bool) (pages : List ℕ) (base : ℕ) → (if reaped then option_map (λ page. 4096 * page) (slice_get pages 0) else None) ≡ Some base → base ≡ 4096 * slice_index pages 0
begins_at false pages base is = absurd cc
begins_at true [] base is = absurd cc
begins_at true (page ∷ pages) base is = cc

pub forges_none : (s : Sides) (q slot : ℕ) (bytes : List ℕ) → in_state is_reaped (alone s.host []) q ≡ true → slot < s.host.entries → refusal_of (state_of s) (events.Forge q slot bytes) ≡ None
forges_none s q slot bytes reaped below = rw (reaped, lt-leb s.host.entries slot below) refl

pub slot_is : (s : Sides) (q slot base : ℕ) (bytes : List ℕ) → IsWorld s → Some base ≡ completion_base s.host q → in_state is_reaped (alone s.host []) q ≡ true → slot < s.host.entries → IsSlot s q slot (base + 16 * slot)
slot_is s q slot base bytes l at reaped below = by_queue (slice_get s.host.host.queues q) refl (sym at)
  where
    by_queue : (o : Option HostQueue) → slice_get s.host.host.queues q ≡ o
        → option_and_then (λ queue. if is_reaped queue.state then option_map (λ page. 4096 * page) (slice_get queue.cq_pages 0) else None) o ≡ Some base → IsSlot s q slot (base + 16 * slot)
    by_queue None here is = absurd cc
    by_queue (Some h) here is =
        let first = first_completion_page h in
        let place : base + 16 * slot ≡ completion_place first slot = ap (λ (n : ℕ). n + 16 * slot) (begins_at (is_reaped h.state) h.cq_pages base is) in
        let there = slots_are_in s q slot bytes h l (forges_none s q slot bytes reaped below) here in
        record {
          queue = h;
          here = here;
          is = place;
          there = there;
          fits = subst (λ (n : ℕ). n < 268435456) (sym place) (in_pool s.pages (completion_place first slot) l.sides.over.pool (λ none. there (none_at (byte_at s.pages) (completion_place first slot) 16 none (omega arith))));
        }

-- The call: its address, counted from where the ring begins, and what it leaves

pub slot_at : (s : Sides) (q slot base from count : ℕ) → IsWorld s → Some base ≡ completion_base s.host q → true ≡ in_state is_reaped (alone s.host []) q → slot < count → count ≡ s.host.entries → from ≡ slot
    → IsSlot s q slot (base + 16 * from)
slot_at s q slot base from count l at live below entries same =
    subst (λ (from : ℕ). IsSlot s q slot (base + 16 * from)) (sym same) (slot_is s q slot base [] l at (sym live) (subst (λ (n : ℕ). slot < n) entries below))

pub never_out : (s : Sides) (q slot place : ℕ) (cleared : Pages) (bytes : List ℕ) → IsSlot s q slot place → byte_at cleared ≡ byte_at s.pages → length bytes ≡ 16 → bytes_at (byte_at cleared) place (length bytes) ≡ None → ⊥
never_out s q slot place cleared bytes at same many out =
    at.there (sym (ap (λ (place : ℕ). bytes_at (byte_at s.pages) place 16) at.is) ∙ (sym (ap₂ (λ (m : Memory) (n : ℕ). bytes_at m place n) same many) ∙ out))

pub forge_goes : (s : Sides) (q slot place count : ℕ) (bytes : List ℕ) (cleared new : Pages) → IsWorld s → true ≡ in_state is_reaped (alone s.host []) q → slot < count → count ≡ s.host.entries → IsSlot s q slot place
    → length bytes ≡ 16 → byte_at cleared ≡ byte_at s.pages → length cleared ≡ length s.pages → AreWhole new → length new ≡ length cleared → byte_at new ≡ written (byte_at cleared) place bytes
    → Goes s (events.Forge q slot bytes) events.Accepted (sides_of s.host s.controller new false)
forge_goes s q slot place count bytes cleared new l live below entries at many same size whole size' is =
    goes s (events.Forge q slot bytes) events.Accepted (forged s new) l
    (forged_stepped s q slot bytes at.queue new l many (forges_none s q slot bytes (sym live) (subst (λ (n : ℕ). slot < n) entries below)) at.here
    (record { whole = whole; count = size' ∙ size })
    (is ∙ ap₂ (λ (m : Memory) (place : ℕ). written m place bytes) same at.is))

-- What it is refused for

-- A reset of both sides is a step of the machine, after which they agree.

-- no command is left at the controller
reset_controller : (c : Contents) → IsController (reset c)
reset_controller c = record { commands = record { each = tt; differ = λ q cid. omega arith }; awaited = tt }

pub reset_goes : (s : Sides) (host : HostView) (controller : Contents) (pages : Pages) → IsWorld s → host ≡ host_reset s.host s.pages → pages ≡ pages_reset s.host s.pages → IsOver host pages → controller ≡ reset s.controller
    → Goes s events.Reset events.Accepted (sides_of host controller pages true)
reset_goes s host controller pages l is_host is_pages over is_controller =
    subst (λ (host : HostView). Goes s events.Reset events.Accepted (sides_of host controller pages true)) (sym is_host)
    (subst (λ (pages : Pages). Goes s events.Reset events.Accepted (sides_of (host_reset s.host s.pages) controller pages true)) (sym is_pages)
    (subst (λ (controller : Contents). Goes s events.Reset events.Accepted (sides_of (host_reset s.host s.pages) controller (pages_reset s.host s.pages) true)) (sym is_controller)
    (goes s events.Reset events.Accepted (reset_sides s) l (reset_stepped s l (reset_controller s.controller) over_both))))
  where
    over_both : IsOver (host_reset s.host s.pages) (pages_reset s.host s.pages)
    over_both = subst (λ (pages : Pages). IsOver (host_reset s.host s.pages) pages) is_pages (subst (λ (host : HostView). IsOver host pages) is_host over)

-- where a step leads to a trusted world, both sides agree
pub agree_behind : {s new : Sides} {e : Event} {reply : Reply} → Goes s e reply new → new.trusted ≡ true → SidesAgree (state_of new)
agree_behind g trusted = (OnTrue_at trusted g.world.tied).agree

-- A world as it opens.

-- Where halves begin, with one more queue

abbrev pub at_page : ℕ → ℕ → QueuePages
at_page n page = record { sq = page; cq = page + half_pages n Submission }

pub halves_more : (n page k : ℕ) → halves_from page n (suc k) ≡ halves_from page n k ++ at_page n (page + k * (half_pages n Submission + half_pages n Completion)) ∷ []
halves_more n page zero = ap (λ (p : ℕ). at_page n p ∷ []) (omega arith)
halves_more n page (suc k) =
    ap (λ (rest : List QueuePages). at_page n page ∷ rest)
    (halves_more n (page + half_pages n Submission + half_pages n Completion) k
    ∙ ap (λ (p : ℕ). halves_from (page + half_pages n Submission + half_pages n Completion) n k ++ at_page n p ∷ []) (further page (half_pages n Submission) (half_pages n Completion) k))
  where
    further : (page a b k : ℕ) → page + a + b + k * (a + b) ≡ page + suc k * (a + b)
    further page a b k = omega arith

pub next_halves : (n k first a b : ℕ) (old new : List QueuePages) → a ≡ half_pages n Submission → b ≡ half_pages n Completion → first ≡ k * (a + b) → old ≡ halves_from 0 n k
    → new ≡ old ++ record { sq = first; cq = first + a } ∷ [] → new ≡ halves_from 0 n (k + 1)
next_halves n k first a b old new is_a is_b is_first is_old is_new =
    let start : k * (half_pages n Submission + half_pages n Completion) ≡ 0 + k * (half_pages n Submission + half_pages n Completion) = omega arith in
    let next : suc k ≡ k + 1 = omega arith in
    is_new
    ∙ (ap₂ (λ (old : List QueuePages) (pages : QueuePages). old ++ pages ∷ []) is_old
    (ap₂ (λ (first a : ℕ). record { sq = first; cq = first + a }) (is_first ∙ ap₂ (λ (a b : ℕ). k * (a + b)) is_a is_b) is_a)
    ∙ (ap (λ (p : ℕ). halves_from 0 n k ++ at_page n p ∷ []) start ∙ sym (halves_more n 0 k) ∙ ap (λ (k : ℕ). halves_from 0 n k) next))

-- Both sides as they open

pub opened_as_world : (c : Config) (image : List ℕ) (host : HostView) (pages : Pages) (halves : List QueuePages) (contents : Contents) → refusal_of_config c ≡ None → host ≡ opened_view c Modelled → pages ≡ opened_pages c
    → halves ≡ halves_from 0 c.entries (c.queues + 1) → contents ≡ controller.opened c.entries halves image
    → IsWorld (sides_of host contents pages true) × (state_of (sides_of host contents pages true) ≡ opening_of c image)
opened_as_world c image host pages halves contents fits is_host is_pages is_halves is_contents =
    subst (λ (s : Sides). IsWorld s × (state_of s ≡ opening_of c image))
    (sym (ap (λ (host : HostView). sides_of host contents pages true) is_host
    ∙ (ap (λ (pages : Pages). sides_of (opened_view c Modelled) contents pages true) is_pages
    ∙ ap (λ (contents : Contents). sides_of (opened_view c Modelled) contents (opened_pages c) true) (is_contents ∙ ap (λ (halves : List QueuePages). controller.opened c.entries halves image) is_halves))))
    (let world = opened_are_worlds c image fits in (world.1, world.0))
