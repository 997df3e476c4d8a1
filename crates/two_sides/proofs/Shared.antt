-- What both sides share.
use Rattle.controller_core.specs.Contents as controller
use Rattle.machine_model.specs.After as a
use Rattle.machine_model.specs.Events as events
use Rattle.machine_model.specs.declared.words.Reaped.TheVariants as reaped
use Rattle.std.proofs.Common.{◌≡◌, ℕ, zero, suc, ◌<◌, nat_lt, Bool, true, false, List, [], ◌∷◌, length, refl, sym, arith, subst, ap, not, ◌&&◌, ◌||◌, MatchBool, ◌∙◌}
use Rattle.std.proofs.lemmas.Bool.{true≢false, cond_both, Decides.nat_tests}
use Rattle.controller_core.specs.{Contents.Contents, Doorbells.{with_side, with_tail, with_head}, declared.queue.ControllerQueue.ControllerQueue}
use Rattle.host_core.specs.Alone.{HostView, alone, HostStep}
use Rattle.machine_model.{proofs.{HostLeaves.host_leaves, Steps.{Accepts, IsKept, each_step}}, specs.{After.{change, after}, Events.{Event, Reply}}}
use Rattle.machine_model.specs.State.{State, HostQueue}
use Rattle.machine_model.specs.Step.{HostPart, IsController, resets, KeepsController, Leaves, LeavesByController, LeavesByHost, Permits, forges, host_part}
use Rattle.two_sides.{proofs.{Blind.blind, PoolBytes.reset_leaves, TiedAll.queues_stay, AdminKept.heard_by}, specs.Hearing.heard}
use Rattle.two_sides.specs.{Laws.{hosts_share_queues, behind, forged_hosts_step}, Sides.{Sides, state_of, controller_part, served_queues_of}}
use Rattle.two_sides.specs.Ties.{ShareQueue, ShareQueues}
use Rattle.queue_pair.{proofs.Rings.in_range_below, specs.{Rings.{hearing_tail, hearing_head}, Slots.is_in_range}}
use Rattle.page_memory.specs.{Memory.Memory, Pages.{Pages, byte_at}}
use Rattle.controller_core.proofs.Lists.{length-change}

-- Every step of the host leaves the queues where both sides have them.

-- The host's queues, beside those of a controller

abbrev Shares : List ControllerQueue → HostPart → Type 0
Shares cs part = ShareQueues part.entries 0 part.host.queues cs

-- what is shared does not speak of the host's queues, except how many there are
as_many : (n q : ℕ) (hs hs' : List HostQueue) (cs : List ControllerQueue) → length hs' ≡ length hs → ShareQueues n q hs cs → ShareQueues n q hs' cs
as_many n q [] [] cs l h = h
as_many n q (x ∷ hs) (y ∷ hs') [] l h = absurd h
as_many n q (x ∷ hs) (y ∷ hs') (c ∷ cs) l h =
    (record { number = h.0.number; entries = h.0.entries; side = h.0.side }, as_many n (suc q) hs hs' cs (omega (arith, l)) h.1)
as_many n q x y cs l h = absurd (omega (arith, l))

event : (cs : List ControllerQueue) (s : State) (e : Event) (reply : Reply) → Accepts s e reply → IsController e ≡ false → IsKept (Shares cs) s e reply
event cs s e reply ok c h =
    subst (λ (n : ℕ). ShareQueues n 0 (a.after s e reply).host.queues cs) (sym (host_leaves s e reply ok c).entries)
    (as_many s.entries 0 s.host.queues (a.after s e reply).host.queues cs (queues_stay s e reply ok c) h)

-- The controller's queues, as its doorbell is rung

pub belled : (n q k : ℕ) (f : ControllerQueue → ControllerQueue) (hs : List HostQueue) (cs : List ControllerQueue) → ((i : ℕ) (h : HostQueue) (c : ControllerQueue) → ShareQueue n i h c → ShareQueue n i h (f c)) → ShareQueues n q hs cs → ShareQueues n q hs (controller.change k f cs)
belled n q k f hs [] keeps h = h
belled n q k f [] (c ∷ cs) keeps h = absurd h
belled n q zero f (x ∷ hs) (c ∷ cs) keeps h = (keeps q x c h.0, h.1)
belled n q (suc k) f (x ∷ hs) (c ∷ cs) keeps h = (h.0, belled n (suc q) k f hs cs keeps h.1)

tail_heard : (v n i : ℕ) (h : HostQueue) (c : ControllerQueue) → ShareQueue n i h c → ShareQueue n i h (with_tail v c)
tail_heard v n i h c share =
    cond_both (nat_lt v c.controller.entries) (with_side (record c.controller { ring = hearing_tail v c.controller.ring }) c) c (ShareQueue n i h) (λ e.
    let below : v < c.controller.entries = grind (arith, nat_tests) in
    record { number = share.number; entries = share.entries; side = record { least = share.side.least; most = share.side.most; head = share.side.head; bell = below; tail = share.side.tail; known_head = share.side.known_head } }) (λ e. share)

head_heard : (v n i : ℕ) (h : HostQueue) (c : ControllerQueue) → ShareQueue n i h c → ShareQueue n i h (with_head v c)
head_heard v n i h c share =
    cond_both (is_in_range c.controller.entries c.controller.ring.known_head c.controller.ring.tail v) (with_side (record c.controller { ring = hearing_head v c.controller.ring }) c) c (ShareQueue n i h) (λ e.
    let known = in_range_below c.controller.entries c.controller.ring.known_head c.controller.ring.tail v e in
    record { number = share.number; entries = share.entries; side = record { least = share.side.least; most = share.side.most; head = share.side.head; bell = share.side.bell; tail = share.side.tail; known_head = known } }) (λ e. share)

pub share_queues : hosts_share_queues
share_queues s e reply host pages c step share =
    heard_by (ShareQueues host.entries 0 host.host.queues) e reply host s.controller
    (λ q tail. belled host.entries 0 q (with_tail tail) host.host.queues s.controller.queues (tail_heard tail host.entries))
    (λ q head. belled host.entries 0 q (with_head head) host.host.queues s.controller.queues (head_heard head host.entries))
    (each_step (Shares s.controller.queues) (event s.controller.queues) (alone s.host s.pages) e reply (alone host pages) step share)

-- No call of the host alone is a reset: after a reset the machine is trusted, and a host alone trusts nothing.

pub never_alone : (v v' : HostView) (pages pages' : Pages) (reply : Reply) → HostStep v pages events.Reset reply v' pages' → ⊥
never_alone v v' pages pages' reply step = true≢false (sym (ap (λ (s : State). s.trusted) (reset_leaves (alone v pages) reply (alone v' pages') step)))

pub unreset : (v v' : HostView) (pages pages' : Pages) (e : Event) (reply : Reply) → HostStep v pages e reply v' pages' → resets e ≡ false
unreset v v' pages pages' e reply step = grind arith

-- After a forged entry a step of the host is one of the machine.

-- The controller keeps its queues and its image

pub length-heard : (e : Event) (reply : Reply) (v : HostView) (c : Contents) → length (heard e reply v c).queues ≡ length c.queues
length-heard e reply v c =
    heard_by (λ cs. length cs ≡ length c.queues) e reply v c (λ q tail h. length-change q (with_tail tail) c.queues) (λ q head h. length-change q (with_head head) c.queues) refl

pub image-heard : (e : Event) (reply : Reply) (v : HostView) (c : Contents) → (heard e reply v c).image ≡ c.image
image-heard e reply v c = grind arith

pub commands-heard : (e : Event) (reply : Reply) (v : HostView) (c : Contents) → (heard e reply v c).commands ≡ c.commands
commands-heard e reply v c = grind arith

pub length-controller : (m : Memory) (n q : ℕ) (hs : List HostQueue) (cs : List ControllerQueue) → ShareQueues n q hs cs → length (served_queues_of m hs cs) ≡ length cs
length-controller m n q [] [] h = refl
length-controller m n q (x ∷ hs) (c ∷ cs) h = ap suc (length-controller m n (suc q) hs cs h.1)
length-controller m n q x y h = absurd h

keeps : (s : Sides) (e : Event) (reply : Reply) (host : HostView) (pages : Pages) → ShareQueues s.host.entries 0 s.host.host.queues s.controller.queues
    → ShareQueues host.entries 0 host.host.queues (heard e reply host s.controller).queues → KeepsController (state_of s) (state_of (behind s e reply host pages))
keeps s e reply host pages share share' =
    record {
      image = ap (λ (image : List ℕ). length image) (image-heard e reply host s.controller);
      queues = length-controller (byte_at pages) host.entries 0 host.host.queues (heard e reply host s.controller).queues share'
          ∙ length-heard e reply host s.controller
          ∙ sym (length-controller (byte_at s.pages) s.host.entries 0 s.host.host.queues s.controller.queues share);
    }

-- What it leaves

by_host : (z f c : Bool) (s next new : State) → z ≡ false → c ≡ false → MatchBool (z || (not f && false)) (new ≡ next) (MatchBool c (LeavesByController s next new) (LeavesByHost s next new)) → LeavesByHost s next new
by_host true f c s next new y e h = absurd (true≢false y)
by_host false f true s next new y e h = absurd (true≢false e)
by_host false true false s next new y e h = h
by_host false false false s next new y e h = h

to_host : (z f t c : Bool) (s next new : State) → z ≡ false → t ≡ false → c ≡ false → LeavesByHost s next new → MatchBool (z || (not f && t)) (new ≡ next) (MatchBool c (LeavesByController s next new) (LeavesByHost s next new))
to_host z f t c s next new y e g h = grind arith

pub refused_leaves : (s : Sides) (host : HostView) (pages : Pages) → alone host pages ≡ alone s.host s.pages → state_of (record s { host = host; pages = pages }) ≡ state_of s
refused_leaves s host pages same = grind arith

accepted_leaves : (s : Sides) (e : Event) (reply : Reply) (host : HostView) (pages : Pages) → s.trusted ≡ false → KeepsController (state_of s) (state_of (behind s e reply host pages))
    → host_part (after (state_of s) e reply) ≡ host_part (after (alone s.host s.pages) e reply)
    → (after (state_of s) e reply).memory ≡ (after (alone s.host s.pages) e reply).memory
    → LeavesByHost (alone s.host s.pages) (after (alone s.host s.pages) e reply) (alone host pages)
    → LeavesByHost (state_of s) (after (state_of s) e reply) (state_of (behind s e reply host pages))
accepted_leaves s e reply host pages t controller part memory leaves =
    let untold : host_part (state_of (behind s e reply host pages)) ≡ host_part (alone host pages) =
    ap (λ (b : Bool). record (host_part (alone host pages)) { trusted = b }) t in
    record { part = untold ∙ leaves.part ∙ sym part; memory = leaves.memory ∙ sym memory; controller = controller }

left : (s : Sides) (e : Event) (reply : Reply) (host : HostView) (pages : Pages) → s.trusted ≡ false → IsController e ≡ false → resets e ≡ false → KeepsController (state_of s) (state_of (behind s e reply host pages))
    → host_part (after (state_of s) e reply) ≡ host_part (after (alone s.host s.pages) e reply)
    → (after (state_of s) e reply).memory ≡ (after (alone s.host s.pages) e reply).memory
    → Leaves (alone s.host s.pages) e reply (alone host pages)
    → Leaves (state_of s) e reply (state_of (behind s e reply host pages))
left s e (events.Refused why touched) host pages t c z controller part memory leaves = refused_leaves s host pages leaves
left s e (events.Reserved d) host pages t c z controller part memory leaves =
    to_host (resets e) (forges e) s.trusted (IsController e) (state_of s) _ _ z t c
    (accepted_leaves s e (events.Reserved d) host pages t controller part memory (by_host (resets e) (forges e) (IsController e) (alone s.host s.pages) _ _ z c leaves))
left s e reply host pages t c z controller part memory leaves =
    to_host (resets e) (forges e) s.trusted (IsController e) (state_of s) _ _ z t c
    (accepted_leaves s e reply host pages t controller part memory (by_host (resets e) (forges e) (IsController e) (alone s.host s.pages) _ _ z c leaves))

pub forged_step : forged_hosts_step
forged_step s e reply host pages t c step share =
    let both = blind (alone s.host s.pages) (controller_part s) e reply refl c step.1 in
    let same : record (alone s.host s.pages) { controller = controller_part s } ≡ state_of s = ap (λ (b : Bool). record (state_of s) { trusted = b }) (sym t) in
    let controller = keeps s e reply host pages share (share_queues s e reply host pages c step share) in (
      step.0,
      subst (λ (x : State). Permits x e reply) same both.0,
      left s e reply host pages t c (unreset s.host host s.pages pages e reply step) controller
          (subst (λ (x : State). host_part (after x e reply) ≡ host_part (after (alone s.host s.pages) e reply)) same both.1)
          (subst (λ (x : State). (after x e reply).memory ≡ (after (alone s.host s.pages) e reply).memory) same both.2)
          step.2,
    )
