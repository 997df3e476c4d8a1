-- What is decided of admin commands.
use Rattle.machine_model.specs.After as a
use Rattle.machine_model.specs.Events as events
use Rattle.std.proofs.Common.{◌≡◌, ℕ, zero, suc, ◌+◌, ◌/◌, ◌%◌, ◌==◌, nat_lt, Bool, true, false, not, ◌&&◌, ◌||◌, Option, refl, arith, Some, List, [], ◌∷◌, slice_get, if◌then◌else◌, ap, sym, ◌∙◌, subst, inl, inr}
use Rattle.std.{proofs.lemmas.Bool.{not-false, or_parts, and_parts, cond_both, true≢false}, specs.Option.option_map_or}
use Rattle.admin_commands.specs.Entries.{named_queue, named_command, named_size, named_base, named_completion_queue, is_contiguous, is_opcode}
use Rattle.admin_commands.specs.Verdicts.{create_cq_verdict, create_sq_verdict, decision, delete_cq_verdict, delete_sq_verdict, half_fault, is_absent, is_io_queue, is_live}
use Rattle.admin_commands.specs.declared.AdminVerdict.{AdminVerdict, TheVariants.{Answer, AbortJob, StopQueue, DropCompletion, MakeCompletion, MakeSubmission}}
use Rattle.admin_commands.specs.declared.DeviceView.{DeviceView}
use Rattle.entry_codec.specs.declared.{admin_opcode.TheConstants.{ABORT, DELETE_IO_SQ, DELETE_IO_CQ, CREATE_IO_CQ, CREATE_IO_SQ}, completion.ComEntry.ComEntry}
use Rattle.entry_codec.specs.declared.{status.Status.Status, submission.SubEntry.SubEntry}
use Rattle.two_sides.specs.{Hearing.heard, Sides.Sides, Ties.SharesAdmin}
use Rattle.page_memory.specs.{Pages.Pages, declared.page.Half.{Half, TheVariants.{Submission, Completion}}}
use Rattle.queue_pair.specs.{Memory.half_pages, Rings.{HostRing, hearing_head, hearing_tail, knowing, next_head, next_tail}, Slots.is_in_range}
use Rattle.controller_core.specs.{Completing.{queues_of_end, without_submission}, Contents.{Contents, FetchedWork, is_deletion}}
use Rattle.controller_core.specs.Doorbells.{with_side, with_tail, with_head}
use Rattle.controller_core.specs.Managing.{queues_after, stopping, with_completion, with_submission, without_completion}
use Rattle.controller_core.specs.declared.{command.FetchedWork.TheVariants.{Io, Admin}, queue.ControllerQueue.ControllerQueue}
use Rattle.host_core.specs.{Alone.{HostView, HostStep, alone}, Ringing.{tail_of, head_rung}}
use Rattle.machine_model.proofs.{Kept.{making_cq_as_heard, making_sq_as_heard}, Moves.{half_from, host_moves}, Owned.{HoldsPart, holds_from_sound}}
use Rattle.machine_model.{proofs.Steps.{Accepts, kept_anyway, part_left}, specs.{After.change, Claims.{AdminLives, IsSound}}}
use Rattle.machine_model.specs.{Events.{Event, Reply}, Refusals.is_live as is_live_refusals, State.{State, HostQueue}, Step.{HostPart, IsController, host_part}}
use Rattle.page_ledger.specs.Owners.{pages_from}
use Rattle.slot_table.proofs.Rows.{option_is}

-- What the rule of an admin entry saw where it decided so.

-- a creation of a completion queue that is not there, and one of a submission queue that is not there beside its completion queue; neither is queue 0
pub record MakesFree (e : SubEntry) (view : DeviceView) (q base : ℕ) : Type 0 where
  pub opcode : (e.opcode == CREATE_IO_CQ) ≡ true
  pub queue : q ≡ named_queue e
  pub other : (q == 0) ≡ false
  pub begins : base ≡ named_base e
  pub free : view.cq_there ≡ false

pub record MakesPaired (e : SubEntry) (view : DeviceView) (q base : ℕ) : Type 0 where
  pub opcode : (e.opcode == CREATE_IO_SQ) ≡ true
  pub queue : q ≡ named_queue e
  pub other : (q == 0) ≡ false
  pub begins : base ≡ named_base e
  pub free : is_absent view.sq ≡ true
  pub there : view.cq_there ≡ true

-- the job that an Abort stops walks, and the queue that is stopped runs
abbrev pub Decides : SubEntry → DeviceView → AdminVerdict → Type 0
Decides e view (Answer st dw0) = Unit {0}
Decides e view (AbortJob q cid) = (q ≡ named_queue e) × (cid ≡ named_command e) × (view.target_walks ≡ true)
Decides e view (StopQueue q) = (q ≡ named_queue e) × (is_live view.sq ≡ true)
Decides e view (DropCompletion q) = (e.opcode == DELETE_IO_CQ) ≡ true × (q ≡ named_queue e) × (view.cq_there ≡ true) × (is_absent view.sq ≡ true)
Decides e view (MakeCompletion q base) = MakesFree e view q base
Decides e view (MakeSubmission q base) = MakesPaired e view q base

-- an I/O queue isn't queue 0
not_admin : (q : ℕ) (view : DeviceView) → not (is_io_queue q view) ≡ false → (q == 0) ≡ false
not_admin q view e = grind arith

pub decides : (e : SubEntry) (view : DeviceView) → Decides e view (decision e view)
decides e view =
    let q : ℕ = named_queue e in
    let stopping : Q (delete_sq_verdict q view) =
    cond_both ((q == 0) || not (is_live view.sq)) _ _ Q (λ w. tt) (λ w. (refl, not-false (is_live view.sq) (or_parts (q == 0) (not (is_live view.sq)) w).1)) in
    let dropping : (e.opcode == DELETE_IO_CQ) ≡ true → Q (delete_cq_verdict q view) = λ is4.
    cond_both ((q == 0) || not view.cq_there) _ _ Q (λ w. tt)
    (λ w. cond_both (not (is_absent view.sq)) _ _ Q (λ x. tt) (λ x. (is4, refl, not-false view.cq_there (or_parts (q == 0) (not view.cq_there) w).1, not-false (is_absent view.sq) x))) in
    let completing : (e.opcode == CREATE_IO_CQ) ≡ true → Q (create_cq_verdict e view) = λ is5.
    cond_both (not (is_io_queue q view) || view.cq_there) _ _ Q (λ w. tt)
    (λ w. halving Completion (MakeCompletion q (named_base e)) (record {
      opcode = is5;
      queue = refl;
      other = not_admin q view (or_parts (not (is_io_queue q view)) view.cq_there w).0;
      begins = refl;
      free = (or_parts (not (is_io_queue q view)) view.cq_there w).1;
    })) in
    let submitting : (e.opcode == CREATE_IO_SQ) ≡ true → Q (create_sq_verdict e view) = λ is1.
    cond_both (not (is_io_queue q view) || not (is_absent view.sq)) _ _ Q (λ w. tt)
    (λ w. cond_both (not (is_io_queue (named_completion_queue e) view)) _ _ Q (λ c. tt)
    (λ known. cond_both (not view.cq_there || not (named_completion_queue e == q)) _ _ Q (λ c. tt)
    (λ v. halving Submission (MakeSubmission q (named_base e))
    (record {
      opcode = is1;
      queue = refl;
      other = not_admin q view (or_parts (not (is_io_queue q view)) (not (is_absent view.sq)) w).0;
      begins = refl;
      free = not-false (is_absent view.sq) (or_parts (not (is_io_queue q view)) (not (is_absent view.sq)) w).1;
      there = not-false view.cq_there (or_parts (not view.cq_there) (not (named_completion_queue e == q)) v).0;
    })))) in
    cond_both (not (is_opcode e.opcode)) _ _ Q (λ c. tt)
    (λ known. cond_both (not (e.fuse == 0)) _ _ Q (λ c. tt)
    (λ unfused. cond_both (e.opcode == ABORT) _ _ Q (λ is8. (cond_both (view.target_walks && not (q == 0)) _ _ Q (λ w. (refl, refl, (and_parts view.target_walks (not (q == 0)) w).0)) (λ w. tt)))
    (λ not8. cond_both (e.opcode == DELETE_IO_SQ) _ _ Q (λ is0. stopping)
    (λ not0. cond_both (e.opcode == DELETE_IO_CQ) _ _ Q dropping
    (λ not4. cond_both (e.opcode == CREATE_IO_CQ) _ _ Q completing
    (λ not5. submitting (grind arith)))))))
  where
    Q : AdminVerdict → Type 0
    Q v = Decides e view v

    -- a half that has a fault, and one that has none
    halving : (half : Half) (v : AdminVerdict) → Q v → Q (option_map_or (λ fault. Answer fault 0) (half_fault half e view) v)
    halving half v sound =
        cond_both (not (named_size e == view.entries)) _ _ R (λ c. tt)
        (λ sized. cond_both (not (is_contiguous e)) _ _ R (λ c. tt)
        (λ whole. cond_both (not (named_base e % 4096 == 0)) _ _ R (λ c. tt)
        (λ paged. cond_both (nat_lt view.pages (named_base e / 4096 + half_pages view.entries half)) _ _ R (λ c. tt) (λ inside. sound))))
      where
        R : Option Status → Type 0
        R o = Q (option_map_or (λ fault. Answer fault 0) o v)

-- The size of the rings matters only where an I/O queue is named.
pub same_decision : (e : SubEntry) (view : DeviceView) (n : ℕ) → (is_io_queue (named_queue e) view ≡ true → view.entries ≡ n) → decision e view ≡ decision e (record view { entries = n })
same_decision e view n same = grind arith

-- Queue 0 keeps its halves on both sides, whatever was forged: no event of the host gives them back, and no entry makes it anew at the controller.

-- The host's queues

-- queue 0 lives, and has its halves where the controller has them
record AdminStands (n : ℕ) (hs : List HostQueue) (cs : List ControllerQueue) : Type 0 where
  lives : AdminLives hs
  shares : SharesAdmin n hs cs

-- a change that leaves the pages of the queue
abbrev LeavesHalves : (HostQueue → HostQueue) → Type 0
LeavesHalves f = (x : HostQueue) → ((f x).sq_pages ≡ x.sq_pages) × ((f x).cq_pages ≡ x.cq_pages)

shares_left : (n k : ℕ) (f : HostQueue → HostQueue) (hs : List HostQueue) (cs : List ControllerQueue) → LeavesHalves f → SharesAdmin n hs cs → SharesAdmin n (change k f hs) cs
shares_left n k f [] cs leaves h = h
shares_left n zero f (x ∷ hs) [] leaves h = h
shares_left n zero f (x ∷ hs) (c ∷ cs) leaves h = record { submission = (leaves x).0 ∙ h.submission; completion = (leaves x).1 ∙ h.completion }
shares_left n (suc k) f (x ∷ hs) [] leaves h = h
shares_left n (suc k) f (x ∷ hs) (c ∷ cs) leaves h = h

-- or a change of a queue that is not live, so it isn't queue 0
shares_past : (n k : ℕ) (f : HostQueue → HostQueue) (hs : List HostQueue) (cs : List ControllerQueue) → ((x : HostQueue) → slice_get hs k ≡ Some x → is_live_refusals x.state ≡ false)
    → AdminStands n hs cs → SharesAdmin n (change k f hs) cs
shares_past n zero f (x ∷ hs) cs past h = absurd (true≢false (sym h.lives ∙ past x refl))
shares_past n (suc k) f (x ∷ hs) [] past h = tt
shares_past n k f x cs past h = h.shares

lives_ring : (k : ℕ) (g : HostRing → HostRing) (hs : List HostQueue) → AdminLives hs → AdminLives (change k (λ x. record x { ring = g x.ring }) hs)
lives_ring k g [] h = h
lives_ring zero g (x ∷ hs) h = h
lives_ring (suc k) g (x ∷ hs) h = h

stands_ring : (n k : ℕ) (g : HostRing → HostRing) (hs : List HostQueue) (cs : List ControllerQueue) → AdminStands n hs cs → AdminStands n (change k (λ x. record x { ring = g x.ring }) hs) cs
stands_ring n k g hs cs h = record { lives = lives_ring k g hs h.lives; shares = shares_left n k (λ x. record x { ring = g x.ring }) hs cs (λ x. (refl, refl)) h.shares }

event : (cs : List ControllerQueue) (s : State) (e : Event) (reply : Reply) → Accepts s e reply → IsController e ≡ false → HoldsPart (host_part s)
    → SharesAdmin s.entries s.host.queues cs → SharesAdmin (a.after s e reply).entries (a.after s e reply).host.queues cs
event cs s e reply ok c holds share =
    let h : AdminStands n hs cs = record { lives = holds.admin; shares = share } in
    let told : (q : ℕ) (e : ComEntry) → AdminStands n (a.heard q e s).host.queues cs = λ q e.
    stands_ring n q (knowing e.sqhd) (change q (λ x. record x { ring = next_head n x.ring }) hs) cs (stands_ring n q (next_head n) hs cs h) in
    let behind : (q : ℕ) (e : ComEntry) (k : ℕ) (f : HostQueue → HostQueue) → ((x : HostQueue) → slice_get (a.heard q e s).host.queues k ≡ Some x → is_live_refusals x.state ≡ false)
    → SharesAdmin n (change k f (a.heard q e s).host.queues) cs = λ q e k f past.
    shares_past n k f (a.heard q e s).host.queues cs past (told q e) in
    let sent : AdminStands n (change 0 (λ x. record x { ring = next_tail n x.ring }) hs) cs = stands_ring n 0 (next_tail n) hs cs h in
    host_moves (λ (e : Event) (reply : Reply) (t : State). SharesAdmin t.entries t.host.queues cs) s e reply ok c
    (record {
      reserves = λ q request d none is. share;
      submits = λ d entry r none built its live. (stands_ring n d.q (next_tail n) hs cs h).shares;
      cancels = λ d r its. share;
      rings = λ q none. share;
      rests = λ q is. share;
      rejects = λ q why is. (stands_ring n q (next_head n) hs cs h).shares;
      tells = λ q cid st what e r request t heard w. (told q e).shares;
      hears = λ q cid st what e r adm t heard w quiet unmade. (told q e).shares;
      notes = λ q cid st what e r k t heard w. shares_left n k (λ x. record x { state = _ }) (a.heard q e s).host.queues cs (λ x. (refl, refl)) (told q e).shares;
      frees = λ q cid st what e r k queue t heard w at alone good. behind q e k a.gone (λ x ex. same at ex (grind arith));
      makes_cq = λ q cid st what e r k size base vector t heard w good. shares_left n k a.half_made (a.heard q e s).host.queues cs (λ x. (refl, refl)) (told q e).shares;
      unmakes_cq = λ q cid st what e r k size base vector queue t heard w at bad. behind q e k a.gone (λ x ex. ap is_live_refusals (making_cq_as_heard s q cid st e r k size base vector holds heard w x ex));
      makes_sq = λ q cid st what e r k size base t heard w good. shares_left n k a.live (a.heard q e s).host.queues cs (λ x. (refl, refl)) (told q e).shares;
      unmakes_sq = λ q cid st what e r k size base queue t heard w at bad. behind q e k a.unmade_sq (λ x ex. ap is_live_refusals (making_sq_as_heard s q cid st e r k size base holds heard w x ex));
      collects = λ q cid r f at held is. share;
      releases = λ f r its. share;
      aborts = λ q cid id none new. sent.shares;
      asks = λ q id queue none new live. shares_left n q a.deleting (change 0 (λ x. record x { ring = next_tail n x.ring }) hs) cs (λ x. (refl, refl)) sent.shares;
      drops = λ q id none new. sent.shares;
      creates_cqs = λ q vector id first queue none new granted.
          shares_left n 0 (λ x. record x { ring = next_tail n x.ring }) (change q (a.making_cq (half_from Completion first s)) hs) cs (λ x. (refl, refl))
          (shares_past n q (a.making_cq (half_from Completion first s)) hs cs (λ x ex. same granted.there ex (ap is_live_refusals granted.state)) h);
      creates_sqs = λ q id first queue none new granted.
          shares_left n 0 (λ x. record x { ring = next_tail n x.ring }) (change q (a.making_sq (half_from Submission first s)) hs) cs (λ x. (refl, refl))
          (shares_past n q (a.making_sq (half_from Submission first s)) hs cs (λ x ex. same granted.there ex (ap is_live_refusals granted.state)) h);
      retires = λ q queue none at deleted. shares_past n q a.retired hs cs (λ x ex. same at ex (ap is_live_refusals deleted)) h;
      forges = λ q slot bytes queue none at. share;
      resets = reset hs cs share;
    })
  where
    n : ℕ
    n = s.entries

    hs : List HostQueue
    hs = s.host.queues

    same : {o : Option HostQueue} {x y : HostQueue} → o ≡ Some x → o ≡ Some y → is_live_refusals x.state ≡ false → is_live_refusals y.state ≡ false
    same {o} {x} {y} at ex past = let is : x ≡ y = cc (at, ex) in subst (λ (z : HostQueue). is_live_refusals z.state ≡ false) is past

    reset : (hs : List HostQueue) (cs : List ControllerQueue) → SharesAdmin n hs cs → SharesAdmin n (a.reset_queues hs) cs
    reset [] cs share = share
    reset (x ∷ hs) [] share = share
    reset (x ∷ hs) (c ∷ cs) share = record { submission = share.submission; completion = share.completion }

-- The controller's queues

-- a change that keeps where the halves begin, or one of another queue
abbrev LeavesPlaces : (ControllerQueue → ControllerQueue) → Type 0
LeavesPlaces g = (c : ControllerQueue) → ((g c).controller.sq ≡ c.controller.sq) × ((g c).controller.cq ≡ c.controller.cq)

pub places_left : (n k : ℕ) (g : ControllerQueue → ControllerQueue) (hs : List HostQueue) (cs : List ControllerQueue) → LeavesPlaces g → SharesAdmin n hs cs → SharesAdmin n hs (change k g cs)
places_left n k g [] cs leaves h = tt
places_left n k g (x ∷ hs) [] leaves h = h
places_left n zero g (x ∷ hs) (c ∷ cs) leaves h =
    record {
      submission = h.submission ∙ ap (λ (p : ℕ). pages_from p (half_pages n Submission)) (sym (leaves c).0);
      completion = h.completion ∙ ap (λ (p : ℕ). pages_from p (half_pages n Completion)) (sym (leaves c).1);
    }
places_left n (suc k) g (x ∷ hs) (c ∷ cs) leaves h = h

places_past : (n k : ℕ) (g : ControllerQueue → ControllerQueue) (hs : List HostQueue) (cs : List ControllerQueue) → (k == 0) ≡ false → SharesAdmin n hs cs → SharesAdmin n hs (change k g cs)
places_past n k g [] cs other h = tt
places_past n k g (x ∷ hs) [] other h = h
places_past n zero g (x ∷ hs) (c ∷ cs) other h = absurd (true≢false other)
places_past n (suc k) g (x ∷ hs) (c ∷ cs) other h = h

-- a doorbell is rung

tail_leaves : (v : ℕ) → LeavesPlaces (with_tail v)
tail_leaves v c =
    cond_both (nat_lt v c.controller.entries) (with_side (record c.controller { ring = hearing_tail v c.controller.ring }) c) c (λ x. (x.controller.sq ≡ c.controller.sq) × (x.controller.cq ≡ c.controller.cq)) (λ e. (refl, refl)) (λ e. (refl, refl))

head_leaves : (v : ℕ) → LeavesPlaces (with_head v)
head_leaves v c =
    cond_both (is_in_range c.controller.entries c.controller.ring.known_head c.controller.ring.tail v) (with_side (record c.controller { ring = hearing_head v c.controller.ring }) c) c (λ x. (x.controller.sq ≡ c.controller.sq) × (x.controller.cq ≡ c.controller.cq))
    (λ e. (refl, refl)) (λ e. (refl, refl))

-- what holds of its queues where no doorbell was rung, and where a tail or head doorbell was
pub heard_by : (P : List ControllerQueue → Type 0) (e : Event) (reply : Reply) (v : HostView) (c : Contents) → ((q tail : ℕ) → P c.queues → P (change q (with_tail tail) c.queues))
    → ((q head : ℕ) → P c.queues → P (change q (with_head head) c.queues)) → P c.queues → P (heard e reply v c).queues
heard_by P e (events.Refused why touched) v c tails heads h = h
heard_by P (events.Ring q) events.Accepted v c tails heads h = elim (option_is (tail_of v q)) [ inl e ↦ rw e h | inr (tail, e) ↦ rw e (tails q tail h) ]
heard_by P (events.Reap q) (events.Reaps what) v c tails heads h = elim (option_is (head_rung v q what)) [ inl e ↦ rw e h | inr (head, e) ↦ rw e (heads q head h) ]
heard_by P e reply v c tails heads h = h

-- a step of the host, and what the controller sees of it
pub admin_behind : (s : Sides) (e : Event) (reply : Reply) (host : HostView) (pages : Pages) → IsController e ≡ false → HostStep s.host s.pages e reply host pages → IsSound (alone s.host s.pages)
    → SharesAdmin s.host.entries s.host.host.queues s.controller.queues → SharesAdmin host.entries host.host.queues (heard e reply host s.controller).queues
admin_behind s e reply host pages c step sound share =
    let Shares : HostPart → Type 0 = λ part. SharesAdmin part.entries part.host.queues s.controller.queues in
    let before : State = alone s.host s.pages in
    heard_by (SharesAdmin host.entries host.host.queues) e reply host s.controller
    (λ q tail. places_left host.entries q (with_tail tail) host.host.queues s.controller.queues (tail_leaves tail))
    (λ q head. places_left host.entries q (with_head head) host.host.queues s.controller.queues (head_leaves head))
    (subst Shares (sym (part_left before e reply (alone host pages) step.2))
    (kept_anyway Shares before e reply (IsController e) refl step.1 (λ ok c'. event s.controller.queues before e reply ok c' (holds_from_sound before sound)) share))

-- What an entry of queue 0 decides, and what the end of a command leaves

pub admin_verdict : (e : SubEntry) (view : DeviceView) (n : ℕ) (hs : List HostQueue) (cs : List ControllerQueue) → SharesAdmin n hs cs → SharesAdmin n hs (queues_after (decision e view) cs)
admin_verdict e view n hs cs share = by_verdict (decision e view) (decides e view)
  where
    by_verdict : (v : AdminVerdict) → Decides e view v → SharesAdmin n hs (queues_after v cs)
    by_verdict (Answer st dw0) d = share
    by_verdict (AbortJob q cid) d = share
    by_verdict (StopQueue q) d = places_left n q stopping hs cs (λ c. (refl, refl)) share
    by_verdict (DropCompletion q) d = places_left n q without_completion hs cs (λ c. (refl, refl)) share
    by_verdict (MakeCompletion q base) d = places_past n q (with_completion base) hs cs d.other share
    by_verdict (MakeSubmission q base) d = places_past n q (with_submission base) hs cs d.other share

pub admin_ended : (n : ℕ) (work : FetchedWork) (hs : List HostQueue) (cs : List ControllerQueue) → SharesAdmin n hs cs → SharesAdmin n hs (queues_of_end work cs)
admin_ended n (Io job) hs cs share = share
admin_ended n (Admin entry status dw0) hs cs share = by_deletion (is_deletion entry status)
  where
    by_deletion : (b : Bool) → SharesAdmin n hs (if b then change (named_queue entry) without_submission cs else cs)
    by_deletion true = places_left n (named_queue entry) without_submission hs cs (λ c. (refl, refl)) share
    by_deletion false = share
