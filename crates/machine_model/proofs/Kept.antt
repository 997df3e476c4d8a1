-- What each step keeps.
use Rattle.machine_model.specs.After as a
use Rattle.machine_model.specs.Events as events
use Rattle.std.proofs.Common.{◌≡◌, ℕ, zero, suc, ◌==◌, Bool, true, false, ◌&&◌, ◌||◌, ◌⊎◌, inl, inr, eqb-true, not, Option, Some, None, List, [], ◌∷◌, ◌++◌, map, slice_get, if◌then◌else◌, refl, ap, sym, ◌∙◌, arith, eq-eqb, subst, not, ◌&&◌, ◌+◌, ◌≤◌, nat_lt, length, filter, eqb-true, ltb-false}
use Rattle.std.{proofs.lemmas.Bool.{true≢false, not-false, or_parts, eqb-false}, specs.{List.AllByRecursion, Option.option_map_or}}
use Rattle.admin_commands.specs.declared.AdminKind.{AdminKind, TheVariants.{Abort, DeleteSq, DeleteCq, CreateCq, CreateSq}}
use Rattle.entry_codec.specs.{Status.is_success, declared.{completion.ComEntry.ComEntry, status.Status.Status}}
use Rattle.io_commands.specs.{Asked.Request, Requests.is_admin}
use Rattle.page_memory.specs.declared.page.Half.TheVariants.{Submission, Completion}
use Rattle.queue_pair.specs.{Memory.half_pages, Rings.{HostRing, next_tail, next_head, knowing}}
use Rattle.machine_model.proofs.Counting.{one, all_changed, total, total-append, total-map, total-filter}
use Rattle.machine_model.proofs.Moves.{host_moves, IsHeard, drafted_record, sent_record, sends, creates_cq, creates_sq, grants_cq, grants_sq, half_from, asked_is, making_cq_is, making_sq_is}
use Rattle.machine_model.proofs.Owned.{HoldsPart, Awaited, awaits, length_awaits, awaited_same, awaited_more, awaited_less, awaited_starts, awaited_ends, was_awaited, awaited_is, with_awaits, lost_awaits, awaited_at, at_other, lost_keeps, admin_total, reset_state, all_reset_queues}
use Rattle.machine_model.{proofs.Steps.{Accepts, unrefused}, specs.{After.change, Agreeing.is_known_deleted}}
use Rattle.machine_model.specs.{Claims.{DeletionsFit, CreationsFit, AdminLives, HasNoOtherPages, NewQueuesAreBare}, Commands.{Work, Io, Management}}
use Rattle.machine_model.specs.{Events.{Event, Reply}, Opening.{queues_from, opening}}
use Rattle.machine_model.specs.Refusals.{host_queue, takes_admin, has_cq_alone, is_asked, is_making_cq, is_making_sq, deletes_sq_of, creates_cq_of, creates_sq_of, is_live, is_deleted, has_sq, has_cq, in_service, is_reaped, is_making, in_state}
use Rattle.machine_model.specs.State.{State, Host, HostQueue, HostState, Live, Deleting, Retired, Gone, MakingCq, HalfMade, MakingSq, Record, record_at, with_record, without_record, is_at, outstanding_on}
use Rattle.machine_model.specs.Step.{host_part, IsController}

-- Every event of the host keeps that a command which it waits for is outstanding once where its queue's state waits for it, and nowhere else.

-- as the public statements say it

pub deletions_awaited : (h : Host) → DeletionsFit h → Awaited deletes_sq_of is_asked h.records h.queues
deletions_awaited h fit q = sym (length_awaits deletes_sq_of q h.records) ∙ fit q

pub completions_awaited : (h : Host) → CreationsFit h → Awaited creates_cq_of is_making_cq h.records h.queues
completions_awaited h fit q = sym (length_awaits creates_cq_of q h.records) ∙ (fit q).0

pub submissions_awaited : (h : Host) → CreationsFit h → Awaited creates_sq_of is_making_sq h.records h.queues
submissions_awaited h fit q = sym (length_awaits creates_sq_of q h.records) ∙ (fit q).1

pub deletions_fit : (h : Host) → Awaited deletes_sq_of is_asked h.records h.queues → DeletionsFit h
deletions_fit h awaited q = length_awaits deletes_sq_of q h.records ∙ awaited q

pub creations_fit : (h : Host) → Awaited creates_cq_of is_making_cq h.records h.queues → Awaited creates_sq_of is_making_sq h.records h.queues → CreationsFit h
creations_fit h cq sq q = (length_awaits creates_cq_of q h.records ∙ cq q, length_awaits creates_sq_of q h.records ∙ sq q)

-- Rings that move

pub awaited_ring : (of : ℕ → Work → Bool) (test : HostState → Bool) (rs : List Record) (hs : List HostQueue) (q : ℕ) (g : HostRing → HostRing) → Awaited of test rs hs → Awaited of test rs (change q (λ x. record x { ring = g x.ring }) hs)
awaited_ring of test rs hs q g h = awaited_same of test rs (λ x. record x { ring = g x.ring }) q hs (λ x e. refl) h

pub awaited_heard : (of : ℕ → Work → Bool) (test : HostState → Bool) (rs : List Record) (q : ℕ) (e : ComEntry) (s : State) → Awaited of test rs s.host.queues → Awaited of test rs (a.heard q e s).host.queues
awaited_heard of test rs q e s h =
    awaited_ring of test rs (change q (λ x. record x { ring = next_head s.entries x.ring }) s.host.queues) q (knowing e.sqhd) (awaited_ring of test rs s.host.queues q (next_head s.entries) h)

-- A queue as the host reaps the completion of its command

heard_waits : (of : ℕ → Work → Bool) (test : HostState → Bool) (s : State) (q cid : ℕ) (st : Status) (e : ComEntry) (r : Record) (k : ℕ) → HoldsPart (host_part s) → Awaited of test s.host.records s.host.queues → IsHeard s q cid st e r
    → of k r.work ≡ true → (x : HostQueue) → slice_get (a.heard q e s).host.queues k ≡ Some x → test x.state ≡ true
heard_waits of test s q cid st e r k holds h heard its x ex =
    awaited_is test (a.heard q e s).host.queues k x (was_awaited of test s.host.records (a.heard q e s).host.queues k q cid r heard.found its (holds.once q cid) (awaited_heard of test s.host.records q e s h)) ex

pub asked_as_heard : (s : State) (q cid : ℕ) (st : Status) (e : ComEntry) (r : Record) (k : ℕ) → HoldsPart (host_part s) → IsHeard s q cid st e r → r.work ≡ Management (DeleteSq k)
    → (x : HostQueue) → slice_get (a.heard q e s).host.queues k ≡ Some x → x.state ≡ Deleting false
asked_as_heard s q cid st e r k holds heard w x ex =
    asked_is x.state (heard_waits deletes_sq_of is_asked s q cid st e r k holds (deletions_awaited s.host holds.deletions) heard (ap (deletes_sq_of k) w ∙ eq-eqb k k refl) x ex)

pub making_cq_as_heard : (s : State) (q cid : ℕ) (st : Status) (e : ComEntry) (r : Record) (k n base : ℕ) (vector : Option ℕ) → HoldsPart (host_part s) → IsHeard s q cid st e r → r.work ≡ Management (CreateCq k n base vector)
    → (x : HostQueue) → slice_get (a.heard q e s).host.queues k ≡ Some x → x.state ≡ MakingCq
making_cq_as_heard s q cid st e r k n base vector holds heard w x ex =
    making_cq_is x.state (heard_waits creates_cq_of is_making_cq s q cid st e r k holds (completions_awaited s.host holds.creations) heard (ap (creates_cq_of k) w ∙ eq-eqb k k refl) x ex)

pub making_sq_as_heard : (s : State) (q cid : ℕ) (st : Status) (e : ComEntry) (r : Record) (k n base : ℕ) → HoldsPart (host_part s) → IsHeard s q cid st e r → r.work ≡ Management (CreateSq k n base)
    → (x : HostQueue) → slice_get (a.heard q e s).host.queues k ≡ Some x → x.state ≡ MakingSq
making_sq_as_heard s q cid st e r k n base holds heard w x ex =
    making_sq_is x.state (heard_waits creates_sq_of is_making_sq s q cid st e r k holds (submissions_awaited s.host holds.creations) heard (ap (creates_sq_of k) w ∙ eq-eqb k k refl) x ex)

-- Queues as they stand after a move of a ring

pub ring_at : (k q : ℕ) (g : HostRing → HostRing) (hs : List HostQueue) (y : HostQueue) → slice_get (change k (λ x. record x { ring = g x.ring }) hs) q ≡ Some y → (x : HostQueue) × (slice_get hs q ≡ Some x) × (y.state ≡ x.state)
ring_at k q g [] y e = absurd cc
ring_at zero zero g (h ∷ hs) y e = let same : record h { ring = g h.ring } ≡ y = cc in (h, refl, ap (λ (z : HostQueue). z.state) (sym same))
ring_at (suc k) (suc q) g (h ∷ hs) y e = ring_at k q g hs y e
ring_at k q g (h ∷ hs) y e = (y, e, refl)

pub ring_after : (k q : ℕ) (g : HostRing → HostRing) (hs : List HostQueue) (x : HostQueue) → slice_get hs q ≡ Some x → (y : HostQueue) × (slice_get (change k (λ x. record x { ring = g x.ring }) hs) q ≡ Some y) × (y.state ≡ x.state)
ring_after k q g [] x e = absurd cc
ring_after zero zero g (h ∷ hs) x e = let same : h ≡ x = cc in (record h { ring = g h.ring }, refl, ap (λ (z : HostQueue). z.state) same)
ring_after (suc k) (suc q) g (h ∷ hs) x e = ring_after k q g hs x e
ring_after k q g (h ∷ hs) x e = (x, e, refl)

-- What a queue waits for: the commands, and the states

pub record Waits (of : ℕ → Work → Bool) (test : HostState → Bool) : Type 0 where
  -- no I/O command, no Abort and no deletion of a completion queue
  pub io : (z : ℕ) (request : Request) → of z (Io request) ≡ false
  pub aborts : (z k cid : ℕ) → of z (Management (Abort k cid)) ≡ false
  pub drops : (z k : ℕ) → of z (Management (DeleteCq k)) ≡ false
  -- a queue waits for a command that names it alone
  pub deletes : (z k : ℕ) → (k == z) ≡ false → of z (Management (DeleteSq k)) ≡ false
  pub creates_cq : (z k n base : ℕ) (vector : Option ℕ) → (k == z) ≡ false → of z (Management (CreateCq k n base vector)) ≡ false
  pub creates_sq : (z k n base : ℕ) → (k == z) ≡ false → of z (Management (CreateSq k n base)) ≡ false
  pub kinds : (z : ℕ) (w : Work) → of z w ≡ true → (deletes_sq_of z w || (creates_cq_of z w || creates_sq_of z w)) ≡ true
  -- in the state that waits
  pub asked : (k : ℕ) → of k (Management (DeleteSq k)) ≡ test (Deleting false)
  pub making_cq : (k n base : ℕ) (vector : Option ℕ) → of k (Management (CreateCq k n base vector)) ≡ test MakingCq
  pub making_sq : (k n base : ℕ) → of k (Management (CreateSq k n base)) ≡ test MakingSq
  -- and in no other
  pub live : test Live ≡ false
  pub noted : test (Deleting true) ≡ false
  pub retired : test Retired ≡ false
  pub gone : test Gone ≡ false
  pub half_made : test HalfMade ≡ false

-- Each event

abbrev pub AwaitedS : (ℕ → Work → Bool) → (HostState → Bool) → State → Type 0
AwaitedS of test s = Awaited of test s.host.records s.host.queues

pub awaited_event : (of : ℕ → Work → Bool) (test : HostState → Bool) → Waits of test → (s : State) (e : Event) (reply : Reply) → Accepts s e reply → IsController e ≡ false → HoldsPart (host_part s)
    → AwaitedS of test s → AwaitedS of test (a.after s e reply)
awaited_event of test waits s e reply ok c holds h =
    host_moves (λ (e : Event) (reply : Reply) (t : State). AwaitedS of test t) s e reply ok c
    (record {
      reserves = λ q request d none is. awaited_more of test s.host.records s.host.queues (drafted_record d) (λ z. waits.io z d.request) h;
      submits = λ d entry r none built its live. awaited_ring of test (with_record d.q d.cid a.submitted s.host.records) s.host.queues d.q (next_tail s.entries) (with d.q d.cid a.submitted (λ r. refl));
      cancels = λ d r its. ended_io d.q d.cid r its.found its.asked.0 its.asked.1;
      rings = λ q none. h;
      rests = λ q is. h;
      rejects = λ q why is. awaited_ring of test s.host.records s.host.queues q (next_head s.entries) h;
      tells = λ q cid st what e r request t heard w. awaited_heard of test (with_record q cid (a.held st e.hints) s.host.records) q e s (with q cid (a.held st e.hints) (λ r'. refl));
      hears = λ q cid st what e r adm t heard w quiet unmade.
          awaited_less of test s.host.records (a.heard q e s).host.queues q cid r heard.found (holds.once q cid) (λ z. nobody_waits q cid st e r adm heard w quiet unmade z (of z r.work) refl) (told q e);
      notes = λ q cid st what e r k t heard w.
          ends q cid st e r k (λ queue. record queue { state = if is_success st then Deleting true else Live }) heard (λ z far. ap (of z) w ∙ waits.deletes z k far) (Deleting false) (asked_as_heard s q cid st e r k holds heard w) (ap (of k) w ∙ waits.asked k)
          (λ x. (grind (arith, waits)));
      frees = λ q cid st what e r k queue t heard w at alone good.
          awaited_same of test (without_record q cid s.host.records) a.gone k (a.heard q e s).host.queues
          (λ y ey. let same : queue ≡ y = cc (at, ey) in waits.gone ∙ sym (grind (arith, waits, ap (λ (x : HostQueue). has_cq_alone x.state) (sym same) ∙ alone)))
          (awaited_less of test s.host.records (a.heard q e s).host.queues q cid r heard.found (holds.once q cid) (λ z. ap (of z) w ∙ waits.drops z k) (told q e));
      makes_cq = λ q cid st what e r k n base vector t heard w good.
          ends q cid st e r k a.half_made heard (λ z far. ap (of z) w ∙ waits.creates_cq z k n base vector far) MakingCq (making_cq_as_heard s q cid st e r k n base vector holds heard w) (ap (of k) w ∙ waits.making_cq k n base vector) (λ x. waits.half_made);
      unmakes_cq = λ q cid st what e r k n base vector queue t heard w at bad.
          ends q cid st e r k a.gone heard (λ z far. ap (of z) w ∙ waits.creates_cq z k n base vector far) MakingCq (making_cq_as_heard s q cid st e r k n base vector holds heard w) (ap (of k) w ∙ waits.making_cq k n base vector) (λ x. waits.gone);
      makes_sq = λ q cid st what e r k n base t heard w good.
          ends q cid st e r k a.live heard (λ z far. ap (of z) w ∙ waits.creates_sq z k n base far) MakingSq (making_sq_as_heard s q cid st e r k n base holds heard w) (ap (of k) w ∙ waits.making_sq k n base) (λ x. waits.live);
      unmakes_sq = λ q cid st what e r k n base queue t heard w at bad.
          ends q cid st e r k a.unmade_sq heard (λ z far. ap (of z) w ∙ waits.creates_sq z k n base far) MakingSq (making_sq_as_heard s q cid st e r k n base holds heard w) (ap (of k) w ∙ waits.making_sq k n base) (λ x. waits.half_made);
      collects = λ q cid r f at held is. with q cid a.collected (λ r'. refl);
      releases = λ f r its. ended_io f.q f.cid r its.found its.asked.0 its.asked.1;
      aborts = λ q cid id none new. sent (Abort q cid) id (λ z. waits.aborts z q cid);
      asks = λ q id queue none new live.
          let y = ring_after 0 q (next_tail s.entries) s.host.queues queue live.there in
          starts q a.deleting (DeleteSq q) id (change 0 (λ x. record x { ring = next_tail s.entries x.ring }) s.host.queues) y.0 y.1 (λ z far. waits.deletes z q far) (ap test (y.2 ∙ live.live) ∙ waits.live) (waits.asked q)
          (awaited_ring of test s.host.records s.host.queues 0 (next_tail s.entries) h);
      drops = λ q id none new. sent (DeleteCq q) id (λ z. waits.drops z q);
      creates_cqs = λ q vector id first queue none new granted.
          let adm = creates_cq q vector first s in
          awaited_ring of test (s.host.records ++ sent_record adm id ∷ []) (grants_cq q first s).host.queues 0 (next_tail s.entries)
          (starts q (a.making_cq (half_from Completion first s)) adm id s.host.queues queue granted.there (λ z far. waits.creates_cq z q s.entries _ vector far) (ap test granted.state ∙ waits.gone) (waits.making_cq q s.entries _ vector) h);
      creates_sqs = λ q id first queue none new granted.
          let adm = creates_sq q first s in
          awaited_ring of test (s.host.records ++ sent_record adm id ∷ []) (grants_sq q first s).host.queues 0 (next_tail s.entries)
          (starts q (a.making_sq (half_from Submission first s)) adm id s.host.queues queue granted.there (λ z far. waits.creates_sq z q s.entries _ far) (ap test granted.state ∙ waits.half_made) (waits.making_sq q s.entries _) h);
      retires = λ q queue none at deleted.
          awaited_same of test (map (a.lost q) s.host.records) a.retired q s.host.queues
          (λ y ey. let same : queue ≡ y = cc (at, ey) in waits.retired ∙ sym (ap (λ (x : HostQueue). test x.state) (sym same) ∙ ap test deleted ∙ waits.noted)) (λ z. lost_awaits of q s.host.records z ∙ h z);
      forges = λ q slot bytes queue none at. h;
      resets = λ z.
          admin_total (awaits of z) (λ r. ap (λ w. one (of z w)) (lost_keeps.work r)) (λ r io. grind arith) s.host.records ∙ ap one (sym (reset_state test waits.live waits.gone s.host.queues z));
    })
  where
    with : (q cid : ℕ) (f : Record → Record) → ((r : Record) → (f r).work ≡ r.work) → Awaited of test (with_record q cid f s.host.records) s.host.queues
    with q cid f same z = with_awaits of q cid f same s.host.records z ∙ h z

    told : (q : ℕ) (e : ComEntry) → Awaited of test s.host.records (a.heard q e s).host.queues
    told q e = awaited_heard of test s.host.records q e s h

    ended_io : (q cid : ℕ) (r : Record) → record_at s.host q cid ≡ Some r → (request : Request) → r.work ≡ Io request → Awaited of test (without_record q cid s.host.records) s.host.queues
    ended_io q cid r at request w = awaited_less of test s.host.records s.host.queues q cid r at (holds.once q cid) (λ z. ap (of z) w ∙ waits.io z request) h

    sent : (adm : AdminKind) (id : ℕ) → ((z : ℕ) → of z (Management adm) ≡ false) → AwaitedS of test (sends adm id s)
    sent adm id quiet = awaited_ring of test (s.host.records ++ sent_record adm id ∷ []) s.host.queues 0 (next_tail s.entries) (awaited_more of test s.host.records s.host.queues (sent_record adm id) quiet h)

    starts : (k : ℕ) (f : HostQueue → HostQueue) (adm : AdminKind) (id : ℕ) (hs : List HostQueue) (x : HostQueue) → slice_get hs k ≡ Some x → ((z : ℕ) → (k == z) ≡ false → of z (Management adm) ≡ false)
        → test x.state ≡ false → of k (Management adm) ≡ test (f x).state → Awaited of test s.host.records hs → Awaited of test (s.host.records ++ sent_record adm id ∷ []) (change k f hs)
    starts k f adm id hs x there others before its h = awaited_starts of test s.host.records hs f k (sent_record adm id) x there others (omega (arith, ap one before, ap one its)) h

    ends : (q cid : ℕ) (st : Status) (e : ComEntry) (r : Record) (k : ℕ) (f : HostQueue → HostQueue) → IsHeard s q cid st e r → ((z : ℕ) → (k == z) ≡ false → of z r.work ≡ false)
        → (was : HostState) → ((x : HostQueue) → slice_get (a.heard q e s).host.queues k ≡ Some x → x.state ≡ was) → of k r.work ≡ test was → ((x : HostQueue) → test (f x).state ≡ false)
        → Awaited of test (without_record q cid s.host.records) (change k f (a.heard q e s).host.queues)
    ends q cid st e r k f heard others was state its after =
        awaited_ends of test s.host.records (a.heard q e s).host.queues f k q cid r heard.found (holds.once q cid) others (λ x ex. omega (arith, ap one (after x), ap one its, ap one (ap test (state x ex)))) (told q e)

    -- a command whose completion is reaped, and that is waited for, has its queue
    nobody_waits : (q cid : ℕ) (st : Status) (e : ComEntry) (r : Record) (adm : AdminKind) → IsHeard s q cid st e r → r.work ≡ Management adm → ((k : ℕ) → deletes_sq_of k (Management adm) ≡ false)
        → ((k : ℕ) → (creates_cq_of k (Management adm) || creates_sq_of k (Management adm)) ≡ true → host_queue (a.heard q e s) k ≡ None) → (z : ℕ) (b : Bool) → of z r.work ≡ b → of z r.work ≡ false
    nobody_waits q cid st e r adm heard w quiet unmade z false its = its
    nobody_waits q cid st e r adm heard w quiet unmade z true its =
        let second : (x y : Bool) → x ≡ false → (x || y) ≡ true → y ≡ true = λ x y e h. grind arith in
        let kind = second (deletes_sq_of z (Management adm)) _ (quiet z) (waits.kinds z (Management adm) (sym (ap (of z) w) ∙ its)) in
        absurd (true≢false (sym (was_awaited of test s.host.records (a.heard q e s).host.queues z q cid r heard.found its (holds.once q cid) (told q e)) ∙ ap (λ (o : Option HostQueue). option_map_or (λ h. test h.state) o false) (unmade z kind)))

-- Queue 0 is never deleted, whatever was forged.

-- Queue 0 is live

abbrev Zero : State → Type 0
Zero s = AdminLives s.host.queues

zero_change : (k : ℕ) (f : HostQueue → HostQueue) (hs : List HostQueue) → ((x : HostQueue) → slice_get hs k ≡ Some x → k ≡ 0 → is_live x.state ≡ true → is_live (f x).state ≡ true) → AdminLives hs → AdminLives (change k f hs)
zero_change k f [] each h = h
zero_change zero f (x ∷ hs) each h = each x refl refl h
zero_change (suc k) f (x ∷ hs) each h = h

zero_ring : (k : ℕ) (g : HostRing → HostRing) (hs : List HostQueue) → AdminLives hs → AdminLives (change k (λ x. record x { ring = g x.ring }) hs)
zero_ring k g hs h = zero_change k (λ x. record x { ring = g x.ring }) hs (λ x e z l. l) h

-- a queue that was not live is not queue 0
zero_past : (k : ℕ) (f : HostQueue → HostQueue) (hs : List HostQueue) → ((x : HostQueue) → slice_get hs k ≡ Some x → is_live x.state ≡ false) → AdminLives hs → AdminLives (change k f hs)
zero_past k f hs past h = zero_change k f hs (λ x e z l. absurd (true≢false (sym l ∙ past x e))) h

pub zero_host : (s : State) (e : Event) (reply : Reply) → Accepts s e reply → IsController e ≡ false → HoldsPart (host_part s) → Zero (a.after s e reply)
zero_host s e reply ok c holds =
    let h = holds.admin in
    let told : (q : ℕ) (e : ComEntry) → Zero (a.heard q e s) =
    λ q e. zero_ring q (knowing e.sqhd) (change q (λ x. record x { ring = next_head s.entries x.ring }) s.host.queues) (zero_ring q (next_head s.entries) s.host.queues h) in
    let sent = zero_ring 0 (next_tail s.entries) s.host.queues h in
    host_moves (λ (e : Event) (reply : Reply) (t : State). Zero t) s e reply ok c
    (record {
      reserves = λ q request d none is. h;
      submits = λ d entry r none built its live. zero_ring d.q (next_tail s.entries) s.host.queues h;
      cancels = λ d r its. h;
      rings = λ q none. h;
      rests = λ q is. h;
      rejects = λ q why is. zero_ring q (next_head s.entries) s.host.queues h;
      tells = λ q cid st what e r request t heard w. told q e;
      hears = λ q cid st what e r adm t heard w quiet unmade. told q e;
      notes = λ q cid st what e r k t heard w.
          zero_past k (λ queue. record queue { state = if is_success st then Deleting true else Live }) (a.heard q e s).host.queues (λ x ex. ap is_live (asked_as_heard s q cid st e r k holds heard w x ex)) (told q e);
      frees = λ q cid st what e r k queue t heard w at alone good.
          zero_past k a.gone (a.heard q e s).host.queues (λ x ex. let same : queue ≡ x = cc (at, ex) in subst (λ (y : HostQueue). is_live y.state ≡ false) same (grind arith)) (told q e);
      makes_cq = λ q cid st what e r k n base vector t heard w good. zero_past k a.half_made (a.heard q e s).host.queues (λ x ex. ap is_live (making_cq_as_heard s q cid st e r k n base vector holds heard w x ex)) (told q e);
      unmakes_cq = λ q cid st what e r k n base vector queue t heard w at bad. zero_past k a.gone (a.heard q e s).host.queues (λ x ex. ap is_live (making_cq_as_heard s q cid st e r k n base vector holds heard w x ex)) (told q e);
      makes_sq = λ q cid st what e r k n base t heard w good. zero_past k a.live (a.heard q e s).host.queues (λ x ex. ap is_live (making_sq_as_heard s q cid st e r k n base holds heard w x ex)) (told q e);
      unmakes_sq = λ q cid st what e r k n base queue t heard w at bad. zero_past k a.unmade_sq (a.heard q e s).host.queues (λ x ex. ap is_live (making_sq_as_heard s q cid st e r k n base holds heard w x ex)) (told q e);
      collects = λ q cid r f at held is. h;
      releases = λ f r its. h;
      aborts = λ q cid id none new. sent;
      asks = λ q id queue none new live.
          zero_change q a.deleting (change 0 (λ x. record x { ring = next_tail s.entries x.ring }) s.host.queues) (λ x e z l. absurd (true≢false (sym (subst (λ (k : ℕ). (k == 0) ≡ true) (sym z) refl) ∙ live.other))) sent;
      drops = λ q id none new. sent;
      creates_cqs = λ q vector id first queue none new granted.
          zero_ring 0 (next_tail s.entries) (change q (a.making_cq (half_from Completion first s)) s.host.queues)
          (zero_past q (a.making_cq (half_from Completion first s)) s.host.queues (λ x ex. let same : queue ≡ x = cc (granted.there, ex) in ap (λ (y : HostQueue). is_live y.state) (sym same) ∙ ap is_live granted.state) h);
      creates_sqs = λ q id first queue none new granted.
          zero_ring 0 (next_tail s.entries) (change q (a.making_sq (half_from Submission first s)) s.host.queues)
          (zero_past q (a.making_sq (half_from Submission first s)) s.host.queues (λ x ex. let same : queue ≡ x = cc (granted.there, ex) in ap (λ (y : HostQueue). is_live y.state) (sym same) ∙ ap is_live granted.state) h);
      retires = λ q queue none at deleted. zero_past q a.retired s.host.queues (λ x ex. let same : queue ≡ x = cc (at, ex) in subst (λ (y : HostQueue). is_live y.state ≡ false) same (ap is_live deleted)) h;
      forges = λ q slot bytes queue none at. h;
      resets = still s.host.queues;
    })
  where
    still : (hs : List HostQueue) → AdminLives (a.reset_queues hs)
    still [] = refl
    still (x ∷ hs) = refl

-- As it opens

pub zero_opened : (page n count : ℕ) → AdminLives (queues_from page n count)
zero_opened page n zero = refl
zero_opened page n (suc count) = refl

-- Which halves of a queue the host has, and which calls it takes, by its state.

-- in every state, from a table that is computed
abbrev pub in_each : (HostState → Bool) → Bool
in_each f = f Live && f (Deleting false) && f (Deleting true) && f Retired && f Gone && f MakingCq && f HalfMade && f MakingSq

pub each : (f : HostState → Bool) → in_each f ≡ true → (st : HostState) → f st ≡ true
each f all st = grind arith

-- one test passes wherever another does, or fails there
pub tells : (p q : HostState → Bool) → in_each (λ st. not (p st) || q st) ≡ true → (st : HostState) → p st ≡ true → q st ≡ true
tells p q all st e = grind (arith, each (λ st. not (p st) || q st) all st)

pub denies : (p q : HostState → Bool) → in_each (λ st. not (p st) || not (q st)) ≡ true → (st : HostState) → p st ≡ true → q st ≡ false
denies p q all st e = grind (arith, each (λ st. not (p st) || not (q st)) all st)

-- a queue that is live is in service, and so is one whose deletion is asked for or completed
pub live_serves : (st : HostState) → is_live st ≡ true → in_service st ≡ true
live_serves = tells is_live in_service refl

pub asked_serves : (st : HostState) → is_asked st ≡ true → in_service st ≡ true
asked_serves = tells is_asked in_service refl

pub deleted_serves : (st : HostState) → is_deleted st ≡ true → in_service st ≡ true
deleted_serves = tells is_deleted in_service refl

-- a queue in service has both halves, and its completions are reaped
pub service_has_sq : (st : HostState) → in_service st ≡ true → has_sq st ≡ true
service_has_sq = tells in_service has_sq refl

pub service_is_reaped : (st : HostState) → in_service st ≡ true → is_reaped st ≡ true
service_is_reaped = tells in_service is_reaped refl

pub reaped_has_cq : (st : HostState) → is_reaped st ≡ true → has_cq st ≡ true
reaped_has_cq = tells is_reaped has_cq refl

pub alone_has_cq : (st : HostState) → has_cq_alone st ≡ true → has_cq st ≡ true
alone_has_cq = tells has_cq_alone has_cq refl

pub alone_has_no_sq : (st : HostState) → has_cq_alone st ≡ true → has_sq st ≡ false
alone_has_no_sq = denies has_cq_alone has_sq refl

pub live_has_sq : (st : HostState) → is_live st ≡ true → has_sq st ≡ true
live_has_sq = tells is_live has_sq refl

pub asked_has_sq : (st : HostState) → is_asked st ≡ true → has_sq st ≡ true
asked_has_sq = tells is_asked has_sq refl

pub deleted_has_sq : (st : HostState) → is_deleted st ≡ true → has_sq st ≡ true
deleted_has_sq = tells is_deleted has_sq refl

-- a queue that is not known to be deleted has its submission half
pub sq_stays : (st : HostState) → (is_known_deleted st ≡ true → ⊥) → has_sq st ≡ true
sq_stays st far = grind (arith, far, each (λ st. is_known_deleted st || has_sq st) refl st)

pub cq_stays : (st : HostState) → (has_cq st ≡ false → ⊥) → has_cq st ≡ true
cq_stays st far = grind (arith, far)

-- the submission half goes first, and comes last
pub sq_with_cq : (st : HostState) → has_sq st ≡ true → has_cq st ≡ true
sq_with_cq = tells has_sq has_cq refl

-- a queue that is live or reaped isn't being made
pub live_in_use : (st : HostState) → is_live st ≡ true → is_making st ≡ false
live_in_use = denies is_live is_making refl

pub reaped_in_use : (st : HostState) → is_reaped st ≡ true → is_making st ≡ false
reaped_in_use = denies is_reaped is_making refl

-- Every event of the host leaves a queue no page of a half that the host does not have.

abbrev Fit : List HostQueue → Type 0
Fit hs = AllByRecursion HasNoOtherPages hs

fit_ring : (k : ℕ) (g : HostRing → HostRing) (hs : List HostQueue) → Fit hs → Fit (change k (λ x. record x { ring = g x.ring }) hs)
fit_ring k g hs h = all_changed HasNoOtherPages k (λ x. record x { ring = g x.ring }) hs (λ x e p. record { submission = p.submission; completion = p.completion }) h

-- a queue that has both halves
whole : (x : HostQueue) → has_sq x.state ≡ true → has_cq x.state ≡ true → HasNoOtherPages x
whole x sq cq = record { submission = λ no. absurd (true≢false (sym sq ∙ no)); completion = λ no. absurd (true≢false (sym cq ∙ no)) }

pub halves_event : (s : State) (e : Event) (reply : Reply) → Accepts s e reply → IsController e ≡ false → HoldsPart (host_part s) → AllByRecursion HasNoOtherPages (a.after s e reply).host.queues
halves_event s e reply ok c holds =
    let h = holds.halves in
    let told : (q : ℕ) (e : ComEntry) → Fit (a.heard q e s).host.queues =
    λ q e. fit_ring q (knowing e.sqhd) (change q (λ x. record x { ring = next_head s.entries x.ring }) s.host.queues) (fit_ring q (next_head s.entries) s.host.queues h) in
    let sent : Fit (change 0 (λ x. record x { ring = next_tail s.entries x.ring }) s.host.queues) = fit_ring 0 (next_tail s.entries) s.host.queues h in
    host_moves (λ (e : Event) (reply : Reply) (t : State). Fit t.host.queues) s e reply ok c
    (record {
      reserves = λ q request d none is. h;
      submits = λ d entry r none built its live. fit_ring d.q (next_tail s.entries) s.host.queues h;
      cancels = λ d r its. h;
      rings = λ q none. h;
      rests = λ q is. h;
      rejects = λ q why is. fit_ring q (next_head s.entries) s.host.queues h;
      tells = λ q cid st what e r request t heard w. told q e;
      hears = λ q cid st what e r adm t heard w quiet unmade. told q e;
      notes = λ q cid st what e r k t heard w.
          all_changed HasNoOtherPages k (λ queue. record queue { state = if is_success st then Deleting true else Live }) (a.heard q e s).host.queues
          (λ x ex p. (elim (is_success st) as (λ b. HasNoOtherPages (record x { state = if b then Deleting true else Live })) [ true ↦ whole (record x { state = Deleting true }) refl refl | false ↦ whole (record x { state = Live }) refl refl ])) (told q e);
      frees = λ q cid st what e r k queue t heard w at alone good.
          all_changed HasNoOtherPages k a.gone (a.heard q e s).host.queues
          (λ x ex p. let same : queue ≡ x = cc (at, ex) in record { submission = λ no. p.submission (ap (λ (y : HostQueue). has_sq y.state) (sym same) ∙ alone_has_no_sq queue.state alone); completion = λ no. refl }) (told q e);
      makes_cq = λ q cid st what e r k n base vector t heard w good.
          all_changed HasNoOtherPages k a.half_made (a.heard q e s).host.queues
          (λ x ex p. record { submission = λ no. p.submission (ap has_sq (making_cq_as_heard s q cid st e r k n base vector holds heard w x ex)); completion = λ no. absurd (true≢false no) }) (told q e);
      unmakes_cq = λ q cid st what e r k n base vector queue t heard w at bad.
          all_changed HasNoOtherPages k a.gone (a.heard q e s).host.queues
          (λ x ex p. record { submission = λ no. p.submission (ap has_sq (making_cq_as_heard s q cid st e r k n base vector holds heard w x ex)); completion = λ no. refl }) (told q e);
      makes_sq = λ q cid st what e r k n base t heard w good. all_changed HasNoOtherPages k a.live (a.heard q e s).host.queues (λ x ex p. whole (a.live x) refl refl) (told q e);
      unmakes_sq = λ q cid st what e r k n base queue t heard w at bad.
          all_changed HasNoOtherPages k a.unmade_sq (a.heard q e s).host.queues (λ x ex p. record { submission = λ no. refl; completion = λ no. absurd (true≢false no) }) (told q e);
      collects = λ q cid r f at held is. h;
      releases = λ f r its. h;
      aborts = λ q cid id none new. sent;
      asks = λ q id queue none new live. all_changed HasNoOtherPages q a.deleting (change 0 (λ x. record x { ring = next_tail s.entries x.ring }) s.host.queues) (λ x ex p. whole (a.deleting x) refl refl) sent;
      drops = λ q id none new. sent;
      creates_cqs = λ q vector id first queue none new granted.
          fit_ring 0 (next_tail s.entries) (change q (a.making_cq (half_from Completion first s)) s.host.queues)
          (all_changed HasNoOtherPages q (a.making_cq (half_from Completion first s)) s.host.queues
          (λ x ex p. let same : queue ≡ x = cc (granted.there, ex) in record { submission = λ no. p.submission (ap (λ (y : HostQueue). has_sq y.state) (sym same) ∙ ap has_sq granted.state); completion = λ no. absurd (true≢false no) }) h);
      creates_sqs = λ q id first queue none new granted.
          fit_ring 0 (next_tail s.entries) (change q (a.making_sq (half_from Submission first s)) s.host.queues)
          (all_changed HasNoOtherPages q (a.making_sq (half_from Submission first s)) s.host.queues (λ x ex p. whole (a.making_sq (half_from Submission first s) x) refl refl) h);
      retires = λ q queue none at deleted. all_changed HasNoOtherPages q a.retired s.host.queues (λ x ex p. record { submission = λ no. refl; completion = λ no. absurd (true≢false no) }) h;
      forges = λ q slot bytes queue none at. h;
      resets = all_reset_queues HasNoOtherPages HasNoOtherPages s.host.queues (λ x e p. whole (a.reset_admin x) refl refl) (record { submission = λ no. refl; completion = λ no. refl }) h;
    })

-- as it opens
pub halves_at_opening : (page n count : ℕ) → AllByRecursion HasNoOtherPages (queues_from page n count)
halves_at_opening page n zero = tt
halves_at_opening page n (suc count) = (whole _ refl refl, halves_at_opening (page + half_pages n Submission + half_pages n Completion) n count)

-- Every event of the host keeps that no command of a queue is outstanding while the queue is made again.

-- 1 for a command of that queue
abbrev stands_on : ℕ → Record → ℕ
stands_on q r = one (r.q == q)

abbrev pub Bare : List Record → List HostQueue → Type 0
Bare rs hs = (q : ℕ) → awaited_at is_making hs q ≡ true → total (stands_on q) rs ≡ 0

-- as the public statement counts them
length_standing : (q : ℕ) (rs : List Record) → length (map (λ r. r.cid) (filter (λ r. r.q == q) rs)) ≡ total (stands_on q) rs
length_standing q [] = refl
length_standing q (r ∷ rs) = grind (arith, length_standing q rs)

new_queues : (h : Host) → Bare h.records h.queues → NewQueuesAreBare h
new_queues h bare q making = length_standing q h.records ∙ bare q making

-- Records that change

-- no more of any queue
bare_fewer : (rs less : List Record) (hs : List HostQueue) → ((q : ℕ) → total (stands_on q) less ≤ total (stands_on q) rs) → Bare rs hs → Bare less hs
bare_fewer rs less hs fewer h q making = omega (arith, fewer q, h q making)

bare_with : (k c : ℕ) (f : Record → Record) → ((r : Record) → (f r).q ≡ r.q) → (rs : List Record) (hs : List HostQueue) → Bare rs hs → Bare (with_record k c f rs) hs
bare_with k c f same rs hs h q making = total-map (stands_on q) (λ r. if is_at k c r then f r else r) (λ r. grind arith) rs ∙ h q making

bare_lost : (k : ℕ) (rs : List Record) (hs : List HostQueue) → Bare rs hs → Bare (map (a.lost k) rs) hs
bare_lost k rs hs h q making = total-map (stands_on q) (a.lost k) (λ r. grind arith) rs ∙ h q making

bare_less : (k c : ℕ) (rs : List Record) (hs : List HostQueue) → Bare rs hs → Bare (without_record k c rs) hs
bare_less k c rs hs h = bare_fewer rs (without_record k c rs) hs (λ q. total-filter (stands_on q) (λ r. not (is_at k c r)) rs) h

-- one more, of a queue in use
bare_more : (rs : List Record) (hs : List HostQueue) (new : Record) → awaited_at is_making hs new.q ≡ false → Bare rs hs → Bare (rs ++ new ∷ []) hs
bare_more rs hs new used h q making = grind (arith, awaited_at, eqb-true, total-append)

-- Queues that change

making_before : (k : ℕ) (f : HostQueue → HostQueue) (hs : List HostQueue) → ((x : HostQueue) → slice_get hs k ≡ Some x → is_making (f x).state ≡ true → is_making x.state ≡ true)
    → (q : ℕ) → awaited_at is_making (change k f hs) q ≡ true → awaited_at is_making hs q ≡ true
making_before zero f (x ∷ hs) each zero h = each x refl h
making_before (suc k) f (x ∷ hs) each (suc q) h = making_before k f hs each q h
making_before k f hs each q h = h

-- a queue that is made again was made again before
bare_change : (rs : List Record) (k : ℕ) (f : HostQueue → HostQueue) (hs : List HostQueue) → ((x : HostQueue) → slice_get hs k ≡ Some x → is_making (f x).state ≡ true → is_making x.state ≡ true)
    → Bare rs hs → Bare rs (change k f hs)
bare_change rs k f hs each h q making = h q (making_before k f hs each q making)

bare_ring : (rs : List Record) (k : ℕ) (g : HostRing → HostRing) (hs : List HostQueue) → Bare rs hs → Bare rs (change k (λ x. record x { ring = g x.ring }) hs)
bare_ring rs k g hs h = bare_change rs k (λ x. record x { ring = g x.ring }) hs (λ x e m. m) h

-- or none of its commands is outstanding
bare_begins : (rs : List Record) (k : ℕ) (f : HostQueue → HostQueue) (hs : List HostQueue) → total (stands_on k) rs ≡ 0 → Bare rs hs → Bare rs (change k f hs)
bare_begins rs k f hs none h q making = grind (arith, total, eqb-true, at_other, eqb-false)

-- Queues in use

-- Every event of the host

bare_lists : (h : Host) → NewQueuesAreBare h → Bare h.records h.queues
bare_lists h bare q making = sym (length_standing q h.records) ∙ bare q making

-- a command is reserved on queue 0, or on a queue in service
one_of : (takes admin first serves : Bool) → (if admin then not (takes && first) else first || not serves) ≡ false → (first ≡ true) ⊎ (serves ≡ true)
one_of true true true serves h = inl refl
one_of true true false serves h = absurd (true≢false h)
one_of false true first serves h = absurd (true≢false h)
one_of takes false true serves h = absurd (true≢false h)
one_of takes false false true h = inr refl
one_of takes false false false h = absurd (true≢false h)

bare_of : (s : State) (e : Event) (reply : Reply) → Accepts s e reply → IsController e ≡ false → HoldsPart (host_part s) → Bare (a.after s e reply).host.records (a.after s e reply).host.queues
bare_of s e reply ok c holds =
    host_moves (λ (e : Event) (reply : Reply) (t : State). Bare t.host.records t.host.queues) s e reply ok c
    (record {
      reserves = λ q request d none is.
          bare_more s.host.records s.host.queues (drafted_record d) (ap (awaited_at is_making s.host.queues) is.queue
          ∙ elim (one_of (takes_admin s.host.peer) (is_admin request.kind) (q == 0) (in_state in_service s q) (unrefused s (events.Reserve q request) none).0) [
            | inl first ↦ ap (awaited_at is_making s.host.queues) (eqb-true q 0 first) ∙ zero_used
            | inr serves ↦ grind (arith, serves)
          ]) h;
      submits = λ d entry r none built its live. bare_ring _ d.q (next_tail s.entries) s.host.queues (bare_with d.q d.cid a.submitted (λ r'. refl) s.host.records s.host.queues h);
      cancels = λ d r its. bare_less d.q d.cid s.host.records s.host.queues h;
      rings = λ q none. h;
      rests = λ q is. h;
      rejects = λ q why is. bare_ring s.host.records q (next_head s.entries) s.host.queues h;
      tells = λ q cid st what e r request t heard w. told _ q e (bare_with q cid (a.held st e.hints) (λ r'. refl) s.host.records s.host.queues h);
      hears = λ q cid st what e r adm t heard w quiet unmade. ended q cid e;
      notes = λ q cid st what e r k t heard w.
          used q cid e k (λ queue. record queue { state = if is_success st then Deleting true else Live })
          (λ x. (elim (is_success st) as (λ b. is_making (if b then Deleting true else Live) ≡ false) [ true ↦ refl | false ↦ refl ]));
      frees = λ q cid st what e r k queue t heard w at alone good. used q cid e k a.gone (λ x. refl);
      makes_cq = λ q cid st what e r k n base vector t heard w good.
          bare_change _ k a.half_made (a.heard q e s).host.queues (λ x ex m. ap is_making (making_cq_as_heard s q cid st e r k n base vector holds heard w x ex)) (ended q cid e);
      unmakes_cq = λ q cid st what e r k n base vector queue t heard w at bad. used q cid e k a.gone (λ x. refl);
      makes_sq = λ q cid st what e r k n base t heard w good. used q cid e k a.live (λ x. refl);
      unmakes_sq = λ q cid st what e r k n base queue t heard w at bad.
          bare_change _ k a.unmade_sq (a.heard q e s).host.queues (λ x ex m. ap is_making (making_sq_as_heard s q cid st e r k n base holds heard w x ex)) (ended q cid e);
      collects = λ q cid r f at held is. bare_with q cid a.collected (λ r'. refl) s.host.records s.host.queues h;
      releases = λ f r its. bare_less f.q f.cid s.host.records s.host.queues h;
      aborts = λ q cid id none new. sent (Abort q cid) id s.host.queues zero_used h;
      asks = λ q id queue none new live.
          bare_change _ q a.deleting (change 0 (λ x. record x { ring = next_tail s.entries x.ring }) s.host.queues) (λ x ex m. absurd (true≢false (sym m))) (sent (DeleteSq q) id s.host.queues zero_used h);
      drops = λ q id none new. sent (DeleteCq q) id s.host.queues zero_used h;
      creates_cqs = λ q vector id first queue none new granted.
          let with_half = a.making_cq (half_from Completion first s) in
          sent (creates_cq q vector first s) id (change q with_half s.host.queues) (still_used q with_half granted.other)
          (bare_begins s.host.records q with_half s.host.queues (nothing_on q (unrefused s (events.CreateCq q vector) none).1.1.0) h);
      creates_sqs = λ q id first queue none new granted.
          let with_half = a.making_sq (half_from Submission first s) in
          sent (creates_sq q first s) id (change q with_half s.host.queues) (still_used q with_half granted.other)
          (bare_change s.host.records q with_half s.host.queues
          (λ x ex m. let same : queue ≡ x = cc (granted.there, ex) in ap (λ (y : HostQueue). is_making y.state) (sym same) ∙ ap is_making granted.state) h);
      retires = λ q queue none at deleted. bare_change _ q a.retired s.host.queues (λ x ex m. absurd (true≢false (sym m))) (bare_lost q s.host.records s.host.queues h);
      forges = λ q slot bytes queue none at. h;
      resets = λ q making. absurd (true≢false (sym making ∙ reset_state is_making refl refl s.host.queues q));
    })
  where
    h : Bare s.host.records s.host.queues
    h = bare_lists s.host holds.bare

    told : (rs : List Record) (q : ℕ) (e : ComEntry) → Bare rs s.host.queues → Bare rs (a.heard q e s).host.queues
    told rs q e b = bare_ring rs q (knowing e.sqhd) (change q (λ x. record x { ring = next_head s.entries x.ring }) s.host.queues) (bare_ring rs q (next_head s.entries) s.host.queues b)

    ended : (q cid : ℕ) (e : ComEntry) → Bare (without_record q cid s.host.records) (a.heard q e s).host.queues
    ended q cid e = told (without_record q cid s.host.records) q e (bare_less q cid s.host.records s.host.queues h)

    -- a queue is in use, or does not have its rings, from now on
    used : (q cid : ℕ) (e : ComEntry) (k : ℕ) (f : HostQueue → HostQueue) → ((x : HostQueue) → is_making (f x).state ≡ false) → Bare (without_record q cid s.host.records) (change k f (a.heard q e s).host.queues)
    used q cid e k f after = bare_change _ k f (a.heard q e s).host.queues (λ x ex m. absurd (true≢false (sym m ∙ after x))) (ended q cid e)

    zero_used : awaited_at is_making s.host.queues 0 ≡ false
    zero_used = (grind (arith, holds.admin))

    -- a half for another queue leaves queue 0 in use
    still_used : (q : ℕ) (f : HostQueue → HostQueue) → (q == 0) ≡ false → awaited_at is_making (change q f s.host.queues) 0 ≡ false
    still_used q f other = at_other is_making f q s.host.queues 0 (eqb-false q 0 other) ∙ zero_used

    sent : (adm : AdminKind) (id : ℕ) (hs : List HostQueue) → awaited_at is_making hs 0 ≡ false → Bare s.host.records hs → Bare (s.host.records ++ sent_record adm id ∷ []) (change 0 (λ x. record x { ring = next_tail s.entries x.ring }) hs)
    sent adm id hs free b = bare_ring _ 0 (next_tail s.entries) hs (bare_more s.host.records hs (sent_record adm id) free b)

    nothing_on : (q : ℕ) → nat_lt 0 (length (outstanding_on s.host q)) ≡ false → total (stands_on q) s.host.records ≡ 0
    nothing_on q none = omega (arith, ltb-false 0 (length (outstanding_on s.host q)) none, length_standing q s.host.records)

pub bare_event : (s : State) (e : Event) (reply : Reply) → Accepts s e reply → IsController e ≡ false → HoldsPart (host_part s) → NewQueuesAreBare (a.after s e reply).host
bare_event s e reply ok c holds = new_queues (a.after s e reply).host (bare_of s e reply ok c holds)

-- as it opens
pub bare_at_opening : (pages queues n s : ℕ) (image : List ℕ) → NewQueuesAreBare (opening pages queues n s image).host
bare_at_opening pages queues n s image q making = refl
