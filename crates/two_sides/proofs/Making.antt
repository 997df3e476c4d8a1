-- Queues that are made and named.
use Rattle.machine_model.specs.After as after
use Rattle.machine_model.specs.declared.words.HostState.TheVariants as states
use Rattle.std.proofs.Common.{◌≡◌, ℕ, ◌/◌, ◌<◌, nat_lt, ◌&&◌, Bool, true, false, List, [], zero, lt-ltb, if◌then◌else◌, refl, ap, ap₂, sym, ◌∙◌, arith, subst, suc, ◌+◌, ◌*◌, ◌-◌, ◌%◌, ◌≤◌, ◌==◌, Option, Some, ◌∷◌, length, filter, find, slice_get, eq-eqb, inl, inr}
use Rattle.std.{proofs.lemmas.{Bool.{true≢false, cases_Bool}, Nat.from_le_bytes-to_le_bytes_8}, specs.Option.option_map_or}
use Rattle.admin_commands.specs.{Entries.{admin_entry, named_base, named_queue}, Verdicts.{is_absent, is_live}, declared.AdminKind.AdminKind}
use Rattle.admin_commands.specs.declared.{AdminKind.TheVariants.{CreateCq, CreateSq}, SqState.TheVariants.Stopping}
use Rattle.controller_core.specs.Managing.{stopping, with_completion, with_submission, without_completion}
use Rattle.controller_core.specs.declared.queue.ControllerQueue.{ControllerQueue}
use Rattle.entry_codec.specs.declared.{admin_opcode.TheConstants.{CREATE_IO_CQ, CREATE_IO_SQ}, submission.SubEntry.SubEntry}
use Rattle.machine_model.{proofs.{Counting.{held_once, one}, Owned.{awaits, length_awaits, in_queue}}, specs.Agreeing.{EntryKnown, Knows}}
use Rattle.machine_model.specs.{Always.NamesItsHalf, Memory.is_in, Refusals.{in_service, is_making_cq, creates_cq_of, creates_sq_of, is_making, is_making_sq}}
use Rattle.machine_model.specs.{State.{HostQueue, Record, is_at}, Step.times, Work.Work, declared.words.{HostState.HostState, Work.TheVariants.Management}}
use Rattle.page_ledger.specs.Owners.{pages_from, is_among}
use Rattle.page_memory.specs.{Memory.Memory, Pages.Pages, declared.page.Half.TheVariants.{Submission, Completion}}
use Rattle.queue_pair.specs.{Lists.{PhasesStand, expected_phase}, Memory.half_pages, Rings.{HostRing, fresh_host_ring, fresh_controller_ring, ControllerRing}}
use Rattle.two_sides.proofs.{Frames.{first_of_half, there_ring, IsKnown, queue_page_in}, Posted.not_absent, Provided.in_found}
use Rattle.two_sides.specs.{Sides.{served_queue_of, Sides}, Ties.{QueueStands, RingsStand, ShareQueue, first_completion_page, IsWorld}}
use Rattle.host_core.proofs.PageOwners.{among-from}
use Rattle.page_memory.proofs.Lists.{all-found}
use Rattle.page_memory.proofs.Lists.{some_is}

-- What the fetch of an admin entry makes of a queue on both sides: a queue stops, its completion queue is deleted, or one of its two rings is made.

-- Both sides of a queue whose completion ring is made at an address, and of one whose submission ring is: the host's part is as it was granted.
pub record IsGranted (n base : ℕ) (h : HostQueue) (c : ControllerQueue) : Type 0 where
  pub asked : is_making_cq h.state ≡ true
  pub fresh : h.ring ≡ fresh_host_ring
  pub half : h.cq_pages ≡ pages_from (base / 4096) (half_pages n Completion)
  pub absent : is_absent c.state ≡ true
  pub none : c.cq_there ≡ false

pub record IsGrantedBeside (n base : ℕ) (h : HostQueue) (c : ControllerQueue) : Type 0 where
  pub unserved : in_service h.state ≡ false
  pub fresh : h.ring ≡ fresh_host_ring
  pub half : h.sq_pages ≡ pages_from (base / 4096) (half_pages n Submission)
  pub there : c.cq_there ≡ true

pub completion_seen : (m : Memory) (n base : ℕ) (h : HostQueue) (c : ControllerQueue) → IsGranted n base h c → served_queue_of m h.ring (with_completion base c) ≡ after.completion_made (served_queue_of m h.ring c)
completion_seen m n base h c is = subst (λ (ring : HostRing). served_queue_of m ring (with_completion base c) ≡ after.completion_made (served_queue_of m ring c)) (sym is.fresh) (grind arith)

pub submission_seen : (m : Memory) (n base : ℕ) (h : HostQueue) (c : ControllerQueue) → IsGrantedBeside n base h c → served_queue_of m h.ring (with_submission base c) ≡ after.submission_made (served_queue_of m h.ring c)
submission_seen m n base h c is = subst (λ (ring : HostRing). served_queue_of m ring (with_submission base c) ≡ after.submission_made (served_queue_of m ring c)) (sym is.fresh) (grind arith)

-- A queue that stops

pub stopping_seen : (m : Memory) (h : HostQueue) (c : ControllerQueue) → is_live c.state ≡ true → served_queue_of m h.ring (stopping c) ≡ record (served_queue_of m h.ring c) { state = Stopping }
stopping_seen m h c live = grind arith

pub stopping_stands : (n : ℕ) (m : Memory) (q : ℕ) (h : HostQueue) (c : ControllerQueue) → is_live c.state ≡ true → QueueStands n m q h c → QueueStands n m q h (stopping c)
stopping_stands n m q h c live stands =
    record {
      halves = record { submission = λ there. stands.halves.submission (not_absent c.state live); completion = stands.halves.completion };
      rings = λ has. let r = stands.rings has in record { fetched = r.fetched; rung = r.rung; heard = r.heard; expected = r.expected; phases = r.phases; owned = r.owned; follow = r.follow; drained = r.drained };
      granted = stands.granted;
    }

-- A completion queue that is deleted

-- rings of a queue that is being made are as they open, and no slot of the completion ring is new
fresh_phases : (m : Memory) (q : ℕ) (h : HostQueue) (c : ControllerQueue) → h.ring ≡ fresh_host_ring → in_service h.state ≡ false → RingsStand m q h c → PhasesStand m c.controller.cq c.controller.entries 0 true
fresh_phases m q h c fresh unserved r =
    let tail : c.controller.ring.tail ≡ 0 = sym (r.drained unserved) ∙ ap (λ (ring : HostRing). ring.head) fresh in
    let phase : c.controller.ring.phase ≡ true =
    sym (ap₂ (λ (head at : ℕ). expected_phase head at c.controller.ring.phase) (ap (λ (ring : HostRing). ring.head) fresh) tail) ∙ sym r.expected ∙ ap (λ (ring : HostRing). ring.phase) fresh in
    subst (λ (p : Bool). PhasesStand m c.controller.cq c.controller.entries 0 p) phase (subst (λ (k : ℕ). PhasesStand m c.controller.cq c.controller.entries k c.controller.ring.phase) tail r.phases)

pub dropped_stands : (n : ℕ) (m : Memory) (q : ℕ) (h : HostQueue) (c : ControllerQueue) → ShareQueue n q h c → (is_making_cq h.state ≡ true → h.ring ≡ fresh_host_ring) → QueueStands n m q h c
    → QueueStands n m q h (without_completion c)
dropped_stands n m q h c share fresh stands =
    record {
      halves = record { submission = stands.halves.submission; completion = λ has. stands.halves.completion (grind arith) };
      rings = λ has. let r = stands.rings (grind arith) in
          record { fetched = r.fetched; rung = r.rung; heard = r.heard; expected = r.expected; phases = r.phases; owned = r.owned; follow = r.follow; drained = r.drained };
      granted = λ making none. granted making c.cq_there refl;
    }
  where
    granted : is_making_cq h.state ≡ true → (b : Bool) → c.cq_there ≡ b → PhasesStand m (first_completion_page h) n 0 true
    granted making false e = stands.granted making e
    granted making true e =
        let has = there_ring h c e in
        let some : 0 < n = omega (arith, share.entries, share.side.least) in
        subst (λ (first : ℕ). PhasesStand m first n 0 true) (sym (first_of_half n c.controller.cq h some (stands.halves.completion has)))
        (subst (λ (k : ℕ). PhasesStand m c.controller.cq k 0 true) share.entries (fresh_phases m q h c (fresh making) (grind arith) (stands.rings has)))

-- A ring that is made

inside : (n : ℕ) → 0 < n → (nat_lt 0 n && true) ≡ true
inside n some = ap (λ (b : Bool). b && true) (lt-ltb 0 n some)

-- rings as they open stand, where no slot of the completion ring is new
fresh_rings : (m : Memory) (q : ℕ) (h : HostQueue) (c : ControllerQueue) → 0 < c.controller.entries → h.ring ≡ fresh_host_ring → c.controller.ring ≡ fresh_controller_ring → PhasesStand m c.controller.cq c.controller.entries 0 true → RingsStand m q h c
fresh_rings m q h c some host controller phases =
    subst (λ (ring : HostRing). RingsStand m q (record h { ring = ring }) c) (sym host)
    (subst (λ (ring : ControllerRing). RingsStand m q (record h { ring = fresh_host_ring }) (record c { controller = record c.controller { ring = ring } })) (sym controller)
    (record { fetched = inside c.controller.entries some; rung = inside c.controller.entries some; heard = refl; expected = refl; phases = phases; owned = tt; follow = inside c.controller.entries some; drained = λ unserved. refl }))

pub completion_stands : (n : ℕ) (m : Memory) (q base : ℕ) (h : HostQueue) (c : ControllerQueue) → ShareQueue n q h c → IsGranted n base h c → QueueStands n m q h c → QueueStands n m q h (with_completion base c)
completion_stands n m q base h c share is stands =
    let some : 0 < n = omega (arith, share.entries, share.side.least) in
    record {
      halves = record { submission = λ there. absurd (true≢false (sym is.absent ∙ there)); completion = λ has. is.half };
      rings = λ has. fresh_rings m q h (with_completion base c) (omega (arith, share.side.least)) is.fresh refl
          (subst (λ (k : ℕ). PhasesStand m (base / 4096) k 0 true) (sym share.entries)
          (subst (λ (first : ℕ). PhasesStand m first n 0 true) (first_of_half n (base / 4096) h some is.half) (stands.granted is.asked is.none)));
      granted = λ making none. absurd (true≢false none);
    }

pub submission_stands : (n : ℕ) (m : Memory) (q base : ℕ) (h : HostQueue) (c : ControllerQueue) → ShareQueue n q h c → IsGrantedBeside n base h c → QueueStands n m q h c → QueueStands n m q h (with_submission base c)
submission_stands n m q base h c share is stands =
    let has = there_ring h c is.there in
    record {
      halves = record { submission = λ there. is.half; completion = λ x. stands.halves.completion has };
      rings = λ x. fresh_rings m q h (with_submission base c) (omega (arith, share.side.least)) is.fresh refl (fresh_phases m q h c is.fresh is.unserved (stands.rings has));
      granted = λ making none. absurd (true≢false (sym is.there ∙ none));
    }

-- Whatever was forged, both sides have the queue.

pub completion_shares : (n base i : ℕ) (h : HostQueue) (c : ControllerQueue) → ShareQueue n i h c → ShareQueue n i h (with_completion base c)
completion_shares n base i h c x =
    let some : 0 < c.controller.entries = omega (arith, x.side.least) in
    record { number = x.number; entries = x.entries; side = record { least = x.side.least; most = x.side.most; head = some; bell = some; tail = some; known_head = some } }

pub submission_shares : (n base i : ℕ) (h : HostQueue) (c : ControllerQueue) → ShareQueue n i h c → ShareQueue n i h (with_submission base c)
submission_shares n base i h c x =
    let some : 0 < c.controller.entries = omega (arith, x.side.least) in
    record { number = x.number; entries = x.entries; side = record { least = x.side.least; most = x.side.most; head = some; bell = some; tail = some; known_head = some } }

-- A creation that the controller fetches names the half that the host granted for it, where nothing was forged.

-- The command of an entry, by its opcode: that of a completion queue has a vector, or none

record Makes {X : Type 0} (make : X → ℕ → ℕ → ℕ → AdminKind) (rs : List Record) (e : SubEntry) : Type 0 where
  beside : X
  queue : ℕ
  size : ℕ
  base : ℕ
  knows : Knows rs e.cid (make beside queue size base)
  is : e ≡ admin_entry (make beside queue size base) e.cid

creation : {X : Type 0} (make : X → ℕ → ℕ → ℕ → AdminKind) (code : ℕ) → ((adm : AdminKind) (cid : ℕ) → ((admin_entry adm cid).opcode == code) ≡ true → (x : X) × (q : ℕ) × (size : ℕ) × (base : ℕ) × (adm ≡ make x q size base))
    → (rs : List Record) (e : SubEntry) → EntryKnown rs e → (e.opcode == code) ≡ true → Makes make rs e
creation make code only rs e (adm, knows, is) opcode =
    let (x, q, size, base, same) = only adm e.cid (ap (λ (x : SubEntry). x.opcode == code) (sym is) ∙ opcode) in
    record { beside = x; queue = q; size = size; base = base; knows = subst (Knows rs e.cid) same knows; is = is ∙ ap (λ (k : AdminKind). admin_entry k e.cid) same }

abbrev making_of_cq : Option ℕ → (q size base : ℕ) → AdminKind
making_of_cq vector q size base = CreateCq q size base vector

abbrev making_of_sq : Unit {0} → (q size base : ℕ) → AdminKind
making_of_sq x q size base = CreateSq q size base

only_cq : (adm : AdminKind) (cid : ℕ) → ((admin_entry adm cid).opcode == CREATE_IO_CQ) ≡ true → (vector : Option ℕ) × (q : ℕ) × (size : ℕ) × (base : ℕ) × (adm ≡ making_of_cq vector q size base)
only_cq (CreateCq q size base vector) cid e = (vector, q, size, base, refl)
only_cq adm cid e = absurd (true≢false (sym e))

only_sq : (adm : AdminKind) (cid : ℕ) → ((admin_entry adm cid).opcode == CREATE_IO_SQ) ≡ true → (x : Unit {0}) × (q : ℕ) × (size : ℕ) × (base : ℕ) × (adm ≡ making_of_sq x q size base)
only_sq (CreateSq q size base) cid e = (tt, q, size, base, refl)
only_sq adm cid e = absurd (true≢false (sym e))

-- What it names

low : (q more : ℕ) → q < 65536 → (q + 65536 * more) % 65536 ≡ q
low q more few = omega arith

-- A page of the pool has a number that an address can begin with.
pub page_below : (pages : Pages) (p : ℕ) → is_in pages p ≡ true → p < length pages
page_below [] p e = absurd (true≢false (sym e))
page_below (x ∷ pages) zero e = omega arith
page_below (x ∷ pages) (suc p) e = omega (arith, page_below pages p e)

queue_below : (hs : List HostQueue) (q : ℕ) (h : HostQueue) → slice_get hs q ≡ Some h → q < length hs
queue_below [] q h e = absurd cc
queue_below (x ∷ hs) zero h e = omega arith
queue_below (x ∷ hs) (suc q) h e = omega (arith, queue_below hs q h e)

-- the first page of a half that a queue has is a page of the pool
first_below : (s : Sides) → IsWorld s → (q : ℕ) (h : HostQueue) → slice_get s.host.host.queues q ≡ Some h → (pages : List ℕ) → ((p : ℕ) → 0 < times p pages → 0 < in_queue p h)
    → (first many : ℕ) → 0 < many → pages ≡ pages_from first many → first < 65536
first_below s world q h at pages part first many some same =
    let here : first + 0 ≡ first = omega arith in
    let among : is_among pages first ≡ true = ap (λ (ps : List ℕ). is_among ps first) same ∙ subst (λ (p : ℕ). is_among (pages_from first many) p ≡ true) here (among-from first many 0 some) in
    omega (arith, page_below s.pages first (queue_page_in s world.sides q h first at (part first (held_once first pages among))), world.sides.over.pool.few)

begins_at : (first base : ℕ) → base ≡ 4096 * first → base / 4096 ≡ first
begins_at first base e = omega (arith, e)

-- A creation that is outstanding has its queue wait for it.
waited_for : (of : ℕ → Work → Bool) (test : HostState → Bool) (rs : List Record) (hs : List HostQueue) (q c : ℕ) (r : Record) (h : HostQueue) → find (is_at 0 c) rs ≡ Some r → of q r.work ≡ true → slice_get hs q ≡ Some h
    → length (filter (λ r. of q r.work) rs) ≡ (if option_map_or (λ queue. test queue.state) (slice_get hs q) false then 1 else 0) → test h.state ≡ true
waited_for of test rs hs q c r h found its at count =
    let least : one (of q r.work) ≤ length (filter (λ r. of q r.work) rs) = omega (arith, length_awaits of q rs, in_found (is_at 0 c) rs r found (awaits of q)) in
    let tested : length (filter (λ r. of q r.work) rs) ≡ (if test h.state then 1 else 0) =
    count ∙ ap {B = ℕ} (λ (o : Option HostQueue). if option_map_or (λ queue. test queue.state) o false then 1 else 0) at in
    elim (cases_Bool (test h.state)) [
      | inl e ↦ rw e refl
      | inr e ↦ absurd (omega (arith, least, ap one its, tested, ap {B = ℕ} (λ (b : Bool). if b then 1 else 0) e))
    ]

pub making_cq : (st : HostState) → is_making_cq st ≡ true → is_making st ≡ true
making_cq st e = grind arith

making_sq : (st : HostState) → is_making_sq st ≡ true → (is_making st ≡ true) × (in_service st ≡ false)
making_sq states.MakingSq e = (refl, refl)
making_sq st e = absurd (true≢false (sym e))

pub completion_granted : (s : Sides) → IsWorld s → (e : SubEntry) → EntryKnown s.host.host.records e → length s.host.host.queues ≤ 65536 → (h : HostQueue) (c : ControllerQueue)
    → slice_get s.host.host.queues (named_queue e) ≡ Some h → IsKnown s (named_queue e) h c → (e.opcode == CREATE_IO_CQ) ≡ true → c.cq_there ≡ false → IsGranted s.host.entries (named_base e) h c
completion_granted s world e entry few h c at known code none =
    let made = creation making_of_cq CREATE_IO_CQ only_cq s.host.host.records e entry code in
    let n = s.host.entries in
    let q = named_queue e in
    let (r, found, work) = made.knows in
    let names : NamesItsHalf n s.host.host.queues (Management (CreateCq made.queue made.size made.base made.beside)) =
    subst (NamesItsHalf n s.host.host.queues) work (all-found (λ r. NamesItsHalf n s.host.host.queues r.work) (is_at 0 e.cid) s.host.host.records r found world.sides.provided.creations) in
    let (size, queue, there, lies) = names in
    let its : made.queue ≡ q = sym (ap named_queue made.is ∙ low made.queue (made.size - 1) (omega (arith, queue_below s.host.host.queues made.queue queue there, few))) in
    let same : queue ≡ h = some_is (sym there ∙ subst (λ (k : ℕ). slice_get s.host.host.queues k ≡ Some h) (sym its) at) in
    let some : 0 < n = omega (arith, known.placed.share.entries, known.placed.share.side.least) in
    let whole : h.cq_pages ≡ pages_from lies.first (half_pages n Completion) = ap (λ (x : HostQueue). x.cq_pages) (sym same) ∙ lies.consecutive in
    let below = first_below s world q h at h.cq_pages (λ p l. omega (arith, l)) lies.first (half_pages n Completion) (omega (arith, some)) whole in
    let based : named_base e ≡ made.base = ap named_base made.is ∙ (from_le_bytes-to_le_bytes_8 made.base (omega (arith, lies.begins, below))) in
    let asked : is_making_cq h.state ≡ true =
    waited_for creates_cq_of is_making_cq s.host.host.records s.host.host.queues q e.cid r h found (ap (creates_cq_of q) work ∙ eq-eqb made.queue q its) at (world.sides.kept.creations q).0 in
    record {
      asked = asked;
      fresh = known.fits.fresh (making_cq h.state asked);
      half = whole ∙ ap (λ (k : ℕ). pages_from k (half_pages n Completion)) (sym (ap (λ (b : ℕ). b / 4096) based ∙ begins_at lies.first made.base lies.begins));
      absent = grind arith;
      none = none;
    }

pub submission_granted : (s : Sides) → IsWorld s → (e : SubEntry) → EntryKnown s.host.host.records e → length s.host.host.queues ≤ 65536 → (h : HostQueue) (c : ControllerQueue)
    → slice_get s.host.host.queues (named_queue e) ≡ Some h → IsKnown s (named_queue e) h c → (e.opcode == CREATE_IO_SQ) ≡ true → c.cq_there ≡ true → IsGrantedBeside s.host.entries (named_base e) h c
submission_granted s world e entry few h c at known code has =
    let made = creation making_of_sq CREATE_IO_SQ only_sq s.host.host.records e entry code in
    let n = s.host.entries in
    let q = named_queue e in
    let (r, found, work) = made.knows in
    let names : NamesItsHalf n s.host.host.queues (Management (CreateSq made.queue made.size made.base)) =
    subst (NamesItsHalf n s.host.host.queues) work (all-found (λ r. NamesItsHalf n s.host.host.queues r.work) (is_at 0 e.cid) s.host.host.records r found world.sides.provided.creations) in
    let (size, queue, there, lies) = names in
    let its : made.queue ≡ q = sym (ap named_queue made.is ∙ low made.queue (made.size - 1) (omega (arith, queue_below s.host.host.queues made.queue queue there, few))) in
    let same : queue ≡ h = some_is (sym there ∙ subst (λ (k : ℕ). slice_get s.host.host.queues k ≡ Some h) (sym its) at) in
    let some : 0 < n = omega (arith, known.placed.share.entries, known.placed.share.side.least) in
    let whole : h.sq_pages ≡ pages_from lies.first (half_pages n Submission) = ap (λ (x : HostQueue). x.sq_pages) (sym same) ∙ lies.consecutive in
    let below = first_below s world q h at h.sq_pages (λ p l. omega (arith, l)) lies.first (half_pages n Submission) (omega (arith, some)) whole in
    let based : named_base e ≡ made.base = ap named_base made.is ∙ (from_le_bytes-to_le_bytes_8 made.base (omega (arith, lies.begins, below))) in
    let asked : is_making_sq h.state ≡ true =
    waited_for creates_sq_of is_making_sq s.host.host.records s.host.host.queues q e.cid r h found (ap (creates_sq_of q) work ∙ eq-eqb made.queue q its) at (world.sides.kept.creations q).1 in
    let making = making_sq h.state asked in
    record {
      unserved = making.1;
      fresh = known.fits.fresh making.0;
      half = whole ∙ ap (λ (k : ℕ). pages_from k (half_pages n Submission)) (sym (ap (λ (b : ℕ). b / 4096) based ∙ begins_at lies.first made.base lies.begins));
      there = has;
    }
