-- Queues that are granted and reset.
use Rattle.machine_model.specs.After as a
use Rattle.std.proofs.Common.{◌≡◌, ℕ, zero, suc, ◌+◌, ◌<◌, ◌==◌, ◌||◌, ◌&&◌, Bool, true, false, Some, List, [], ◌∷◌, length, length-set, slice_set, if◌then◌else◌, refl, ap, sym, ◌∙◌, subst, arith, eqb-true, inl, inr, nat_lt, lt-ltb, ◌++◌, map, slice_get}
use Rattle.std.{proofs.lemmas.Bool.{eqb-false, true≢false, cases_Bool}, specs.List.AllByRecursion}
use Rattle.host_core.proofs.PageOwners.{among-from, pool-with, set-other, among-append, with-other}
use Rattle.machine_model.{proofs.Counting.{held_once, run_times, zeroed_numbers}, specs.{Memory.{with_pages, zeroed_pages}, Placement.first_of_run}}
use Rattle.machine_model.specs.{State.{HostQueue, ServedQueue}, Step.times}
use Rattle.two_sides.proofs.Frames.{Spares, SparesSubmitted, free_apart_from_commands, free_apart_from_queues, free_below}
use Rattle.two_sides.specs.Sides.{Sides, served_queues_of}
use Rattle.two_sides.specs.Ties.{IsWorld, AllQueuesStand, QueueStands, RingsStand, ShareAdmin, ShareQueue, ShareQueues, SharesAdmin}
use Rattle.page_ledger.specs.Owners.{is_among, pages_from}
use Rattle.page_memory.{proofs.Bytes.length-zero_page, specs.{Memory.Memory, Pages.{AreWhole, Pages, byte_at, page_at, zero_page}}}
use Rattle.page_memory.specs.declared.page.Half.TheVariants.{Completion}
use Rattle.queue_pair.{proofs.Halves.{zeros_stand, pages_zero}, specs.{Halves.IsZero, Lists.PhasesStand, Memory.half_pages}}
use Rattle.queue_pair.specs.Rings.{IsControllerSide, fresh_controller_ring}
use Rattle.controller_core.specs.{Resetting.{queue_reset, queues_reset}, declared.queue.ControllerQueue.ControllerQueue}
use Rattle.host_core.proofs.Making.{whole-zeros}

-- A half that the host grants a queue: free pages, which come in as zeros.

-- The pages come in as zeros

set_in : (m : Pages) (p : ℕ) (x : List ℕ) → p < length m → page_at (slice_set m p (Some x)) p ≡ Some x
set_in [] p x l = absurd (omega (arith, l))
set_in (z ∷ m) zero x l = refl
set_in (z ∷ m) (suc p) x l = set_in m p x (omega (arith, l))

pub zeroed_there : (ps : List ℕ) (m : Pages) (p : ℕ) → p < length m → (is_among ps p ≡ false → page_at m p ≡ Some zero_page) → page_at (with_pages (zeroed_pages ps) m) p ≡ Some zero_page
zeroed_there [] m p l before = before refl
zeroed_there (x ∷ ps) m p l before =
    zeroed_there ps (slice_set m x (Some zero_page)) p (subst (λ (n : ℕ). p < n) (sym (length-set m x (Some zero_page))) l) (λ none. by_page (x == p) refl none)
  where
    by_page : (b : Bool) → (x == p) ≡ b → is_among ps p ≡ false → page_at (slice_set m x (Some zero_page)) p ≡ Some zero_page
    by_page true e none = subst (λ (k : ℕ). page_at (slice_set m k (Some zero_page)) p ≡ Some zero_page) (sym (eqb-true x p e)) (set_in m p zero_page l)
    by_page false e none = set-other m x p (Some zero_page) (eqb-false x p e) ∙ before (ap (λ (b : Bool). b || is_among ps p) e ∙ none)

-- The pages of a run are free

run_is_free : (free : List ℕ) (count first : ℕ) → first_of_run free count ≡ Some first → (p : ℕ) → is_among (pages_from first count) p ≡ true → is_among free p ≡ true
run_is_free free count first is p among = by_presence (is_among (pages_from first count) p) (is_among free p) (run_times free count first is p)
  where
    by_presence : (a b : Bool) → times p (pages_from first count) ≡ (if a && b then 1 else 0) → b ≡ true
    by_presence a true count' = refl
    by_presence true false count' = absurd (omega (arith, count', held_once p (pages_from first count) among))
    by_presence false false count' = absurd (omega (arith, count', held_once p (pages_from first count) among))

module _ (s : Sides) (world : IsWorld s) (count first : ℕ) (run : first_of_run s.host.host.free count ≡ Some first) where
  abbrev pub granted_pool : Pages
  granted_pool = with_pages (zeroed_pages (pages_from first count)) s.pages

  pub free : (p : ℕ) → is_among (pages_from first count) p ≡ true → is_among s.host.host.free p ≡ true
  free = run_is_free s.host.host.free count first run

  elsewhere : (p : ℕ) → is_among (pages_from first count) p ≡ false → page_at granted_pool p ≡ page_at s.pages p
  elsewhere p none = with-other (zeroed_pages (pages_from first count)) s.pages p (ap (λ (ps : List ℕ). is_among ps p) (zeroed_numbers (pages_from first count)) ∙ none)

  -- a page of another owner is none of them
  not_granted : (own : List ℕ) (p : ℕ) → is_among own p ≡ true → (is_among s.host.host.free p ≡ true → is_among own p ≡ false) → is_among (pages_from first count) p ≡ false
  not_granted own p mine apart = elim (cases_Bool (is_among (pages_from first count) p)) [ inl e ↦ absurd (true≢false (sym mine ∙ apart (free p e))) | inr e ↦ rw e refl ]

  pub granted_spares : Spares s granted_pool
  granted_spares q h at =
      record {
        submission = λ p among. elsewhere p (not_granted h.sq_pages p among (λ is. (free_apart_from_queues s world q h p at is).0));
        completion = λ p among. elsewhere p (not_granted h.cq_pages p among (λ is. (free_apart_from_queues s world q h p at is).1));
      }

  pub granted_submitted : SparesSubmitted s granted_pool
  granted_submitted i r at submitted p among = elsewhere p (not_granted _ p among (λ is. free_apart_from_commands s world i r p at is))

  pub granted_whole : AreWhole granted_pool
  granted_whole = (pool-with (zeroed_pages (pages_from first count)) s.pages (whole-zeros (pages_from first count)) world.sides.over.pool).whole

  -- they are zeros, and no queue's
  pub granted_zero : (k : ℕ) → k < count → page_at granted_pool (first + k) ≡ Some zero_page
  granted_zero k l =
      let among = among-from first count k l in
      zeroed_there (pages_from first count) s.pages (first + k) (free_below s world.sides (first + k) (free (first + k) among)) (λ none. absurd (true≢false (sym among ∙ none)))

-- A completion half of zeros has no slot that is new
pub zeros_granted : (pages : Pages) (n first : ℕ) → ((k : ℕ) → k < half_pages n Completion → page_at pages (first + k) ≡ Some zero_page) → PhasesStand (byte_at pages) first n 0 true
zeros_granted pages n first zeros = zeros_stand (byte_at pages) first n (pages_zero pages first (half_pages n Completion) zeros)

-- Both sides' queues after a reset: queue 0 with fresh rings over zero pages, and no other queue.

-- What the machine has of them

no_controllers : (m m' : Memory) (q : ℕ) (hs : List HostQueue) (cs : List ControllerQueue)
    → served_queues_of m' (map (λ other. a.no_queue) hs) (queues_reset (suc q) cs) ≡ map (λ other. a.no_served_queue) (served_queues_of m hs cs)
no_controllers m m' q (h ∷ hs) (c ∷ cs) = ap (λ (ds : List ServedQueue). a.no_served_queue ∷ ds) (no_controllers m m' (suc q) hs cs)
no_controllers m m' q x cs = refl

pub controllers_reset : (m m' : Memory) (hs : List HostQueue) (cs : List ControllerQueue) → served_queues_of m' (a.reset_queues hs) (queues_reset 0 cs) ≡ a.reset_served_queues (served_queues_of m hs cs)
controllers_reset m m' (h ∷ hs) (c ∷ cs) = ap (λ (ds : List ServedQueue). a.reset_controller_admin ∷ ds) (no_controllers m m' 0 hs cs)
controllers_reset m m' x cs = refl

-- What both sides share

ring_reset : (n q i : ℕ) (h h' : HostQueue) (c : ControllerQueue) → ShareQueue n q h c → ShareQueue n q h' (queue_reset i c)
ring_reset n q i h h' c share = by_index i
  where
    fresh : IsControllerSide (record c.controller { ring = fresh_controller_ring })
    fresh = record { least = share.side.least; most = share.side.most; head = omega (arith, share.side.least); bell = omega (arith, share.side.least); tail = omega (arith, share.side.least); known_head = omega (arith, share.side.least) }

    by_index : (i : ℕ) → ShareQueue n q h' (queue_reset i c)
    by_index zero = record { number = share.number; entries = share.entries; side = fresh }
    by_index (suc i) = record { number = share.number; entries = share.entries; side = fresh }

no_queues_shared : (n q : ℕ) (hs : List HostQueue) (cs : List ControllerQueue) → ShareQueues n q hs cs → ShareQueues n q (map (λ other. a.no_queue) hs) (queues_reset q cs)
no_queues_shared n q [] [] share = tt
no_queues_shared n q [] (c ∷ cs) share = absurd share
no_queues_shared n q (h ∷ hs) [] share = absurd share
no_queues_shared n q (h ∷ hs) (c ∷ cs) share = (ring_reset n q q h a.no_queue c share.0, no_queues_shared n (suc q) hs cs share.1)

pub shared_reset : (n : ℕ) (hs : List HostQueue) (cs : List ControllerQueue) → ShareQueues n 0 hs cs → ShareQueues n 0 (a.reset_queues hs) (queues_reset 0 cs)
shared_reset n [] [] share = tt
shared_reset n [] (c ∷ cs) share = absurd share
shared_reset n (h ∷ hs) [] share = absurd share
shared_reset n (h ∷ hs) (c ∷ cs) share = (ring_reset n 0 0 h (a.reset_admin h) c share.0, no_queues_shared n 1 hs cs share.1)

pub admin_reset : (n : ℕ) (hs : List HostQueue) (cs : List ControllerQueue) → SharesAdmin n hs cs → SharesAdmin n (a.reset_queues hs) (queues_reset 0 cs)
admin_reset n (h ∷ hs) (c ∷ cs) share = record { submission = share.submission; completion = share.completion }
admin_reset n x cs share = tt

-- The rings of queue 0 stand over zero pages

fresh_rings : (n : ℕ) (m : Memory) (h : HostQueue) (c : ControllerQueue) → ShareQueue n 0 h c → IsZero m c.controller.cq (half_pages n Completion) → RingsStand m 0 (a.reset_admin h) (queue_reset 0 c)
fresh_rings n m h c share zeros =
    let inside : (nat_lt 0 c.controller.entries && true) ≡ true = rw (lt-ltb 0 c.controller.entries (omega (arith, share.side.least))) refl in
    record {
      fetched = inside;
      rung = inside;
      heard = refl;
      expected = refl;
      phases = zeros_stand m c.controller.cq c.controller.entries (subst (λ (k : ℕ). IsZero m c.controller.cq (half_pages k Completion)) (sym share.entries) zeros);
      owned = tt;
      follow = inside;
      drained = λ e. refl;
    }

admin_stands : (n : ℕ) (m : Memory) (h : HostQueue) (c : ControllerQueue) → ShareQueue n 0 h c → ShareAdmin n h c → IsZero m c.controller.cq (half_pages n Completion) → QueueStands n m 0 (a.reset_admin h) (queue_reset 0 c)
admin_stands n m h c share admin zeros =
    record { halves = record { submission = λ e. admin.submission; completion = λ e. admin.completion }; rings = λ e. fresh_rings n m h c share zeros; granted = λ making. absurd (true≢false (sym making)) }

none_stand : (n : ℕ) (m : Memory) (q : ℕ) (hs : List HostQueue) (cs : List ControllerQueue) → AllQueuesStand n m (suc q) (map (λ other. a.no_queue) hs) (queues_reset (suc q) cs)
none_stand n m q (h ∷ hs) (c ∷ cs) = (
  record {
    halves = record { submission = λ e. absurd (true≢false e); completion = λ e. absurd (true≢false (sym e)) };
    rings = λ e. absurd (true≢false (sym e));
    granted = λ making. absurd (true≢false (sym making));
  },
  none_stand n m (suc q) hs cs,
)
none_stand n m q x cs = tt

pub stands_reset : (n : ℕ) (pages : Pages) (hs : List HostQueue) (cs : List ControllerQueue) → ShareQueues n 0 hs cs → SharesAdmin n hs cs
    → ((h : HostQueue) (p : ℕ) → slice_get hs 0 ≡ Some h → is_among h.cq_pages p ≡ true → p < length pages)
    → AllQueuesStand n (byte_at (with_pages (zeroed_pages (a.admin_pages hs)) pages)) 0 (a.reset_queues hs) (queues_reset 0 cs)
stands_reset n pages (h ∷ hs) (c ∷ cs) share admin inside =
    let own : List ℕ = h.sq_pages ++ h.cq_pages in
    let zeroed : Pages = with_pages (zeroed_pages own) pages in
    let zeros : IsZero (byte_at zeroed) c.controller.cq (half_pages n Completion) =
    pages_zero zeroed c.controller.cq (half_pages n Completion)
    (λ p l. let mine : is_among h.cq_pages (c.controller.cq + p) ≡ true =
    ap (λ (ps : List ℕ). is_among ps (c.controller.cq + p)) admin.completion ∙ among-from c.controller.cq (half_pages n Completion) p l in
    zeroed_there own pages (c.controller.cq + p) (inside h (c.controller.cq + p) refl mine)
    (λ none. absurd (true≢false (sym (among-append h.sq_pages h.cq_pages (c.controller.cq + p) ∙ grind arith) ∙ none)))) in
    (admin_stands n (byte_at zeroed) h c share.0 admin zeros, none_stand n (byte_at zeroed) 0 hs cs)
stands_reset n pages x cs share admin inside = tt
