-- A reset, and an opening.
use Rattle.machine_model.specs.After as a
use Rattle.machine_model.specs.Events as events
use Rattle.machine_model.specs.Opening as machine
use Rattle.std.proofs.Common.{◌≡◌, ℕ, ◌<◌, Bool, true, false, ◌||◌, None, Some, List, [], length, slice_get, MatchBool, refl, ap, sym, arith, subst, zero, suc, ◌+◌, ◌*◌, ◌≤◌, nat_lt, ◌&&◌, lt-ltb, Option, IfSome, ◌∷◌, replicate, ◌∙◌}
use Rattle.std.{proofs.lemmas.{Bool.true≢false, List.length-replicate}, specs.Option.option_and_then}
use Rattle.controller_core.specs.{Contents.IsController, Opening.{fresh_queue, queues_from}, Resetting.reset as controller_reset}
use Rattle.host_core.{proofs.Openings.limits, specs.{Alone.{IsOver, alone}, Resetting.{host_reset, pages_reset}}}
use Rattle.machine_model.{proofs.{Counting.held_once, Headline.{runs_are_sound, fits_pool}}, specs.{Agreeing.SidesAgree, Claims.{HasOneOwner, IsSound}}}
use Rattle.machine_model.specs.{Opening.{opening, served_queue}, Refusals.{refusal_of, is_deleting}, State.{HostQueue, ServedQueue, State}, Step.Step}
use Rattle.machine_model.specs.declared.words.HostState.TheVariants.{Live}
use Rattle.two_sides.proofs.{Agreed.{reset_recovers, recovery_kept, opening_agrees, openings_recover}, ControllerMoves.rings_at_opening}
use Rattle.two_sides.proofs.{Frames.{tied_of, queue_page_in}, Granting.{admin_reset, controllers_reset, shared_reset, stands_reset}, Making.page_below}
use Rattle.two_sides.{proofs.{Provided.runs_provide, Serving.{ServeS, serve_back, serve_reset}}, specs.Deletions.CompletionsServe}
use Rattle.two_sides.specs.{Opening.{halves_from, opened_sides, openings_are_worlds}, Recovering.CanRecover, Sides.{Sides, state_of, served_queues_of}}
use Rattle.two_sides.specs.{Stepping.{reset_sides, resets_step}, Ties.{AreSides, IsWorld, ShareQueues, SharesAdmin, RingsStand, QueueStands, AllQueuesStand}}
use Rattle.page_ledger.specs.Owners.{is_among, pages_from}
use Rattle.page_memory.{proofs.Bytes.length-zero_page, specs.{Memory.Memory, Pages.{byte_at, page_at, zero_page}}}
use Rattle.page_memory.specs.declared.page.Half.TheVariants.{Submission, Completion}
use Rattle.queue_pair.{proofs.Halves.{zeros_stand, pages_zero}, specs.{Halves.IsZero, Memory.half_pages, Rings.fresh_host_ring}}

-- A reset of both sides is a step of the machine, and ties them, whatever was forged before.

module _ (s : Sides) (world : IsWorld s) where
  same : state_of (reset_sides s) ≡ a.after_reset (state_of s)
  same =
      ap (λ (queues : List ServedQueue). record (a.after_reset (state_of s)) { controller = record { queues = queues; jobs = []; image = s.controller.image } })
      (controllers_reset (byte_at s.pages) (byte_at (pages_reset s.host s.pages)) s.host.host.queues s.controller.queues)

  -- no cause refuses it
  step : Step (state_of s) events.Reset events.Accepted (state_of (reset_sides s))
  step = (tt, permits s.trusted, same)
    where
      permits : (b : Bool) → MatchBool (b || true) ((refusal_of (state_of s) events.Reset ≡ None) × Unit {0}) ⊥
      permits true = (refl, tt)
      permits false = (refl, tt)

  recovers : CanRecover (state_of (reset_sides s))
  recovers = recovery_kept (state_of s) events.Reset events.Accepted (state_of (reset_sides s)) step (λ t. (tied_of s world t).agree) world.recovers

  agree : SidesAgree (state_of (reset_sides s))
  agree = subst SidesAgree (sym same) (reset_recovers (state_of s) world.recovers)

  -- what is kept speaks of the host and its pages alone
  kept : IsSound (alone (host_reset s.host s.pages) (pages_reset s.host s.pages))
  kept =
      let sound = recovers.sound in
      record {
        owners = sound.owners;
        counted = sound.counted;
        identifiers = sound.identifiers;
        out = sound.out;
        works_fit = sound.works_fit;
        deletions = sound.deletions;
        creations = sound.creations;
        bare = sound.bare;
        halves = sound.halves;
        admin = sound.admin;
      }

  sides : IsController (controller_reset s.controller) → IsOver (host_reset s.host s.pages) (pages_reset s.host s.pages) → AreSides (reset_sides s)
  sides controller over =
      record {
        over = over;
        sound = record {
          owners = subst (λ (n : ℕ). HasOneOwner n (host_reset s.host s.pages).host) (sym kept.counted) kept.owners;
          identifiers = kept.identifiers;
          positions = agree.rings;
        };
        kept = kept;
        provided = recovers.provided;
        controller = controller;
        queues = shared_reset s.host.entries s.host.host.queues s.controller.queues world.sides.queues;
        admin = admin_reset s.host.entries s.host.host.queues s.controller.queues world.sides.admin;
      }

  -- the pages of queue 0 are in the pool
  admin_below : (h : HostQueue) (p : ℕ) → slice_get s.host.host.queues 0 ≡ Some h → is_among h.cq_pages p ≡ true → p < length s.pages
  admin_below h p at among = page_below s.pages p (queue_page_in s world.sides 0 h p at (omega (arith, held_once p h.cq_pages among)))

  serve : CompletionsServe (state_of (reset_sides s))
  serve =
      serve_back (state_of (reset_sides s)) agree
      (subst ServeS (sym same) (serve_reset s.host.host.queues (state_of s).controller.queues))

pub reset_stepped : resets_step
reset_stepped s world controller over = (
  step s world,
  record {
    sides = sides s world controller over;
    recovers = recovers s world;
    tied = record {
      queues = stands_reset s.host.entries s.pages s.host.host.queues s.controller.queues world.sides.queues world.sides.admin (admin_below s world);
      walks = tt;
      agree = agree s world;
      serve = serve s world;
    };
  },
)

-- Both sides as they open are the machine's opening.

served_queues : (m : Memory) (page n q count : ℕ) → served_queues_of m (machine.queues_from page n count) (queues_from n q (halves_from page n count)) ≡ replicate count served_queue
served_queues m page n q zero = refl
served_queues m page n q (suc count) = ap (λ (l : List ServedQueue). served_queue ∷ l) (served_queues m (page + half_pages n Submission + half_pages n Completion) n (suc q) count)

shared : (page n q count : ℕ) → 2 ≤ n → n ≤ 1024 → ShareQueues n q (machine.queues_from page n count) (queues_from n q (halves_from page n count))
shared page n q zero least most = tt
shared page n q (suc count) least most = (
  record {
    number = refl;
    entries = refl;
    side = record { least = least; most = most; head = omega arith; bell = omega arith; tail = omega arith; known_head = omega arith };
  },
  shared (page + half_pages n Submission + half_pages n Completion) n (suc q) count least most,
)

admin_shared : (page n q count : ℕ) → SharesAdmin n (machine.queues_from page n count) (queues_from n q (halves_from page n count))
admin_shared page n q zero = tt
admin_shared page n q (suc count) = record { submission = refl; completion = refl }

abbrev fresh_host : ℕ → ℕ → HostQueue
fresh_host page n =
    record { state = Live; ring = fresh_host_ring; sq_pages = pages_from page (half_pages n Submission); cq_pages = pages_from (page + half_pages n Submission) (half_pages n Completion) }

fresh_rings : (m : Memory) (page n q : ℕ) → 0 < n → IsZero m (page + half_pages n Submission) (half_pages n Completion)
    → RingsStand m q (fresh_host page n) (fresh_queue n q (record { sq = page; cq = page + half_pages n Submission }))
fresh_rings m page n q some zeros =
    let inside : (nat_lt 0 n && true) ≡ true = rw (lt-ltb 0 n some) refl in
    record {
      fetched = inside;
      rung = inside;
      heard = refl;
      expected = refl;
      phases = zeros_stand m (page + half_pages n Submission) n zeros;
      owned = tt;
      follow = inside;
      drained = λ e. refl;
    }

fresh_stands : (m : Memory) (page n q : ℕ) → 0 < n → IsZero m (page + half_pages n Submission) (half_pages n Completion)
    → QueueStands n m q (fresh_host page n) (fresh_queue n q (record { sq = page; cq = page + half_pages n Submission }))
fresh_stands m page n q some zeros =
    record { halves = record { submission = λ e. refl; completion = λ e. refl }; rings = λ e. fresh_rings m page n q some zeros; granted = λ making. absurd cc }

all_at : {X : Type 0} (n k : ℕ) (x : X) → k < n → slice_get (replicate n x) k ≡ Some x
all_at zero k x l = absurd (omega arith)
all_at (suc n) zero x l = refl
all_at (suc n) (suc k) x l = all_at n k x (omega arith)

all_stand : (all page n q count : ℕ) → 0 < n → page + count * (half_pages n Submission + half_pages n Completion) ≤ all
    → AllQueuesStand n (byte_at (replicate all (Some zero_page))) q (machine.queues_from page n count) (queues_from n q (halves_from page n count))
all_stand all page n q zero some fits = tt
all_stand all page n q (suc count) some fits = (
  fresh_stands (byte_at (replicate all (Some zero_page))) page n q some
      (pages_zero (replicate all (Some zero_page)) (page + half_pages n Submission) (half_pages n Completion)
      (λ p h. ap (λ (o : Option (Option (List ℕ))). option_and_then (λ slot. slot) o) (all_at all (page + half_pages n Submission + p) (Some zero_page) (omega (arith, fits, h))))),
  all_stand all (page + half_pages n Submission + half_pages n Completion) n (suc q) count some (omega (arith, fits)),
)

blank_pool : (n p : ℕ) → IfSome (page_at (replicate n (Some zero_page)) p) (λ page. length page ≡ 4096)
blank_pool zero p = tt
blank_pool (suc n) zero = length-zero_page
blank_pool (suc n) (suc p) = blank_pool n p

-- Each queue has its completion queue as it opens, and none is being deleted.
all_same : {X : Type 0} (n k : ℕ) (x y : X) → slice_get (replicate n x) k ≡ Some y → x ≡ y
all_same (suc n) (suc k) x y e = all_same n k x y e
all_same z k x y e = cc

all_live : (page n count q : ℕ) (h : HostQueue) → slice_get (machine.queues_from page n count) q ≡ Some h → is_deleting h.state ≡ false
all_live page n zero q h e = absurd cc
all_live page n (suc count) zero h e = let same : fresh_host page n ≡ h = cc in ap (λ (x : HostQueue). is_deleting x.state) (sym same)
all_live page n (suc count) (suc q) h e = all_live (page + half_pages n Submission + half_pages n Completion) n count q h e

opening_serves : (pages queues n segment : ℕ) (image : List ℕ) → CompletionsServe (opening pages queues n segment image)
opening_serves pages queues n segment image =
    record {
      serves = λ q h d e f live. sym (ap (λ (x : ServedQueue). x.cq_there) (all_same (queues + 1) q served_queue d f));
      order = λ q h e deleting. absurd (true≢false (sym deleting ∙ all_live 0 n (queues + 1) q h e));
    }

from_zero : (k all : ℕ) → k ≤ all → 0 + k ≤ all
from_zero k all l = omega arith

pub opened_are_worlds : openings_are_worlds
opened_are_worlds c image opens =
    let l = limits c opens in
    let start = opening c.pages c.queues c.entries c.segment image in
    let sound : IsSound start = runs_are_sound c.pages c.queues c.entries c.segment image [] [] start opens refl in
    let same : state_of (opened_sides c image) ≡ start =
    ap (λ (queues : List ServedQueue). record start { controller = record start.controller { queues = queues } }) (served_queues (byte_at (replicate c.pages (Some zero_page))) 0 c.entries 0 (c.queues + 1)) in
    let count : length (replicate c.pages (Some zero_page)) ≡ c.pages = length-replicate c.pages (Some zero_page) in (
      same,
      record {
        sides = record {
          over = record { pool = record { few = omega (arith, count, l.most_pages); whole = blank_pool c.pages }; size = sym sound.counted; out = sound.out };
          sound = record {
            owners = subst (λ (n : ℕ). HasOneOwner n start.host) (sym sound.counted) sound.owners;
            identifiers = sound.identifiers;
            positions = rings_at_opening c.pages c.queues c.entries c.segment image opens;
          };
          kept = record {
            owners = sound.owners;
            counted = sound.counted;
            identifiers = sound.identifiers;
            out = sound.out;
            works_fit = sound.works_fit;
            deletions = sound.deletions;
            creations = sound.creations;
            bare = sound.bare;
            halves = sound.halves;
            admin = sound.admin;
          };
          provided = runs_provide c.pages c.queues c.entries c.segment image [] [] start opens refl;
          controller = record { commands = record { each = tt; differ = λ q cid. omega arith }; awaited = tt };
          queues = shared 0 c.entries 0 (c.queues + 1) l.numbers.least_entries l.numbers.most_entries;
          admin = admin_shared 0 c.entries 0 (c.queues + 1);
        };
        recovers = subst (λ (s : State). CanRecover s) (sym same) (openings_recover c.pages c.queues c.entries c.segment image opens);
        tied = record {
          queues = all_stand c.pages 0 c.entries 0 (c.queues + 1) (omega (arith, l.numbers.least_entries)) (from_zero _ c.pages (fits_pool c.pages c.queues c.entries c.segment opens));
          walks = tt;
          agree = subst (λ (s : State). SidesAgree s) (sym same) (opening_agrees c.pages c.queues c.entries c.segment image opens);
          serve = subst (λ (s : State). CompletionsServe s) (sym same) (opening_serves c.pages c.queues c.entries c.segment image);
        };
      },
    )
