-- Both sides agree in each trusted state.
use Rattle.machine_model.specs.After as a
use Rattle.machine_model.specs.Events as events
use Rattle.std.proofs.Common.{◌≡◌, ℕ, zero, suc, ◌+◌, ◌<◌, ◌≤◌, ◌==◌, Bool, true, false, not, ◌||◌, Option, Some, None, List, [], length, replicate, slice_get, is_some, is_none, if◌then◌else◌, eqb-true, refl, ap, sym, ◌∙◌, arith, subst, ◌∷◌}
use Rattle.std.{proofs.lemmas.Bool.{true≢false, and_parts, or_parts}, specs.{List.AllByRecursion, Option.option_map_or}}
use Rattle.page_memory.specs.declared.page.Half.TheVariants.{Submission, Completion}
use Rattle.entry_codec.specs.{Status.is_success, declared.completion.ComEntry.ComEntry}
use Rattle.queue_pair.specs.{Members.change, Memory.half_pages, Rings.{next_tail, next_head, knowing}}
use Rattle.machine_model.proofs.Headline.{in_limits, limits_say, holds_at_opening, fits_pool, taken_at_opening}
use Rattle.machine_model.proofs.{HostLeaves.{host_leaves, peer_after}, Kept.{submissions_awaited, zero_host, zero_opened}}
use Rattle.machine_model.proofs.{Moves.{host_moves, half_from, grants_cq, grants_sq}, Owned.{HoldsPart, reset_length}}
use Rattle.machine_model.proofs.Sound.{asks, asked_event, asked_at, opened_quiet, opened_waits_not, TakenPart, Both, both_events, small}
use Rattle.machine_model.proofs.{Steps.{Accepts, part_controller, unrefused}, TokensKept.{tokens_of, tokens_to, same_length}}
use Rattle.machine_model.specs.Agreeing.{is_known_deleted, waiting, admin_completions, is_absent_at as gone_at, has_completions_at as there_at, QueuesFit as Paired, QueueFits as PairOk}
use Rattle.machine_model.specs.{Claims.{AdminLives, OwnsFit}, Events.{Event, Reply}, Opening.{Opens, opening, queues_from, served_queue as opened}, Positions.IsInRing}
use Rattle.machine_model.specs.{Refusals.{is_live, is_gone, job_at, refusal_of, is_job, host_queue}, State.{State, HostQueue, Job, ServedQueue, pages_of}}
use Rattle.machine_model.specs.{Step.{HostPart, host_part, IsController}, Weights.{one, total}, declared.words.{HostState.TheVariants.{Live, Deleting}, Peer.{Peer, TheVariants.{Modelled}}}}
use Rattle.two_sides.proofs.ControllerMoves.{tie_of, InRings, rings_on, rings_at_opening}
use Rattle.two_sides.proofs.Standing.{StandsSound, stands_event, both_on, opening_stands}
use Rattle.two_sides.proofs.Tied.{FitP, FitS, TieP, below, deleted_is_gone, tie_fetch, tie_walk, tie_complete, TieS, Ground, tie_host_event}
use Rattle.two_sides.proofs.Tokens.{KnowingP, TokensP, tokens_fetch, tokens_walk, tokens_complete, TokensS, tokens_host_event}
use Rattle.page_memory.proofs.Lists.{all-at, found_is}
use Rattle.page_ledger.proofs.Pages.{length-pages_from}
use Rattle.controller_core.proofs.Lists.{length-change}
use Rattle.host_core.proofs.Openings.{length-queues_from}

-- Every event keeps the tie of both sides and the tokens, so it fetches and completes only within what is allowed.

-- What the tokens say of a live queue

pub live_is_there : (s : State) → FitS s → (q : ℕ) (x : HostQueue) → slice_get s.host.queues q ≡ Some x → is_live x.state ≡ true → gone_at s.controller.queues q ≡ false
live_is_there s h q x e live =
    h.tokens.there q (below s.host.queues q (ap is_some e)) (omega (arith, ap one (ap (λ (o : Option HostQueue). option_map_or (λ h. is_live h.state) o false) e ∙ live)))

ground : (s : State) → s.trusted ≡ true → AdminLives s.host.queues → HoldsPart (host_part s) → FitS s → Ground s
ground s t zero' holds h = record { trusted = t; holds = holds; zero_live = zero'; live = live_is_there s h; over = deleted_is_gone s h }

known : (s : State) → StandsSound s → FitS s → KnowingP s.host.records s.host.queues s.controller
known s h f = record {
  placed = h.1.placed;
  once = h.0.once;
  few = f.few;
  long = same_length s.entries s.host.queues s.controller.queues f.pairs;
  asked = f.asked;
  making = submissions_awaited s.host h.0.creations;
}

-- Each event

pub whole : (s : State) → 0 < s.entries → length s.host.queues ≤ 65536 → ((q : ℕ) → total (asks q) s.host.records ≡ one (asked_at s.host.queues q)) → TieS s → TokensS s → FitS s
whole s pos few asked tie held = record {
  some_entries = pos;
  few = few;
  asked = asked;
  pairs = tie.pairs;
  jobs = tie.jobs;
  service = tie.service;
  tokens = tokens_to s.host.records s.host.queues s.controller.queues s.controller.jobs held;
}

-- how many queues there are stays
pub queues_stay : (s : State) (e : Event) (reply : Reply) → Accepts s e reply → IsController e ≡ false → length (a.after s e reply).host.queues ≡ length s.host.queues
queues_stay s e reply ok c =
    let few : (k : ℕ) (f : HostQueue → HostQueue) (hs : List HostQueue) → length hs ≡ length s.host.queues → length (change k f hs) ≡ length s.host.queues = λ k f hs l.
    length-change k f hs ∙ l in
    let heard_few : (q : ℕ) (e : ComEntry) → length (a.heard q e s).host.queues ≡ length s.host.queues = λ q e.
    length-change q (λ x. record x { ring = knowing e.sqhd x.ring }) (a.consumed q s).host.queues ∙ length-change q (λ x. record x { ring = next_head s.entries x.ring }) s.host.queues in
    host_moves (λ (e : Event) (reply : Reply) (t : State). length t.host.queues ≡ length s.host.queues) s e reply ok c
    (record {
      reserves = λ q request d none is. refl;
      submits = λ d entry r none built its live. few d.q (λ x. record x { ring = next_tail s.entries x.ring }) s.host.queues refl;
      cancels = λ d r its. refl;
      rings = λ q none. refl;
      rests = λ q is. refl;
      rejects = λ q why is. few q (λ x. record x { ring = next_head s.entries x.ring }) s.host.queues refl;
      tells = λ q cid st what e r request told heard w. heard_few q e;
      hears = λ q cid st what e r adm told heard w quiet unmade. heard_few q e;
      notes = λ q cid st what e r k told heard w. few k (λ queue. record queue { state = if is_success st then Deleting true else Live }) (a.heard q e s).host.queues (heard_few q e);
      frees = λ q cid st what e r k queue told heard w at alone good. few k a.gone (a.heard q e s).host.queues (heard_few q e);
      makes_cq = λ q cid st what e r k size base vector told heard w good. few k a.half_made (a.heard q e s).host.queues (heard_few q e);
      unmakes_cq = λ q cid st what e r k size base vector queue told heard w at bad. few k a.gone (a.heard q e s).host.queues (heard_few q e);
      makes_sq = λ q cid st what e r k size base told heard w good. few k a.live (a.heard q e s).host.queues (heard_few q e);
      unmakes_sq = λ q cid st what e r k size base queue told heard w at bad. few k a.unmade_sq (a.heard q e s).host.queues (heard_few q e);
      collects = λ q cid r f at held is. refl;
      releases = λ f r its. refl;
      aborts = λ q cid id none new. few 0 (λ x. record x { ring = next_tail s.entries x.ring }) s.host.queues refl;
      asks = λ q id queue none new live. few q a.deleting (a.on_ring 0 (next_tail s.entries) s).host.queues (few 0 (λ x. record x { ring = next_tail s.entries x.ring }) s.host.queues refl);
      drops = λ q id none new. few 0 (λ x. record x { ring = next_tail s.entries x.ring }) s.host.queues refl;
      creates_cqs = λ q vector id first queue none new granted. few 0 (λ x. record x { ring = next_tail s.entries x.ring }) (grants_cq q first s).host.queues (few q (a.making_cq (half_from Completion first s)) s.host.queues refl);
      creates_sqs = λ q id first queue none new granted. few 0 (λ x. record x { ring = next_tail s.entries x.ring }) (grants_sq q first s).host.queues (few q (a.making_sq (half_from Submission first s)) s.host.queues refl);
      retires = λ q queue none at deleted. few q a.retired s.host.queues refl;
      forges = λ q slot bytes queue none at. refl;
      resets = reset_length s.host.queues;
    })

-- and so do the entries of each
pub limits_stay : (n : ℕ) (s : State) (e : Event) (reply : Reply) → Accepts s e reply → IsController e ≡ false → (0 < s.entries) × (length s.host.queues ≡ n) → (0 < (a.after s e reply).entries) × (length (a.after s e reply).host.queues ≡ n)
limits_stay n s e reply ok c h = (omega (arith, (host_leaves s e reply ok c).entries, h.0), queues_stay s e reply ok c ∙ h.1)

-- of the controller
by_controller : (s : State) (e : Event) (reply : Reply) → IsController e ≡ true → FitS s → TieP (host_part s) (a.after s e reply).controller → TokensP s.host.records s.host.queues (a.after s e reply).controller → FitS (a.after s e reply)
by_controller s e reply c f tie held =
    subst (λ (part : HostPart). FitP part (a.after s e reply).controller) (sym (part_controller s e reply c))
    (record {
      some_entries = f.some_entries;
      few = f.few;
      asked = f.asked;
      pairs = tie.pairs;
      jobs = tie.jobs;
      service = tie.service;
      tokens = tokens_to s.host.records s.host.queues (a.after s e reply).controller.queues (a.after s e reply).controller.jobs held;
    })

-- of the host
by_host : (s : State) (e : Event) (reply : Reply) → Accepts s e reply → IsController e ≡ false → s.trusted ≡ true → s.host.peer ≡ Modelled → AdminLives s.host.queues → StandsSound s → FitS s → FitS (a.after s e reply)
by_host s e reply ok c t m zero' h f =
    let tie = tie_host_event s e reply ok c (ground s t zero' h.0 f) (tie_of s.entries s.host.records s.host.queues s.controller.queues s.controller.jobs f) in
    let held = tokens_host_event s e reply ok c t f.few (same_length s.entries s.host.queues s.controller.queues f.pairs) m h.0 h.1
    (stands_event s e reply ok t m h) (tokens_of s.host.records s.host.queues s.controller.queues s.controller.jobs f.tokens) in
    let limits = limits_stay (length s.host.queues) s e reply ok c (f.some_entries, refl) in
    whole (a.after s e reply) limits.0 (subst (λ (k : ℕ). k ≤ 65536) (sym limits.1) f.few) (asked_event s e reply ok c h.0 f.asked) tie held

-- a job that is walked is no admin command's
walked : (s : State) (q cid : ℕ) → refusal_of s (events.Walk q cid) ≡ None → TokensP s.host.records s.host.queues s.controller → TokensP s.host.records s.host.queues (a.after_walk q cid s).controller
walked s q cid none h = tokens_walk s.host.records s.host.queues q cid s (by_job (job_at s q cid) refl (unrefused s (events.Walk q cid) none).0 (unrefused s (events.Walk q cid) none).1.0) h
  where
    by_job : (o : Option Job) → job_at s q cid ≡ o → is_none o ≡ false → option_map_or (λ j. is_some j.verdict || (j.q == 0)) o false ≡ false → (q == 0) ≡ false
    by_job None e there nothing = absurd (true≢false there)
    by_job (Some j) e there nothing =
        let at = and_parts (j.q == q) (j.entry.cid == cid) (found_is (is_job q cid) s.controller.jobs j e) in
        ap (λ (k : ℕ). k == 0) (sym (eqb-true j.q q at.0)) ∙ (or_parts (is_some j.verdict) (j.q == 0) nothing).1

fit_event : (s : State) (e : Event) (reply : Reply) → Accepts s e reply → s.trusted ≡ true → s.host.peer ≡ Modelled → AdminLives s.host.queues → StandsSound s → FitS s → FitS (a.after s e reply)
fit_event s (events.Fetch q) (events.Fetched c touched) ok t m z h f =
    by_controller s (events.Fetch q) (events.Fetched c touched) refl f (tie_fetch (host_part s) q s (tie_of s.entries s.host.records s.host.queues s.controller.queues s.controller.jobs f))
    (tokens_fetch s.host.records s.host.queues q s (known s h f) (tokens_of s.host.records s.host.queues s.controller.queues s.controller.jobs f.tokens))
fit_event s (events.Walk q cid) (events.Walked o touched) ok t m z h f =
    by_controller s (events.Walk q cid) (events.Walked o touched) refl f (tie_walk (host_part s) q cid s (tie_of s.entries s.host.records s.host.queues s.controller.queues s.controller.jobs f))
    (walked s q cid ok.0 (tokens_of s.host.records s.host.queues s.controller.queues s.controller.jobs f.tokens))
fit_event s (events.Complete q cid) (events.Completed touched) ok t m z h f =
    by_controller s (events.Complete q cid) (events.Completed touched) refl f (tie_complete (host_part s) q cid s ok.0 (tie_of s.entries s.host.records s.host.queues s.controller.queues s.controller.jobs f))
    (tokens_complete s.host.records s.host.queues q cid s ok.0 (known s h f) (tokens_of s.host.records s.host.queues s.controller.queues s.controller.jobs f.tokens))
fit_event s (events.Fetch q) reply ok t m z h f = absurd ok.1
fit_event s (events.Walk q cid) reply ok t m z h f = absurd ok.1
fit_event s (events.Complete q cid) reply ok t m z h f = absurd ok.1
fit_event s e reply ok t m z h f = by_host s e reply ok refl t m z h f

pub all_on : (s : State) (e : Event) (reply : Reply) → Accepts s e reply → s.trusted ≡ true → s.host.peer ≡ Modelled → AdminLives s.host.queues → StandsSound s × FitS s
    → StandsSound (a.after s e reply) × FitS (a.after s e reply)
all_on s e reply ok t m z h = (both_on s e reply ok t m h.0, fit_event s e reply ok t m z h.0 h.1)

-- As it opens

opened_pairs : (page n count : ℕ) → Paired n (queues_from page n count) (replicate count opened)
opened_pairs page n zero = tt
opened_pairs page n (suc count) = (
  record {
    sub = λ o. length-pages_from page (half_pages n Submission);
    comp = λ o. length-pages_from (page + half_pages n Submission) (half_pages n Completion);
    half = λ o. refl;
    emptied = λ o. refl;
    unfetched = λ o. refl;
    completions = λ o. refl;
    fresh = λ o. refl;
  },
  opened_pairs (page + half_pages n Submission + half_pages n Completion) n count,
)

opened_there : (count q : ℕ) → q < count → gone_at (replicate count opened) q ≡ false
opened_there zero q l = absurd (omega (arith, l))
opened_there (suc count) zero l = refl
opened_there (suc count) (suc q) l = opened_there count q (omega (arith, l))

opened_waiting : (count : ℕ) → (waiting (replicate count opened) ≡ []) × (admin_completions (replicate count opened) ≡ [])
opened_waiting zero = (refl, refl)
opened_waiting (suc count) = (refl, refl)

fit-opening : (pages queues n s : ℕ) (image : List ℕ) → 0 < n → queues < 65536 → FitS (opening pages queues n s image)
fit-opening pages queues n s image pos few = record {
  some_entries = pos;
  few = omega (arith, length-queues_from 0 n (queues + 1));
  asked = λ q. sym (ap one (opened_quiet 0 n (queues + 1) q));
  pairs = opened_pairs 0 n (queues + 1);
  jobs = λ q some. absurd (omega arith);
  service = λ q some. absurd (omega arith);
  tokens =
      tokens_to [] (queues_from 0 n (queues + 1)) (replicate (queues + 1) opened) []
      (rw ((opened_waiting (queues + 1)).0, (opened_waiting (queues + 1)).1)
      (record {
        submission = λ q. omega (arith, ap one (opened_waits_not is_known_deleted refl 0 n (queues + 1) q), small (not (gone_at (replicate (queues + 1) opened) q)));
        completion = λ q. omega (arith, ap one (opened_waits_not is_gone refl 0 n (queues + 1) q), small (there_at (replicate (queues + 1) opened) q));
        there = λ q inside some. opened_there (queues + 1) q (omega (arith, inside, length-queues_from 0 n (queues + 1)));
      }));
}

-- What is known of every state of a trusted run, taken together.

-- All that is known

pub record Grounds (s : State) : Type 0 where
  pub taken : TakenPart (host_part s)
  pub rings : InRings (host_part s)
  pub stands : StandsSound s
  pub fit : FitS s
  pub zero_live : AdminLives s.host.queues
  pub modelled : s.host.peer ≡ Modelled

-- no command of the caller's is of queue 0
pub admins_of : (s : State) → Grounds s → AllByRecursion (λ r. OwnsFit Modelled r.q r.work (pages_of r)) s.host.records
admins_of s g = subst (λ (peer : Peer). AllByRecursion (λ r. OwnsFit peer r.q r.work (pages_of r)) s.host.records) g.modelled g.stands.0.admins

pub grounds_on : (s : State) (e : Event) (reply : Reply) → Accepts s e reply → s.trusted ≡ true → Grounds s → Grounds (a.after s e reply)
grounds_on s e reply ok t g =
    let all' : StandsSound (a.after s e reply) × FitS (a.after s e reply) = all_on s e reply ok t g.modelled g.zero_live (g.stands, g.fit) in
    record {
      taken = (both (IsController e) refl).1;
      rings = rings_on s e reply ok g.rings;
      stands = all'.0;
      fit = all'.1;
      zero_live = zeros (IsController e) refl;
      modelled = peer_after s e reply ok ∙ g.modelled;
    }
  where
    both : (b : Bool) → IsController e ≡ b → Both (host_part (a.after s e reply))
    both true c = subst Both (sym (part_controller s e reply c)) (g.stands.0, g.taken)
    both false c = both_events s e reply ok c (g.stands.0, g.taken)

    zeros : (b : Bool) → IsController e ≡ b → AdminLives (a.after s e reply).host.queues
    zeros true c = subst (λ (part : HostPart). AdminLives part.host.queues) (sym (part_controller s e reply c)) g.zero_live
    zeros false c = zero_host s e reply ok c g.stands.0

pub grounds_at_opening : (pages queues n s : ℕ) (image : List ℕ) → Opens pages queues n s → Grounds (opening pages queues n s image)
grounds_at_opening pages queues n s image opens = record {
  taken = taken_at_opening pages queues n s image;
  rings = rings_at_opening pages queues n s image opens;
  stands = (holds_at_opening pages queues n s image (fits_pool pages queues n s opens), opening_stands pages queues n s image);
  fit =
      let limits = in_limits pages queues n s opens in
      fit-opening pages queues n s image (limits_say pages queues n s limits).0 (limits_say pages queues n s limits).1;
  zero_live = zero_opened 0 n (queues + 1);
  modelled = refl;
}

-- Halves and positions of the host's queues

paired_host_at : (n k : ℕ) (hs : List HostQueue) (ds : List ServedQueue) (h : HostQueue) → slice_get hs k ≡ Some h → Paired n hs ds → (d : ServedQueue) × (slice_get ds k ≡ Some d) × PairOk n h d
paired_host_at n k [] [] h e p = absurd cc
paired_host_at n zero (x ∷ hs) (d ∷ ds) h e p = let same : x ≡ h = cc in (d, refl, subst (λ (y : HostQueue). PairOk n y d) same p.0)
paired_host_at n (suc k) (x ∷ hs) (d ∷ ds) h e p = paired_host_at n k hs ds h e p.1
paired_host_at n k x y h e p = absurd p

pub pair_at : (s : State) → Grounds s → (q : ℕ) (queue : HostQueue) → host_queue s q ≡ Some queue → (d : ServedQueue) × (slice_get s.controller.queues q ≡ Some d) × PairOk s.entries queue d
pair_at s g q queue e = paired_host_at s.entries q s.host.queues s.controller.queues queue e g.fit.pairs

pub ring_in : (s : State) → Grounds s → (q : ℕ) (queue : HostQueue) → host_queue s q ≡ Some queue → IsInRing s.entries queue.ring
ring_in s g q queue e = all-at (λ queue. IsInRing s.entries queue.ring) s.host.queues q queue e g.rings

-- queue 0 is live
pub zero_lives : (s : State) → Grounds s → (queue : HostQueue) → host_queue s 0 ≡ Some queue → is_live queue.state ≡ true
zero_lives s g queue e = sym (ap (λ (o : Option HostQueue). option_map_or (λ h. is_live h.state) o true) e) ∙ g.zero_live
