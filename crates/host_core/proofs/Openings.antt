-- Tables that were just opened, and the halves that were granted for them.
use Rattle.page_ledger.specs.declared.owner.Owner.TheVariants as owner
use Rattle.machine_model.specs.declared.words.Refusal.TheVariants as refusal
use Rattle.std.proofs.Common.{◌≡◌, inl, inr, ℕ, zero, suc, ◌+◌, ◌*◌, ◌<◌, ◌≤◌, false, Some, List, length, replicate, refl, ap, ap₂, sym, ◌∙◌, arith, subst, Option, slice_get, [], Fits, w16, ◌-◌, ◌==◌, Bool, true, None, IfSome, ◌∷◌, map, filter, drop, eqb-true}
use Rattle.std.proofs.lemmas.{Bool.{true≢false, Decides.nat_tests, cases_Bool, cases_lt}, List.{length-replicate, length-map}, Option.slice_get-map}
use Rattle.std.{specs.{List.Contains, Option.{option_map_or, option_map}}, proofs.Math.Nat.mul-le-mul_right}
use Rattle.page_ledger.{proofs.{Pages.finds_lowest, Tables.{length-with_owner, owner_changed, owner_kept}}, specs.declared.owner.Owner.Owner}
use Rattle.page_ledger.specs.{Owners.{is_free, is_owned_at, owner_at, pages_from, with_owner, is_among, free_pages}, Runs.lowest_run}
use Rattle.page_memory.{proofs.Bytes.length-zero_page, specs.{Pages.{Pages, page_at, zero_page}, declared.page.Half.TheVariants.{Submission, Completion}}}
use Rattle.host_core.{proofs.Identifiers.{over_pages, alone_sound, host_of, whole-of}, specs.Alone.{HostView, HostStep, IsOver, alone}}
use Rattle.host_core.specs.Opening.{sq_from, cq_from, IsFreeFrom, AreGranted, opened_view, opened_pages, refusal_of_config, fresh_at, fresh_queue, fresh_queues, HalvesGranted, opened}
use Rattle.host_core.specs.{Parts.records_of, Ringing.head_of, Rows.{Queue, RecordRow}, Tables.{Tables, host_queue_of, state_of, view_of}, Looks.cause_of}
use Rattle.host_core.{specs.{Whole.{HasLimits, IsHost, IsWhole, IsQueue, ClaimsIdentifiers, TellsQueue}, declared.config.Config.Config}, proofs.Making.claims-none}
use Rattle.machine_model.{proofs.Headline.{runs_are_sound, fits_pool, in_limits}, specs.{Claims.IsSound, Events.{Event, Reply}}}
use Rattle.machine_model.specs.{Opening.{opening, queues_from}, Refusals.refusal_of, State.{State, HostQueue}, Step.{Step, Refuses}}
use Rattle.machine_model.specs.declared.words.{Peer.Peer, Refusal.Refusal}
use Rattle.queue_pair.specs.Memory.{half_pages}
use Rattle.slot_table.specs.Table.{TableOf}
use Rattle.page_ledger.proofs.Pages.{length-pages_from}
use Rattle.page_memory.proofs.Lists.{some_is}

-- The halves of one queue more: which pages are granted, and whose the pages are then.

-- The run that is granted

pub lowest_is : (base k : ℕ) (owners : List Owner) → 0 < k → base + k ≤ length owners → IsFreeFrom base owners → lowest_run k owners ≡ Some base
lowest_is base k owners some room from = ((finds_lowest k owners some).found base).1 (record {
  run = record { free = λ i l. from.free (base + i) (omega arith) (omega arith) };
  lowest = λ q run. elim (cases_lt q base) [
    | inr l ↦ l
    | inl l ↦
        let same : q + 0 ≡ q = omega arith in
        let here : owner_at owners q ≡ Some owner.Free = ap (owner_at owners) (sym same) ∙ run.free 0 some in
        absurd (true≢false (sym (ap (λ o. option_map_or is_free o false) here) ∙ from.used q l))
  ];
})

-- Whose the pages are then

among_run : (p base k : ℕ) → base ≤ p → p < base + k → Contains (pages_from base k) p
among_run p base zero low high = absurd (omega arith)
among_run p base (suc k) low high = elim (cases_lt base p) [
  | inl l ↦ let r = among_run p (base + 1) k (omega arith) (omega arith) in (suc r.0, omega (arith, r.1), r.2)
  | inr l ↦ let same : base ≡ p = omega arith in (0, omega arith, same)
]

in_run : (p base k : ℕ) → Contains (pages_from base k) p → (base ≤ p) × (p < base + k)
in_run p base zero (i, l, e) = absurd (omega arith)
in_run p base (suc k) (zero, l, e) = let same : base ≡ p = e in (omega (arith, same), omega (arith, same))
in_run p base (suc k) (suc i, l, e) = let r = in_run p (base + 1) k (i, omega arith, e) in (omega (arith, r.0), omega (arith, r.1))

run-owner : (owners : List Owner) (base k p : ℕ) (o : Owner) → base + k ≤ length owners → base ≤ p → p < base + k → owner_at (with_owner owners (pages_from base k) o) p ≡ Some o
run-owner owners base k p o room low high = owner_changed owners (pages_from base k) o p (omega arith) (among_run p base k low high)

run-before : (owners : List Owner) (base k p : ℕ) (o : Owner) → p < base → owner_at (with_owner owners (pages_from base k) o) p ≡ owner_at owners p
run-before owners base k p o l = owner_kept owners (pages_from base k) o p (λ h. let r = in_run p base k h in absurd (omega (arith, r.0)))

run-behind : (owners : List Owner) (base k p : ℕ) (o : Owner) → base + k ≤ p → owner_at (with_owner owners (pages_from base k) o) p ≡ owner_at owners p
run-behind owners base k p o l = owner_kept owners (pages_from base k) o p (λ h. let r = in_run p base k h in absurd (omega (arith, r.1)))

pub granted-from : (base k : ℕ) (owners : List Owner) (o : Owner) → is_free o ≡ false → base + k ≤ length owners → IsFreeFrom base owners → IsFreeFrom (base + k) (with_owner owners (pages_from base k) o)
granted-from base k owners o owned room from =
    record {
      used = λ p l. elim (cases_lt p base) [
        | inl before ↦ ap (λ x. option_map_or is_free x false) (run-before owners base k p o before) ∙ from.used p before
        | inr low ↦ ap (λ x. option_map_or is_free x false) (run-owner owners base k p o room low l) ∙ owned
      ];
      free = λ p low high. run-behind owners base k p o low ∙ from.free p (omega arith) (omega (arith, length-with_owner owners (pages_from base k) o));
    }

-- One queue more

abbrev pub both : ℕ → ℕ → ℕ → List Owner → List Owner
both a b q owners = with_owner (with_owner owners (pages_from (sq_from a b q) a) (owner.Queue q Submission)) (pages_from (cq_from a b q) b) (owner.Queue q Completion)

before_next : (a b r q : ℕ) → r < q → r * (a + b) + a + b ≤ q * (a + b)
before_next a b r q l = let all : (r + 1) * (a + b) ≤ q * (a + b) = mul-le-mul_right (a + b) (omega arith) in omega (arith, all)

next_from : (a b q : ℕ) → q * (a + b) + a + b ≡ (q + 1) * (a + b)
next_from a b q = omega arith

first_room : (a b q n : ℕ) → sq_from a b (q + 1) ≤ n → sq_from a b q + a ≤ n
first_room a b q n room = omega (arith, room, next_from a b q)

second_room : (a b q n : ℕ) → sq_from a b (q + 1) ≤ n → cq_from a b q + b ≤ n
second_room a b q n room = omega (arith, room, next_from a b q)

pub granted_more : (a b q : ℕ) (owners : List Owner) → sq_from a b (q + 1) ≤ length owners → AreGranted a b q owners → AreGranted a b (q + 1) (both a b q owners)
granted_more a b q owners room granted =
    record {
      submission = λ r p l low high. elim (cases_lt r q) [
        | inl before ↦
            let end = before_next a b r q before in
            run-before mid (cq_from a b q) b p (owner.Queue q Completion) (omega (arith, end, high))
            ∙ (run-before owners (sq_from a b q) a p (owner.Queue q Submission) (omega (arith, end, high)) ∙ granted.submission r p before low high)
        | inr past ↦
            let same : r ≡ q = omega (arith, l, past) in
            rw same (run-before mid (cq_from a b q) b p (owner.Queue q Completion) (rw same at high) ∙ run-owner owners (sq_from a b q) a p
            (owner.Queue q Submission) first (rw same at low) (rw same at high))
      ];
      completion = λ r p l low high. elim (cases_lt r q) [
        | inl before ↦
            let end = before_next a b r q before in
            run-before mid (cq_from a b q) b p (owner.Queue q Completion) (omega (arith, end, high))
            ∙ (run-before owners (sq_from a b q) a p (owner.Queue q Submission) (omega (arith, end, high)) ∙ granted.completion r p before low high)
        | inr past ↦
            let same : r ≡ q = omega (arith, l, past) in rw same (run-owner mid (cq_from a b q) b p (owner.Queue q Completion) second (rw same at low) (rw same at high))
      ];
      rest = subst (λ (n : ℕ). IsFreeFrom n (both a b q owners)) (next_from a b q)
          (granted-from (cq_from a b q) b mid (owner.Queue q Completion) refl second (granted-from (sq_from a b q) a owners (owner.Queue q Submission) refl first granted.rest));
    }
  where
    mid : List Owner
    mid = with_owner owners (pages_from (sq_from a b q) a) (owner.Queue q Submission)

    first : sq_from a b q + a ≤ length owners
    first = first_room a b q (length owners) room

    second : cq_from a b q + b ≤ length mid
    second = omega (arith, second_room a b q (length owners) room, length-with_owner owners (pages_from (sq_from a b q) a) (owner.Queue q Submission))

-- The two grants, one after the other

pub first_run : (a b q x : ℕ) (owners : List Owner) → 0 < a → x ≡ a → sq_from a b (q + 1) ≤ length owners → AreGranted a b q owners → lowest_run x owners ≡ Some (sq_from a b q)
first_run a b q x owners some e room granted =
    ap (λ (k : ℕ). lowest_run k owners) e ∙ lowest_is (sq_from a b q) a owners some (first_room a b q (length owners) room) granted.rest

abbrev pub half_granted : ℕ → ℕ → ℕ → List Owner → List Owner
half_granted a b q owners = with_owner owners (pages_from (sq_from a b q) a) (owner.Queue q Submission)

mid_is : (a b q x sq : ℕ) (owners mid : List Owner) → x ≡ a → sq ≡ sq_from a b q → mid ≡ with_owner owners (pages_from sq x) (owner.Queue q Submission) → mid ≡ half_granted a b q owners
mid_is a b q x sq owners mid e f g = g ∙ ap₂ (λ (s k : ℕ). with_owner owners (pages_from s k) (owner.Queue q Submission)) f e

pub second_run : (a b q x y sq : ℕ) (owners mid : List Owner) → 0 < a → 0 < b → x ≡ a → y ≡ b → sq_from a b (q + 1) ≤ length owners → AreGranted a b q owners
    → lowest_run x owners ≡ Some sq → mid ≡ with_owner owners (pages_from sq x) (owner.Queue q Submission) → lowest_run y mid ≡ Some (cq_from a b q)
second_run a b q x y sq owners mid some some' e f room granted first is =
    let at : sq ≡ sq_from a b q = some_is (sym first ∙ first_run a b q x owners some e room granted) in
    let size = length-with_owner owners (pages_from (sq_from a b q) a) (owner.Queue q Submission) in
    ap₂ (λ (k : ℕ) (l : List Owner). lowest_run k l) f (mid_is a b q x sq owners mid e at is)
    ∙ lowest_is (cq_from a b q) b (half_granted a b q owners) some' (subst (λ (n : ℕ). cq_from a b q + b ≤ n) (sym size) (second_room a b q (length owners) room))
    (granted-from (sq_from a b q) a owners (owner.Queue q Submission) refl (first_room a b q (length owners) room) granted.rest)

pub both_granted : (a b q x y sq cq : ℕ) (owners mid new : List Owner) → 0 < a → 0 < b → x ≡ a → y ≡ b → sq_from a b (q + 1) ≤ length owners → AreGranted a b q owners
    → lowest_run x owners ≡ Some sq → mid ≡ with_owner owners (pages_from sq x) (owner.Queue q Submission)
    → lowest_run y mid ≡ Some cq → new ≡ with_owner mid (pages_from cq y) (owner.Queue q Completion)
    → (sq ≡ sq_from a b q) × (cq ≡ cq_from a b q) × AreGranted a b (q + 1) new × (length new ≡ length owners)
both_granted a b q x y sq cq owners mid new some some' e f room granted first is second is' =
    let at : sq ≡ sq_from a b q = some_is (sym first ∙ first_run a b q x owners some e room granted) in
    let at' : cq ≡ cq_from a b q = some_is (sym second ∙ second_run a b q x y sq owners mid some some' e f room granted first is) in
    let all : new ≡ both a b q owners = is' ∙ (ap₂ (λ (s k : ℕ). with_owner mid (pages_from s k) (owner.Queue q Completion)) at' f
    ∙ ap (λ (l : List Owner). with_owner l (pages_from (cq_from a b q) b) (owner.Queue q Completion)) (mid_is a b q x sq owners mid e at is)) in (
      at,
      at',
      subst (λ (l : List Owner). AreGranted a b (q + 1) l) (sym all) (granted_more a b q owners room granted),
      ap length all ∙ (length-with_owner (half_granted a b q owners) (pages_from (cq_from a b q) b) (owner.Queue q Completion) ∙ length-with_owner owners (pages_from (sq_from a b q) a) (owner.Queue q Submission)),
    )

-- Tables that were just opened.

-- A call's tables, as its host and the pages that it is lent.

-- what a call may rely on
pub whole_at : (t : Tables) (v : HostView) (pages : Pages) → view_of t ≡ v → IsHost t → IsOver v pages → IsWhole (over_pages t pages)
whole_at t v pages is host over = record { host = record { limits = host.limits; table = host.table; sound = host.sound; rings = host.rings }; over = subst (λ (x : HostView). IsOver x pages) (sym is) over }

-- and what it must ensure
pub step_at : (t new : Tables) (v : HostView) (e : Event) (reply : Reply) → view_of t ≡ v → Step (state_of t) e reply (state_of new) → HostStep v t.pages e reply (view_of new) new.pages
step_at t new v e reply is step = subst (λ (x : HostView). HostStep x t.pages e reply (view_of new) new.pages) is step

-- where nothing changed
pub stays_at : (t : Tables) (v : HostView) (e : Event) (reply : Reply) → view_of t ≡ v → Step (state_of t) e reply (state_of t) → HostStep v t.pages e reply v t.pages
stays_at t v e reply is step = subst (λ (x : HostView). HostStep x t.pages e reply x t.pages) is step

-- a queue's head as it is shown
pub head-told : (t : Tables) (q : ℕ) (x : Queue) → slice_get t.queues q ≡ Some x → head_of (view_of t) q ≡ Some x.host.ring.head
head-told t q x at =
    ap (λ (o : Option HostQueue). option_map (λ queue. queue.ring.head) o) (slice_get-map host_queue_of t.queues q ∙ ap (λ (o : Option Queue). option_map host_queue_of o) at)

-- a refusal of a host's call, as a cause
pub cause-told : (s : State) (e : Event) (why : Refusal) → Refuses s e why [] → refusal_of s e ≡ cause_of why
cause-told s e refusal.Memory h = h.1
cause-told s e why h = h.0

-- A world as it opens: its tables stand for the machine's opening, and are whole.

-- The state

next-from : (page k a b : ℕ) → page ≡ k * (a + b) → page + a + b ≡ (k + 1) * (a + b)
next-from page k a b e = omega (arith, e)

host_queues : (n page k count : ℕ) → page ≡ k * (half_pages n Submission + half_pages n Completion) → map host_queue_of (map (fresh_queue n) (pages_from k count)) ≡ queues_from page n count
host_queues n page k zero e = refl
host_queues n page k (suc count) e =
    ap₂ (λ (x : HostQueue) (xs : List HostQueue). x ∷ xs) (ap (λ (p : ℕ). host_queue_of (fresh_at n p (p + half_pages n Submission) k)) (sym e))
    (host_queues n (page + half_pages n Submission + half_pages n Completion) (k + 1) count (next-from page k (half_pages n Submission) (half_pages n Completion) e))

all_pass : (f : ℕ → Bool) (b n : ℕ) → ((p : ℕ) → b ≤ p → p < b + n → f p ≡ true) → filter f (pages_from b n) ≡ pages_from b n
all_pass f b zero pass = refl
all_pass f b (suc n) pass = rw (pass b (omega arith) (omega arith)) (ap (λ (l : List ℕ). b ∷ l) (all_pass f (b + 1) n (λ p l h. pass p (omega arith) (omega arith))))

rest_pass : (f : ℕ → Bool) (b k n : ℕ) → ((p : ℕ) → b ≤ p → p < b + k → f p ≡ false) → ((p : ℕ) → b + k ≤ p → p < b + n → f p ≡ true) → filter f (pages_from b n) ≡ drop k (pages_from b n)
rest_pass f b zero zero fail pass = refl
rest_pass f b (suc k) zero fail pass = refl
rest_pass f b zero (suc n) fail pass = all_pass f b (suc n) (λ p l h. pass p (omega arith) h)
rest_pass f b (suc k) (suc n) fail pass =
    rw (fail b (omega arith) (omega arith)) (rest_pass f (b + 1) k n (λ p l h. fail p (omega arith) (omega arith)) (λ p l h. pass p (omega arith) (omega arith)))

free_is : (base pages : ℕ) (owners : List Owner) → length owners ≡ pages → IsFreeFrom base owners → free_pages owners ≡ drop base (pages_from 0 pages)
free_is base pages owners size from =
    rest_pass (is_owned_at is_free owners) 0 base (length owners) (λ p l h. from.used p (omega arith)) (λ p l h. ap (λ o. option_map_or is_free o false) (from.free p (omega arith) (omega arith)))
    ∙ ap (λ (k : ℕ). drop base (pages_from 0 k)) size

abbrev built : Config → Peer → List ℕ → List HostQueue → HostView
built c peer free hosts = record { entries = c.entries; segment = c.segment; host = record { peer = peer; free = free; queues = hosts; records = [] } }

pub opened_view_is : (c : Config) (peer : Peer) (owners : List Owner) → length owners ≡ c.pages → HalvesGranted c.entries (c.queues + 1) owners → view_of (opened c peer owners) ≡ opened_view c peer
opened_view_is c peer owners size granted =
    let hosts = map host_queue_of (fresh_queues c.entries (c.queues + 1)) in
    let base = sq_from (half_pages c.entries Submission) (half_pages c.entries Completion) (c.queues + 1) in
    ap (λ (free : List ℕ). built c peer free hosts) (free_is base c.pages owners size granted.rest)
    ∙ ap (λ (l : List HostQueue). built c peer (drop base (pages_from 0 c.pages)) l) (host_queues c.entries 0 0 (c.queues + 1) (omega arith))

-- The limits

pub record Limits (c : Config) : Type 0 where
  pub most_pages : c.pages ≤ 65536
  pub numbers : HasLimits c.entries c.segment (c.queues + 1) (c.queues + 1) (c.entries - 1)

pub limits : (c : Config) → refusal_of_config c ≡ None → Limits c
limits c opens =
    let h = in_limits c.pages c.queues c.entries c.segment opens in
    record {
      most_pages = grind (arith, nat_tests, h);
      numbers = record {
        least_entries = grind (arith, nat_tests, h);
        most_entries = grind (arith, nat_tests, h);
        least_segment = grind (arith, nat_tests, h);
        most_segment = grind (arith, nat_tests, h);
        some_queues = grind (arith, nat_tests, h);
        few_queues = grind (arith, nat_tests, h);
        record_queues = refl;
        record_places = grind (arith, nat_tests, h);
      };
    }

pub fits : (c : Config) → refusal_of_config c ≡ None → sq_from (half_pages c.entries Submission) (half_pages c.entries Completion) (c.queues + 1) ≤ c.pages
fits c opens = fits_pool c.pages c.queues c.entries c.segment opens

-- The queues

fresh_get : (n b count k : ℕ) (queue : Queue) → slice_get (map (fresh_queue n) (pages_from b count)) k ≡ Some queue → (k < count) × (fresh_queue n (b + k) ≡ queue)
fresh_get n b zero k queue e = absurd cc
fresh_get n b (suc count) zero queue e = let same : b + 0 ≡ b = omega arith in (omega arith, ap (fresh_queue n) same ∙ some_is e)
fresh_get n b (suc count) (suc k) queue e =
    let rest = fresh_get n (b + 1) count k queue e in
    let same : b + suc k ≡ b + 1 + k = omega arith in
    (omega (arith, rest.0), ap (fresh_queue n) same ∙ rest.1)

-- what holds of each fresh queue holds of each queue
each_fresh : (P : ℕ → Queue → Type 0) (n count : ℕ) → ((q : ℕ) → q < count → P q (fresh_queue n q)) → (q : ℕ) (queue : Queue) → slice_get (fresh_queues n count) q ≡ Some queue → P q queue
each_fresh P n count h q queue e =
    let at = fresh_get n 0 count q queue e in
    let same : 0 + q ≡ q = omega arith in
    subst (λ (x : Queue). P q x) (ap (fresh_queue n) (sym same) ∙ at.1) (h q at.0)

fresh_sides : (n sq cq q : ℕ) → 2 ≤ n → n ≤ 1024 → IsQueue n q (fresh_at n sq cq q)
fresh_sides n sq cq q least most =
    record {
      number = refl;
      entries = refl;
      host_side = record { least = least; most = most; head = omega arith; known_head = omega arith; tail = omega arith; identifiers = omega (arith, length-replicate (n - 1) false) };
    }

-- The halves

among_range : (a k p : ℕ) → is_among (pages_from a k) p ≡ true → (a ≤ p) × (p < a + k)
among_range a zero p h = absurd (true≢false (sym h))
among_range a (suc k) p h = elim (cases_Bool (a == p)) [
  | inl e ↦ let same : a ≡ p = eqb-true a p e in (omega (arith, same), omega (arith, same))
  | inr e ↦ let r = among_range (a + 1) k p (rw e at h) in (omega (arith, r.0), omega (arith, r.1))
]

fresh_told : (n count : ℕ) (owners : List Owner) → HalvesGranted n count owners → (q : ℕ) → q < count → TellsQueue owners q (fresh_queue n q)
fresh_told n count owners granted q l =
    record {
      submission = λ p h. let r = among_range (sq_from (half_pages n Submission) (half_pages n Completion) q) (half_pages n Submission) p h in granted.submission q p l r.0 r.1;
      completion = λ p h. let r = among_range (cq_from (half_pages n Submission) (half_pages n Completion) q) (half_pages n Completion) p h in granted.completion q p l r.0 r.1;
    }

blank_pool : (n p : ℕ) → IfSome (page_at (replicate n (Some zero_page)) p) (λ page. length page ≡ 4096)
blank_pool zero p = tt
blank_pool (suc n) zero = length-zero_page
blank_pool (suc n) (suc p) = blank_pool n p

-- what is sound with no record says nothing of whom the host speaks to
sized_sound : (peer : Peer) (s : State) → s.host.records ≡ [] → IsSound s → IsSound (record s { host = record s.host { peer = peer } })
sized_sound peer s none h =
    record { owners = h.owners; counted = h.counted; identifiers = h.identifiers; out = h.out; works_fit = rw none tt; deletions = h.deletions; creations = h.creations; bare = h.bare; halves = h.halves; admin = h.admin }

-- What is opened is whole.
pub opened_whole : (c : Config) (peer : Peer) (owners : List Owner) → refusal_of_config c ≡ None → length owners ≡ c.pages → HalvesGranted c.entries (c.queues + 1) owners → IsWhole (opened c peer owners)
opened_whole c peer owners opens size granted =
    let l = limits c opens in
    let view = opened_view_is c peer owners size granted in
    let start : State = opening c.pages c.queues c.entries c.segment [] in
    let sound = sized_sound peer start refl (runs_are_sound c.pages c.queues c.entries c.segment [] [] [] start opens refl) in
    let many : length (fresh_queues c.entries (c.queues + 1)) ≡ c.queues + 1 = length-map (pages_from 0 (c.queues + 1)) (fresh_queue c.entries) ∙ length-pages_from 0 (c.queues + 1) in
    whole-of (opened c peer owners)
    (record {
      pool = record { few = omega (arith, length-replicate c.pages (Some zero_page), l.most_pages); whole = blank_pool c.pages };
      lent = size ∙ sym (length-replicate c.pages (Some zero_page));
      limits = subst (λ (n : ℕ). HasLimits c.entries c.segment n (c.queues + 1) (c.entries - 1)) (sym many) l.numbers;
      table = record {
        owners = record { queues_told = each_fresh (TellsQueue owners) c.entries (c.queues + 1) (fresh_told c.entries (c.queues + 1) owners granted); commands_told = tt };
        identifiers = record { each = each_fresh (λ q queue. ClaimsIdentifiers [] q queue.host.claimed) c.entries (c.queues + 1) (λ q h. claims-none [] q (c.entries - 1) (λ cid. refl)) };
        records = tt;
      };
      rings = record { each = each_fresh (IsQueue c.entries) c.entries (c.queues + 1) (λ q h. fresh_sides c.entries _ _ q l.numbers.least_entries l.numbers.most_entries) };
    })
    (subst (λ (v : HostView). IsSound (alone v (opened_pages c))) (sym view) (alone_sound (record start { host = record start.host { peer = peer } }) sound))

abbrev pub made : Config → Peer → List Owner → TableOf RecordRow → List Queue → Tables
made c peer owners table queues =
    record {
      entries = c.entries;
      segment = c.segment;
      peer = peer;
      pages = [];
      owners = owners;
      record_queues = table.queues;
      record_places = table.places;
      records = records_of table.rows;
      queues = queues;
    }

-- the record slots of a host that opens
abbrev pub no_records : Config → TableOf RecordRow
no_records c = record { queues = c.queues + 1; places = c.entries - 1; rows = [] }

-- What is made is the host's own, is as the machine opens, and is over its pages.
pub record Opens (c : Config) (peer : Peer) (t : Tables) : Type 0 where
  pub host : IsHost t
  pub view : view_of t ≡ opened_view c peer
  pub over : IsOver (view_of t) (opened_pages c)

pub opens_made : (c : Config) (peer : Peer) (owners : List Owner) (table : TableOf RecordRow) (queues : List Queue)
    → refusal_of_config c ≡ None → length owners ≡ c.pages → HalvesGranted c.entries (c.queues + 1) owners
    → table ≡ no_records c → queues ≡ fresh_queues c.entries (c.queues + 1) → Opens c peer (made c peer owners table queues)
opens_made c peer owners table queues opens size granted er eq =
    let w = opened_whole c peer owners opens size granted in
    rw (er, eq) (record {
      host = host_of (made c peer owners (no_records c) (fresh_queues c.entries (c.queues + 1))) (replicate c.pages (Some zero_page)) w;
      view = opened_view_is c peer owners size granted;
      over = w.over;
    })

pub fits_word : (c : Config) → refusal_of_config c ≡ None → Fits w16 c.entries × Fits w16 c.segment
fits_word c opens = let l = limits c opens in (record { fits = omega (arith, l.numbers.most_entries) }, record { fits = omega (arith, l.numbers.most_segment) })

pub length-queues_from : (page n count : ℕ) → length (queues_from page n count) ≡ count
length-queues_from page n zero = refl
length-queues_from page n (suc count) = ap suc (length-queues_from (page + half_pages n Submission + half_pages n Completion) n count)
