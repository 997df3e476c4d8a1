-- What a call tells.
use Rattle.page_ledger.specs.Counting as table
use Rattle.host_core.specs.Rows as declared
use Rattle.machine_model.specs.Events as events
use Rattle.machine_model.specs.declared.words.Refusal.TheVariants as refusal
use Rattle.admin_commands.specs.declared.AdminKind.TheVariants as kinds
use Rattle.std.proofs.Common.{◌≡◌, ℕ, suc, ◌+◌, ◌<◌, ◌≤◌, ◌==◌, nat_lt, le-ltb, find, option_map, Bool, true, false, not, ◌||◌, Option, Some, None, List, [], ◌∷◌, ◌++◌, length, map, flat_map, filter, sum_by, slice_get, refl, ap, ap₂, sym, ◌∙◌, arith, subst, eqb-true, eq-eqb, lt-ltb, length-append, if◌then◌else◌, ◌&&◌, MatchBool, inl, inr}
use Rattle.std.proofs.lemmas.{Bool.{cases_Bool, cond_both, or_left, or_right}, List.{take-append-drop, Sums.sum_by-cons}}
use Rattle.std.specs.{List.{AllByRecursion, Contains}, Option.option_map_or}
use Rattle.machine_model.proofs.{Counting.{one, times-cons, times-append, times-filter, times-pages, held_once, length_of_all}, Headline.firsts}
use Rattle.machine_model.specs.{After.after, Claims.{claimed, claims_of, claims_of_queues, claims_of_record, counts_of}, Events.{Event, Reply}}
use Rattle.machine_model.specs.{Refusals.refusal_of, State.{HostQueue, Record, State}, declared.words.Refusal.Refusal}
use Rattle.machine_model.specs.Step.{times, IsController, HostPart, Leaves, LeavesByController, LeavesByHost, MayRefuse, Refuses, forges, resets}
use Rattle.page_ledger.specs.Counting.{is_queue_page, is_chain_page, is_data_page}
use Rattle.page_ledger.specs.{Owners.{is_owned_at, owner_at, pages_from, pages_owned, free_pages}, declared.owner.Counts.Counts}
use Rattle.page_ledger.specs.declared.owner.{Owner.{Owner, TheVariants.{Free, Queue, Command}}, Role.TheVariants.{Data, Chain}}
use Rattle.page_memory.specs.{Pages.{Pages, Contents}, declared.page.Half.{Half, TheVariants.{Submission, Completion}}}
use Rattle.host_core.{specs.{Alone.{HostView, alone}, Laws.{shown, LeavesJust, LeavesOne, RefusesJust, WritesLeaveOver}}, proofs.PageOwners.free-owner}
use Rattle.host_core.specs.{Sending.{sending, creating}, Tables.{Tables, state_of, host_queue_of, sq_pages_of, cq_pages_of}}
use Rattle.host_core.specs.{Touching.{TouchesBy, refused_touches, sent_touches}, Whole.{HaveOwner, TellsCommand, TellsQueue, IsHost}}
use Rattle.host_core.specs.Rights.{owner_of}
use Rattle.admin_commands.specs.declared.AdminKind.{AdminKind}
use Rattle.io_commands.specs.{Asked.Request, DataBytes.PagesOut, Requests.data_count, Values.{data_part, chain_part}}
use Rattle.queue_pair.specs.Memory.{half_pages}

-- What the table of owners tells of the machine's claims: the owner of each page, and how many pages each class has.

-- Each claim has its owner in the table

abbrev Told : List Owner → List (ℕ × Owner) → Type 0
Told owners claims = AllByRecursion (λ claim. owner_at owners claim.0 ≡ Some claim.1) claims

told-append : (owners : List Owner) (a b : List (ℕ × Owner)) → Told owners a → Told owners b → Told owners (a ++ b)
told-append owners [] b ha hb = hb
told-append owners (c ∷ a) b ha hb = (ha.0, told-append owners a b ha.1 hb)

told-claimed : (owners : List Owner) (o : Owner) (pages : List ℕ) → HaveOwner owners o pages → Told owners (claimed o pages)
told-claimed owners o [] h = tt
told-claimed owners o (p ∷ pages) h = (h p (or_left (p == p) _ (eq-eqb p p refl)), told-claimed owners o pages (λ q e. h q (or_right (p == q) _ e)))

told-queues : (owners : List Owner) (queues : List declared.Queue) (k : ℕ) → ((q : ℕ) (queue : declared.Queue) → slice_get queues q ≡ Some queue → TellsQueue owners (k + q) queue)
    → Told owners (claims_of_queues k (map host_queue_of queues))
told-queues owners [] k h = tt
told-queues owners (x ∷ queues) k h =
    let same : k + 0 ≡ k = omega arith in
    let mine : TellsQueue owners k x = subst (λ (j : ℕ). TellsQueue owners j x) same (h 0 x refl) in
    told-append owners (claimed (Queue k Submission) (sq_pages_of x) ++ claimed (Queue k Completion) (cq_pages_of x)) (claims_of_queues (k + 1) (map host_queue_of queues))
    (told-append owners (claimed (Queue k Submission) (sq_pages_of x)) (claimed (Queue k Completion) (cq_pages_of x))
    (told-claimed owners (Queue k Submission) (sq_pages_of x) mine.submission) (told-claimed owners (Queue k Completion) (cq_pages_of x) mine.completion))
    (told-queues owners queues (k + 1) more)
  where
    more : (q : ℕ) (queue : declared.Queue) → slice_get queues q ≡ Some queue → TellsQueue owners (k + 1 + q) queue
    more q queue e = let next : k + suc q ≡ k + 1 + q = omega arith in subst (λ (j : ℕ). TellsQueue owners j queue) next (h (suc q) queue e)

told-records : (owners : List Owner) (records : List Record) → AllByRecursion (TellsCommand owners) records → Told owners (flat_map claims_of_record records)
told-records owners [] h = tt
told-records owners (r ∷ records) h =
    told-append owners (claims_of_record r) (flat_map claims_of_record records)
    (told-append owners (claimed (Command r.q r.cid Data) r.data_pages) (claimed (Command r.q r.cid Chain) r.chain_pages)
    (told-claimed owners (Command r.q r.cid Data) r.data_pages h.0.data_pages) (told-claimed owners (Command r.q r.cid Chain) r.chain_pages h.0.chain_pages))
    (told-records owners records h.1)

free-have : (owners : List Owner) → HaveOwner owners Free (free_pages owners)
free-have owners p h = free-owner owners p (held_once p (free_pages owners) h)

told : (t : Tables) → IsHost t → Told t.owners (claims_of (state_of t).host)
told t w =
    told-append t.owners (claimed Free (free_pages t.owners) ++ claims_of_queues 0 (map host_queue_of t.queues)) (flat_map claims_of_record t.records)
    (told-append t.owners (claimed Free (free_pages t.owners)) (claims_of_queues 0 (map host_queue_of t.queues))
    (told-claimed t.owners Free (free_pages t.owners) (free-have t.owners))
    (told-queues t.owners t.queues 0 (λ q queue e. let same : 0 + q ≡ q = omega arith in subst (λ (j : ℕ). TellsQueue t.owners j queue) (sym same) (w.table.owners.queues_told q queue e))))
    (told-records t.owners t.records w.table.owners.commands_told)

-- The owner of a page

claim-there : (owners : List Owner) (claims : List (ℕ × Owner)) (p : ℕ) (o : Owner) → owner_at owners p ≡ Some o → Told owners claims → 0 < times p (firsts claims) → Contains claims (p, o)
claim-there owners [] p o at h some = absurd (omega arith)
claim-there owners (c ∷ claims) p o at h some = elim (cases_Bool (c.0 == p)) [
  | inl e ↦
      let same : c.0 ≡ p = eqb-true c.0 p e in
      let is : Some c.1 ≡ Some o = sym h.0 ∙ (ap (owner_at owners) same ∙ at) in
      let own : c.1 ≡ o = cc in
      (0, omega arith, ap₂ (λ (x : ℕ) (y : Owner). (x, y)) same own)
  | inr e ↦
      let there = claim-there owners claims p o at h.1 (omega (arith, some, times-cons p c.0 (firsts claims), ap one e)) in
      (suc there.0, omega (arith, there.1), there.2)
]

-- The owner of a page of the pool is that of its claim.
pub owner_claims : (t : Tables) → IsHost t → (p : ℕ) (o : Owner) → p < length t.owners → owner_at t.owners p ≡ Some o → Contains (claims_of (state_of t).host) (p, o)
owner_claims t w p o l at = claim-there t.owners (claims_of (state_of t).host) p o at (told t w) (omega (arith, w.sound.owners p, ap one (lt-ltb p (length t.owners) l)))

-- The owner of a page is found at the first claim that it is in.
claim-found : (owners : List Owner) (claims : List (ℕ × Owner)) (p : ℕ) (o : Owner) → owner_at owners p ≡ Some o → Told owners claims → 0 < times p (firsts claims)
    → find (λ claim. claim.0 == p) claims ≡ Some (p, o)
claim-found owners [] p o at h some = absurd (omega arith)
claim-found owners (c ∷ claims) p o at h some = elim (cases_Bool (c.0 == p)) [
  | inl e ↦
      let same : c.0 ≡ p = eqb-true c.0 p e in
      let is : Some c.1 ≡ Some o = sym h.0 ∙ (ap (owner_at owners) same ∙ at) in
      let own : c.1 ≡ o = cc in
      rw e (ap₂ (λ (x : ℕ) (y : Owner). Some (x, y)) same own)
  | inr e ↦ rw e (claim-found owners claims p o at h.1 (omega (arith, some, times-cons p c.0 (firsts claims), ap one e)))
]

claim-gone : (claims : List (ℕ × Owner)) (p : ℕ) → times p (firsts claims) ≡ 0 → find (λ claim. claim.0 == p) claims ≡ None
claim-gone [] p none = refl
claim-gone (c ∷ claims) p none = elim (cases_Bool (c.0 == p)) [
  | inl e ↦ absurd (omega (arith, none, times-cons p c.0 (firsts claims), ap one e))
  | inr e ↦ rw e (claim-gone claims p (omega (arith, none, times-cons p c.0 (firsts claims), ap one e)))
]

pub owner-found : (t : Tables) → IsHost t → (p : ℕ) (o : Owner) → p < length t.owners → owner_at t.owners p ≡ Some o → owner_of (state_of t).host p ≡ Some o
owner-found t w p o l at =
    ap (option_map (λ (claim : ℕ × Owner). claim.1))
    (claim-found t.owners (claims_of (state_of t).host) p o at (told t w) (omega (arith, w.sound.owners p, ap one (lt-ltb p (length t.owners) l))))

-- no page outside the pool has one
pub owner-gone : (t : Tables) → IsHost t → (p : ℕ) → length t.owners ≤ p → owner_of (state_of t).host p ≡ None
owner-gone t w p l =
    ap (option_map (λ (claim : ℕ × Owner). claim.1)) (claim-gone (claims_of (state_of t).host) p (omega (arith, w.sound.owners p, ap one (le-ltb p (length t.owners) l))))

-- How many pages each class has

-- a test's members and the others of the pages are all pages
split-all : (f : ℕ → Bool) (n : ℕ) (xs : List ℕ) → ((p : ℕ) → times p xs ≡ one (nat_lt p n)) → length (filter f xs) + length (filter (λ p. not (f p)) (pages_from 0 n)) ≡ n
split-all f n xs each = sym (length-append (filter f xs) (filter (λ p. not (f p)) (pages_from 0 n))) ∙ length_of_all n (filter f xs ++ filter (λ p. not (f p)) (pages_from 0 n)) at
  where
    at : (p : ℕ) → times p (filter f xs ++ filter (λ p. not (f p)) (pages_from 0 n)) ≡ one (nat_lt p n)
    at p = rw (times-append p (filter f xs) (filter (λ p. not (f p)) (pages_from 0 n)), times-filter p f xs, times-filter p (λ p. not (f p)) (pages_from 0 n)) (elim (cases_Bool (f p)) [
      | inl e ↦ rw e (omega (arith, each p))
      | inr e ↦ rw e (omega (arith, times-pages p n))
    ])

same-length : (f : ℕ → Bool) (n : ℕ) (xs : List ℕ) → ((p : ℕ) → times p xs ≡ one (nat_lt p n)) → length (filter f (pages_from 0 n)) ≡ length (filter f xs)
same-length f n xs each = omega (arith, split-all f n xs each, split-all f n (pages_from 0 n) (λ p. times-pages p n))

-- how many claims are of a class
abbrev classed : (Owner → Bool) → List (ℕ × Owner) → ℕ
classed test [] = 0
classed test (c ∷ claims) = one (test c.1) + classed test claims

classed-told : (test : Owner → Bool) (owners : List Owner) (claims : List (ℕ × Owner)) → Told owners claims → length (filter (is_owned_at test owners) (firsts claims)) ≡ classed test claims
classed-told test owners [] h = refl
classed-told test owners (c ∷ claims) h =
    count (is_owned_at test owners c.0) (filter (is_owned_at test owners) (firsts claims))
    ∙ ap₂ (λ (x y : ℕ). x + y) (ap (λ o. one (option_map_or test o false)) h.0) (classed-told test owners claims h.1)
  where
    count : (b : Bool) (xs : List ℕ) → length (if b then c.0 ∷ xs else xs) ≡ one b + length xs
    count true xs = omega arith
    count false xs = omega arith

classed-append : (test : Owner → Bool) (a b : List (ℕ × Owner)) → classed test (a ++ b) ≡ classed test a + classed test b
classed-append test [] b = omega arith
classed-append test (c ∷ a) b = omega (arith, classed-append test a b)

classed-claimed : (test : Owner → Bool) (o : Owner) (pages : List ℕ) (b : Bool) → test o ≡ b → classed test (claimed o pages) ≡ (if b then length pages else 0)
classed-claimed test o [] b e = cond_both b 0 0 (λ n. 0 ≡ n) (λ _. refl) (λ _. refl)
classed-claimed test o (p ∷ pages) b e = grind (arith, e, classed-claimed test o pages b e)

sum-if : (b : Bool) (m n : ℕ) → (if b then m + n else 0) ≡ (if b then m else 0) + (if b then n else 0)
sum-if b m n = grind arith

classed-queues : (test : Owner → Bool) (b : Bool) → ((q : ℕ) (half : Half) → test (Queue q half) ≡ b) → (k : ℕ) (queues : List HostQueue)
    → classed test (claims_of_queues k queues) ≡ (if b then sum_by (λ queue. length queue.sq_pages + length queue.cq_pages) queues else 0)
classed-queues test true h k [] = refl
classed-queues test false h k [] = refl
classed-queues test b h k (x ∷ queues) =
    let sq = claimed (Queue k Submission) x.sq_pages in
    let cq = claimed (Queue k Completion) x.cq_pages in
    let rest = claims_of_queues (k + 1) queues in
    omega (
      arith,
      classed-append test (sq ++ cq) rest,
      classed-append test sq cq,
      classed-claimed test (Queue k Submission) x.sq_pages b (h k Submission),
      classed-claimed test (Queue k Completion) x.cq_pages b (h k Completion),
      classed-queues test b h (k + 1) queues,
      ap (λ (n : ℕ). if b then n else 0) (sum_by-cons (λ (at : HostQueue). length at.sq_pages + length at.cq_pages) x queues),
      sum-if b (length x.sq_pages + length x.cq_pages) (sum_by (λ (at : HostQueue). length at.sq_pages + length at.cq_pages) queues),
      sum-if b (length x.sq_pages) (length x.cq_pages),
    )

classed-records : (test : Owner → Bool) (d c : Bool) → ((q cid : ℕ) → test (Command q cid Data) ≡ d) → ((q cid : ℕ) → test (Command q cid Chain) ≡ c) → (records : List Record)
    → classed test (flat_map claims_of_record records) ≡ (if d then sum_by (λ r. length r.data_pages) records else 0) + (if c then sum_by (λ r. length r.chain_pages) records else 0)
classed-records test d c hd hc [] = grind arith
classed-records test d c hd hc (r ∷ records) =
    let a = claimed (Command r.q r.cid Data) r.data_pages in
    let b = claimed (Command r.q r.cid Chain) r.chain_pages in
    omega (
      arith,
      classed-append test (a ++ b) (flat_map claims_of_record records),
      classed-append test a b,
      classed-claimed test (Command r.q r.cid Data) r.data_pages d (hd r.q r.cid),
      classed-claimed test (Command r.q r.cid Chain) r.chain_pages c (hc r.q r.cid),
      classed-records test d c hd hc records,
      ap (λ (n : ℕ). if d then n else 0) (sum_by-cons (λ (x : Record). length x.data_pages) r records),
      ap (λ (n : ℕ). if c then n else 0) (sum_by-cons (λ (x : Record). length x.chain_pages) r records),
      sum-if d (length r.data_pages) (sum_by (λ (x : Record). length x.data_pages) records),
      sum-if c (length r.chain_pages) (sum_by (λ (x : Record). length x.chain_pages) records),
    )

-- a class of the table has as many pages as the claims of that class
class_counts : (test : Owner → Bool) (t : Tables) → IsHost t → length (pages_owned test t.owners) ≡ classed test (claims_of (state_of t).host)
class_counts test t w =
    same-length (is_owned_at test t.owners) (length t.owners) (firsts (claims_of (state_of t).host)) each
    ∙ classed-told test t.owners (claims_of (state_of t).host) (told t w)
  where
    each : (p : ℕ) → times p (firsts (claims_of (state_of t).host)) ≡ one (nat_lt p (length t.owners))
    each p = w.sound.owners p

classed-host : (test : Owner → Bool) (t : Tables) (f b d c : Bool) → test Free ≡ f → ((q : ℕ) (half : Half) → test (Queue q half) ≡ b)
    → ((q cid : ℕ) → test (Command q cid Data) ≡ d) → ((q cid : ℕ) → test (Command q cid Chain) ≡ c)
    → classed test (claims_of (state_of t).host)
    ≡ (if f then length (free_pages t.owners) else 0) + (if b then (counts_of (state_of t).host).queue_pages else 0)
    + ((if d then (counts_of (state_of t).host).data_pages else 0) + (if c then (counts_of (state_of t).host).chain_pages else 0))
classed-host test t f b d c hf hb hd hc =
    let free = claimed Free (free_pages t.owners) in
    let halves = claims_of_queues 0 (map host_queue_of t.queues) in
    let commands = flat_map claims_of_record t.records in
    omega (
      arith,
      classed-append test (free ++ halves) commands,
      classed-append test free halves,
      classed-claimed test Free (free_pages t.owners) f hf,
      classed-queues test b hb 0 (map host_queue_of t.queues),
      classed-records test d c hd hc t.records,
    )

same_counts : (a b : Counts) → a.free_pages ≡ b.free_pages → a.queue_pages ≡ b.queue_pages → a.chain_pages ≡ b.chain_pages → a.data_pages ≡ b.data_pages → a ≡ b
same_counts a b free queue chain held =
    ap (λ (n : ℕ). record a { free_pages = n }) free
    ∙ (ap (λ (n : ℕ). record a { free_pages = b.free_pages; queue_pages = n }) queue
    ∙ (ap (λ (n : ℕ). record a { free_pages = b.free_pages; queue_pages = b.queue_pages; chain_pages = n }) chain
    ∙ ap (λ (n : ℕ). record b { data_pages = n }) held))

-- The table's counts are the machine's.
pub table_counts : (t : Tables) → IsHost t → table.counts_of t.owners ≡ counts_of (state_of t).host
table_counts t w =
    same_counts (table.counts_of t.owners) (counts_of (state_of t).host) refl
    (omega (arith, class_counts is_queue_page t w, classed-host is_queue_page t false true false false refl (λ q half. refl) (λ q cid. refl) (λ q cid. refl)))
    (omega (arith, class_counts is_chain_page t w, classed-host is_chain_page t false false false true refl (λ q half. refl) (λ q cid. refl) (λ q cid. refl)))
    (omega (arith, class_counts is_data_page t w, classed-host is_data_page t false false true false refl (λ q half. refl) (λ q cid. refl) (λ q cid. refl)))

-- What a step of the host leaves, and why one is refused.

abbrev of_part : HostPart → HostView
of_part part = record { entries = part.entries; segment = part.segment; host = part.host }

abbrev Just : State → HostView → Pages → Type 0
Just next v pages = (v ≡ shown next) × (pages ≡ next.memory)

by-leaving : (r f c : Bool) (s next : State) (v : HostView) (pages : Pages) → c ≡ false
    → MatchBool (r || (not f && false)) (alone v pages ≡ next) (MatchBool c (LeavesByController s next (alone v pages)) (LeavesByHost s next (alone v pages))) → Just next v pages
by-leaving true f c s next v pages e h = (ap shown h, ap (λ (x : State). x.memory) h)
by-leaving false true c s next v pages e h = let left : LeavesByHost s next (alone v pages) = rw e at h in (ap of_part left.part, left.memory)
by-leaving false false c s next v pages e h = let left : LeavesByHost s next (alone v pages) = rw e at h in (ap of_part left.part, left.memory)

just : (v v' : HostView) (pages pages' : Pages) (e : Event) (reply : Reply) → IsController e ≡ false → Leaves (alone v pages) e reply (alone v' pages') → Just (after (alone v pages) e reply) v' pages'
just v v' pages pages' e (events.Refused why touched) c h = (ap shown h, ap (λ (s : State). s.memory) h)
just v v' pages pages' e reply c h = by-leaving (resets e) (forges e) (IsController e) (alone v pages) (after (alone v pages) e reply) v' pages' c h

pub leaves_just : LeavesJust
leaves_just v v' pages pages' e reply c step = just v v' pages pages' e reply c step.2

pub leaves_one : LeavesOne
leaves_one v v' v'' pages pages' pages'' e reply c one other =
    let a = just v v' pages pages' e reply c one.2 in
    let b = just v v'' pages pages'' e reply c other.2 in
    (a.0 ∙ sym b.0, a.1 ∙ sym b.1)

by-refusing : (c : Bool) (A B : Type 0) → c ≡ false → MatchBool (not c) A B → A
by-refusing c A B e h = rw e at h

memory-cause : (s : State) (e : Event) (why : Refusal) → Refuses s e why [] → why ≡ refusal.Memory → refusal_of s e ≡ None
memory-cause s e why h is = let m : Refuses s e refusal.Memory [] = subst (λ (w : Refusal). Refuses s e w []) is h in m.1

other-cause : (s : State) (e : Event) (why : Refusal) → Refuses s e why [] → (why ≡ refusal.Memory → ⊥) → refusal_of s e ≡ Some why
other-cause s e refusal.Memory h not' = absurd (not' refl)
other-cause s e why h not' = h.0

pub refuses_just : RefusesJust
refuses_just v v' pages pages' e why c step =
    let refuses = by-refusing (IsController e) (Refuses (alone v pages) e why []) (MayRefuse e why []) c step.1 in
    let left = just v v' pages pages' e (events.Refused why []) c step.2 in
    (left.0, left.1, other-cause (alone v pages) e why refuses, memory-cause (alone v pages) e why refuses)

pub writes_leave_over : WritesLeaveOver
writes_leave_over v pages pages' over pool size same =
    record {
      pool = pool;
      size = size ∙ over.size;
      out = λ p l. same p ∙ over.out p (subst (λ (n : ℕ). p < n) size l);
    }

-- Touches that follow one another, and the pages of which they are.

pub touches_none : (s : Contents) → TouchesBy 0 s s
touches_none s = omega arith

pub touches_then : (n m : ℕ) (a b c : Contents) → TouchesBy n a b → TouchesBy m b c → TouchesBy (n + m) a c
touches_then n m a b c first second = omega (arith, first, second)

-- the pages of a command are those of its data and those of its chain
pub both_parts : (request : Request) (pages : PagesOut) → length (data_part request pages) + length (chain_part request pages) ≡ length pages
both_parts request pages =
    sym (length-append (data_part request pages) (chain_part request pages)) ∙ ap length (take-append-drop (data_count request.pieces) pages)

-- a refused admin command touches nothing
pub sending_refused : (kind : AdminKind) (why : Refusal) → refused_touches (sending kind) why ≡ 0
sending_refused (kinds.Abort q cid) why = refl
sending_refused kind why = refl

pub creating_refused : (half : Half) (q : ℕ) (vector : Option ℕ) (why : Refusal) → refused_touches (creating half q vector) why ≡ 0
creating_refused Completion q vector why = refl
creating_refused Submission q vector why = refl

-- a creation that is sent touches the page of its entry, and the pages of the half that is granted with it
pub creating_sent : (n : ℕ) (half : Half) (q : ℕ) (vector : Option ℕ) → sent_touches n (creating half q vector) ≡ half_pages n half + 1
creating_sent n Completion q vector = refl
creating_sent n Submission q vector = refl
