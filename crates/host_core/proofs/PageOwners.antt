-- Pages and their owners.
use Rattle.host_core.specs.Rows as declared
use Rattle.std.proofs.Common.{◌≡◌, ◌≢◌, ℕ, zero, suc, ◌+◌, ◌<◌, ◌≤◌, ◌==◌, ◌⊎◌, inl, inr, nat_lt, Bool, true, false, ◌||◌, Option, Some, None, IsSome, IfSome, List, [], ◌∷◌, ◌++◌, length, slice_get, slice_set, is_some, refl, ap, sym, ◌∙◌, arith, subst, length-set, eqb-true, eq-eqb, lt-ltb, le-ltb, if◌then◌else◌, get_or, not, ◌&&◌, map, filter, find, ◌-◌}
use Rattle.std.proofs.lemmas.Bool.{true≢false, true_from_ne_false, false_from_ne_true, and_parts, cases_Bool, cases_eq, cases_lt, cond_both, eqb-false, or_left, or_right, or_parts, ne_eqb}
use Rattle.std.{proofs.lemmas.Option.{slice_get_past, slice_get-map, slice_get_within}, specs.List.AllByRecursion}
use Rattle.std.{specs.Option.{option_and_then, option_map_or, option_map}, proofs.lemmas.List.{Elements.filter_agree, Folds.list_any-append}}
use Rattle.io_commands.specs.Values.{numbers_of}
use Rattle.machine_model.{proofs.Counting.{one, times-cons, not_held, total, times-append, times-filter, times-pages, held_once, here}, specs.Step.times}
use Rattle.machine_model.proofs.Owned.{in_record, owned, holds_from_sound, taken, taken_from_out, is_out, none_here, some_here, taken_le, in_queue, owned_is}
use Rattle.machine_model.{proofs.Steps.{in_store, length-in_store, found_all}, specs.{After.joined_in_order, Claims.{IsSound, HasOneOwner}}}
use Rattle.machine_model.specs.{Memory.{is_in, without_pages, with_pages, zeroed_pages}, Placement.without_numbers, State.{State, Record, pages_of, is_at}}
use Rattle.page_ledger.{proofs.{Pages.filter-agree, Tables.{slice_get-set_same, slice_get-set_other, free-others, free_given_back}}, specs.Lists.ListsAll}
use Rattle.page_ledger.specs.Owners.{is_among, pages_from, is_free, is_command, is_owned_at, owner_at, free_pages, with_owner, given_back, is_half, is_same_half}
use Rattle.page_ledger.specs.declared.owner.{Owner.{Owner, TheVariants.{Free, Queue, Command}}, Role.{Role, TheVariants.{Data, Chain}}}
use Rattle.host_core.specs.{Commands.{CanTake, CanPut, CanZero}, Halves.{HasHalf, half_of, has_half}}
use Rattle.host_core.specs.{Tables.{Tables, state_of, host_queue_of, sq_pages_of, cq_pages_of, view_of}, Whole.{OwnersTell, TellsCommand, TellsQueue, IsHost}}
use Rattle.page_memory.specs.{Pages.{Pages, page_at, AreWhole, IsPool, zero_page}, declared.page.Half.{Half, TheVariants.{Submission, Completion}}}
use Rattle.queue_pair.specs.{Memory.half_pages, Rings.first_page_of}
use Rattle.slot_table.proofs.Rows.{option_is}
use Rattle.page_memory.proofs.Lists.{some_is}
use Rattle.machine_model.proofs.Cases.{none_some}
use Rattle.machine_model.proofs.Sound.{small}

-- Pages taken out and put in, their owners, and the free ones.

-- Numbers in lists

one-true : (b : Bool) → 0 < one b → b ≡ true
one-true b h = grind arith

one-false : (b : Bool) → one b ≡ 0 → b ≡ false
one-false b h = grind arith

pub times-some : (p : ℕ) (xs : List ℕ) → 0 < times p xs → is_among xs p ≡ true
times-some p xs h = true_from_ne_false (is_among xs p) (λ e. omega (arith, h, not_held p xs e))

pub among-append : (a b : List ℕ) (p : ℕ) → is_among (a ++ b) p ≡ (is_among a p || is_among b p)
among-append a b p = list_any-append (λ q. q == p) a b

pub among-from : (b n k : ℕ) → k < n → is_among (pages_from b n) (b + k) ≡ true
among-from b zero k l = absurd (omega arith)
among-from b (suc n) zero l = or_left (b == b + 0) _ (eq-eqb b (b + 0) (omega arith))
among-from b (suc n) (suc k) l =
    let e : b + 1 + k ≡ b + suc k = omega arith in or_right (b == b + suc k) _ (subst (λ (j : ℕ). is_among (pages_from (b + 1) n) j ≡ true) e (among-from (b + 1) n k (omega arith)))

pub times-at : (xs : List ℕ) (k d : ℕ) → k < length xs → 0 < times (get_or xs k d) xs
times-at [] k d l = absurd (omega arith)
times-at (x ∷ xs) zero d l = omega (arith, times-cons x x xs, ap one (eq-eqb x x refl))
times-at (x ∷ xs) (suc k) d l = omega (arith, times-cons (get_or xs k d) x xs, times-at xs k d (omega arith))

-- Pages: what is elsewhere stays

pub set-other : (m : Pages) (k p : ℕ) (x : Option (List ℕ)) → k ≢ p → page_at (slice_set m k x) p ≡ page_at m p
set-other m k p x h = ap (option_and_then (λ slot. slot)) (slice_get-set_other m k p x (λ e. h (sym e)))

pub with-other : (ps : List (ℕ × List ℕ)) (m : Pages) (p : ℕ) → is_among (numbers_of ps) p ≡ false → page_at (with_pages ps m) p ≡ page_at m p
with-other [] m p h = refl
with-other (k ∷ ps) m p h =
    let both = or_parts (k.0 == p) (is_among (numbers_of ps) p) h in
    with-other ps (slice_set m k.0 (Some k.1)) p both.1
    ∙ ap (option_and_then (λ slot. slot)) (slice_get-set_other m k.0 p (Some k.1) (λ e. eqb-false k.0 p both.0 (sym e)))

-- and whole pages stay whole

set_whole : (m : Pages) (k : ℕ) (x : Option (List ℕ)) → IfSome x (λ page. length page ≡ 4096) → AreWhole m → AreWhole (slice_set m k x)
set_whole m k x fits whole p = elim (cases_eq p k) [
  | inr other ↦ rw (set-other m k p x (λ e. other (sym e))) (whole p)
  | inl same ↦ elim (cases_lt k (length m)) [
    | inl l ↦ rw (same, slice_get-set_same m k x l) fits
    | inr l ↦ rw (same, slice_get_past (slice_set m k x) k (omega (arith, length-set m k x))) tt
  ]
]

pub pool-without : (ps : List ℕ) (m : Pages) → IsPool m → IsPool (without_pages ps m)
pool-without [] m pool = pool
pool-without (p ∷ ps) m pool =
    pool-without ps (slice_set m p None) (record { few = subst (λ (n : ℕ). n ≤ 65536) (sym (length-set m p None)) pool.few; whole = set_whole m p None tt pool.whole })

pub pool-with : (ps : List (ℕ × List ℕ)) (m : Pages) → AllByRecursion (λ (page : ℕ × List ℕ). length page.1 ≡ 4096) ps → IsPool m → IsPool (with_pages ps m)
pool-with [] m fit pool = pool
pool-with (p ∷ ps) m fit pool =
    pool-with ps (slice_set m p.0 (Some p.1)) fit.1
    (record { few = subst (λ (n : ℕ). n ≤ 65536) (sym (length-set m p.0 (Some p.1))) pool.few; whole = set_whole m p.0 (Some p.1) fit.0 pool.whole })

pub without-append : (a b : List ℕ) (m : Pages) → without_pages (a ++ b) m ≡ without_pages b (without_pages a m)
without-append [] b m = refl
without-append (x ∷ a) b m = without-append a b (slice_set m x None)

pub with-append : (a b : List (ℕ × List ℕ)) (m : Pages) → with_pages (a ++ b) m ≡ with_pages b (with_pages a m)
with-append [] b m = refl
with-append (x ∷ a) b m = with-append a b (slice_set m x.0 (Some x.1))

-- Pages that can be taken, and put

pub can-take : (ps : List ℕ) (m : Pages) → ((p : ℕ) → times p ps ≤ one (is_in m p)) → CanTake ps m
can-take [] m h = tt
can-take (p ∷ ps) m h = (one-true (is_in m p) (omega (arith, h p, times-cons p p ps, ap one (eq-eqb p p refl))), can-take ps (slice_set m p None) rest)
  where
    rest : (k : ℕ) → times k ps ≤ one (is_in (slice_set m p None) k)
    rest k = elim (cases_Bool (p == k)) [
      | inl e ↦ omega (arith, h k, times-cons k p ps, ap one e, small (is_in m k))
      | inr e ↦ omega (arith, h k, times-cons k p ps, ap one e, ap (λ o. one (is_some o)) (set-other m p k None (λ f. eqb-false p k e f)))
    ]

out_slot : (m : Pages) (p : ℕ) → p < length m → is_in m p ≡ false → slice_get m p ≡ Some None
out_slot [] p l e = absurd (omega arith)
out_slot (None ∷ m) zero l e = refl
out_slot (Some x ∷ m) zero l e = absurd (true≢false e)
out_slot (x ∷ m) (suc p) l e = out_slot m p (omega arith) e

pub can-put : (ps : List (ℕ × List ℕ)) (m : Pages) → ((p : ℕ) → times p (numbers_of ps) + one (is_in m p) ≤ 1) → ((p : ℕ) → 0 < times p (numbers_of ps) → p < length m) → CanPut ps m
can-put [] m once inside = tt
can-put (x ∷ ps) m once inside = (
  out_slot m x.0 (inside x.0 (omega (arith, mine))) (one-false (is_in m x.0) (omega (arith, once x.0, mine))),
  can-put ps (slice_set m x.0 (Some x.1)) rest (λ p h. omega (arith, inside p (omega (arith, h, times-cons p x.0 (numbers_of ps))), length-set m x.0 (Some x.1))),
)
  where
    mine : times x.0 (numbers_of (x ∷ ps)) ≡ 1 + times x.0 (numbers_of ps)
    mine = times-cons x.0 x.0 (numbers_of ps) ∙ ap (λ n. n + times x.0 (numbers_of ps)) (ap one (eq-eqb x.0 x.0 refl))

    rest : (k : ℕ) → times k (numbers_of ps) + one (is_in (slice_set m x.0 (Some x.1)) k) ≤ 1
    rest k = elim (cases_Bool (x.0 == k)) [
      | inl e ↦ omega (arith, once k, times-cons k x.0 (numbers_of ps), ap one e, small (is_in (slice_set m x.0 (Some x.1)) k))
      | inr e ↦ omega (arith, once k, times-cons k x.0 (numbers_of ps), ap one e, ap (λ o. one (is_some o)) (set-other m x.0 k (Some x.1) (λ f. eqb-false x.0 k e f)))
    ]

-- Which pages are in

in_store-at : (m : Pages) (p : ℕ) (b : Bool) → slice_get (in_store m) p ≡ Some b → is_in m p ≡ b
in_store-at [] p b h = absurd (none_some h)
in_store-at (None ∷ m) zero b h = some_is h
in_store-at (Some x ∷ m) zero b h = some_is h
in_store-at (x ∷ m) (suc p) b h = in_store-at m p b h

total-at : (w : Record → ℕ) (rs : List Record) (i : ℕ) (r : Record) → slice_get rs i ≡ Some r → w r ≤ total w rs
total-at w [] i r h = absurd (none_some h)
total-at w (x ∷ rs) zero r h = omega (arith, ap w (some_is h))
total-at w (x ∷ rs) (suc i) r h = omega (arith, total-at w rs i r h)

taken-le-one : (p : ℕ) (r : Record) → taken p r ≤ in_record p r
taken-le-one p r = cond_both (is_out r.phase) _ _ (λ n. n ≤ in_record p r) (λ _. omega arith) (λ _. omega arith)

-- beside a record whose pages are in, the taken ones
taken-beside : (p : ℕ) (rs : List Record) (i : ℕ) (r : Record) → slice_get rs i ≡ Some r → is_out r.phase ≡ false → total (taken p) rs + in_record p r ≤ total (in_record p) rs
taken-beside p [] i r h stays = absurd (none_some h)
taken-beside p (x ∷ rs) zero r h stays =
    let same = some_is h in
    let t : taken p x ≡ 0 = ap (λ (y : Record). taken p y) same ∙ ap (λ b. if b then in_record p r else 0) stays in
    omega (arith, t, ap (in_record p) same, taken_le p rs)
taken-beside p (x ∷ rs) (suc i) r h stays = omega (arith, taken-beside p rs i r h stays, taken-le-one p x)

-- a page in no taken record is in, one in a taken record is out
in-where-none : (s : State) → IsSound s → (p : ℕ) → p < length s.memory → total (taken p) s.host.records ≡ 0 → is_in s.memory p ≡ true
in-where-none s sound p l zero' =
    in_store-at s.memory p true (taken_from_out s sound.out p (omega (arith, length-in_store s.memory)) ∙ ap Some (none_here (total (taken p) s.host.records) zero'))

out-where-some : (s : State) → IsSound s → (p : ℕ) → p < length s.memory → 0 < total (taken p) s.host.records → is_in s.memory p ≡ false
out-where-some s sound p l some =
    in_store-at s.memory p false (taken_from_out s sound.out p (omega (arith, length-in_store s.memory)) ∙ ap Some (some_here (total (taken p) s.host.records) some))

-- what owns a page of the pool is counted once
pub owned-once : (s : State) → IsSound s → (p : ℕ) → owned p s.host ≡ one (nat_lt p (length s.memory))
owned-once s sound p = let h = holds_from_sound s sound in h.owner p ∙ ap (λ (n : ℕ). one (nat_lt p n)) (length-in_store s.memory)

pub free-in : (s : State) → IsSound s → (p : ℕ) → times p s.host.free ≤ one (is_in s.memory p)
free-in s sound p = elim (cases_lt 0 (times p s.host.free)) [
  | inr z ↦ omega arith
  | inl z ↦ elim (cases_lt p (length s.memory)) [
    | inr l ↦ omega (arith, owned-once s sound p, ap one (le-ltb p (length s.memory) l))
    | inl l ↦
        let o = owned-once s sound p in
        let b = ap one (lt-ltb p (length s.memory) l) in
        omega (arith, o, b, ap one (in-where-none s sound p l (omega (arith, o, b, taken_le p s.host.records))))
  ]
]

-- the pages of a command lie in the pool, each once
pub record-inside : (s : State) → IsSound s → (i : ℕ) (r : Record) → slice_get s.host.records i ≡ Some r → (p : ℕ) → 0 < times p (pages_of r) → p < length s.memory
record-inside s sound i r at p some = elim (cases_lt p (length s.memory)) [
  | inl l ↦ l
  | inr l ↦ absurd (omega (arith, owned-once s sound p, total-at (in_record p) s.host.records i r at, ap one (le-ltb p (length s.memory) l)))
]

-- those that are not taken are in
pub record-in : (s : State) → IsSound s → (i : ℕ) (r : Record) → slice_get s.host.records i ≡ Some r → is_out r.phase ≡ false → (p : ℕ) → times p (pages_of r) ≤ one (is_in s.memory p)
record-in s sound i r at stays p = elim (cases_lt 0 (times p (pages_of r))) [
  | inr z ↦ omega arith
  | inl z ↦
      let l = record-inside s sound i r at p z in
      let o = owned-once s sound p in
      let b = ap one (lt-ltb p (length s.memory) l) in
      let t = taken-beside p s.host.records i r at stays in
      omega (arith, o, b, t, ap one (in-where-none s sound p l (omega (arith, o, b, t))))
]

-- and those that are taken are out
pub record-out : (s : State) → IsSound s → (i : ℕ) (r : Record) → slice_get s.host.records i ≡ Some r → is_out r.phase ≡ true → (p : ℕ) → times p (pages_of r) + one (is_in s.memory p) ≤ 1
record-out s sound i r at away p = elim (cases_lt 0 (times p (pages_of r))) [
  | inr z ↦ omega (arith, small (is_in s.memory p))
  | inl z ↦
      let l = record-inside s sound i r at p z in
      let o = owned-once s sound p in
      let b = ap one (lt-ltb p (length s.memory) l) in
      let t : taken p r ≡ times p (pages_of r) = ap (λ c. if c then in_record p r else 0) away in
      let some = total-at (taken p) s.host.records i r at in
      omega (arith, o, b, total-at (in_record p) s.host.records i r at, ap one (out-where-some s sound p l (omega arith)))
]

-- a page that was zeroed, and then taken
pub set-set : (m : Pages) (p : ℕ) (x y : Option (List ℕ)) → slice_set (slice_set m p x) p y ≡ slice_set m p y
set-set [] p x y = refl
set-set (z ∷ m) zero x y = refl
set-set (z ∷ m) (suc p) x y = ap (λ (l : Pages). z ∷ l) (set-set m p x y)

pub set-there : (m : Pages) (p : ℕ) (x : List ℕ) → IsSome (page_at m p) → page_at (slice_set m p (Some x)) p ≡ Some x
set-there [] p x h = absurd (true≢false (sym h))
set-there (z ∷ m) zero x h = refl
set-there (z ∷ m) (suc p) x h = set-there m p x h

pub ruleset zeroed_rules = (set-set, set-there)

-- The table of owners: what it tells of the claims, and the free pages that it leaves.

-- Free pages

among-filter : (f : ℕ → Bool) (n p : ℕ) → p < n → is_among (filter f (pages_from 0 n)) p ≡ f p
among-filter f n p l = elim (cases_Bool (f p)) [
  | inl e ↦ rw e (times-some p (filter f (pages_from 0 n)) (omega (arith, rw e at count)))
  | inr e ↦ rw e (false_from_ne_true (is_among (filter f (pages_from 0 n)) p) (λ g. omega (arith, rw e at count, held_once p (filter f (pages_from 0 n)) g)))
]
  where
    count : times p (filter f (pages_from 0 n)) ≡ (if f p then 1 else 0)
    count = times-filter p f (pages_from 0 n) ∙ ap (λ k. if f p then k else 0) (times-pages p n ∙ ap one (lt-ltb p n l))

free-is : (o : Owner) → is_free o ≡ true → o ≡ Free
free-is Free h = refl
free-is (Queue q half) h = absurd (true≢false (sym h))
free-is (Command q cid role) h = absurd (true≢false (sym h))

pub free-owner : (owners : List Owner) (p : ℕ) → 0 < times p (free_pages owners) → owner_at owners p ≡ Some Free
free-owner owners p h = elim (option_is (owner_at owners p)) [
  | inl none ↦ let no : is_owned_at is_free owners p ≡ false = rw none refl in absurd (omega (arith, h, rw no at count))
  | inr (x, at) ↦ elim (cases_Bool (is_free x)) [
    | inl e ↦ at ∙ ap Some (free-is x e)
    | inr e ↦ let no : is_owned_at is_free owners p ≡ false = rw at e in absurd (omega (arith, h, rw no at count))
  ]
]
  where
    count : times p (free_pages owners) ≡ (if is_owned_at is_free owners p then times p (pages_from 0 (length owners)) else 0)
    count = times-filter p (is_owned_at is_free owners) (pages_from 0 (length owners))

-- the free pages that the grants of a command leave
pub granted-free : (owners : List Owner) (a b : List ℕ) (x y : Owner) → is_free x ≡ false → is_free y ≡ false
    → free_pages (with_owner (with_owner owners a x) b y) ≡ without_numbers (a ++ b) (free_pages owners)
granted-free owners a b x y fx fy =
    free-others b y (with_owner owners a x) fy ∙ (ap (without_numbers b) (free-others a x owners fx)
    ∙ (filter-filter (λ p. not (is_among a p)) (λ p. not (is_among b p)) (free_pages owners)
    ∙ filter_agree (λ p. not (is_among a p) && not (is_among b p)) (λ p. not (is_among (a ++ b) p)) (λ p. rw (among-append a b p) (grind arith)) (free_pages owners)))
  where
    filter-filter : (f g : ℕ → Bool) (xs : List ℕ) → filter g (filter f xs) ≡ filter (λ x. f x && g x) xs
    filter-filter f g [] = refl
    filter-filter f g (x ∷ xs) = grind (arith, filter-filter f g xs)

-- and those that giving back an owner's pages leaves
pub given-free : (owners : List Owner) (named : Owner → Bool) (n : ℕ) (pages : List ℕ) → n ≡ length owners
    → ((p : ℕ) → p < n → is_owned_at named owners p ≡ is_among pages p)
    → free_pages (given_back named owners) ≡ joined_in_order n pages (free_pages owners)
given-free owners named n pages size same =
    free_given_back named owners
    ∙ (ap (λ (k : ℕ). filter (is_owned_at (λ owner. is_free owner || named owner) owners) (pages_from 0 k)) (sym size)
    ∙ filter-agree (is_owned_at (λ owner. is_free owner || named owner) owners) (λ p. is_among (free_pages owners) p || is_among pages p) 0 n at)
  where
    either : (o : Option Owner) → option_map_or (λ owner. is_free owner || named owner) o false ≡ (option_map_or is_free o false || option_map_or named o false)
    either None = refl
    either (Some x) = refl

    at : (p : ℕ) → 0 ≤ p → p < 0 + n → is_owned_at (λ owner. is_free owner || named owner) owners p ≡ (is_among (free_pages owners) p || is_among pages p)
    at p low high =
        either (owner_at owners p)
        ∙ (ap (λ b. b || is_owned_at named owners p) (sym (among-filter (is_owned_at is_free owners) (length owners) p (omega arith)))
        ∙ ap (λ b. is_among (free_pages owners) p || b) (same p (omega arith)))

-- What the table tells

among-some : (a b : List ℕ) (p : ℕ) → 0 < times p (a ++ b) → (is_among a p ≡ true) ⊎ (is_among b p ≡ true)
among-some a b p h = elim (cases_Bool (is_among a p)) [
  | inl e ↦ inl e
  | inr e ↦ inr (true_from_ne_false (is_among b p) (λ f. omega (arith, h, times-append p a b, not_held p a e, not_held p b f)))
]

-- the owner of a page of a command
pub command-owner : (owners : List Owner) (r : Record) → TellsCommand owners r → (p : ℕ) → 0 < times p (pages_of r) → (role : Role) × (owner_at owners p ≡ Some (Command r.q r.cid role))
command-owner owners r tells p h =
    elim (among-some r.data_pages r.chain_pages p h) [
      | inl a ↦ (Data, tells.data_pages p a)
      | inr a ↦ (Chain, tells.chain_pages p a)
    ]

-- the half of which a page is one
record Stands (owners : List Owner) (queues : List declared.Queue) (first p : ℕ) : Type 0 where
  place : ℕ
  half : Half
  queue : declared.Queue
  at : slice_get queues place ≡ Some queue
  among : is_among (half_of half queue) p ≡ true
  owner : owner_at owners p ≡ Some (Queue (first + place) half)

half-at : (owners : List Owner) (queues : List declared.Queue) (k p : ℕ) → ((q : ℕ) (queue : declared.Queue) → slice_get queues q ≡ Some queue → TellsQueue owners (k + q) queue)
    → 0 < total (in_queue p) (map host_queue_of queues) → Stands owners queues k p
half-at owners [] k p told h = absurd (omega arith)
half-at owners (x ∷ queues) k p told h = elim (cases_lt 0 (times p (sq_pages_of x))) [
  | inl a ↦ let in' = times-some p (sq_pages_of x) a in record { place = 0; half = Submission; queue = x; at = refl; among = in'; owner = (told 0 x refl).submission p in' }
  | inr a ↦ elim (cases_lt 0 (times p (cq_pages_of x))) [
    | inl c ↦ let in' = times-some p (cq_pages_of x) c in record { place = 0; half = Completion; queue = x; at = refl; among = in'; owner = (told 0 x refl).completion p in' }
    | inr c ↦
        let s = half-at owners queues (k + 1) p (λ q queue e. let same : k + suc q ≡ k + 1 + q = omega arith in subst (λ (j : ℕ). TellsQueue owners j queue) same (told (suc q) queue e))
        (omega arith) in
        let same : k + 1 + s.place ≡ k + suc s.place = omega arith in
        record { place = suc s.place; half = s.half; queue = s.queue; at = s.at; among = s.among; owner = subst (λ (j : ℕ). owner_at owners p ≡ Some (Queue j s.half)) same s.owner }
  ]
]

-- by the tables
half-of : (t : Tables) → OwnersTell t.owners t.queues t.records → (p : ℕ) → 0 < total (in_queue p) (state_of t).host.queues → Stands t.owners t.queues 0 p
half-of t tells p some = half-at t.owners t.queues 0 p (λ k queue e. let same : k ≡ 0 + k = omega arith in subst (λ (j : ℕ). TellsQueue t.owners j queue) same
    (tells.queues_told k queue e)) some

-- a command's page is one of its record
record-named : (owners : List Owner) (x : Record) → TellsCommand owners x → (p q cid : ℕ) (role : Role) → 0 < in_record p x → owner_at owners p ≡ Some (Command q cid role) → is_at q cid x ≡ true
record-named owners x tells p q cid role h at =
    let c = command-owner owners x tells p h in
    let same : Command x.q x.cid c.0 ≡ Command q cid role = some_is (sym c.1 ∙ at) in
    let eq : x.q ≡ q = cc in
    let ec : x.cid ≡ cid = cc in
    rw (eq-eqb x.q q eq, eq-eqb x.cid cid ec) refl

some-named : (owners : List Owner) (rs : List Record) → AllByRecursion (TellsCommand owners) rs → (p q cid : ℕ) (role : Role) → 0 < total (in_record p) rs
    → owner_at owners p ≡ Some (Command q cid role) → 0 < total (here q cid) rs
some-named owners [] tells p q cid role h at = absurd (omega arith)
some-named owners (x ∷ rs) tells p q cid role h at = elim (cases_lt 0 (in_record p x)) [
  | inl l ↦ omega (arith, ap one (record-named owners x tells.0 p q cid role l at))
  | inr l ↦ omega (arith, some-named owners rs tells.1 p q cid role (omega arith) at)
]

pub record-named-at : (owners : List Owner) (rs : List Record) (r : Record) → AllByRecursion (TellsCommand owners) rs → (p q cid : ℕ) (role : Role) → 0 < total (in_record p) rs
    → owner_at owners p ≡ Some (Command q cid role) → find (is_at q cid) rs ≡ Some r → total (here q cid) rs < 2 → 0 < times p (pages_of r)
record-named-at owners [] r tells p q cid role h at found few = absurd (none_some found)
record-named-at owners (x ∷ rs) r tells p q cid role h at found few = elim (cases_lt 0 (in_record p x)) [
  | inl l ↦ let here = record-named owners x tells.0 p q cid role l at in let same : x ≡ r = some_is (rw here at found) in omega (arith, l, ap (in_record p) same)
  | inr l ↦
      let some : 0 < total (in_record p) rs = omega arith in
      let named = some-named owners rs tells.1 p q cid role some at in
      let far : is_at q cid x ≡ false = false_from_ne_true (is_at q cid x) (λ e. omega (arith, few, ap one e, named)) in
      record-named-at owners rs r tells.1 p q cid role some at (rw far at found) (omega (arith, few, ap one far))
]

-- the pages of a command's owner are those of its record
pub command-pages : (t : Tables) → IsSound (state_of t) → OwnersTell t.owners t.queues t.records → (q cid : ℕ) (r : Record) → find (is_at q cid) t.records ≡ Some r → r.q ≡ q → r.cid ≡ cid
    → total (here q cid) t.records < 2 → (p : ℕ) → p < length t.pages → is_owned_at (is_command q cid) t.owners p ≡ is_among (pages_of r) p
command-pages t sound tells q cid r found rq rc few p l = elim (cases_Bool (is_among (pages_of r) p)) [
  | inl e ↦
      let c = told (held_once p (pages_of r) e) in
      rw (e, c.1, eq-eqb q q refl, eq-eqb cid cid refl) refl
  | inr e ↦ rw e (false_from_ne_true (is_owned_at (is_command q cid) t.owners p) (λ f.
      let role = named (owner_at t.owners p) refl f in
      omega (arith, not_held p (pages_of r) e, record-named-at t.owners t.records r tells.commands_told p q cid role.0 (in-records role.0 role.1) role.1 found few)))
]
  where
    told : (0 < times p (pages_of r)) → (role : Role) × (owner_at t.owners p ≡ Some (Command q cid role))
    told some = let c = command-owner t.owners r (found_all (TellsCommand t.owners) (is_at q cid) t.records r found tells.commands_told) p some in
        (c.0, subst (λ (k : ℕ). owner_at t.owners p ≡ Some (Command q k c.0)) rc (subst (λ (k : ℕ). owner_at t.owners p ≡ Some (Command k r.cid c.0)) rq c.1))

    named : (o : Option Owner) → owner_at t.owners p ≡ o → option_map_or (is_command q cid) o false ≡ true → (role : Role) × (owner_at t.owners p ≡ Some (Command q cid role))
    named (Some (Command k i role)) at h = let both = and_parts (k == q) (i == cid) h in (role, rw (← eqb-true k q both.0, ← eqb-true i cid both.1) at)
    named o at h = absurd cc

    in-records : (role : Role) → owner_at t.owners p ≡ Some (Command q cid role) → 0 < total (in_record p) t.records
    in-records role at = elim (cases_lt 0 (times p (state_of t).host.free)) [
      | inl f ↦ let e : Command q cid role ≡ Free = some_is (sym at ∙ free-owner t.owners p f) in absurd cc
      | inr f ↦ elim (cases_lt 0 (total (in_queue p) (state_of t).host.queues)) [
        | inl c ↦ let s = half-of t tells p c in let e : Command q cid role ≡ Queue (0 + s.place) s.half = some_is (sym at ∙ s.owner) in absurd cc
        | inr c ↦ omega (arith, owned-once (state_of t) sound p, ap one (lt-ltb p (length t.pages) l))
      ]
    ]

-- The pages of a queue's half are those that the table of owners says are its.

record-owner : (owners : List Owner) (rs : List Record) → AllByRecursion (TellsCommand owners) rs → (p : ℕ) → 0 < total (in_record p) rs
    → (q : ℕ) × (cid : ℕ) × (role : Role) × (owner_at owners p ≡ Some (Command q cid role))
record-owner owners [] tells p h = absurd (omega arith)
record-owner owners (x ∷ rs) tells p h = elim (cases_lt 0 (in_record p x)) [
  | inl l ↦ let c = command-owner owners x tells.0 p l in (x.q, x.cid, c.0, c.1)
  | inr l ↦ record-owner owners rs tells.1 p (omega arith)
]

-- The pages of a half are owned by it, and no others.
abbrev pub OwnsHalf : List Owner → ℕ → ℕ → Half → declared.Queue → Type 0
OwnsHalf owners n q half x = (p : ℕ) → p < n → is_owned_at (is_half q half) owners p ≡ is_among (half_of half x) p

same-half : (a b : Half) → is_same_half a b ≡ true → a ≡ b
same-half Submission Submission h = refl
same-half Submission Completion h = cc
same-half Completion Submission h = cc
same-half Completion Completion h = refl

self-half : (a : Half) → is_same_half a a ≡ true
self-half Submission = refl
self-half Completion = refl

pub half-told : (owners : List Owner) (q : ℕ) (half : Half) (x : declared.Queue) → TellsQueue owners q x → (p : ℕ) → is_among (half_of half x) p ≡ true → owner_at owners p ≡ Some (Queue q half)
half-told owners q Submission x tells = tells.submission
half-told owners q Completion x tells = tells.completion

-- a page that the table gives to a half stands among the pages of that half
pub half-standing : (t : Tables) (n : ℕ) → HasOneOwner n (view_of t).host → OwnersTell t.owners t.queues t.records → (q : ℕ) (half : Half) (p : ℕ) → p < n → owner_at t.owners p ≡ Some (Queue q half)
    → (x : declared.Queue) × (slice_get t.queues q ≡ Some x) × (is_among (half_of half x) p ≡ true)
half-standing t n owned-by tells q half p l o = elim (cases_lt 0 (times p (state_of t).host.free)) [
  | inl f ↦ let e : Queue q half ≡ Free = some_is (sym o ∙ free-owner t.owners p f) in absurd cc
  | inr f ↦ elim (cases_lt 0 (total (in_queue p) (state_of t).host.queues)) [
    | inl c ↦
        let s = half-of t tells p c in
        let e : Queue q half ≡ Queue (0 + s.place) s.half = some_is (sym o ∙ s.owner) in
        let eh : s.half ≡ half = cc in
        let eq : s.place ≡ q = let e' : q ≡ 0 + s.place = cc in omega (arith, e') in
        (s.queue, ap (λ (j : ℕ). slice_get t.queues j) (sym eq) ∙ s.at, subst (λ (h : Half). is_among (half_of h s.queue) p ≡ true) eh s.among)
    | inr c ↦
        let once : owned p (view_of t).host ≡ 1 = sym (owned_is p (view_of t).host) ∙ (owned-by p ∙ ap one (lt-ltb p n l)) in
        let r = record-owner t.owners t.records tells.commands_told p (omega (arith, once)) in
        let e : Queue q half ≡ Command r.0 r.1 r.2 = some_is (sym o ∙ r.3) in absurd cc
  ]
]

pub half-owned : (t : Tables) (n : ℕ) → HasOneOwner n (view_of t).host → OwnersTell t.owners t.queues t.records → (q : ℕ) (half : Half) (x : declared.Queue) → slice_get t.queues q ≡ Some x
    → OwnsHalf t.owners n q half x
half-owned t n owned-by tells q half x at p l = elim (cases_Bool (is_among (half_of half x) p)) [
  | inl e ↦ rw (e, half-told t.owners q half x (tells.queues_told q x at) p e, eq-eqb q q refl, self-half half) refl
  | inr e ↦ rw e (false_from_ne_true (is_owned_at (is_half q half) t.owners p) (λ f.
      let s = half-standing t n owned-by tells q half p l (named (owner_at t.owners p) refl f) in
      true≢false (sym (subst (λ (y : declared.Queue). is_among (half_of half y) p ≡ true) (some_is (sym s.1 ∙ at)) s.2) ∙ e)))
]
  where
    named : (o : Option Owner) → owner_at t.owners p ≡ o → option_map_or (is_half q half) o false ≡ true → owner_at t.owners p ≡ Some (Queue q half)
    named (Some (Queue k h)) at h' = let both = and_parts (k == q) (is_same_half h half) h' in rw (← eqb-true k q both.0, ← same-half h half both.1) at
    named o at h' = absurd cc

-- A half that is there has the pages starting at its first.

pub half-from : (half : Half) (x : declared.Queue) → has_half half x.state ≡ true → half_of half x ≡ pages_from (first_page_of half x.host) (half_pages x.host.entries half)
half-from Submission x live = rw live refl
half-from Completion x live = rw live refl

pub half-lists : (t : Tables) → IsHost t → (q : ℕ) (half : Half) (x : declared.Queue) → slice_get t.queues q ≡ Some x → ListsAll (is_half q half) t.owners (half_of half x)
half-lists t h q half x at =
    record {
      within = λ i d l.
          let p : ℕ = get_or (half_of half x) i d in
          slice_get_within t.owners p (Queue q half) (half-told t.owners q half x (h.table.owners.queues_told q x at) p (times-some p (half_of half x) (times-at (half_of half x) i d l)));
      lists = λ p l. sym (half-owned t (length t.owners) h.sound.owners h.table.owners q half x at p l);
    }

pub half-listed : (t : Tables) → IsHost t → (q : ℕ) (half : Half) (x : declared.Queue) → slice_get t.queues q ≡ Some x → has_half half x.state ≡ true
    → ListsAll (is_half q half) t.owners (pages_from (first_page_of half x.host) (half_pages t.entries half))
half-listed t h q half x at live =
    let pages = half-from half x live ∙ ap (λ (n : ℕ). pages_from (first_page_of half x.host) (half_pages n half)) (h.rings.each q x at).entries in
    subst (λ (ps : List ℕ). ListsAll (is_half q half) t.owners ps) pages (half-lists t h q half x at)

pub half-there : (t : Tables) → IsHost t → (q : ℕ) (half : Half) (x : declared.Queue) → slice_get t.queues q ≡ Some x → has_half half x.state ≡ true → HasHalf t q half
half-there t h q half x at live = record { queue = x; at = at; lists = half-listed t h q half x at live }

-- what is not the half's keeps its owner
pub owner-stays : (owners : List Owner) (named : Owner → Bool) (p : ℕ) (x : Owner) → named x ≡ false → owner_at owners p ≡ Some x → owner_at (given_back named owners) p ≡ Some x
owner-stays owners named p x other at =
    slice_get-map (λ (o : Owner). if named o then Free else o) owners p
    ∙ (ap (option_map (λ (o : Owner). if named o then Free else o)) at ∙ ap (λ b. Some (if b then Free else x)) other)

pub other-half : (q k : ℕ) (half h : Half) → (k ≡ q → ⊥) → is_half q half (Queue k h) ≡ false
other-half q k half h far = ap (λ (b : Bool). b && is_same_half h half) (ne_eqb k q far)

pub others-told : (owners : List Owner) (q k : ℕ) (half : Half) (x : declared.Queue) → (k ≡ q → ⊥) → TellsQueue owners k x → TellsQueue (given_back (is_half q half) owners) k x
others-told owners q k half x far told =
    record {
      submission = λ p h. owner-stays owners (is_half q half) p (Queue k Submission) (other-half q k half Submission far) (told.submission p h);
      completion = λ p h. owner-stays owners (is_half q half) p (Queue k Completion) (other-half q k half Completion far) (told.completion p h);
    }

pub commands-told : (owners : List Owner) (q : ℕ) (half : Half) (rs : List Record) → AllByRecursion (TellsCommand owners) rs → AllByRecursion (TellsCommand (given_back (is_half q half) owners)) rs
commands-told owners q half [] all = tt
commands-told owners q half (r ∷ rs) all = (
  record {
    data_pages = λ p h. owner-stays owners (is_half q half) p _ refl (all.0.data_pages p h);
    chain_pages = λ p h. owner-stays owners (is_half q half) p _ refl (all.0.chain_pages p h);
  },
  commands-told owners q half rs all.1,
)

-- The pages of a run are made zero, one after the other.

one-more : (p end : ℕ) → p < end → end - p ≡ suc (end - (p + 1))
one-more p end l = omega arith

pub zeroed-next : (p end : ℕ) (m m' all : Pages) → p < end → m' ≡ slice_set m p (Some zero_page) → with_pages (zeroed_pages (pages_from p (end - p))) m ≡ all
    → with_pages (zeroed_pages (pages_from (p + 1) (end - (p + 1)))) m' ≡ all
zeroed-next p end m m' all l is h =
    ap (with_pages (zeroed_pages (pages_from (p + 1) (end - (p + 1))))) is
    ∙ subst (λ (n : ℕ). with_pages (zeroed_pages (pages_from p n)) m ≡ all) (one-more p end l) h

pub can-next : (p end : ℕ) (m m' : Pages) → p < end → m' ≡ slice_set m p (Some zero_page) → CanZero (pages_from p (end - p)) m → CanZero (pages_from (p + 1) (end - (p + 1))) m'
can-next p end m m' l is h =
    let both = subst (λ (n : ℕ). CanZero (pages_from p n) m) (one-more p end l) h in
    subst (λ (x : Pages). CanZero (pages_from (p + 1) (end - (p + 1))) x) (sym is) both.1

pub first-there : (p end : ℕ) (m : Pages) → p < end → CanZero (pages_from p (end - p)) m → IsSome (page_at m p)
first-there p end m l h = (subst (λ (n : ℕ). CanZero (pages_from p n) m) (one-more p end l) h).0

-- A page that was in is out once it is taken, and put back as one of zeros it is made zero.
out-there : (m : Pages) (p : ℕ) → IsSome (page_at m p) → slice_get (slice_set m p None) p ≡ Some None
out-there [] p h = absurd (true≢false (sym h))
out-there (z ∷ m) zero h = refl
out-there (z ∷ m) (suc p) h = out-there m p h

pub taken-out : (m m' : Pages) (p : ℕ) → IsSome (page_at m p) → m' ≡ slice_set m p None → slice_get m' p ≡ Some None
taken-out m m' p h out = ap (λ (x : Pages). slice_get x p) out ∙ out-there m p h

pub put-zeroed : (m m' m'' : Pages) (p : ℕ) (page : ℕ × List ℕ) → m' ≡ slice_set m p None → page ≡ (p, zero_page) → m'' ≡ slice_set m' page.0 (Some page.1) → m'' ≡ slice_set m p (Some zero_page)
put-zeroed m m' m'' p page out blank back =
    back ∙ (ap (λ (x : ℕ × List ℕ). slice_set m' x.0 (Some x.1)) blank ∙ (ap (λ (x : Pages). slice_set x p (Some zero_page)) out ∙ set-set m p None (Some zero_page)))
