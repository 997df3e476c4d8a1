-- Tables of owners: what a write, a grant and a give-back leave at each page, and of each class.
use Rattle.std.proofs.Common.{◌≡◌, ◌≢◌, ℕ, zero, suc, ◌+◌, ◌-◌, ◌<◌, ◌≤◌, ◌⊎◌, ◌↔◌, inl, inr, Bool, true, false, cond, ◌||◌, Option, Some, None, List, [], ◌∷◌, ◌++◌, length, filter, take, drop, slice_get, slice_set, refl, ap, sym, ◌∙◌, arith, subst, append_assoc, add-one, length-set, length-append, if◌then◌else◌, All, get_or, ◌&&◌, ◌==◌, not, eqb-true, map, replicate, unwrap_or}
use Rattle.std.proofs.lemmas.{Bool.{eqb-false, cases_eq, cases_lt, cases_Bool, true≢false}, List.{drop_at, length-map, same_lists, take_all}}
use Rattle.std.proofs.lemmas.List.{Elements.{All-take, filter_passes}, Sums.{sum_by-cons, count_by_more_yes, count_by_more_no, sum_by-set}}
use Rattle.std.{proofs.lemmas.Option.{same_Some, slice_get-map, slice_get-get_or, slice_get_within, slice_get_past, unwrap_or-slice_get}, specs.List.{count_by, Contains}}
use Rattle.std.specs.Option.{option_map_or, option_map}
use Rattle.page_ledger.proofs.Pages.{filter-agree, filter-within, filter-without_first, filter-contains, filter-found, filter-gap, pages_from-more}
use Rattle.page_ledger.specs.{Counting.{is_queue_page, is_chain_page, is_data_page, counts_of, total}, Free.true_places, Lists.ListsAll}
use Rattle.page_ledger.specs.Owners.{is_among, owner_at, is_free, is_owned_at, pages_from, pages_owned, free_pages, with_owner, given_back}
use Rattle.page_ledger.specs.{Updates.{counted, one_more, one_less}, declared.owner.{Counts.Counts, Owner.{Owner, TheVariants.{Free, Queue, Command}}}}
use Rattle.page_ledger.specs.declared.owner.Role.TheVariants.{Data, Chain}
use Rattle.slot_table.specs.{Places.is_true_at, Searches.{IsFirstFrom, IsNoneFrom}}

-- Tables of owners: what a write, a grant and a give-back leave at each page.

-- the free pages lie in the pool
pub free-within : (k : ℕ) (owners : List Owner) → All (λ p. p < length owners) (take k (free_pages owners))
free-within k owners =
    All-take (λ p. p < length owners) k (free_pages owners)
    (λ i d l. let w = filter-within (is_owned_at is_free owners) 0 (length owners) i d l in omega arith)

-- what was appended to a list, read from where it began
pub appended : (start k : ℕ) (old now free : List ℕ) → start ≡ length old → now ≡ old ++ take k free → take (length now - start) (drop start now) ≡ take k free
appended start k old now free begins is =
    let behind : drop start now ≡ take k free = ap (drop start) is ∙ drop_at old (take k free) start (sym begins) in
    let size : length now ≡ start + length (take k free) = ap length is ∙ (length-append old (take k free) ∙ ap (λ n. n + length (take k free)) (sym begins)) in
    rw behind (take_all (length now - start) (take k free) (omega arith))

-- one write

pub slice_get-set_same : {X : Type 0} (xs : List X) (i : ℕ) (x : X) → i < length xs → slice_get (slice_set xs i x) i ≡ Some x
slice_get-set_same [] i x l = absurd (omega arith)
slice_get-set_same (y ∷ xs) zero x l = refl
slice_get-set_same (y ∷ xs) (suc i) x l = slice_get-set_same xs i x (omega arith)

pub slice_get-set_other : {X : Type 0} (xs : List X) (i j : ℕ) (x : X) → j ≢ i → slice_get (slice_set xs i x) j ≡ slice_get xs j
slice_get-set_other [] i j x h = refl
slice_get-set_other (y ∷ xs) zero zero x h = absurd (h refl)
slice_get-set_other (y ∷ xs) zero (suc j) x h = refl
slice_get-set_other (y ∷ xs) (suc i) zero x h = refl
slice_get-set_other (y ∷ xs) (suc i) (suc j) x h = slice_get-set_other xs i j x (λ e. h (ap suc e))

-- what is read where was written
slice_get-set_cases : {X : Type 0} (xs : List X) (i : ℕ) (x : X) → (slice_get (slice_set xs i x) i ≡ Some x) ⊎ (slice_get (slice_set xs i x) i ≡ None)
slice_get-set_cases [] i x = inr refl
slice_get-set_cases (y ∷ xs) zero x = inl refl
slice_get-set_cases (y ∷ xs) (suc i) x = slice_get-set_cases xs i x

-- the element after a prefix
slice_get-behind : {X : Type 0} (xs ys : List X) (y : X) → slice_get (xs ++ y ∷ ys) (length xs) ≡ Some y
slice_get-behind [] ys y = refl
slice_get-behind (x ∷ xs) ys y = slice_get-behind xs ys y

-- further on, the element after the prefix plays no part
slice_get-past : {X : Type 0} (xs ys : List X) (x y : X) (i : ℕ) → length xs + 1 ≤ i → slice_get (xs ++ x ∷ ys) i ≡ slice_get (xs ++ y ∷ ys) i
slice_get-past [] ys x y zero l = absurd (omega arith)
slice_get-past [] ys x y (suc i) l = refl
slice_get-past (z ∷ xs) ys x y zero l = absurd (omega arith)
slice_get-past (z ∷ xs) ys x y (suc i) l = slice_get-past xs ys x y i (omega arith)

slice_set-behind : {X : Type 0} (xs ys : List X) (x y : X) → slice_set (xs ++ y ∷ ys) (length xs) x ≡ xs ++ x ∷ ys
slice_set-behind [] ys x y = refl
slice_set-behind (z ∷ xs) ys x y = ap (λ l. z ∷ l) (slice_set-behind xs ys x y)

-- many writes

pub length-with_owner : (owners : List Owner) (pages : List ℕ) (owner : Owner) → length (with_owner owners pages owner) ≡ length owners
length-with_owner owners [] owner = refl
length-with_owner owners (p ∷ pages) owner = length-with_owner (slice_set owners p owner) pages owner ∙ length-set owners p owner

pub with_owner-append : (owners : List Owner) (a b : List ℕ) (owner : Owner) → with_owner owners (a ++ b) owner ≡ with_owner (with_owner owners a owner) b owner
with_owner-append owners [] b owner = refl
with_owner-append owners (p ∷ a) b owner = with_owner-append (slice_set owners p owner) a b owner

-- a page that has the owner keeps it
owner-stays : (owners : List Owner) (pages : List ℕ) (owner : Owner) (p : ℕ) → owner_at owners p ≡ Some owner → owner_at (with_owner owners pages owner) p ≡ Some owner
owner-stays owners [] owner p has = has
owner-stays owners (q ∷ pages) owner p has =
    owner-stays (slice_set owners q owner) pages owner p (elim (cases_eq p q) [
      | inl same ↦ rw (← same) (slice_get-set_same owners p owner (slice_get_within owners p owner has))
      | inr other ↦ slice_get-set_other owners q p owner other ∙ has
    ])

pub owner_changed : (owners : List Owner) (pages : List ℕ) (owner : Owner) (p : ℕ) → p < length owners → Contains pages p → owner_at (with_owner owners pages owner) p ≡ Some owner
owner_changed owners [] owner p within (k, l, e) = absurd (omega arith)
owner_changed owners (q ∷ pages) owner p within (zero, l, e) =
    owner-stays (slice_set owners q owner) pages owner p (subst (λ (i : ℕ). slice_get (slice_set owners i owner) p ≡ Some owner) (sym e) (slice_get-set_same owners p owner within))
owner_changed owners (q ∷ pages) owner p within (suc k, l, e) =
    owner_changed (slice_set owners q owner) pages owner p (omega (arith, length-set owners q owner)) (k, omega arith, e)

pub owner_kept : (owners : List Owner) (pages : List ℕ) (owner : Owner) (p : ℕ) → (Contains pages p → ⊥) → owner_at (with_owner owners pages owner) p ≡ owner_at owners p
owner_kept owners [] owner p other = refl
owner_kept owners (q ∷ pages) owner p other =
    owner_kept (slice_set owners q owner) pages owner p (λ (k, l, e). other (suc k, omega arith, e))
    ∙ slice_get-set_other owners q p owner (λ same. other (0, omega arith, sym same))

-- the pages listed are those whose owner passes

owned-within : (test : Owner → Bool) (owners : List Owner) (p : ℕ) → is_owned_at test owners p ≡ true → p < length owners
owned-within test owners p holds = elim (cases_lt p (length owners)) [
  | inl within ↦ within
  | inr past ↦ absurd (true≢false (sym holds ∙ ap (λ o. option_map_or test o false) (slice_get_past owners p past)))
]

pub owned_listed : (test : Owner → Bool) (owners : List Owner) (p : ℕ) → Contains (pages_owned test owners) p ↔ (is_owned_at test owners p ≡ true)
owned_listed test owners p = (forth, λ holds. filter-contains (is_owned_at test owners) 0 (length owners) p (omega arith) (omega (arith, owned-within test owners p holds)) holds)
  where
    forth : Contains (pages_owned test owners) p → is_owned_at test owners p ≡ true
    forth (k, l, e) = subst (λ (i : ℕ). is_owned_at test owners i ≡ true) e (filter_passes (is_owned_at test owners) (pages_from 0 (length owners)) k p l)

-- one page more of a run
pub with_owner-more : (owners now : List Owner) (p i : ℕ) (owner : Owner) → now ≡ with_owner owners (pages_from p i) owner → slice_set now (p + i) owner ≡ with_owner owners (pages_from p (i + 1)) owner
with_owner-more owners now p i owner is =
    ap (λ (l : List Owner). slice_set l (p + i) owner) is
    ∙ (sym (with_owner-append owners (pages_from p i) ((p + i) ∷ []) owner) ∙ ap (λ l. with_owner owners l owner) (sym (pages_from-more p i)))

-- a walk over a table after a prefix, where the prefix plays no part
walk : (Owner → Bool) → List Owner → List Owner → List ℕ
walk test front owners = filter (is_owned_at test (front ++ owners)) (pages_from (length front) (length owners))

walk-cons : (test : Owner → Bool) (front owners : List Owner) (owner : Owner) → walk test front (owner ∷ owners) ≡ cond (test owner) (length front ∷ walk test (front ++ owner ∷ []) owners) (walk test (front ++ owner ∷ []) owners)
unfolding walk
walk-cons test front owners owner =
    ap (λ c. cond c (length front ∷ rest) rest) (ap (λ o. option_map_or test o false) (slice_get-behind front owners owner))
    ∙ ap (λ l. cond (test owner) (length front ∷ l) l) moved
  where
    rest : List ℕ
    rest = filter (is_owned_at test (front ++ owner ∷ owners)) (pages_from (length front + 1) (length owners))

    moved : rest ≡ walk test (front ++ owner ∷ []) owners
    moved = ap (λ (l : List Owner). filter (is_owned_at test l) (pages_from (length front + 1) (length owners))) (sym (append_assoc front (owner ∷ []) owners))
        ∙ ap (λ (n : ℕ). filter (is_owned_at test ((front ++ owner ∷ []) ++ owners)) (pages_from n (length owners))) (sym (length-append front (owner ∷ [])))

-- how many pages pass is how many owners do
walk-count : (test : Owner → Bool) (front owners : List Owner) → length (walk test front owners) ≡ count_by test owners
unfolding walk
walk-count test front [] = refl
walk-count test front (owner ∷ owners) =
    let ih = walk-count test (front ++ owner ∷ []) owners in
    let rest = walk test (front ++ owner ∷ []) owners in
    ap length (walk-cons test front owners owner)
    ∙ ((elim (test owner) as (λ c. length (cond c (length front ∷ rest) rest) ≡ cond c 1 0 + count_by test owners) [ true ↦ omega arith | false ↦ omega arith ])
    ∙ sym (sum_by-cons (λ o. cond (test o) 1 0) owner owners))

pub length-pages_owned : (test : Owner → Bool) (owners : List Owner) → length (pages_owned test owners) ≡ count_by test owners
unfolding walk
length-pages_owned test owners = walk-count test [] owners

-- a give-back writes only at the pages of the named owners
given-walk : (named : Owner → Bool) (front owners : List Owner) → with_owner (front ++ owners) (walk named front owners) Free ≡ front ++ given_back named owners
unfolding walk
given-walk named front [] = refl
given-walk named front (owner ∷ owners) =
    ap (λ l. with_owner (front ++ owner ∷ owners) l Free) (walk-cons named front owners owner)
    ∙ by_owner (named owner) (λ (o : Owner). given-walk named (front ++ o ∷ []) owners)
  where
    same : (o : Owner) → walk named (front ++ owner ∷ []) owners ≡ walk named (front ++ o ∷ []) owners
    same o =
        ap (λ (l : List Owner). filter (is_owned_at named l) (pages_from (length (front ++ owner ∷ [])) (length owners))) (append_assoc front (owner ∷ []) owners)
        ∙ (filter-agree (is_owned_at named (front ++ owner ∷ owners)) (is_owned_at named (front ++ o ∷ owners)) (length (front ++ owner ∷ [])) (length owners)
        (λ p low high. ap (λ x. option_map_or named x false) (slice_get-past front owners owner o p (omega (arith, length-append front (owner ∷ [])))))
        ∙ (ap (λ (l : List Owner). filter (is_owned_at named l) (pages_from (length (front ++ owner ∷ [])) (length owners))) (sym (append_assoc front (o ∷ []) owners))
        ∙ ap (λ (n : ℕ). filter (is_owned_at named ((front ++ o ∷ []) ++ owners)) (pages_from n (length owners))) (length-append front (owner ∷ []) ∙ sym (length-append front (o ∷ [])))))

    behind : (o : Owner) → with_owner ((front ++ o ∷ []) ++ owners) (walk named (front ++ o ∷ []) owners) Free ≡ (front ++ o ∷ []) ++ given_back named owners
        → with_owner (front ++ o ∷ owners) (walk named (front ++ o ∷ []) owners) Free ≡ front ++ o ∷ given_back named owners
    behind o ih = ap (λ l. with_owner l (walk named (front ++ o ∷ []) owners) Free) (sym (append_assoc front (o ∷ []) owners)) ∙ (ih ∙ append_assoc front (o ∷ []) (given_back named owners))

    by_owner : (c : Bool) → ((o : Owner) → with_owner ((front ++ o ∷ []) ++ owners) (walk named (front ++ o ∷ []) owners) Free ≡ (front ++ o ∷ []) ++ given_back named owners)
        → with_owner (front ++ owner ∷ owners) (cond c (length front ∷ walk named (front ++ owner ∷ []) owners) (walk named (front ++ owner ∷ []) owners)) Free
        ≡ front ++ (if c then Free else owner) ∷ given_back named owners
    by_owner true ih =
        ap (λ l. with_owner l (walk named (front ++ owner ∷ []) owners) Free) (slice_set-behind front owners Free owner)
        ∙ (ap (λ l. with_owner (front ++ Free ∷ owners) l Free) (same Free) ∙ behind Free (ih Free))
    by_owner false ih = behind owner (ih owner)

pub given_back_is : (named : Owner → Bool) (owners : List Owner) → given_back named owners ≡ with_owner owners (pages_owned named owners) Free
unfolding walk
given_back_is named owners = sym (given-walk named [] owners)

-- the free pages after a give-back
pub free_given_back : (named : Owner → Bool) (owners : List Owner) → free_pages (given_back named owners) ≡ pages_owned (λ owner. is_free owner || named owner) owners
free_given_back named owners =
    ap (λ (n : ℕ). filter (is_owned_at is_free (given_back named owners)) (pages_from 0 n)) (length-map owners (λ owner. if named owner then Free else owner))
    ∙ filter-agree (is_owned_at is_free (given_back named owners)) (is_owned_at (λ owner. is_free owner || named owner) owners) 0 (length owners)
    (λ p low high. ap (λ o. option_map_or is_free o false) (slice_get-map (λ owner. if named owner then Free else owner) owners p) ∙ here (slice_get owners p))
  where
    here : (o : Option Owner) → option_map_or is_free (option_map (λ owner. if named owner then Free else owner) o) false ≡ option_map_or (λ owner. is_free owner || named owner) o false
    here None = refl
    here (Some owner) = grind arith

-- the free pages after a grant
pub free_granted : (k : ℕ) (owner : Owner) (owners : List Owner) → is_free owner ≡ false → free_pages (with_owner owners (take k (free_pages owners)) owner) ≡ drop k (free_pages owners)
free_granted zero owner owners busy = refl
free_granted (suc k) owner owners busy = by_free_pages (free_pages owners) refl (λ (l : List Owner). free_granted k owner l busy)
  where
    by_free_pages : (free : List ℕ) → free_pages owners ≡ free → ((l : List Owner) → free_pages (with_owner l (take k (free_pages l)) owner) ≡ drop k (free_pages l))
        → free_pages (with_owner owners (take (suc k) free) owner) ≡ drop (suc k) free
    by_free_pages [] e ih = e
    by_free_pages (p ∷ rest) e ih =
        ap (λ l. free_pages (with_owner (slice_set owners p owner) (take k l) owner)) (sym left) ∙ (ih (slice_set owners p owner) ∙ ap (drop k) left)
      where
        taken : is_owned_at is_free (slice_set owners p owner) p ≡ false
        taken = elim (slice_get-set_cases owners p owner) [
          | inl some ↦ ap (λ x. option_map_or is_free x false) some ∙ busy
          | inr none ↦ ap (λ x. option_map_or is_free x false) none
        ]

        left : free_pages (slice_set owners p owner) ≡ rest
        left = ap (λ (n : ℕ). filter (is_owned_at is_free (slice_set owners p owner)) (pages_from 0 n)) (length-set owners p owner)
            ∙ filter-without_first (is_owned_at is_free owners) (is_owned_at is_free (slice_set owners p owner)) 0 (length owners) p rest e taken
            (λ q other. ap (λ x. option_map_or is_free x false) (slice_get-set_other owners p q owner other))

-- a give-back as far as the page before p
abbrev pub given_below : (Owner → Bool) → ℕ → List Owner → List Owner
given_below named zero owners = owners
given_below named (suc p) [] = []
given_below named (suc p) (owner ∷ owners) = (if named owner then Free else owner) ∷ given_below named p owners

pub given_below-all : (named : Owner → Bool) (n : ℕ) (owners : List Owner) → n ≡ length owners → given_below named n owners ≡ given_back named owners
given_below-all named zero [] e = refl
given_below-all named zero (owner ∷ owners) e = absurd (omega arith)
given_below-all named (suc n) [] e = refl
given_below-all named (suc n) (owner ∷ owners) e = ap (λ l. (if named owner then Free else owner) ∷ l) (given_below-all named n owners (omega arith))

-- the page p is not examined yet
pub given_below-here : (named : Owner → Bool) (p : ℕ) (owners : List Owner) → slice_get (given_below named p owners) p ≡ slice_get owners p
given_below-here named zero owners = refl
given_below-here named (suc p) [] = refl
given_below-here named (suc p) (owner ∷ owners) = given_below-here named p owners

given_below-freed : (named : Owner → Bool) (p : ℕ) (owners : List Owner) (owner : Owner) → slice_get owners p ≡ Some owner → named owner ≡ true
    → slice_set (given_below named p owners) p Free ≡ given_below named (suc p) owners
given_below-freed named zero [] owner found holds = refl
given_below-freed named zero (x ∷ owners) owner found holds =
    let same : x ≡ owner = cc in
    ap (λ c. (if c then Free else x) ∷ owners) (sym holds ∙ ap named (sym same))
given_below-freed named (suc p) [] owner found holds = refl
given_below-freed named (suc p) (x ∷ owners) owner found holds = ap (λ l. (if named x then Free else x) ∷ l) (given_below-freed named p owners owner found holds)

given_below-kept : (named : Owner → Bool) (p : ℕ) (owners : List Owner) (owner : Owner) → slice_get owners p ≡ Some owner → named owner ≡ false
    → given_below named p owners ≡ given_below named (suc p) owners
given_below-kept named zero [] owner found fails = refl
given_below-kept named zero (x ∷ owners) owner found fails =
    let same : x ≡ owner = cc in
    ap (λ c. (if c then Free else x) ∷ owners) (sym fails ∙ ap named (sym same))
given_below-kept named (suc p) [] owner found fails = refl
given_below-kept named (suc p) (x ∷ owners) owner found fails = ap (λ l. (if named x then Free else x) ∷ l) (given_below-kept named p owners owner found fails)

-- one page more of the walk
pub given_below-yes : (named : Owner → Bool) (p : ℕ) (owners now : List Owner) (owner : Owner) → now ≡ given_below named p owners → owner_at now p ≡ Some owner → named owner ≡ true
    → slice_set now p Free ≡ given_below named (p + 1) owners
given_below-yes named p owners now owner is found holds =
    ap (λ (l : List Owner). slice_set l p Free) is
    ∙ (given_below-freed named p owners owner (sym (given_below-here named p owners) ∙ (ap (λ (l : List Owner). slice_get l p) (sym is) ∙ found)) holds
    ∙ rw (add-one) refl)

pub given_below-none : (named : Owner → Bool) (p : ℕ) (owners now : List Owner) (owner : Owner) → now ≡ given_below named p owners → owner_at now p ≡ Some owner → named owner ≡ false
    → now ≡ given_below named (p + 1) owners
given_below-none named p owners now owner is found fails =
    is ∙ (given_below-kept named p owners owner (sym (given_below-here named p owners) ∙ (ap (λ (l : List Owner). slice_get l p) (sym is) ∙ found)) fails
    ∙ rw (add-one) refl)

read : (named : Owner → Bool) (p : ℕ) (owners now : List Owner) (owner : Owner) → now ≡ given_below named p owners → p < length owners → owner_at now p ≡ Some owner → get_or owners p owner ≡ owner
read named p owners now owner is within found =
    same_Some (get_or owners p owner) owner (sym (slice_get-get_or owners p owner within)
    ∙ (sym (given_below-here named p owners) ∙ (ap (λ (l : List Owner). slice_get l p) (sym is) ∙ found)))

-- how many pages are freed, one page more
pub number-yes : (named : Owner → Bool) (p : ℕ) (owners now : List Owner) (owner : Owner) → now ≡ given_below named p owners → p < length owners → owner_at now p ≡ Some owner → named owner ≡ true
    → count_by named (take (p + 1) owners) ≡ count_by named (take p owners) + 1
number-yes named p owners now owner is within found holds =
    count_by_more_yes named owners p owner within (ap named (read named p owners now owner is within found) ∙ holds)

pub number-none : (named : Owner → Bool) (p : ℕ) (owners now : List Owner) (owner : Owner) → now ≡ given_below named p owners → p < length owners → owner_at now p ≡ Some owner → named owner ≡ false
    → count_by named (take (p + 1) owners) ≡ count_by named (take p owners)
number-none named p owners now owner is within found fails =
    count_by_more_no named owners p owner within (ap named (read named p owners now owner is within found) ∙ fails)

-- the owner of each page after a grant
pub owner-with : (owners : List Owner) (pages : List ℕ) (owner : Owner) (p : ℕ) → p < length owners
    → owner_at (with_owner owners pages owner) p ≡ (if is_among pages p then Some owner else owner_at owners p)
owner-with owners [] owner p within = refl
owner-with owners (q ∷ pages) owner p within =
    owner-with (slice_set owners q owner) pages owner p (omega (arith, length-set owners q owner)) ∙ elim (cases_Bool (q == p)) [
      | inl same ↦
          let here : owner_at (slice_set owners q owner) p ≡ Some owner = rw (eqb-true q p same) (slice_get-set_same owners p owner within) in
          rw same (elim (is_among pages p) as (λ c. (if c then Some owner else owner_at (slice_set owners q owner) p) ≡ Some owner) [ true ↦ refl | false ↦ here ])
      | inr other ↦
          rw other (ap (λ o. if is_among pages p then Some owner else o) (slice_get-set_other owners q p owner (λ same. eqb-false q p other (sym same))))
    ]

filter-filter : {X : Type 0} (f g : X → Bool) (xs : List X) → filter g (filter f xs) ≡ filter (λ x. f x && g x) xs
filter-filter f g [] = refl
filter-filter f g (x ∷ xs) = elim (cases_Bool (f x)) [
  | inl passes ↦ rw passes (ap (λ l. cond (g x) (x ∷ l) l) (filter-filter f g xs))
  | inr fails ↦ rw fails (filter-filter f g xs)
]

-- the free pages after any pages got an owner
pub free-others : (pages : List ℕ) (owner : Owner) (owners : List Owner) → is_free owner ≡ false
    → free_pages (with_owner owners pages owner) ≡ filter (λ p. not (is_among pages p)) (free_pages owners)
free-others pages owner owners busy =
    ap (λ (n : ℕ). filter (is_owned_at is_free (with_owner owners pages owner)) (pages_from 0 n)) (length-with_owner owners pages owner)
    ∙ (filter-agree (is_owned_at is_free (with_owner owners pages owner)) (λ p. is_owned_at is_free owners p && not (is_among pages p)) 0 (length owners)
    (λ p low high. ap (λ o. option_map_or is_free o false) (owner-with owners pages owner p (omega arith)) ∙ by_presence p (is_among pages p))
    ∙ sym (filter-filter (is_owned_at is_free owners) (λ p. not (is_among pages p)) (pages_from 0 (length owners))))
  where
    by_presence : (p : ℕ) (c : Bool) → option_map_or is_free (if c then Some owner else owner_at owners p) false ≡ (is_owned_at is_free owners p && not c)
    by_presence p true = grind (arith, busy)
    by_presence p false = grind arith

-- the free pages by a Bool for each page

pub flag-free : (owners : List Owner) (p : ℕ) → is_true_at (map is_free owners) p ≡ is_owned_at is_free owners p
flag-free [] p = refl
flag-free (owner ∷ owners) zero = refl
flag-free (owner ∷ owners) (suc p) = flag-free owners p

pub flags-free : (n : ℕ) → map is_free (replicate n Free) ≡ replicate n true
flags-free zero = refl
flags-free (suc n) = ap (λ l. true ∷ l) (flags-free n)

pub true_places-free : (owners : List Owner) → true_places (map is_free owners) ≡ free_pages owners
true_places-free owners =
    ap (λ (n : ℕ). filter (is_true_at (map is_free owners)) (pages_from 0 n)) (length-map owners is_free)
    ∙ filter-agree (is_true_at (map is_free owners)) (is_owned_at is_free owners) 0 (length owners) (λ p low high. flag-free owners p)

-- the search from one free page to the next

pub flags-agree : (flags : List Bool) (owners : List Owner) → flags ≡ map is_free owners → (p : ℕ) → is_true_at flags p ≡ is_owned_at is_free owners p
flags-agree flags owners is p = ap (λ l. is_true_at l p) is ∙ flag-free owners p

pub free-next : (flags : List Bool) (owners : List Owner) (from p : ℕ) → flags ≡ map is_free owners → IsFirstFrom (is_true_at flags) from p
    → filter (is_owned_at is_free owners) (pages_from 0 (p + 1)) ≡ filter (is_owned_at is_free owners) (pages_from 0 from) ++ p ∷ []
free-next flags owners from p is first =
    filter-found (is_owned_at is_free owners) from p first.after (λ q low high. sym (flags-agree flags owners is q) ∙ first.before q low high)
    (sym (flags-agree flags owners is p) ∙ first.passes)

pub free-no_more : (flags : List Bool) (owners : List Owner) (from : ℕ) → flags ≡ map is_free owners → IsNoneFrom (is_true_at flags) from → from ≤ length owners
    → free_pages owners ≡ filter (is_owned_at is_free owners) (pages_from 0 from)
free-no_more flags owners from is none inside =
    filter-gap (is_owned_at is_free owners) from (length owners) inside (λ q low high. sym (flags-agree flags owners is q) ∙ none.fails q low)

-- pages that a caller lists

-- to free the listed pages is to give back those of their owners
pub given_back-listed : (test : Owner → Bool) (owners : List Owner) (pages : List ℕ) → ListsAll test owners pages → with_owner owners pages Free ≡ given_back test owners
given_back-listed test owners pages listed =
    same_lists (with_owner owners pages Free) (given_back test owners) (length-with_owner owners pages Free ∙ sym (length-map owners (λ owner. if test owner then Free else owner)))
    (λ p d l.
    let within : p < length owners = omega (arith, length-with_owner owners pages Free) in
    sym (unwrap_or-slice_get (with_owner owners pages Free) p d)
    ∙ (ap (λ o. unwrap_or o d) (owner-with owners pages Free p within ∙ (ap (λ c. if c then Some Free else owner_at owners p) (listed.lists p within)
    ∙ (here (owner_at owners p) ∙ sym (slice_get-map (λ owner. if test owner then Free else owner) owners p))))
    ∙ unwrap_or-slice_get (given_back test owners) p d))
  where
    here : (o : Option Owner) → (if option_map_or test o false then Some Free else o) ≡ option_map (λ owner. if test owner then Free else owner) o
    here None = refl
    here (Some owner) = elim (test owner) as (λ c. (if c then Some Free else Some owner) ≡ Some (if c then Free else owner)) [ true ↦ refl | false ↦ refl ]

-- How many pages each class has, before and after a write.

abbrev one : Bool → ℕ
one c = cond c 1 0

-- the classes are four, and each page has one

one_class : (owner : Owner) → one (is_free owner) + one (is_queue_page owner) + one (is_chain_page owner) + one (is_data_page owner) ≡ 1
one_class (Command q cid Data) = refl
one_class o = refl

count-cons : (test : Owner → Bool) (owner : Owner) (owners : List Owner) → count_by test (owner ∷ owners) ≡ one (test owner) + count_by test owners
count-cons test owner owners = sum_by-cons (λ o. cond (test o) 1 0) owner owners

add_up : (owners : List Owner) → count_by is_free owners + count_by is_queue_page owners + count_by is_chain_page owners + count_by is_data_page owners ≡ length owners
add_up [] = refl
add_up (owner ∷ owners) =
    omega (arith, count-cons is_free owner owners, count-cons is_queue_page owner owners, count-cons is_chain_page owner owners, count-cons is_data_page owner owners, one_class owner, add_up owners)

pub counts_sum : (owners : List Owner) → total (counts_of owners) ≡ length owners
counts_sum owners =
    omega (arith, add_up owners, length-pages_owned is_free owners, length-pages_owned is_queue_page owners, length-pages_owned is_chain_page owners, length-pages_owned is_data_page owners)

-- an owner in the table is counted
present : (test : Owner → Bool) (owners : List Owner) (p : ℕ) (before : Owner) → p < length owners → before ≡ get_or owners p before → test before ≡ true → 0 < count_by test owners
present test [] p before within read holds = absurd (omega arith)
present test (owner ∷ owners) zero before within read holds = omega (arith, count-cons test owner owners, ap one (ap test (sym read) ∙ holds))
present test (owner ∷ owners) (suc p) before within read holds = omega (arith, count-cons test owner owners, present test owners p before (omega arith) read holds)

-- a write takes a page from the class of its old owner, and adds it to that of its new owner

changed : (test : Owner → Bool) (owners : List Owner) (p : ℕ) (owner before : Owner) → p < length owners → before ≡ get_or owners p before
    → length (pages_owned test (slice_set owners p owner)) + one (test before) ≡ length (pages_owned test owners) + one (test owner)
changed test owners p owner before within read =
    omega (arith, length-pages_owned test (slice_set owners p owner), length-pages_owned test owners, sum_by-set (λ o. one (test o)) owners p owner before within, ap {B = ℕ} (λ o. one (test o)) read)

same_counts : (a b : Counts) → a.free_pages ≡ b.free_pages → a.queue_pages ≡ b.queue_pages → a.chain_pages ≡ b.chain_pages → a.data_pages ≡ b.data_pages → a ≡ b
same_counts a b free queue chain held =
    ap (λ (n : ℕ). record a { free_pages = n }) free
    ∙ (ap (λ (n : ℕ). record a { free_pages = b.free_pages; queue_pages = n }) queue
    ∙ (ap (λ (n : ℕ). record a { free_pages = b.free_pages; queue_pages = b.queue_pages; chain_pages = n }) chain
    ∙ ap (λ (n : ℕ). record b { data_pages = n }) held))

less-free : (c : Counts) (o : Owner) → (one_less c o).free_pages ≡ c.free_pages - one (is_free o)
less-free c Free = refl
less-free c (Command q cid Data) = omega arith
less-free c o = omega arith

less-queue : (c : Counts) (o : Owner) → (one_less c o).queue_pages ≡ c.queue_pages - one (is_queue_page o)
less-queue c (Queue q half) = refl
less-queue c (Command q cid Data) = omega arith
less-queue c o = omega arith

less-chain : (c : Counts) (o : Owner) → (one_less c o).chain_pages ≡ c.chain_pages - one (is_chain_page o)
less-chain c (Command q cid Chain) = refl
less-chain c o = omega arith

less-data : (c : Counts) (o : Owner) → (one_less c o).data_pages ≡ c.data_pages - one (is_data_page o)
less-data c (Command q cid Data) = refl
less-data c o = omega arith

more-free : (c : Counts) (o : Owner) → (one_more c o).free_pages ≡ c.free_pages + one (is_free o)
more-free c Free = refl
more-free c (Command q cid Data) = omega arith
more-free c o = omega arith

more-queue : (c : Counts) (o : Owner) → (one_more c o).queue_pages ≡ c.queue_pages + one (is_queue_page o)
more-queue c (Queue q half) = refl
more-queue c (Command q cid Data) = omega arith
more-queue c o = omega arith

more-chain : (c : Counts) (o : Owner) → (one_more c o).chain_pages ≡ c.chain_pages + one (is_chain_page o)
more-chain c (Command q cid Chain) = refl
more-chain c o = omega arith

more-data : (c : Counts) (o : Owner) → (one_more c o).data_pages ≡ c.data_pages + one (is_data_page o)
more-data c (Command q cid Data) = refl
more-data c o = omega arith

held_in : (test : Owner → Bool) (owners : List Owner) (p : ℕ) (before : Owner) → p < length owners → before ≡ get_or owners p before → one (test before) ≤ length (pages_owned test owners)
held_in test owners p before within read = elim (cases_Bool (test before)) [
  | inl holds ↦ rw holds (omega (arith, present test owners p before within read holds, length-pages_owned test owners))
  | inr fails ↦ rw fails (omega arith)
]

moved : (was now less more old new : ℕ) → old ≤ was → now + old ≡ was + new → less ≡ was - old → more ≡ less + new → now ≡ more
moved was now less more old new some change down up = omega arith

pub counts-set : (owners : List Owner) (p : ℕ) (owner before : Owner) → p < length owners → before ≡ get_or owners p before
    → counts_of (slice_set owners p owner) ≡ one_more (one_less (counts_of owners) before) owner
counts-set owners p owner before within read =
    same_counts (counts_of (slice_set owners p owner)) (one_more (one_less (counts_of owners) before) owner)
    (moved _ _ _ _ _ _ (held_in is_free owners p before within read) (changed is_free owners p owner before within read)
    (less-free (counts_of owners) before) (more-free (one_less (counts_of owners) before) owner))
    (moved _ _ _ _ _ _ (held_in is_queue_page owners p before within read) (changed is_queue_page owners p owner before within read)
    (less-queue (counts_of owners) before) (more-queue (one_less (counts_of owners) before) owner))
    (moved _ _ _ _ _ _ (held_in is_chain_page owners p before within read) (changed is_chain_page owners p owner before within read)
    (less-chain (counts_of owners) before) (more-chain (one_less (counts_of owners) before) owner))
    (moved _ _ _ _ _ _ (held_in is_data_page owners p before within read) (changed is_data_page owners p owner before within read)
    (less-data (counts_of owners) before) (more-data (one_less (counts_of owners) before) owner))

-- the class of a page's owner has a page
pub counted-some : (owners : List Owner) (p : ℕ) (before : Owner) → p < length owners → before ≡ get_or owners p before → 0 < counted (counts_of owners) before
counted-some owners p Free l e = omega (arith, present is_free owners p Free l e refl, length-pages_owned is_free owners)
counted-some owners p (Queue q half) l e = omega (arith, present is_queue_page owners p (Queue q half) l e refl, length-pages_owned is_queue_page owners)
counted-some owners p (Command q cid Data) l e = omega (arith, present is_data_page owners p (Command q cid Data) l e refl, length-pages_owned is_data_page owners)
counted-some owners p (Command q cid Chain) l e = omega (arith, present is_chain_page owners p (Command q cid Chain) l e refl, length-pages_owned is_chain_page owners)

counted-le : (c : Counts) (o : Owner) → counted c o ≤ total c
counted-le c (Command q cid Data) = omega arith
counted-le c o = omega arith

total-less : (c : Counts) (o : Owner) → 0 < counted c o → total (one_less c o) + 1 ≡ total c
total-less c (Command q cid Data) some = omega arith
total-less c o some = omega arith

-- with one page less, each class has fewer pages than the pool
pub counted-few : (owners : List Owner) (p : ℕ) (owner before : Owner) → p < length owners → before ≡ get_or owners p before → counted (one_less (counts_of owners) before) owner < length owners
counted-few owners p owner before within read =
    omega (arith, counted-le (one_less (counts_of owners) before) owner, total-less (counts_of owners) before (counted-some owners p before within read), counts_sum owners)

-- the counts of a pool that is free

count-all : (test : Owner → Bool) (n : ℕ) → test Free ≡ true → count_by test (replicate n Free) ≡ n
count-all test zero holds = refl
count-all test (suc n) holds = omega (arith, count-cons test Free (replicate n Free), ap one holds, count-all test n holds)

count-none : (test : Owner → Bool) (n : ℕ) → test Free ≡ false → count_by test (replicate n Free) ≡ 0
count-none test zero fails = refl
count-none test (suc n) fails = omega (arith, count-cons test Free (replicate n Free), ap one fails, count-none test n fails)

pub counts-free : (n : ℕ) → counts_of (replicate n Free) ≡ record { free_pages = n; queue_pages = 0; chain_pages = 0; data_pages = 0 }
counts-free n =
    same_counts _ _
    (length-pages_owned is_free (replicate n Free) ∙ count-all is_free n refl)
    (length-pages_owned is_queue_page (replicate n Free) ∙ count-none is_queue_page n refl)
    (length-pages_owned is_chain_page (replicate n Free) ∙ count-none is_chain_page n refl)
    (length-pages_owned is_data_page (replicate n Free) ∙ count-none is_data_page n refl)
