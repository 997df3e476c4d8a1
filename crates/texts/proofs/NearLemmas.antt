-- The nearest of some first names, and of one more.
use Rattle.std.proofs.Common.{arith, ◌≡◌, ◌≤◌, ◌<◌, ◌+◌, ◌⊎◌, ℕ, Bool, true, false, inl, inr, List, [], Option, Some, None, Bor, ap, ◌∙◌, get_or, length, map, refl, subst, sym}
use Rattle.std.proofs.lemmas.{Bool.Decides.nat_tests, List.{get_or-map, length-map}, Option.slice_get-get_or}
use Rattle.std.specs.Prelude.{slice_get}
use Rattle.texts.specs.Nearest.{IsFewest, are_few, edits, edits_at}

-- few edits are fewer than those that are not few
few_are_fewer : (a b len : ℕ) → are_few a len ≡ true → are_few b len ≡ false → a < b
few_are_fewer a b len few many = grind (arith, nat_tests)

-- what is not few is more than none
few_are_two : (a len : ℕ) → are_few a len ≡ true → a ≤ 2
few_are_two a len few = grind (arith, nat_tests)

-- none of the first names is near, or this one is the nearest, by this many edits
abbrev pub SoFar : List ℕ → List (List ℕ) → ℕ → ℕ → Option (List ℕ) → Type 0
SoFar text names n least None = (18446744073709551615 ≤ least) × ((k : ℕ) → k < n → are_few (edits_at text names k) (length text) ≡ false)
SoFar text names n least (Some name) =
    (place : ℕ) × (slice_get names place ≡ Some name) × IsFewest (edits_at text names) (length text) n place × (least ≡ edits_at text names place)

below_or_at : (k n : ℕ) → k < n + 1 → (k < n) ⊎ (k ≡ n)
below_or_at k n below = grind arith

before_or_behind : (k n : ℕ) → (k < n) ⊎ ((k ≡ n) ⊎ (n < k))
before_or_behind k n = grind arith

fewer_than_all : (e : ℕ → ℕ) (len n place : ℕ) → IsFewest e len n place → e n < e place → (k : ℕ) → k < n → e n < e k
fewer_than_all e len n place least less k below =
    elim (before_or_behind k place) [ inl before ↦ omega (arith, least.before k before) | inr other ↦ elim other [ inl at ↦ subst (λ (m : ℕ). e n < e m) (sym at) less | inr behind ↦ omega (arith, least.behind k behind below) ] ]

pub nearer : (text : List ℕ) (names : List (List ℕ)) (n least : ℕ) (found : Option (List ℕ)) (name : List ℕ) → SoFar text names n least found → slice_get names n ≡ Some name
    → edits_at text names n < least → are_few (edits_at text names n) (length text) ≡ true → SoFar text names (n + 1) (edits_at text names n) (Some name)
nearer text names n least None name (large, none) is less few = (
  n,
  is,
  record {
    inside = omega arith;
    few = few;
    before = λ k below. few_are_fewer _ _ (length text) few (none k below);
    behind = λ k after below. absurd (omega (arith, after, below));
  },
  refl,
)
nearer text names n least (Some other) name (place, there, fewest, so_many) is less few = (
  n,
  is,
  record {
    inside = omega arith;
    few = few;
    before = fewer_than_all (edits_at text names) (length text) n place fewest (subst (λ (m : ℕ). edits_at text names n < m) so_many less);
    behind = λ k after below. absurd (omega (arith, after, below));
  },
  refl,
)

pub not_nearer : (text : List ℕ) (names : List (List ℕ)) (n least : ℕ) (found : Option (List ℕ)) → SoFar text names n least found
    → (are_few (edits_at text names n) (length text) ≡ true → least ≤ edits_at text names n) → SoFar text names (n + 1) least found
not_nearer text names n least found so_far more = by_nearest (are_few (edits_at text names n) (length text)) refl found so_far
  where
    none_here : (b : Bool) → are_few (edits_at text names n) (length text) ≡ b → 18446744073709551615 ≤ least → are_few (edits_at text names n) (length text) ≡ false
    none_here true few large = absurd (omega (arith, more few, few_are_two _ (length text) few))
    none_here false many large = many

    no_fewer : (b : Bool) → are_few (edits_at text names n) (length text) ≡ b → (place : ℕ) → IsFewest (edits_at text names) (length text) n place → least ≡ edits_at text names place
        → edits_at text names place ≤ edits_at text names n
    no_fewer true few place fewest so_many = omega (arith, more few, so_many)
    no_fewer false many place fewest so_many = omega (arith, few_are_fewer _ _ (length text) fewest.few many)

    by_nearest : (b : Bool) → are_few (edits_at text names n) (length text) ≡ b → (found : Option (List ℕ)) → SoFar text names n least found → SoFar text names (n + 1) least found
    by_nearest b is None (large, none) =
        (large, λ k below. elim (below_or_at k n below) [ inl before ↦ none k before | inr at ↦ subst (λ (m : ℕ). are_few (edits_at text names m) (length text) ≡ false) (sym at) (none_here b is large) ])
    by_nearest b is (Some other) (place, there, fewest, so_many) = (
      place,
      there,
      record {
        inside = omega (arith, fewest.inside);
        few = fewest.few;
        before = fewest.before;
        behind = λ k after below. elim (below_or_at k n below) [ inl before ↦ fewest.behind k after before | inr at ↦ subst (λ (m : ℕ). edits_at text names place ≤ edits_at text names m) (sym at) (no_fewer b is place fewest so_many) ];
      },
      so_many,
    )

-- The names, behind their references.

here : (text : List ℕ) (names : List (Bor (List ℕ))) (d : Bor (List ℕ)) (n so_many : ℕ) → n < length names → so_many ≡ edits text (get_or names n d).now
    → (edits_at text (map (λ name. name.now) names) n ≡ so_many) × (slice_get (map (λ name. name.now) names) n ≡ Some (get_or names n d).now)
here text names d n so_many inside is =
    let at : get_or (map (λ name. name.now) names) n [] ≡ (get_or names n d).now = get_or-map (λ (name : Bor (List ℕ)). name.now) names n d [] inside in
    let inside_map : n < length (map (λ (name : Bor (List ℕ)). name.now) names) = simp length-map inside in
    (ap (edits text) at ∙ sym is, slice_get-get_or (map (λ (name : Bor (List ℕ)). name.now) names) n [] inside_map ∙ ap Some at)

pub nearer_here : (text : List ℕ) (names : List (Bor (List ℕ))) (d : Bor (List ℕ)) (n least so_many : ℕ) (found : Option (List ℕ)) → SoFar text (map (λ name. name.now) names) n least found
    → n < length names → so_many ≡ edits text (get_or names n d).now → so_many < least → are_few so_many (length text) ≡ true
    → SoFar text (map (λ name. name.now) names) (n + 1) so_many (Some (get_or names n d).now)
nearer_here text names d n least so_many found so_far inside is less few =
    let at = here text names d n so_many inside is in
    subst (λ (m : ℕ). SoFar text (map (λ name. name.now) names) (n + 1) m (Some (get_or names n d).now)) at.0
    (nearer text (map (λ name. name.now) names) n least found (get_or names n d).now so_far at.1 (subst (λ (m : ℕ). m < least) (sym at.0) less) (subst (λ (m : ℕ). are_few m (length text) ≡ true) (sym at.0) few))

pub not_nearer_here : (text : List ℕ) (names : List (Bor (List ℕ))) (d : Bor (List ℕ)) (n least so_many : ℕ) (found : Option (List ℕ)) → SoFar text (map (λ name. name.now) names) n least found
    → n < length names → so_many ≡ edits text (get_or names n d).now → (are_few so_many (length text) ≡ true → least ≤ so_many)
    → SoFar text (map (λ name. name.now) names) (n + 1) least found
not_nearer_here text names d n least so_many found so_far inside is more =
    let at = here text names d n so_many inside is in
    not_nearer text (map (λ name. name.now) names) n least found so_far (subst (λ (m : ℕ). are_few m (length text) ≡ true → least ≤ m) (sym at.0) more)
