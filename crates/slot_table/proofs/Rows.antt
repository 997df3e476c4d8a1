-- Rows, those of a list of slots, and what is in a slot.
use Rattle.std.proofs.Common.{◌≡◌, ◌≢◌, ◌⊎◌, ℕ, suc, true, false, List, [], ◌∷◌, ◌++◌, length, Option, Some, None, is_some, IsSome, refl, sym, ap, inl, inr}
use Rattle.std.{proofs.lemmas.Bool.eq-eqb, specs.List.AllByRecursion as All}
use Rattle.slot_table.{proofs.Orders.first_or, specs.Chains.{rows_of, row_before, Lacks, AreDistinct, AreHeld}}
use Rattle.slot_table.specs.{Nodes.{Place, place_eq}, Rows.{Row, value_at, with_value, without, first_place, place_behind, NoneAt, IsDistinct}}

pub option_is : {A : Type 0} (o : Option A) → (o ≡ None) ⊎ ((x : A) × (o ≡ Some x))
option_is None = inl refl
option_is (Some x) = inr (x, refl)

pub some_is : {A : Type 0} (o : Option A) → IsSome o → (x : A) × (o ≡ Some x)
some_is None some = absurd cc
some_is (Some x) some = (x, refl)

pub none_is : {A : Type 0} (o : Option A) → is_some o ≡ false → o ≡ None
none_is None none = refl
none_is (Some x) none = absurd cc

pub place_eq-same : (k : Place) → place_eq k k ≡ true
place_eq-same k = rw (eq-eqb k.0 k.0 refl, eq-eqb k.1 k.1 refl) refl

module _ {R : Type 0} where
  pub value_at-behind : (rows more : List (Row R)) (q cid : ℕ) → NoneAt rows q cid → value_at (rows ++ more) q cid ≡ value_at more q cid
  value_at-behind [] more q cid none = refl
  value_at-behind (row ∷ rows) more q cid none = rw none.0 (value_at-behind rows more q cid none.1)

  pub value_at-none : (rows : List (Row R)) (q cid : ℕ) → NoneAt rows q cid → value_at rows q cid ≡ None
  value_at-none [] q cid none = refl
  value_at-none (row ∷ rows) q cid none = rw none.0 (value_at-none rows q cid none.1)

  pub without-behind : (rows more : List (Row R)) (q cid : ℕ) → NoneAt rows q cid → without (rows ++ more) q cid ≡ rows ++ without more q cid
  without-behind [] more q cid none = refl
  without-behind (row ∷ rows) more q cid none = rw none.0 (ap (λ rs. row ∷ rs) (without-behind rows more q cid none.1))

  pub without-none : (rows : List (Row R)) (q cid : ℕ) → NoneAt rows q cid → without rows q cid ≡ rows
  without-none [] q cid none = refl
  without-none (row ∷ rows) q cid none = rw none.0 (ap (λ rs. row ∷ rs) (without-none rows q cid none.1))

  pub with_value-behind : (rows more : List (Row R)) (q cid : ℕ) (value : R) → NoneAt rows q cid → with_value (rows ++ more) q cid value ≡ rows ++ with_value more q cid value
  with_value-behind [] more q cid value none = refl
  with_value-behind (row ∷ rows) more q cid value none = rw none.0 (ap (λ rs. row ∷ rs) (with_value-behind rows more q cid value none.1))

  pub place_behind-behind : (rows more : List (Row R)) (q cid : ℕ) → NoneAt rows q cid → place_behind (rows ++ more) q cid ≡ place_behind more q cid
  place_behind-behind [] more q cid none = refl
  place_behind-behind (row ∷ rows) more q cid none = rw none.0 (place_behind-behind rows more q cid none.1)

  pub place_behind-none : (rows : List (Row R)) (q cid : ℕ) → NoneAt rows q cid → place_behind rows q cid ≡ None
  place_behind-none [] q cid none = refl
  place_behind-none (row ∷ rows) q cid none = rw none.0 (place_behind-none rows q cid none.1)

-- what stands for a slot in the links and in the rows, and what a look at a link answers
pub record IsKind {K P : Type 0} (at : K → P) (place : K → ℕ × ℕ) (show : P → Option (ℕ × ℕ)) (end : P) : Type 0 where
  pub cases : (x y : K) → (x ≡ y) ⊎ (at x ≢ at y)
  pub apart : (x k : K) → at x ≢ at k → place_eq (place x) (place k) ≡ false
  pub show_end : show end ≡ None
  pub show_at : (k : K) → at k ≢ end → show (at k) ≡ Some (place k)

module _ {K R : Type 0} (place : K → ℕ × ℕ) (v : K → Option R) where
  pub rows_of-append : (xs ys : List K) → rows_of place v (xs ++ ys) ≡ rows_of place v xs ++ rows_of place v ys
  rows_of-append [] ys = refl
  rows_of-append (x ∷ xs) ys =
      rw (rows_of-append xs ys)
      (elim (v x) as (λ o. row_before place x o (rows_of place v xs ++ rows_of place v ys) ≡ row_before place x o
      (rows_of place v xs) ++ rows_of place v ys) [ None ↦ refl | Some value ↦ refl ])

  -- slots whose records stay
  pub rows_of-same : (w : K → Option R) (xs : List K) → All (λ z. w z ≡ v z) xs → rows_of place w xs ≡ rows_of place v xs
  rows_of-same w [] same = refl
  rows_of-same w (x ∷ xs) same = rw same.0 (ap (row_before place x (v x)) (rows_of-same w xs same.1))

  pub length-rows_of : (xs : List K) → AreHeld v xs → length (rows_of place v xs) ≡ length xs
  length-rows_of [] h = refl
  length-rows_of (x ∷ xs) h = let (value, has) = some_is (v x) h.0 in rw has (ap suc (length-rows_of xs h.1))

  module _ {P : Type 0} {at : K → P} {show : P → Option (ℕ × ℕ)} {end : P} (kind : IsKind at place show end) where
    -- slots that lack one have no row in it
    pub rows_of-none_at : (xs : List K) (k : K) → Lacks at (at k) xs → NoneAt (rows_of place v xs) (place k).0 (place k).1
    rows_of-none_at [] k l = tt
    rows_of-none_at (x ∷ xs) k l =
        let rest = rows_of-none_at xs k l.1 in
        elim (v x) as (λ o. NoneAt (row_before place x o (rows_of place v xs)) (place k).0 (place k).1) [ None ↦ rest | Some value ↦ (kind.apart x k l.0, rest) ]

    pub rows_of-distinct : (xs : List K) → AreDistinct at xs → IsDistinct (rows_of place v xs)
    rows_of-distinct [] d = tt
    rows_of-distinct (x ∷ xs) d =
        let rest = rows_of-distinct xs d.1 in
        elim (v x) as (λ o. IsDistinct (row_before place x o (rows_of place v xs))) [ None ↦ rest | Some value ↦ (rows_of-none_at xs x d.0, rest) ]

    -- the first row is in the first of the slots
    pub first_place-rows_of : (xs : List K) → Lacks at end xs → AreHeld v xs → first_place (rows_of place v xs) ≡ show (first_or at end xs)
    first_place-rows_of [] l h = sym kind.show_end
    first_place-rows_of (x ∷ xs) l h = let (value, has) = some_is (v x) h.0 in rw has (sym (kind.show_at x l.0))
