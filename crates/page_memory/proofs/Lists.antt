-- What holds of each member of a list, and what is found: for the crates above.
use Rattle.std.proofs.Common.{◌≡◌, ℕ, zero, suc, Bool, true, false, cond, Option, Some, None, List, [], ◌∷◌, ◌++◌, map, filter, find, slice_get, All, inl, inr, refl, arith, subst}
use Rattle.std.{proofs.lemmas.Bool.cases_Bool, specs.{List.{AllByRecursion, list_any}, Option.{option_and_then, option_map}}}

pub some_is : {A : Type 0} {x y : A} → Some x ≡ Some y → x ≡ y
some_is e = cc

-- What holds of each member.

pub all-append : {A : Type 0} (P : A → Type 0) (xs : List A) (y : A) → AllByRecursion P xs → P y → AllByRecursion P (xs ++ y ∷ [])
all-append P [] y all here = (here, tt)
all-append P (x ∷ xs) y all here = (all.0, all-append P xs y all.1 here)

pub all-front : {A : Type 0} (P : A → Type 0) (xs ys : List A) → AllByRecursion P (xs ++ ys) → AllByRecursion P xs
all-front P [] ys all = tt
all-front P (x ∷ xs) ys all = (all.0, all-front P xs ys all.1)

pub all-back : {A : Type 0} (P : A → Type 0) (xs ys : List A) → AllByRecursion P (xs ++ ys) → AllByRecursion P ys
all-back P [] ys all = all
all-back P (x ∷ xs) ys all = all-back P xs ys all.1

pub all-map : {A : Type 0} (P : A → Type 0) (f : A → A) → ((x : A) → P x → P (f x)) → (xs : List A) → AllByRecursion P xs → AllByRecursion P (map f xs)
all-map P f keeps [] all = tt
all-map P f keeps (x ∷ xs) all = (keeps x all.0, all-map P f keeps xs all.1)

pub all-all : {A : Type 0} (P Q : A → Type 0) → ((x : A) → P x → Q x) → (xs : List A) → AllByRecursion P xs → AllByRecursion Q xs
all-all P Q more [] all = tt
all-all P Q more (x ∷ xs) all = (more x all.0, all-all P Q more xs all.1)

pub all-filter : {A : Type 0} (P : A → Type 0) (f : A → Bool) (xs : List A) → AllByRecursion P xs → AllByRecursion P (filter f xs)
all-filter P f [] all = tt
all-filter P f (x ∷ xs) all =
    let rest = all-filter P f xs all.1 in
    elim (f x) as (λ b. AllByRecursion P (cond b (x ∷ filter f xs) (filter f xs))) [ true ↦ (all.0, rest) | false ↦ rest ]

pub all-at : {A : Type 0} (P : A → Type 0) (xs : List A) (i : ℕ) (x : A) → slice_get xs i ≡ Some x → AllByRecursion P xs → P x
all-at P [] i x e all = cc
all-at P (y ∷ xs) zero x e all = subst P (some_is e) all.0
all-at P (y ∷ xs) (suc i) x e all = all-at P xs i x e all.1

pub all-slots : {A : Type 0} (P : A → Type 0) (xs : List A) → ((i : ℕ) (x : A) → slice_get xs i ≡ Some x → P x) → AllByRecursion P xs
all-slots P [] each = tt
all-slots P (x ∷ xs) each = (each 0 x refl, all-slots P xs (λ i y at. each (suc i) y at))

-- by recursion, and by its members
pub all-to : {A : Type 0} (P : A → Type 0) (xs : List A) → AllByRecursion P xs → All P xs
all-to P [] all k d l = absurd (omega arith)
all-to P (x ∷ xs) all zero d l = all.0
all-to P (x ∷ xs) all (suc k) d l = all-to P xs all.1 k d (omega arith)

-- What is found, and where.

pub found_is : {A : Type 0} (test : A → Bool) (xs : List A) (x : A) → find test xs ≡ Some x → test x ≡ true
found_is test [] x e = cc
found_is test (y ∷ xs) x e = grind (arith, found_is test xs x)

pub all-found : {A : Type 0} (P : A → Type 0) (test : A → Bool) (xs : List A) (x : A) → find test xs ≡ Some x → AllByRecursion P xs → P x
all-found P test [] x e all = cc
all-found P test (y ∷ xs) x e all = grind (arith, all-found P test xs x)

pub found_at : {A : Type 0} (test : A → Bool) (xs : List A) (x : A) → find test xs ≡ Some x → (i : ℕ) × (slice_get xs i ≡ Some x)
found_at test [] x e = cc
found_at test (y ∷ xs) x e = elim (cases_Bool (test y)) [ inl f ↦ (0, rw f at e) | inr f ↦ let h = found_at test xs x (rw f at e) in (suc h.0, h.1) ]

pub any_found : {A : Type 0} (test : A → Bool) (xs : List A) (o : Option A) → find test xs ≡ o → list_any test xs ≡ elim o [ None ↦ false | Some x ↦ true ]
any_found test [] o e = rw (← e) refl
any_found test (x ∷ xs) o e = elim (cases_Bool (test x)) [
  | inl f ↦ let is : Some x ≡ o = rw f at e in rw (f, ← is) refl
  | inr f ↦ rw f (any_found test xs o (rw f at e))
]

pub found_any : {A : Type 0} (test : A → Bool) (xs : List A) (x : A) → find test xs ≡ Some x → list_any test xs ≡ true
found_any test xs x e = any_found test xs (Some x) e

-- A value that is there, mapped first.

pub then-map : {A B C : Type 0} (f : B → Option C) (g : A → B) (o : Option A) → option_and_then (λ x. f (g x)) o ≡ option_and_then f (option_map g o)
then-map f g o = grind arith
