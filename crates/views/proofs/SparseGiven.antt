-- The pages that are given, by their numbers.
use Rattle.std.proofs.Common.{◌≡◌, ◌≢◌, ◌<◌, ◌≤◌, ◌+◌, ◌-◌, ◌==◌, ◌∷◌, ◌++◌, ◌∙◌, ℕ, suc, Bool, true, false, cond, List, [], Some, None, refl, sym, ap, length, take, drop, get_or, set, arith, inl, inr, position, replicate}
use Rattle.std.specs.List.{position_or_len, AllByRecursion}
use Rattle.std.proofs.lemmas.{Bool.{cases_Bool, Decides.nat_tests}, List.{drop-replicate, take-replicate, length-replicate}}
use Rattle.page_memory.specs.Pages.{zero_page}
use Rattle.views.specs.Sparse.{bytes_of_page, with_page}
use Rattle.views.specs.declared.sparse_memory.GivenPage.{GivenPage}

-- how many pages come before the one of a number
abbrev pub before : ℕ → List GivenPage → ℕ
before n xs = position_or_len (λ page. page.number == n) xs

eq_true : (n : ℕ) → (n == n) ≡ true
eq_true n = grind (arith, nat_tests)

eq_false : (n q : ℕ) → q ≢ n → (n == q) ≡ false
eq_false n q other = grind (arith, nat_tests)

one_more : (k : ℕ) → 1 + k ≡ suc k
one_more k = omega arith

get_behind : (x : GivenPage) (xs : List GivenPage) (k : ℕ) (d : GivenPage) → get_or (x ∷ xs) (1 + k) d ≡ get_or xs k d
get_behind x xs k d = rw (one_more k) refl

set_behind : (x y : GivenPage) (xs : List GivenPage) (k : ℕ) → set (x ∷ xs) (1 + k) y ≡ x ∷ set xs k y
set_behind x y xs k = rw (one_more k) refl

-- where a page is among those that are given
first_at : (n : ℕ) (xs : List GivenPage) (d : GivenPage) → before n xs < length xs → bytes_of_page xs n ≡ (get_or xs (before n xs) d).bytes
first_at n [] d lt = absurd (omega arith)
first_at n (x ∷ xs) d lt = elim (cases_Bool (x.number == n)) [
  | inl e ↦ rw e refl
  | inr e ↦ rw e (first_at n xs d (let lt' : before n (x ∷ xs) < suc (length xs) = lt in omega (arith, rw e at lt')) ∙ ap (λ (page : GivenPage). page.bytes) (sym (get_behind x xs (before n xs) d)))
]

none_at : (n : ℕ) (xs : List GivenPage) → length xs ≤ before n xs → bytes_of_page xs n ≡ zero_page
none_at n [] le = refl
none_at n (x ∷ xs) le = elim (cases_Bool (x.number == n)) [
  | inl e ↦ absurd (let le' : suc (length xs) ≤ before n (x ∷ xs) = le in omega (arith, rw e at le'))
  | inr e ↦ rw e (none_at n xs (let le' : suc (length xs) ≤ before n (x ∷ xs) = le in omega (arith, rw e at le')))
]

set_at : (n : ℕ) (xs : List GivenPage) (d : GivenPage) (new : List ℕ) → before n xs < length xs →
    set xs (before n xs) (record { number = (get_or xs (before n xs) d).number; bytes = new }) ≡ with_page xs n new
set_at n [] d new lt = absurd (omega arith)
set_at n (x ∷ xs) d new lt = elim (cases_Bool (x.number == n)) [
  | inl e ↦ rw e refl
  | inr e ↦ rw e (ap (λ (k : ℕ). set (x ∷ xs) (1 + before n xs) (record { number = k; bytes = new })) (ap (λ (page : GivenPage). page.number) (get_behind x xs (before n xs) d))
      ∙ set_behind x (record { number = (get_or xs (before n xs) d).number; bytes = new }) xs (before n xs)
      ∙ ap (λ (rest : List GivenPage). x ∷ rest) (set_at n xs d new (let lt' : before n (x ∷ xs) < suc (length xs) = lt in omega (arith, rw e at lt'))))
]

add_at : (n : ℕ) (xs : List GivenPage) (new : List ℕ) → length xs ≤ before n xs → xs ++ (record { number = n; bytes = new } ∷ []) ≡ with_page xs n new
add_at n [] new le = refl
add_at n (x ∷ xs) new le = elim (cases_Bool (x.number == n)) [
  | inl e ↦ absurd (let le' : suc (length xs) ≤ before n (x ∷ xs) = le in omega (arith, rw e at le'))
  | inr e ↦ rw e (ap (λ (rest : List GivenPage). x ∷ rest) (add_at n xs new (let le' : suc (length xs) ≤ before n (x ∷ xs) = le in omega (arith, rw e at le'))))
]

-- what is found

some_of : (b : Bool) (k i : ℕ) → cond b (Some k) None ≡ Some i → (b ≡ true) × (k ≡ i)
some_of true k i e = (refl, cc)
some_of false k i e = cc

none_of : (b : Bool) (k : ℕ) → cond b (Some k) None ≡ None → b ≡ false
none_of true k e = cc
none_of false k e = refl

found : (n i : ℕ) (xs : List GivenPage) → position (λ (page : GivenPage). page.number == n) xs ≡ Some i → (before n xs < length xs) × (before n xs ≡ i)
found n i xs e = let (lt, is) = some_of _ _ _ e in (grind (arith, nat_tests), is)

not_found : (n : ℕ) (xs : List GivenPage) → position (λ (page : GivenPage). page.number == n) xs ≡ None → length xs ≤ before n xs
not_found n xs e = let ge = none_of _ _ e in grind (arith, nat_tests)

pub found_bytes : (n i : ℕ) (xs : List GivenPage) (d : GivenPage) → position (λ (page : GivenPage). page.number == n) xs ≡ Some i → bytes_of_page xs n ≡ (get_or xs i d).bytes
found_bytes n i xs d e = let (lt, is) = found n i xs e in rw (← is) (first_at n xs d lt)

pub found_set : (n i : ℕ) (xs : List GivenPage) (d : GivenPage) (new : List ℕ) → position (λ (page : GivenPage). page.number == n) xs ≡ Some i →
    set xs i (record { number = (get_or xs i d).number; bytes = new }) ≡ with_page xs n new
found_set n i xs d new e = let (lt, is) = found n i xs e in rw (← is) (set_at n xs d new lt)

pub not_found_bytes : (n : ℕ) (xs : List GivenPage) → position (λ (page : GivenPage). page.number == n) xs ≡ None → bytes_of_page xs n ≡ zero_page
not_found_bytes n xs e = none_at n xs (not_found n xs e)

pub not_found_add : (n : ℕ) (xs : List GivenPage) (new : List ℕ) → position (λ (page : GivenPage). page.number == n) xs ≡ None → xs ++ (record { number = n; bytes = new } ∷ []) ≡ with_page xs n new
not_found_add n xs new e = add_at n xs new (not_found n xs e)

-- what is read of a page, and what is put in place

pub copied : (n i at len : ℕ) (xs : List GivenPage) (d : GivenPage) (whole now : List ℕ) → position (λ (page : GivenPage). page.number == n) xs ≡ Some i → whole ≡ (get_or xs i d).bytes →
    now ≡ take (at + len - at) (drop at whole) → now ≡ take len (drop at (bytes_of_page xs n))
copied n i at len xs d whole now e is h =
    let same : at + len - at ≡ len = omega arith in
    rw (found_bytes n i xs d e, ← is, ← same) h

zeros_taken : (len at k : ℕ) → at + len ≤ k → take len (drop at (replicate {A = ℕ} k 0)) ≡ replicate {A = ℕ} len 0
zeros_taken len at k le = rw (drop-replicate {X = ℕ} at k 0) (take-replicate {X = ℕ} len (k - at) 0 (omega arith))

pub zeros : (n at len : ℕ) (xs : List GivenPage) (now : List ℕ) → position (λ (page : GivenPage). page.number == n) xs ≡ None → at + len ≤ 4096 → now ≡ replicate {A = ℕ} len 0 → now ≡ take len (drop at (bytes_of_page xs n))
unfolding zero_page
zeros n at len xs now e le h = rw (not_found_bytes n xs e, h) (sym (zeros_taken len at 4096 le))

-- A page with its bytes in place, and all others as they were.

pub bytes-with_same : (xs : List GivenPage) (n : ℕ) (new : List ℕ) → bytes_of_page (with_page xs n new) n ≡ new
bytes-with_same [] n new = rw (eq_true n) refl
bytes-with_same (x ∷ xs) n new = elim (cases_Bool (x.number == n)) [
  | inl e ↦ rw e (rw e refl)
  | inr e ↦ rw e (rw e (bytes-with_same xs n new))
]

pub bytes-with_other : (xs : List GivenPage) (n q : ℕ) (new : List ℕ) → q ≢ n → bytes_of_page (with_page xs n new) q ≡ bytes_of_page xs q
bytes-with_other [] n q new other = rw (eq_false n q other) refl
bytes-with_other (x ∷ xs) n q new other = elim (cases_Bool (x.number == n)) [
  | inl e ↦ let not_here : (x.number == q) ≡ false = grind (arith, nat_tests) in rw e (rw not_here refl)
  | inr e ↦ rw e (elim (cases_Bool (x.number == q)) [
    | inl f ↦ rw f refl
    | inr f ↦ rw f (bytes-with_other xs n q new other)
  ])
]

-- all pages are whole

abbrev pub AreWhole : List GivenPage → Type 0
AreWhole xs = AllByRecursion (λ page. length page.bytes ≡ 4096) xs

length-zero_page : length zero_page ≡ 4096
unfolding zero_page
length-zero_page = length-replicate {A = ℕ} 4096 0

pub length-bytes : (xs : List GivenPage) (n : ℕ) → AreWhole xs → length (bytes_of_page xs n) ≡ 4096
length-bytes [] n all = length-zero_page
length-bytes (x ∷ xs) n all = elim (cases_Bool (x.number == n)) [
  | inl e ↦ rw e all.0
  | inr e ↦ rw e (length-bytes xs n all.1)
]

pub whole-with : (xs : List GivenPage) (n : ℕ) (new : List ℕ) → AreWhole xs → length new ≡ 4096 → AreWhole (with_page xs n new)
whole-with [] n new all len = (len, tt)
whole-with (x ∷ xs) n new all len = elim (cases_Bool (x.number == n)) [
  | inl e ↦ rw e (len, all.1)
  | inr e ↦ rw e (all.0, whole-with xs n new all.1 len)
]
