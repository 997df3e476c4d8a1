-- Joined parts: how a list of them grows, what they keep, and that none of them join any more.
use Rattle.std.proofs.Common.{arith, ◌∙◌, sym, ap, refl, ◌≡◌, ◌≤◌, ◌+◌, ◌++◌, ℕ, zero, suc, Bool, true, false, if◌then◌else◌, List, [], ◌∷◌, length, append_assoc, subst, map}
use Rattle.std.proofs.{lemmas.{Bool.Decides.nat_tests, List.{map-append, Concat.flat_map-cons}}}
use Rattle.std.specs.List.{range_with_len}
use Rattle.sgl_descriptor.{proofs.Counts.length-targets, specs.{Targets.{Target, Place, targets, targets_of_part, counted_in}, declared.Direction.Direction}}
use Rattle.sgl_descriptor.specs.declared.Part.{Part, TheVariants.{Data, Bucket}}
use Rattle.sgl_chain.specs.Joining.{joins, both, first_joined, left_behind, joined_within, joined, NoneJoin}

-- Joined parts: how a list of them grows from its start, and what they keep.

-- what is left is shorter than the list
either_few : (b : Bool) (xs ys : List Part) (n : ℕ) → length xs ≤ n → length ys ≤ n → length (if b then xs else ys) ≤ n
either_few true xs ys n p q = p
either_few false xs ys n p q = q

left_few : (part : Part) (parts : List Part) → length (left_behind part parts) ≤ length parts
left_few part [] = omega arith
left_few part (next ∷ parts) =
    either_few (joins part next) (left_behind (both part next) parts) (next ∷ parts) (suc (length parts))
    (let few : length (left_behind (both part next) parts) ≤ length parts = left_few (both part next) parts in omega arith) (omega arith)

-- the bound on the recursion doesn't matter
within_same : (b c : ℕ) (parts : List Part) → length parts ≤ b → length parts ≤ c → joined_within b parts ≡ joined_within c parts
within_same zero zero [] p q = refl
within_same zero (suc c) [] p q = refl
within_same (suc b) zero [] p q = refl
within_same (suc b) (suc c) [] p q = refl
within_same zero c (part ∷ parts) p q = absurd (omega arith)
within_same (suc b) zero (part ∷ parts) p q = absurd (omega arith)
within_same (suc b) (suc c) (part ∷ parts) p q =
    let few : length (left_behind part parts) ≤ length parts = left_few part parts in
    ap (λ (xs : List Part). first_joined part parts ∷ xs) (within_same b c (left_behind part parts) (omega arith) (omega arith))

-- the joined parts of a part and those after it, one part after the other
abbrev pub joined_from : Part → List Part → List Part
joined_from part [] = part ∷ []
joined_from part (next ∷ parts) = if joins part next then joined_from (both part next) parts else part ∷ joined_from next parts

either_same : (b : Bool) (x y : Part) (xs ys : List Part) (zs ws : List Part) → x ∷ joined xs ≡ zs → y ∷ joined ys ≡ ws →
    (if b then x else y) ∷ joined (if b then xs else ys) ≡ (if b then zs else ws)
either_same true x y xs ys zs ws p q = p
either_same false x y xs ys zs ws p q = q

first_and_left : (part : Part) (parts : List Part) → joined (part ∷ parts) ≡ first_joined part parts ∷ joined (left_behind part parts)
first_and_left part parts =
    ap (λ (xs : List Part). first_joined part parts ∷ xs) (within_same (length parts) (length (left_behind part parts)) (left_behind part parts) (left_few part parts) (omega arith))

pub from_first : (part : Part) (parts : List Part) → first_joined part parts ∷ joined (left_behind part parts) ≡ joined_from part parts
from_first part [] = refl
from_first part (next ∷ parts) =
    either_same (joins part next) (first_joined (both part next) parts) part (left_behind (both part next) parts) (next ∷ parts) (joined_from (both part next) parts) (part ∷ joined_from next parts)
    (from_first (both part next) parts)
    (ap (λ (xs : List Part). part ∷ xs) (first_and_left next parts ∙ from_first next parts))

pub from_list : (part : Part) (parts : List Part) → joined (part ∷ parts) ≡ joined_from part parts
from_list part parts = first_and_left part parts ∙ from_first part parts

-- What joined parts keep of a list, and that none of them join any more.

-- a choice by a test, whose answer is known or not
chosen : (b : Bool) (P : List Part → Type 0) (xs ys : List Part) → (b ≡ true → P xs) → (b ≡ false → P ys) → P (if b then xs else ys)
chosen true P xs ys p q = p refl
chosen false P xs ys p q = q refl

chosen_part : (b : Bool) (P : Part → Type 0) (x y : Part) → (b ≡ true → P x) → (b ≡ false → P y) → P (if b then x else y)
chosen_part true P x y p q = p refl
chosen_part false P x y p q = q refl

-- no more of them than parts
from_few : (part : Part) (parts : List Part) → length (joined_from part parts) ≤ suc (length parts)
from_few part [] = omega arith
from_few part (next ∷ parts) =
    chosen (joins part next) (λ (xs : List Part). length xs ≤ suc (suc (length parts))) (joined_from (both part next) parts) (part ∷ joined_from next parts)
    (λ _. let few : length (joined_from (both part next) parts) ≤ suc (length parts) = from_few (both part next) parts in omega arith)
    (λ _. let few : length (joined_from next parts) ≤ suc (length parts) = from_few next parts in omega arith)

pub joined_few : (parts : List Part) → length (joined parts) ≤ length parts
joined_few [] = omega arith
joined_few (part ∷ parts) = subst (λ (xs : List Part). length xs ≤ suc (length parts)) (sym (from_list part parts)) (from_few part parts)

-- two parts that join have one part's addresses
range_append : (a n m b : ℕ) → a + n ≡ b → range_with_len a (n + m) ≡ range_with_len a n ++ range_with_len b m
range_append a zero m b is =
    let same : a ≡ b = omega arith in
    let none : 0 + m ≡ m = omega arith in
    ap (range_with_len a) none ∙ ap (λ (x : ℕ). range_with_len x m) same
range_append a (suc n) m b is =
    let more : suc n + m ≡ suc (n + m) = omega arith in
    ap (range_with_len a) more ∙ ap (λ (xs : List ℕ). a ∷ xs) (range_append (a + 1) n m b (omega arith))

joins_there : (addr len next more : ℕ) → joins (Data addr len) (Data next more) ≡ true → addr + len ≡ next
joins_there addr len next more is = grind (arith, nat_tests)

both_targets : (dir : Direction) (part next : Part) → joins part next ≡ true → targets_of_part dir (both part next) ≡ targets_of_part dir part ++ targets_of_part dir next
both_targets dir (Data addr len) (Data next more) is =
    ap (map (λ place. Place place)) (range_append addr len more next (joins_there addr len next more is))
    ∙ map-append (λ place. Place place) (range_with_len addr len) (range_with_len next more)
both_targets dir (Data addr len) (Bucket more) is = absurd cc
both_targets dir (Bucket len) next is = absurd cc

from_targets : (dir : Direction) (part : Part) (parts : List Part) → targets dir (joined_from part parts) ≡ targets dir (part ∷ parts)
from_targets dir part [] = refl
from_targets dir part (next ∷ parts) =
    chosen (joins part next) (λ (xs : List Part). targets dir xs ≡ targets dir (part ∷ next ∷ parts)) (joined_from (both part next) parts) (part ∷ joined_from next parts)
    (λ is. from_targets dir (both part next) parts
    ∙ flat_map-cons (targets_of_part dir) (both part next) parts
    ∙ ap (λ (ts : List Target). ts ++ targets dir parts) (both_targets dir part next is)
    ∙ append_assoc (targets_of_part dir part) (targets_of_part dir next) (targets dir parts)
    ∙ sym (flat_map-cons (targets_of_part dir) part (next ∷ parts) ∙ ap (λ (ts : List Target). targets_of_part dir part ++ ts) (flat_map-cons (targets_of_part dir) next parts)))
    (λ _. flat_map-cons (targets_of_part dir) part (joined_from next parts)
    ∙ ap (λ (ts : List Target). targets_of_part dir part ++ ts) (from_targets dir next parts)
    ∙ sym (flat_map-cons (targets_of_part dir) part (next ∷ parts)))

pub same_targets : (dir : Direction) (parts : List Part) → targets dir (joined parts) ≡ targets dir parts
same_targets dir [] = refl
same_targets dir (part ∷ parts) = ap (targets dir) (from_list part parts) ∙ from_targets dir part parts

pub same_count : (dir : Direction) (parts : List Part) → counted_in dir (joined parts) ≡ counted_in dir parts
same_count dir parts = sym (length-targets dir (joined parts)) ∙ ap length (same_targets dir parts) ∙ length-targets dir parts

-- no neighbours of a part and those after it join
abbrev ApartFrom : Part → List Part → Type 0
ApartFrom part [] = Unit {0}
ApartFrom part (next ∷ parts) = (joins part next ≡ false) × ApartFrom next parts

abbrev Apart : List Part → Type 0
Apart [] = Unit {0}
Apart (part ∷ parts) = ApartFrom part parts

-- what does not join a part joins nothing that the part becomes
both_apart : (before part next : Part) → joins before part ≡ false → joins before (both part next) ≡ false
both_apart (Bucket len) part next apart = refl
both_apart (Data addr len) (Bucket more) next apart = refl
both_apart (Data addr len) (Data place more) (Bucket last) apart = apart
both_apart (Data addr len) (Data place more) (Data next last) apart = grind (arith, nat_tests)

first_apart : (before part : Part) (parts : List Part) → joins before part ≡ false → joins before (first_joined part parts) ≡ false
first_apart before part [] apart = apart
first_apart before part (next ∷ parts) apart =
    chosen_part (joins part next) (λ (x : Part). joins before x ≡ false) (first_joined (both part next) parts) part
    (λ _. first_apart before (both part next) parts (both_apart before part next apart)) (λ _. apart)

apart_from : (part : Part) (parts : List Part) → Apart (joined_from part parts)
apart_from part [] = tt
apart_from part (next ∷ parts) =
    chosen (joins part next) Apart (joined_from (both part next) parts) (part ∷ joined_from next parts)
    (λ _. apart_from (both part next) parts)
    (λ alone. subst (ApartFrom part) (from_first next parts) (first_apart part next parts alone, subst Apart (sym (from_first next parts)) (apart_from next parts)))

all_apart : (parts : List Part) → Apart (joined parts)
all_apart [] = tt
all_apart (part ∷ parts) = subst Apart (sym (from_list part parts)) (apart_from part parts)

-- neighbours at any position of such a list
apart_behind : (before : Part) (front behind : List Part) (part next : Part) → ApartFrom before (front ++ part ∷ next ∷ behind) → joins part next ≡ false
apart_behind before [] behind part next h = h.1.0
apart_behind before (x ∷ front) behind part next h = apart_behind x front behind part next h.1

apart_at : (front behind : List Part) (part next : Part) → Apart (front ++ part ∷ next ∷ behind) → joins part next ≡ false
apart_at [] behind part next h = h.0
apart_at (x ∷ front) behind part next h = apart_behind x front behind part next h

pub none_join : (parts : List Part) → NoneJoin (joined parts)
none_join parts front behind part next is = apart_at front behind part next (subst Apart is (all_apart parts))

-- where none join, joining changes nothing
kept_from : (part : Part) (parts : List Part) → ApartFrom part parts → joined_from part parts ≡ part ∷ parts
kept_from part [] h = refl
kept_from part (next ∷ parts) h =
    chosen (joins part next) (λ (xs : List Part). xs ≡ part ∷ next ∷ parts) (joined_from (both part next) parts) (part ∷ joined_from next parts)
    (λ is. let alone : joins part next ≡ false = h.0 in absurd cc)
    (λ _. ap (λ (xs : List Part). part ∷ xs) (kept_from next parts h.1))

kept : (parts : List Part) → Apart parts → joined parts ≡ parts
kept [] h = refl
kept (part ∷ parts) h = from_list part parts ∙ kept_from part parts h

pub joined_twice : (parts : List Part) → joined (joined parts) ≡ joined parts
joined_twice parts = kept (joined parts) (all_apart parts)
