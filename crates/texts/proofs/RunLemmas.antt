-- Bytes that come this often, and the bytes of runs, one after the other.
use Rattle.std.proofs.Common.{arith, ◌≡◌, ◌≤◌, ◌+◌, ◌*◌, ◌^◌, ◌++◌, ◌∷◌, ◌∙◌, ℕ, zero, suc, List, [], Option, Some, None, ap, sym, refl, subst, length, append_assoc, length-append, option_and_then, ◌<◌, add-one, drop, drop-cons, get_or}
use Rattle.std.proofs.lemmas.List.{append-nil}
use Rattle.std.specs.Option.{option_map}
use Rattle.texts.specs.Runs.{IsNoWord, IsNotPut, IsUncounted, bytes_of_runs, digit_bytes, front_of_runs, front_of_word, len_of_runs, repeated, run_bytes, run_len, run_parts, runs_of, then_front}
use Rattle.texts.specs.declared.byte_runs.RunsFault.{RunsFault, TheVariants.{NoRuns, TooMany, Memory}}

-- Runs

pub length_repeated : (bytes : List ℕ) (n : ℕ) → length (repeated bytes n) ≡ length bytes * n
unfolding repeated
length_repeated bytes zero = omega arith
length_repeated bytes (suc n) = omega (arith, length-append bytes (repeated bytes n), length_repeated bytes n)

pub repeated_more : (bytes : List ℕ) (n : ℕ) → repeated bytes (suc n) ≡ repeated bytes n ++ bytes
unfolding repeated
repeated_more bytes zero = append-nil bytes
repeated_more bytes (suc n) = ap (λ more. bytes ++ more) (repeated_more bytes n) ∙ sym (append_assoc bytes (repeated bytes n) bytes)

pub run_is : (run digits bytes : List ℕ) (times : ℕ) → run_parts run ≡ Some (digits, times) → digit_bytes digits ≡ Some bytes → run_bytes run ≡ Some (repeated bytes times)
run_is run digits bytes times parts said =
    ap (λ (parts : Option (List ℕ × ℕ)). option_and_then (λ parts. option_map (λ bytes. repeated bytes parts.1) (digit_bytes parts.0)) parts) parts
    ∙ ap (λ (bytes : Option (List ℕ)). option_map (λ bytes. repeated bytes times) bytes) said

-- Words

-- some first runs of all were put, and these are left
pub record GoesOn (all rest : List (List ℕ)) (put : List ℕ) : Type 0 where
  pub bytes : bytes_of_runs all ≡ option_map (λ more. put ++ more) (bytes_of_runs rest)
  pub front : front_of_runs all ≡ put ++ front_of_runs rest

pub none_put : (all : List (List ℕ)) → GoesOn all all []
none_put all = record { bytes = same (bytes_of_runs all); front = refl }
  where
    same : (bytes : Option (List ℕ)) → bytes ≡ option_map (λ more. [] ++ more) bytes
    same None = refl
    same (Some bytes) = refl

all_bytes : List ℕ → Option (List ℕ) → Option (List ℕ) → Option (List ℕ)
all_bytes put rest run = option_map (λ more. put ++ more) (option_and_then (λ bytes. option_map (λ more. bytes ++ more) rest) run)

pub one_put : (all rest : List (List ℕ)) (run put more : List ℕ) → GoesOn all (run ∷ rest) put → run_bytes run ≡ Some more → GoesOn all rest (put ++ more)
unfolding all_bytes
one_put all rest run put more so_far said = record {
  bytes = so_far.bytes ∙ (ap (all_bytes put (bytes_of_runs rest)) said ∙ joined (bytes_of_runs rest));
  front = so_far.front ∙ (ap (λ (run : Option (List ℕ)). put ++ then_front (front_of_runs rest) run) said ∙ sym (append_assoc put more (front_of_runs rest)));
}
  where
    joined : (rest : Option (List ℕ)) → option_map (λ more. put ++ more) (option_map (λ bytes. more ++ bytes) rest) ≡ option_map (λ bytes. (put ++ more) ++ bytes) rest
    joined None = refl
    joined (Some bytes) = ap Some (sym (append_assoc put more bytes))

pub all_put : (all : List (List ℕ)) (put : List ℕ) → GoesOn all [] put → bytes_of_runs all ≡ Some put
all_put all put so_far = so_far.bytes ∙ ap Some (append-nil put)

-- a run that is none ends the bytes
pub ends_there : (all rest : List (List ℕ)) (run put : List ℕ) → GoesOn all (run ∷ rest) put → run_bytes run ≡ None → (bytes_of_runs all ≡ None) × (front_of_runs all ≡ put)
unfolding all_bytes
ends_there all rest run put so_far none =
    (so_far.bytes ∙ ap (all_bytes put (bytes_of_runs rest)) none, so_far.front ∙ (ap (λ (run : Option (List ℕ)). put ++ then_front (front_of_runs rest) run) none ∙ append-nil put))

pub why_no_run : (all rest : List (List ℕ)) (run put : List ℕ) (most : ℕ) (fault : RunsFault) → GoesOn all (run ∷ rest) put → length put ≤ most → IsNotPut (run_bytes run) (length put) most fault
    → (word : List ℕ) → runs_of word ≡ all → IsNoWord word most fault
why_no_run all rest run put most NoRuns so_far few none word is =
    let ends = ends_there all rest run put so_far none in
    (ap bytes_of_runs is ∙ ends.0, subst (λ (n : ℕ). n ≤ most) (sym (ap (λ (runs : List (List ℕ)). length (front_of_runs runs)) is ∙ ap length ends.1)) few)
why_no_run all rest run put most TooMany so_far few (more, said, many) word is =
    let next = one_put all rest run put more so_far said in
    let len : length (front_of_word word) ≡ (length put + length more) + length (front_of_runs rest) =
    ap (λ (runs : List (List ℕ)). length (front_of_runs runs)) is ∙ (ap length next.front ∙ (length-append (put ++ more) (front_of_runs rest) ∙ ap (λ (n : ℕ). n + length (front_of_runs rest)) (length-append put more))) in
    omega (arith, len, many)
why_no_run all rest run put most Memory so_far few not_put word is = tt

pub next_run : (all : List (List ℕ)) (n : ℕ) (run : List ℕ) → (n < length all) × (run ≡ get_or all n run) → drop n all ≡ run ∷ drop (n + 1) all
next_run all n run (inside, is) =
    let cut : drop n all ≡ get_or all n run ∷ drop (suc n) all = drop-cons all n run inside in
    rw add-one (cut ∙ ap (λ (first : List ℕ). first ∷ drop (suc n) all) (sym is))

-- Counts

-- some first runs of all have this many bytes, and these are left
pub record Counts (all rest : List (List ℕ)) (len : ℕ) : Type 0 where
  pub counted : len_of_runs all ≡ option_map (λ more. len + more) (len_of_runs rest)

pub none_counted : (all : List (List ℕ)) → Counts all all 0
none_counted all = record { counted = same (len_of_runs all) }
  where
    same : (len : Option ℕ) → len ≡ option_map (λ more. 0 + more) len
    same None = refl
    same (Some len) = ap Some (omega arith)

all_counted_by : ℕ → Option ℕ → Option ℕ → Option ℕ
all_counted_by len rest run = option_map (λ more. len + more) (option_and_then (λ n. option_map (λ more. n + more) rest) run)

by_run : (all rest : List (List ℕ)) (run : List ℕ) (len : ℕ) (found : Option ℕ) → Counts all (run ∷ rest) len → run_len run ≡ found → len_of_runs all ≡ all_counted_by len (len_of_runs rest) found
unfolding all_counted_by
by_run all rest run len found so_far said = so_far.counted ∙ ap (all_counted_by len (len_of_runs rest)) said

pub one_counted : (all rest : List (List ℕ)) (run : List ℕ) (len more : ℕ) → Counts all (run ∷ rest) len → run_len run ≡ Some more → Counts all rest (len + more)
unfolding all_counted_by
one_counted all rest run len more so_far said = record { counted = by_run all rest run len (Some more) so_far said ∙ joined (len_of_runs rest) }
  where
    joined : (rest : Option ℕ) → option_map (λ behind. len + behind) (option_map (λ behind. more + behind) rest) ≡ option_map (λ behind. (len + more) + behind) rest
    joined None = refl
    joined (Some behind) = ap Some (omega arith)

pub all_counted : (all : List (List ℕ)) (len : ℕ) → Counts all [] len → len_of_runs all ≡ Some len
all_counted all len so_far = so_far.counted ∙ ap Some (omega arith)

many_left : (all rest : List (List ℕ)) (len : ℕ) → Counts all rest len → 2 ^ 64 ≤ len → IsUncounted (len_of_runs all)
many_left all rest len so_far many = subst IsUncounted (sym so_far.counted) (more (len_of_runs rest))
  where
    more : (rest : Option ℕ) → IsUncounted (option_map (λ behind. len + behind) rest)
    more None = tt
    more (Some behind) = omega (arith, many)

-- a run that is one too many for a number of 64 bits
pub too_many_counted : (all rest : List (List ℕ)) (run : List ℕ) (len more : ℕ) → Counts all (run ∷ rest) len → run_len run ≡ Some more → 2 ^ 64 ≤ len + more → IsUncounted (len_of_runs all)
too_many_counted all rest run len more so_far said many = many_left all rest (len + more) (one_counted all rest run len more so_far said) many

-- a run that is not counted ends the count
pub uncounted : (all rest : List (List ℕ)) (run : List ℕ) (len : ℕ) → Counts all (run ∷ rest) len → IsUncounted (run_len run) → IsUncounted (len_of_runs all)
unfolding all_counted_by
uncounted all rest run len so_far not_said = by (run_len run) refl not_said
  where
    by : (found : Option ℕ) → run_len run ≡ found → IsUncounted found → IsUncounted (len_of_runs all)
    by None said many = subst IsUncounted (sym (by_run all rest run len None so_far said)) tt
    by (Some more) said many = too_many_counted all rest run len more so_far said (omega (arith, many))
