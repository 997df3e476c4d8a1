-- A list of Bools, and the words with a summary that hold it.
use Rattle.std.proofs.Common.{◌≡◌, ◌≢◌, ℕ, ◌+◌, ◌-◌, ◌*◌, ◌/◌, ◌%◌, ◌^◌, ◌<◌, ◌≤◌, ◌⊎◌, ◌==◌, ◌&&◌, inl, inr, Bool, true, false, not, List, length, get_or, replicate, slice_index, slice_set, refl, ap, sym, ◌∙◌, arith, subst, nat_lt, length-set, w64}
use Rattle.std.proofs.lemmas.Bool.{true≢false, cases_lt, cases_eq, lt-ltb, le-ltb, ne_eqb, eqb-true, eqb-false, not-true, not-false}
use Rattle.std.proofs.lemmas.List.{get_or-set_same, get_or-set_other, get_or_past, get_or_read, get_or-replicate, length-replicate, ext_get_or}
use Rattle.std.{proofs.lemmas.{List.FromFn.{length-map-range_with_len, get_or-map-range_with_len}, Nat.Bits.bit_at-zero}, specs.Int.trailing_zeros}
use Rattle.slot_table.{proofs.{Sets.{set-in, set-past}, Words.{zero-from, one-inside, lowest-of}}, specs.Bits.{is_one, is_set, IsPut}}
use Rattle.slot_table.specs.{Places.{is_true_at, bools_of, IsSummed}, Searches.{IsFirstFrom, IsNoneFrom, IsRunEnd}}

-- the Bool of a position is its bit

pub length-bools : (words : List ℕ) (len : ℕ) → length (bools_of words len) ≡ len
length-bools words len = length-map-range_with_len (is_set words) 0 len

bool-inside : (words : List ℕ) (len p : ℕ) → p < len → is_true_at (bools_of words len) p ≡ is_set words p
bool-inside words len p inside = get_or-map-range_with_len (is_set words) 0 len p p false inside (omega arith)

bool-is : (words summary : List ℕ) (len : ℕ) → IsSummed words summary len → (p : ℕ) → is_true_at (bools_of words len) p ≡ is_set words p
bool-is words summary len summed p = elim (cases_lt p len) [
  | inl inside ↦ bool-inside words len p inside
  | inr past ↦ get_or_past (bools_of words len) p false (omega (arith, length-bools words len)) ∙ sym (summed.past p past)
]

-- a list that is all true

pub bools-all : (words : List ℕ) (len : ℕ) → ((i : ℕ) → is_set words i ≡ nat_lt i len) → bools_of words len ≡ replicate len true
bools-all words len all =
    ext_get_or false (bools_of words len) (replicate len true) (length-bools words len ∙ sym (length-replicate len true))
    (λ i within.
    let inside : i < len = omega (arith, length-bools words len) in
    bool-inside words len i inside ∙ (all i ∙ (lt-ltb i len inside ∙ sym (get_or-replicate len i true false inside))))

pub summed-all : (words summary : List ℕ) (len : ℕ) → len ≤ 65536 → length words ≡ (len + 63) / 64 → ((i : ℕ) → is_set words i ≡ nat_lt i len)
    → length summary ≡ (length words + 63) / 64 → ((w : ℕ) → is_set summary w ≡ nat_lt w (length words)) → IsSummed words summary len
summed-all words summary len most size all above sums = record {
  most = most;
  size = size;
  above = above;
  past = λ p past. all p ∙ le-ltb p len past;
  sums = λ w. sums w ∙ by_presence w (cases_lt w (length words));
}
  where
    by_presence : (w : ℕ) → (w < length words) ⊎ (length words ≤ w) → nat_lt w (length words) ≡ not (slice_index words w == 0)
    by_presence w (inr past) = le-ltb w (length words) past ∙ sym (ap (λ (n : ℕ). not (n == 0)) (get_or_past words w 0 past))
    by_presence w (inl inside) = lt-ltb w (length words) inside ∙ sym (ap (λ b. not b) (ne_eqb (slice_index words w) 0 some))
      where
        some : slice_index words w ≡ 0 → ⊥
        some nothing =
            let first : is_set words (64 * w) ≡ true = all (64 * w) ∙ lt-ltb (64 * w) len (omega (arith, size)) in
            let none : is_set words (64 * w) ≡ false = set-in words w (64 * w) (omega arith) (omega arith) ∙ (ap (λ n. is_one n (64 * w - 64 * w)) nothing ∙ zero-from 0 _ (bit_at-zero _)) in
            true≢false (sym first ∙ none)

-- a list whose positions were all made alike

pub bools-filled : (words : List ℕ) (len : ℕ) (value : Bool) → ((i : ℕ) → is_set words i ≡ (value && nat_lt i len)) → bools_of words len ≡ replicate len value
bools-filled words len true all = bools-all words len all
bools-filled words len false all =
    ext_get_or true (bools_of words len) (replicate len false) (length-bools words len ∙ sym (length-replicate len false))
    (λ i within.
    let inside : i < len = omega (arith, length-bools words len) in
    get_or-map-range_with_len (is_set words) 0 len i i true inside (omega arith) ∙ (all i ∙ sym (get_or-replicate len i false true inside)))

pub summed-filled : (words summary : List ℕ) (len : ℕ) (value : Bool) → len ≤ 65536 → length words ≡ (len + 63) / 64 → ((i : ℕ) → is_set words i ≡ (value && nat_lt i len))
    → (value ≡ false → (w : ℕ) → slice_index words w ≡ 0) → length summary ≡ (length words + 63) / 64 → ((w : ℕ) → is_set summary w ≡ (value && nat_lt w (length words))) → IsSummed words summary len
summed-filled words summary len true most size all none above sums = summed-all words summary len most size all above sums
summed-filled words summary len false most size all none above sums = record {
  most = most;
  size = size;
  above = above;
  past = λ p past. all p;
  sums = λ w. sums w ∙ sym (ap (λ (n : ℕ). not (n == 0)) (none refl w));
}

-- one position written

pub bools-put : (words now : List ℕ) (len p : ℕ) (value : Bool) → p < len → IsPut words p value now → bools_of now len ≡ slice_set (bools_of words len) p value
bools-put words now len p value inside put =
    ext_get_or false (bools_of now len) (slice_set (bools_of words len) p value)
    (length-bools now len ∙ sym (length-set (bools_of words len) p value ∙ length-bools words len))
    (λ i within. let l : i < len = omega (arith, length-bools now len) in bool-inside now len i l ∙ by_place i l (cases_eq i p))
  where
    by_place : (i : ℕ) → i < len → (i ≡ p) ⊎ (i ≢ p) → is_set now i ≡ is_true_at (slice_set (bools_of words len) p value) i
    by_place i l (inl same) = rw same (put.here ∙ sym (get_or-set_same (bools_of words len) p value false (omega (arith, length-bools words len))))
    by_place i l (inr other) = put.others i other ∙ sym (get_or-set_other (bools_of words len) p i value false other ∙ bool-inside words len i l)

pub summed-put : (words summary now above : List ℕ) (len p : ℕ) (value : Bool) → IsSummed words summary len → p < len → IsPut words p value now
    → IsPut summary (p / 64) (not (slice_index now (p / 64) == 0)) above → IsSummed now above len
summed-put words summary now above len p value summed inside put sum = record {
  most = summed.most;
  size = put.size ∙ summed.size;
  above = sum.size ∙ (summed.above ∙ ap (λ (n : ℕ). (n + 63) / 64) (sym put.size));
  past = λ q past. put.others q (omega arith) ∙ summed.past q past;
  sums = λ w. by_word w (cases_eq w (p / 64));
}
  where
    by_word : (w : ℕ) → (w ≡ p / 64) ⊎ (w ≢ p / 64) → is_set above w ≡ not (slice_index now w == 0)
    by_word w (inl same) = rw same sum.here
    by_word w (inr other) = sum.others w other ∙ (summed.sums w ∙ ap (λ (n : ℕ). not (n == 0)) (sym (put.words w other)))

-- the lowest 1 by the words and their summary

pub none-behind_words : (words : List ℕ) (from : ℕ) → length words ≤ from / 64 → IsNoneFrom (is_set words) from
none-behind_words words from past = record { fails = λ i from_i. set-past words i (omega arith) }

first-in_word : (words : List ℕ) (from place : ℕ) → IsFirstFrom (is_one (slice_index words (from / 64))) (from % 64) place → place < 64 → IsFirstFrom (is_set words) from (64 * (from / 64) + place)
first-in_word words from place first inside = record {
  after = omega (arith, first.after);
  passes = set-in words (from / 64) (64 * (from / 64) + place) (omega arith) (omega arith)
      ∙ subst (λ (j : ℕ). is_one (slice_index words (from / 64)) j ≡ true) (omega arith) first.passes;
  before = λ i from_i below. set-in words (from / 64) i (omega arith) (omega arith) ∙ first.before (i - 64 * (from / 64)) (omega arith) (omega arith);
}

none-in_words : (words summary : List ℕ) (len from i : ℕ) → IsSummed words summary len → IsNoneFrom (is_one (slice_index words (from / 64))) (from % 64) → from ≤ i
    → (from / 64 + 1 ≤ i / 64 → is_set summary (i / 64) ≡ false) → is_set words i ≡ false
none-in_words words summary len from i summed here from_i above = elim (cases_lt (from / 64) (i / 64)) [
  | inl further ↦
      let nothing : slice_index words (i / 64) ≡ 0 = eqb-true (slice_index words (i / 64)) 0 (not-false _ (sym (summed.sums (i / 64)) ∙ above (omega arith))) in
      ap (λ w. is_one w (i % 64)) nothing ∙ zero-from 0 (i % 64) (bit_at-zero (i % 64))
  | inr same ↦ set-in words (from / 64) i (omega arith) (omega arith) ∙ here.fails (i - 64 * (from / 64)) (omega arith)
]

none-above : (words summary : List ℕ) (len from : ℕ) → IsSummed words summary len → IsNoneFrom (is_one (slice_index words (from / 64))) (from % 64)
    → IsNoneFrom (is_set summary) (from / 64 + 1) → IsNoneFrom (is_set words) from
none-above words summary len from summed here above = record {
  fails = λ i from_i. none-in_words words summary len from i summed here from_i (λ l. above.fails (i / 64) l);
}

first-above : (words summary : List ℕ) (len from next : ℕ) → IsSummed words summary len → IsNoneFrom (is_one (slice_index words (from / 64))) (from % 64)
    → IsFirstFrom (is_set summary) (from / 64 + 1) next → slice_index words next < 2 ^ 64 → IsFirstFrom (is_set words) from (64 * next + trailing_zeros w64 (slice_index words next))
first-above words summary len from next summed here above fits = record {
  after = omega (arith, above.after);
  passes = set-in words next (64 * next + place) (omega arith) (omega (arith, inside))
      ∙ subst (λ (j : ℕ). is_one (slice_index words next) j ≡ true) (omega arith) low.passes;
  before = λ i from_i below. by_order i from_i below (cases_lt (i / 64) next);
}
  where
    place : ℕ
    place = trailing_zeros w64 (slice_index words next)

    some : 0 < slice_index words next
    some = omega (arith, eqb-false (slice_index words next) 0 (not-true _ (sym (summed.sums next) ∙ above.passes)))

    low : IsFirstFrom (is_one (slice_index words next)) 0 place
    low = lowest-of (slice_index words next) fits some

    inside : place < 64
    inside = one-inside (slice_index words next) place fits low.passes

    by_order : (i : ℕ) → from ≤ i → i < 64 * next + place → (i / 64 < next) ⊎ (next ≤ i / 64) → is_set words i ≡ false
    by_order i from_i below (inl earlier) = none-in_words words summary len from i summed here from_i (λ l. above.before (i / 64) l earlier)
    by_order i from_i below (inr same) =
        set-in words next i (omega (arith, inside)) (omega (arith, inside)) ∙ low.before (i - 64 * next) (omega arith) (omega (arith, inside))

-- a word that the summary names is in the list
word-inside : (words summary : List ℕ) (len w : ℕ) → IsSummed words summary len → is_set summary w ≡ true → w < length words
word-inside words summary len w summed set = elim (cases_lt w (length words)) [
  | inl inside ↦ inside
  | inr past ↦ absurd (true≢false (sym set ∙ (summed.sums w ∙ ap (λ (n : ℕ). not (n == 0)) (get_or_past words w 0 past))))
]

-- searches by the words, and by the list

pub first-of : {words summary : List ℕ} {len from r : ℕ} → IsSummed words summary len → IsFirstFrom (is_set words) from r → IsFirstFrom (is_true_at (bools_of words len)) from r
first-of {words} {summary} {len} {r = r} summed first = record {
  after = first.after;
  passes = bool-is words summary len summed r ∙ first.passes;
  before = λ i from_i below. bool-is words summary len summed i ∙ first.before i from_i below;
}

pub none-of : {words summary : List ℕ} {len from : ℕ} → IsSummed words summary len → IsNoneFrom (is_set words) from → IsNoneFrom (is_true_at (bools_of words len)) from
none-of {words} {summary} {len} summed none = record { fails = λ i from_i. bool-is words summary len summed i ∙ none.fails i from_i }

pub end-of : {words summary : List ℕ} {len from limit r : ℕ} → IsSummed words summary len → IsRunEnd (is_set words) from limit r → IsRunEnd (is_true_at (bools_of words len)) from limit r
end-of {words} {summary} {len} {r = r} summed end = record {
  after = end.after;
  inside = end.inside;
  passes = λ i from_i below. bool-is words summary len summed i ∙ end.passes i from_i below;
  ends = λ short. bool-is words summary len summed r ∙ end.ends short;
}

-- the same where the words were read

pub found-here : {words summary : List ℕ} {len place : ℕ} (from word : ℕ) → IsSummed words summary len → from / 64 < length words → word ≡ get_or words (from / 64) word
    → IsFirstFrom (is_one word) (from % 64) place → place < 64 → IsFirstFrom (is_true_at (bools_of words len)) from (64 * (from / 64) + place)
found-here {words} from word summed inside read first fits =
    first-of summed (first-in_word words from _ (rw (← get_or_read words (from / 64) word inside read 0) first) fits)

pub found-above : {words summary : List ℕ} {len next : ℕ} (from word low : ℕ) → IsSummed words summary len → from / 64 < length words → word ≡ get_or words (from / 64) word
    → IsNoneFrom (is_one word) (from % 64) → IsFirstFrom (is_set summary) (from / 64 + 1) next → low ≡ get_or words next low → low < 2 ^ 64
    → IsFirstFrom (is_true_at (bools_of words len)) from (64 * next + trailing_zeros w64 low)
found-above {words} {summary} {len} {next} from word low summed inside read here above seen fits =
    let is : low ≡ slice_index words next = get_or_read words next low (word-inside words summary len next summed above.passes) seen 0 in
    rw is (first-of summed (first-above words summary len from next summed (rw (← get_or_read words (from / 64) word inside read 0) here) above (omega (arith, is))))

pub none-left : {words summary : List ℕ} {len : ℕ} (from word : ℕ) → IsSummed words summary len → from / 64 < length words → word ≡ get_or words (from / 64) word
    → IsNoneFrom (is_one word) (from % 64) → IsNoneFrom (is_set summary) (from / 64 + 1) → IsNoneFrom (is_true_at (bools_of words len)) from
none-left {words} {summary} {len} from word summed inside read here above =
    none-of summed (none-above words summary len from summed (rw (← get_or_read words (from / 64) word inside read 0) here) above)

-- a list of Bools past its end, and inside

pub none-past : (list : List Bool) → IsNoneFrom (is_true_at list) (length list)
none-past list = record { fails = λ i past. get_or_past list i false past }

pub first-inside : {from r : ℕ} (list : List Bool) → IsFirstFrom (is_true_at list) from r → r < length list
first-inside {r = r} list first = elim (cases_lt r (length list)) [
  | inl inside ↦ inside
  | inr past ↦ absurd (true≢false (sym first.passes ∙ get_or_past list r false past))
]
