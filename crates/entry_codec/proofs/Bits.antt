-- Parts of lists, the words in them, and the bits of a word.
use Rattle.std.proofs.Common.{rules, arith, ◌≡◌, ℕ, ◌+◌, ◌<◌, ◌≤◌, ◌^◌, inl, inr, List, [], ◌∷◌, ◌++◌, length, get_or, take, drop, replicate, refl, sym, ◌∙◌, ap, append_assoc, length-append, length-drop, zero, suc, ◌*◌, ◌/◌, ◌%◌, Bool, true, false, nat_eq, bit_or}
use Rattle.std.proofs.{Math.Seq.take-add, lemmas.Bool.cases_lt}
use Rattle.std.proofs.lemmas.List.{take_at, drop_at, take-take, drop-take, drop-drop, drop_more, get_or-take, get_or-drop, get_or_past, length-take-le}
use Rattle.std.proofs.lemmas.{List.Folds.drop_split, Nat.{le_bytes_2, le_bytes_4, le_bytes_8, or_shifted}}
use Rattle.std.specs.{Int.{w16, w32, w64, to_le_bytes, from_le_bytes, from_bool}, List.slice_range}
use Rattle.entry_codec.specs.{Bytes.IsBytes, Completion.{completion_of, last_halfword}, Hints.{hint_bits, FitsHints}}
use Rattle.entry_codec.specs.declared.hints.Hints.{Hints}
use borrow.Rule.Slice.PartMut.{put_mid}

-- Parts of lists, and the words in them.

-- a list that is written part by part, from its start to its end
pub part_put : (before part rest : List ℕ) (at many : ℕ) → length before ≡ at → put_mid at many (before ++ rest) part ≡ (before ++ part) ++ drop many rest
part_put before part rest at many e =
    rw (take_at before rest at e, drop_at before rest at e) (sym (append_assoc before part (drop many rest)))

-- the four parts of a submission entry, written over zeros after the first
pub parts_joined : (head pointer sgl words : List ℕ) → length head ≡ 16 → length pointer ≡ 8 → length sgl ≡ 16 → length words ≡ 24
    → put_mid 40 24 (put_mid 24 16 (put_mid 16 8 (head ++ replicate 48 0) pointer) sgl) words ≡ head ++ pointer ++ sgl ++ words
parts_joined head pointer sgl words a b c d =
    let two : length (head ++ pointer) ≡ 24 = simp length-append (omega arith) in
    let three : length (head ++ pointer ++ sgl) ≡ 40 = simp length-append (omega arith) in
    ap (λ x. put_mid 40 24 (put_mid 24 16 x sgl) words) (part_put head pointer (replicate 48 0) 16 8 a)
    ∙ ap (λ x. put_mid 40 24 x words) (part_put (head ++ pointer) sgl (replicate 40 0) 24 16 two)
    ∙ part_put (head ++ pointer ++ sgl) words (replicate 24 0) 40 24 three
    ∙ search rules

-- a part of a string of bytes is one
pub part_is_bytes : (many : ℕ) (bytes : List ℕ) → IsBytes many bytes → (at n : ℕ) → at + n ≤ many → IsBytes n (take n (drop at bytes))
part_is_bytes many bytes h at n fits =
    let rest : n ≤ length (drop at bytes) = simp length-drop (omega (arith, h.count)) in
    let whole : length (take n (drop at bytes)) ≡ n = length-take-le n (drop at bytes) rest in
    record {
      count = whole;
      below = λ k. elim (cases_lt k n) [
        | inl less ↦ rw (get_or-take n (drop at bytes) k 0 less, get_or-drop at bytes k 0) (h.below (at + k))
        | inr more ↦ rw (get_or_past (take n (drop at bytes)) k 0 (rw whole more)) (omega arith)
      ];
    }

-- bytes that are read as a number are those that are written for it, and the number fits
pub halfword_back : (bytes : List ℕ) → IsBytes 2 bytes → bytes ≡ to_le_bytes w16 (from_le_bytes w16 bytes)
halfword_back bytes h = sym (le_bytes_2 bytes (from_le_bytes w16 bytes) h.count h.below refl)

pub word_back : (bytes : List ℕ) → IsBytes 4 bytes → bytes ≡ to_le_bytes w32 (from_le_bytes w32 bytes)
word_back bytes h = sym (le_bytes_4 bytes (from_le_bytes w32 bytes) h.count h.below refl)

pub double_back : (bytes : List ℕ) → IsBytes 8 bytes → bytes ≡ to_le_bytes w64 (from_le_bytes w64 bytes)
double_back bytes h = sym (le_bytes_8 bytes (from_le_bytes w64 bytes) h.count h.below refl)

pub halfword_fits : (bytes : List ℕ) (n : ℕ) → IsBytes n bytes → from_le_bytes w16 bytes < 2 ^ 16
halfword_fits bytes n h = omega (arith, h.below 0, h.below 1)

pub word_fits : (bytes : List ℕ) (n : ℕ) → IsBytes n bytes → from_le_bytes w32 bytes < 2 ^ 32
word_fits bytes n h = omega (arith, h.below 0, h.below 1, h.below 2, h.below 3)

pub double_fits : (bytes : List ℕ) (n : ℕ) → IsBytes n bytes → from_le_bytes w64 bytes < 2 ^ 64
double_fits bytes n h = omega (arith, h.below 0, h.below 1, h.below 2, h.below 3, h.below 4, h.below 5, h.below 6, h.below 7)

-- lists that agree on a part and after it
pub same_from : (a b : List ℕ) (at end : ℕ) → at ≤ end → slice_range a at end ≡ slice_range b at end → drop end a ≡ drop end b → drop at a ≡ drop at b
same_from a b at end order part rest = drop_split a at end order ∙ ap (λ x. x ++ drop end a) part ∙ ap (λ x. slice_range b at end ++ x) rest ∙ sym (drop_split b at end order)

-- a part of a part
pub part_within : (a b : List ℕ) (at many i n : ℕ) → i + n ≤ many → take many (drop at a) ≡ take many (drop at b) → take n (drop (at + i) a) ≡ take n (drop (at + i) b)
part_within a b at many i n fits e =
    let inside : (xs : List ℕ) → take n (drop i (take many (drop at xs))) ≡ take n (drop (at + i) xs) = λ xs.
    sym (drop-take i n (take many (drop at xs)))
    ∙ ap (λ x. drop i x) (take-take (i + n) many (drop at xs) fits)
    ∙ drop-take i n (drop at xs)
    ∙ ap (λ x. take n x) (drop-drop i at xs) in
    sym (inside a) ∙ ap (λ x. take n (drop i x)) e ∙ inside b

-- two parts, one after the other
pub same_parts : (a b : List ℕ) (at n m : ℕ) → take n (drop at a) ≡ take n (drop at b) → take m (drop (at + n) a) ≡ take m (drop (at + n) b)
    → take (n + m) (drop at a) ≡ take (n + m) (drop at b)
same_parts a b at n m first second =
    let both : (xs : List ℕ) → take (n + m) (drop at xs) ≡ take n (drop at xs) ++ take m (drop (at + n) xs) =
    λ xs. take-add n m (drop at xs) ∙ ap (λ x. take n (drop at xs) ++ take m x) (drop-drop n at xs) in
    both a ∙ ap (λ x. x ++ take m (drop (at + n) a)) first ∙ ap (λ x. take n (drop at b) ++ x) second ∙ sym (both b)

-- a part of one element
pub one_at : (xs : List ℕ) (at : ℕ) → at < length xs → take 1 (drop at xs) ≡ get_or xs at 0 ∷ []
one_at xs at within = ap (λ x. take 1 x) (drop_more xs at 0 within)

-- The bits of the last halfword of a completion.

-- a bit as a number, and a number as a bit
pub bit_fits : (bit : Bool) → from_bool bit < 2
bit_fits true = omega arith
bit_fits false = omega arith

pub bit_back : (bit : Bool) → nat_eq (from_bool bit) 1 ≡ bit
bit_back true = refl
bit_back false = refl

pub number_back : (n : ℕ) → n < 2 → from_bool (nat_eq n 1) ≡ n
number_back zero h = refl
number_back (suc zero) h = refl
number_back (suc (suc n)) h = absurd (omega arith)

pub is_bit : (n : ℕ) (bit : Bool) → n ≡ from_bool bit → nat_eq n 1 ≡ bit
is_bit n bit e = ap (λ x. nat_eq x 1) e ∙ bit_back bit

-- hints have four bits
pub hints_fit : (hints : Hints) → FitsHints hints → hint_bits hints < 16
hints_fit hints fits =
    let more = bit_fits hints.more in
    let do_not_retry = bit_fits hints.do_not_retry in
    omega (arith, fits.retry_delay)

-- the four fields do not overlap, so joining them adds them
pub fields_add : (hints sct sc phase : ℕ) → hints < 16 → sct < 8 → sc < 256 → phase < 2
    → bit_or (bit_or (hints * 4096 % 65536) (bit_or (sct * 512 % 65536) (sc * 2 % 65536))) phase ≡ hints * 4096 + (sct * 512 + sc * 2 + phase)
fields_add hints sct sc phase hints_fit type_fits code_fits bit_fits =
    let hints_stay : hints * 4096 % 65536 ≡ hints * 4096 = omega arith in
    let type_stays : sct * 512 % 65536 ≡ sct * 512 = omega arith in
    let code_stays : sc * 2 % 65536 ≡ sc * 2 = omega arith in
    let status : bit_or (sct * 512) (sc * 2) ≡ sct * 512 + sc * 2 = or_shifted sct 9 (sc * 2) (omega arith) in
    let joined : bit_or (hints * 4096) (sct * 512 + sc * 2) ≡ hints * 4096 + (sct * 512 + sc * 2) = or_shifted hints 12 (sct * 512 + sc * 2) (omega arith) in
    let doubled : hints * 4096 + (sct * 512 + sc * 2) ≡ (hints * 2048 + sct * 256 + sc) * 2 = omega arith in
    let last : bit_or ((hints * 2048 + sct * 256 + sc) * 2) phase ≡ (hints * 2048 + sct * 256 + sc) * 2 + phase = or_shifted (hints * 2048 + sct * 256 + sc) 1 phase bit_fits in
    rw (hints_stay, type_stays, code_stays, status, joined, doubled, last) (omega arith)

-- a halfword is made of the fields that are read from it
pub fields_of : (bytes : List ℕ) → from_le_bytes w16 (slice_range bytes 14 16) < 2 ^ 16 → last_halfword (completion_of bytes) ≡ from_le_bytes w16 (slice_range bytes 14 16)
unfolding completion_of
fields_of bytes h =
    let n = from_le_bytes w16 (slice_range bytes 14 16) in
    rw (number_back (n % 2) (omega arith), number_back (n / 16384 % 2) (omega arith), number_back (n / 32768) (omega arith)) (omega arith)
