-- Two strings that are read alike, and the bytes that their type reserves.
use Rattle.std.proofs.Common.{arith, ◌≡◌, ◌≢◌, ◌⊎◌, inl, inr, ◌<◌, ◌≤◌, ◌+◌, ◌-◌, ℕ, List, Some, None, get_or, take, drop, length, refl, sym, ◌∙◌, subst, ap, length-drop}
use Rattle.std.proofs.lemmas.{Bool.{cases_lt}, List.{get_or-take, get_or-drop, get_or_past, length-take-le, ext_get_or}, Nat.{le_bytes_8, le_bytes_4}}
use Rattle.std.specs.Int.{w32, w64, to_le_bytes, from_le_bytes}
use Rattle.sgl_descriptor.{proofs.Spells.{found, spelled, none_of, valid_or_not, valid_spells}, specs.Laws.{IsSixteenBytes, ReadAlike}}
use Rattle.sgl_descriptor.specs.Spelling.{IsSpelling, descriptor_of, address_of, length_of, type_of, HasInvalidType, IsReserved, AgreeOutsideReserved}
use Rattle.sgl_descriptor.specs.declared.Descriptor.{Descriptor, TheVariants.{BitBucket}}

-- Below, a piece is n bytes starting at the k-th.

get_or-piece : (k n : ℕ) (a : List ℕ) (i : ℕ) → i < n → get_or (take n (drop k a)) i 0 ≡ get_or a (k + i) 0
get_or-piece k n a i h = get_or-take n (drop k a) i 0 h ∙ get_or-drop k a i 0

length-piece : (k n : ℕ) (a : List ℕ) → k + n ≤ length a → length (take n (drop k a)) ≡ n
length-piece k n a h = length-take-le n (drop k a) (omega (arith, length-drop k a))

piece_small : (k n : ℕ) (a : List ℕ) → k + n ≤ length a → ((i : ℕ) → get_or a i 0 < 256) → (i : ℕ) → get_or (take n (drop k a)) i 0 < 256
piece_small k n a h small i = elim (cases_lt i n) [
  | inl within ↦ rw (get_or-piece k n a i within) (small (k + i))
  | inr past ↦ rw (get_or_past (take n (drop k a)) i 0 (omega (arith, length-piece k n a h))) (omega arith)
]

piece_same : (k n : ℕ) (a b : List ℕ) → k + n ≤ length a → k + n ≤ length b → ((i : ℕ) → i < n → get_or a (k + i) 0 ≡ get_or b (k + i) 0) → take n (drop k a) ≡ take n (drop k b)
piece_same k n a b ha hb same =
    ext_get_or 0 (take n (drop k a)) (take n (drop k b)) (length-piece k n a ha ∙ sym (length-piece k n b hb))
    (λ i h. let within : i < n = omega (arith, length-piece k n a ha) in
    get_or-piece k n a i within ∙ same i within ∙ sym (get_or-piece k n b i within))

-- equal reads of one piece, at each byte
from_piece : (k n : ℕ) (a b : List ℕ) → take n (drop k a) ≡ take n (drop k b) → (i : ℕ) → i < n → get_or a (k + i) 0 ≡ get_or b (k + i) 0
from_piece k n a b e i h = sym (get_or-piece k n a i h) ∙ ap (λ (xs : List ℕ). get_or xs i 0) e ∙ get_or-piece k n b i h

-- equal addresses, equal strings of 8 bytes

same_address : (a b : List ℕ) → IsSixteenBytes a → IsSixteenBytes b → address_of a ≡ address_of b → (i : ℕ) → i < 8 → get_or a i 0 ≡ get_or b i 0
same_address a b ha hb e i h =
    let la : 0 + 8 ≤ length a = omega (arith, ha.sixteen) in
    let lb : 0 + 8 ≤ length b = omega (arith, hb.sixteen) in
    let back_a : to_le_bytes w64 (address_of a) ≡ take 8 a = le_bytes_8 (take 8 a) (address_of a) (length-piece 0 8 a la) (piece_small 0 8 a la ha.small) refl in
    let back_b : to_le_bytes w64 (address_of b) ≡ take 8 b = le_bytes_8 (take 8 b) (address_of b) (length-piece 0 8 b lb) (piece_small 0 8 b lb hb.small) refl in
    sym (get_or-take 8 a i 0 h) ∙ ap (λ (xs : List ℕ). get_or xs i 0) (sym back_a ∙ ap (to_le_bytes w64) e ∙ back_b) ∙ get_or-take 8 b i 0 h

address_same : (a b : List ℕ) → IsSixteenBytes a → IsSixteenBytes b → ((i : ℕ) → i < 8 → get_or a i 0 ≡ get_or b i 0) → address_of a ≡ address_of b
address_same a b ha hb same =
    ap (from_le_bytes w64) (ext_get_or 0 (take 8 a) (take 8 b)
    (length-take-le 8 a (omega (arith, ha.sixteen)) ∙ sym (length-take-le 8 b (omega (arith, hb.sixteen))))
    (λ i h. let within : i < 8 = omega (arith, length-take-le 8 a (omega (arith, ha.sixteen))) in
    get_or-take 8 a i 0 within ∙ same i within ∙ sym (get_or-take 8 b i 0 within)))

-- equal lengths, equal strings of 4 bytes

same_length : (a b : List ℕ) → IsSixteenBytes a → IsSixteenBytes b → length_of a ≡ length_of b → (i : ℕ) → i < 4 → get_or a (8 + i) 0 ≡ get_or b (8 + i) 0
same_length a b ha hb e i h =
    let la : 8 + 4 ≤ length a = omega (arith, ha.sixteen) in
    let lb : 8 + 4 ≤ length b = omega (arith, hb.sixteen) in
    let back_a : to_le_bytes w32 (length_of a) ≡ take 4 (drop 8 a) = le_bytes_4 (take 4 (drop 8 a)) (length_of a) (length-piece 8 4 a la) (piece_small 8 4 a la ha.small) refl in
    let back_b : to_le_bytes w32 (length_of b) ≡ take 4 (drop 8 b) = le_bytes_4 (take 4 (drop 8 b)) (length_of b) (length-piece 8 4 b lb) (piece_small 8 4 b lb hb.small) refl in
    from_piece 8 4 a b (sym back_a ∙ ap (to_le_bytes w32) e ∙ back_b) i h

length_same : (a b : List ℕ) → IsSixteenBytes a → IsSixteenBytes b → ((i : ℕ) → i < 4 → get_or a (8 + i) 0 ≡ get_or b (8 + i) 0) → length_of a ≡ length_of b
length_same a b ha hb same =
    ap (from_le_bytes w32) (piece_same 8 4 a b (omega (arith, ha.sixteen)) (omega (arith, hb.sixteen)) same)

-- the fields that are the same where the strings agree outside the reserved bytes
record SameFields (a b : List ℕ) : Type 0 where
  last : get_or a 15 0 ≡ get_or b 15 0
  len : length_of a ≡ length_of b
  addr : type_of a ≢ 1 → address_of a ≡ address_of b

-- bytes before 12 and byte 15 are not reserved for the first reason, bytes starting at 8 and those of other types not for the second
not_reserved : (kind i : ℕ) → (i < 12) ⊎ (14 < i) → (kind ≢ 1) ⊎ (7 < i) → ¬ IsReserved kind i
not_reserved kind i place type (inl h) = elim place [ inl before ↦ omega (arith, h.0, h.1) | inr behind ↦ omega (arith, h.0, h.1) ]
not_reserved kind i place type (inr h) = elim type [ inl other ↦ absurd (other h.0) | inr behind ↦ omega (arith, h.1) ]

-- the fields are the same where the strings agree
fields_of : (a b : List ℕ) → IsSixteenBytes a → IsSixteenBytes b → AgreeOutsideReserved a b → SameFields a b
fields_of a b ha hb agree = record {
  last = agree 15 (omega arith) (not_reserved (type_of a) 15 (inr (omega arith)) (inr (omega arith)));
  len = length_same a b ha hb (λ i h. agree (8 + i) (omega arith) (not_reserved (type_of a) (8 + i) (inl (omega arith)) (inr (omega arith))));
  addr = λ other. address_same a b ha hb (λ i h. agree i (omega arith) (not_reserved (type_of a) i (inl (omega arith)) (inl other)));
}

-- the strings agree where the last bytes and the fields are the same
agree_of : (a b : List ℕ) → IsSixteenBytes a → IsSixteenBytes b → get_or a 15 0 ≡ get_or b 15 0 → length_of a ≡ length_of b → (type_of a ≡ 1) ⊎ (address_of a ≡ address_of b) → AgreeOutsideReserved a b
agree_of a b ha hb last len addr i within free =
    elim (cases_lt i 8) [
      | inl low ↦ elim addr [
        | inl bucket ↦ absurd (free (inr (bucket, omega arith)))
        | inr same ↦ same_address a b ha hb same i low
      ]
      | inr past ↦ elim (cases_lt i 12) [
        | inl middle ↦
            let j : i ≡ 8 + (i - 8) = omega arith in
            let same : get_or a (8 + (i - 8)) 0 ≡ get_or b (8 + (i - 8)) 0 = same_length a b ha hb len (i - 8) (omega arith) in
            subst (λ (k : ℕ). get_or a k 0 ≡ get_or b k 0) (sym j) same
        | inr high ↦ elim (cases_lt i 15) [
          | inl reserved ↦ absurd (free (inl (high, omega arith)))
          | inr end ↦
              let j : 15 ≡ i = omega arith in
              subst (λ (k : ℕ). get_or a k 0 ≡ get_or b k 0) j last
        ]
      ]
    ]

-- strings that spell one descriptor agree
agree_in : (a b : List ℕ) (d : Descriptor) → IsSixteenBytes a → IsSixteenBytes b → IsSpelling d a → IsSpelling d b → AgreeOutsideReserved a b
agree_in a b (BitBucket len) ha hb x y = agree_of a b ha hb (x.0 ∙ sym y.0) (x.1 ∙ sym y.1) (inl (omega (arith, x.0)))
agree_in a b d ha hb x y = agree_of a b ha hb (x.0 ∙ sym y.0) (x.2 ∙ sym y.2) (inr (x.1 ∙ sym y.1))

-- strings with the same fields spell the same
alike_in : (a b : List ℕ) (d : Descriptor) → IsSpelling d a → SameFields a b → IsSpelling d b
alike_in a b (BitBucket len) x s = (sym s.last ∙ x.0, sym s.len ∙ x.1)
alike_in a b d x s = (sym s.last ∙ x.0, sym (s.addr (λ e. omega (arith, x.0, e))) ∙ x.1, sym s.len ∙ x.2)

-- what spells nothing has an invalid type
pub invalid_of : (bytes : List ℕ) → descriptor_of bytes ≡ None → HasInvalidType bytes
invalid_of bytes e = elim (valid_or_not bytes) [
  | inl valid ↦ (let (d, is) = valid_spells bytes valid in let f : descriptor_of bytes ≡ Some d = found bytes d is in absurd cc)
  | inr invalid ↦ invalid
]

-- two strings of 16 bytes, of any types
pub alike : (a b : List ℕ) → IsSixteenBytes a → IsSixteenBytes b → ReadAlike a b
alike a b ha hb = record {
  valid = λ valid.
      let (d, is) = valid_spells a valid in
      (λ e. agree_in a b d ha hb is (spelled b d (sym e ∙ found a d is)), λ agree. found a d is ∙ sym (found b d (alike_in a b d is (fields_of a b ha hb agree))));
  invalid = λ invalid. (λ e. invalid_of b (sym e ∙ none_of a invalid), λ other. none_of a invalid ∙ sym (none_of b other));
}
