-- The bytes of regions that no address shows: a write leaves them, and a number tells them.
use Rattle.std.proofs.Common.{◌≡◌, inl, inr, ℕ, zero, suc, ◌+◌, ◌-◌, ◌<◌, ◌≤◌, ◌||◌, Bool, true, false, List, [], ◌∷◌, Option, Some, None, refl, sym, ap, ◌∙◌, subst, if◌then◌else◌, length, take, drop, get_or, slice_set, arith}
use Rattle.std.{proofs.{Math.Path.fun_ext, lemmas.{Bool.{cases_lt, or_from, Decides.nat_tests}, List.{length-drop, length-take-le}, Option.{get_or_from_slice_get, slice_get_within}}}, specs.List.slice_get}
use Rattle.page_memory.{proofs.Bytes.{written_before, written_after}, specs.{Memory.Memory, Pages.with_bytes}}
use Rattle.nvmesgl_c.proofs.{Runs.{clash, clear_less, same_range, same_region}, Slices.wrote, Tables.{same_pair, some_pair}}
use Rattle.nvmesgl_c.specs.Regions.{IsClear, IsRun, has_byte, hidden_among, hidden_in, hidden_of, is_past, byte_number, bytes_number, lists_number}
use Rattle.nvmesgl_c.specs.declared.words.region.{CRegion.CRegion, Run.Run}

-- One region

pick : (b : Bool) (x y : Option ℕ) → (b ≡ true → x ≡ y) → (if b then x else None) ≡ (if b then y else None)
pick true x y e = e refl
pick false x y e = refl

cons : {X : Type 0} (x y : X) (xs ys : List X) → x ≡ y → xs ≡ ys → x ∷ xs ≡ y ∷ ys
cons x y xs ys first rest = λ i. first i ∷ rest i

same_hidden : (taken : ℕ → Bool) (old new : CRegion) (n : ℕ) → new.addr ≡ old.addr → ((k : ℕ) → taken (old.addr + k) ≡ true → slice_get new.bytes.now k ≡ slice_get old.bytes.now k)
    → hidden_of taken new n ≡ hidden_of taken old n
same_hidden taken old new zero where-is same = refl
same_hidden taken old new (suc n) where-is same =
    cons (if taken (new.addr + n) then slice_get new.bytes.now n else None) (if taken (old.addr + n) then slice_get old.bytes.now n else None) (hidden_of taken new n) (hidden_of taken old n)
    (ap (λ (a : ℕ). if taken (a + n) then slice_get new.bytes.now n else None) where-is ∙ pick (taken (old.addr + n)) (slice_get new.bytes.now n) (slice_get old.bytes.now n) (same n))
    (same_hidden taken old new n where-is same)

behind : (from at k : ℕ) → at ≤ k → from + (at + (k - at)) ≡ from + k
behind from at k high = omega (arith, high)

put_hidden : (taken : ℕ → Bool) (old new : CRegion) (at n : ℕ) (bytes : List ℕ) → new.addr ≡ old.addr → new.bytes.now ≡ with_bytes old.bytes.now at bytes → at + length bytes ≤ length old.bytes.now
    → ((k : ℕ) → k < length bytes → taken (old.addr + (at + k)) ≡ false) → hidden_of taken new n ≡ hidden_of taken old n
put_hidden taken old new at n bytes where-is becomes fits free =
    same_hidden taken old new n where-is (λ k is.
    ap (λ (l : List ℕ). slice_get l k) becomes ∙ ap (λ (m : Memory). m k) (wrote old.bytes.now bytes at fits)
    ∙ elim (cases_lt k at) [
      | inl before ↦ written_before (slice_get old.bytes.now) at k bytes before
      | inr from ↦ elim (cases_lt k (at + length bytes)) [
        | inl inside ↦ absurd (clash (taken (old.addr + k)) is (subst (λ (p : ℕ). taken p ≡ false) (behind old.addr at k from) (free (k - at) (omega (arith, from, inside)))))
        | inr after ↦ written_after (slice_get old.bytes.now) at k bytes after
      ]
    ])

-- A table

further : (from at addr k : ℕ) → from + at ≡ addr → addr + k ≡ from + (at + k)
further from at addr k begins = omega (arith, begins)

hidden_put : (taken : ℕ → Bool) (rs : List CRegion) (place : ℕ) (old new : CRegion) (addr at : ℕ) (bytes : List ℕ) → slice_get rs place ≡ Some old → new.addr ≡ old.addr → length new.bytes.now ≡ length old.bytes.now
    → new.bytes.now ≡ with_bytes old.bytes.now at bytes → old.addr + at ≡ addr → at + length bytes ≤ length old.bytes.now
    → ((j : ℕ) (x : CRegion) → j < place → slice_get rs j ≡ Some x → IsClear x addr (length bytes)) → ((k : ℕ) → k < length bytes → taken (addr + k) ≡ false)
    → hidden_among taken (slice_set rs place new) ≡ hidden_among taken rs
hidden_put taken [] place old new addr at bytes found where-is long becomes begins fits first free = absurd (omega (arith, slice_get_within [] place old found))
hidden_put taken (x ∷ xs) zero old new addr at bytes found where-is long becomes begins fits first free =
    subst (λ (o : CRegion). hidden_among taken (new ∷ xs) ≡ hidden_among taken (o ∷ xs)) (sym (same_region x old found))
    (cons (hidden_of taken new (length new.bytes.now)) (hidden_of taken old (length old.bytes.now)) (hidden_among (λ p. taken p || has_byte new p) xs) (hidden_among (λ p. taken p || has_byte old p) xs)
    (ap (hidden_of taken new) long
    ∙ put_hidden taken old new at (length old.bytes.now) bytes where-is becomes fits (λ k low. subst (λ (p : ℕ). taken p ≡ false) (further old.addr at addr k begins) (free k low)))
    (ap (λ (t : ℕ → Bool). hidden_among t xs) (fun_ext (λ p. ap (λ (b : Bool). taken p || b) (same_range old new p where-is long)))))
hidden_put taken (x ∷ xs) (suc place) old new addr at bytes found where-is long becomes begins fits first free =
    ap (λ (l : List (List (Option ℕ))). hidden_of taken x (length x.bytes.now) ∷ l)
    (hidden_put (λ p. taken p || has_byte x p) xs place old new addr at bytes found where-is long becomes begins fits (λ j o low is. first (suc j) o (omega (arith, low)) is)
    (λ k low. or_from (taken (addr + k)) (has_byte x (addr + k)) (free k low) (first zero x (omega arith) refl k low)))

shown_page : (p : ℕ) → p < 17592186044416 → is_past p ≡ false
shown_page p low = grind (arith, nat_tests)

-- a run of a range is overwritten
pub hidden_step : (rs : List CRegion) (addr done n : ℕ) (run : Run) (old new d : CRegion) (bytes : List ℕ) → IsRun rs (addr + done) (length bytes - done) run → old ≡ get_or rs run.place d
    → new.addr ≡ old.addr → length new.bytes.now ≡ length old.bytes.now → new.bytes.now ≡ with_bytes old.bytes.now run.at (take n (drop done bytes))
    → n ≡ run.count → done ≤ length bytes → addr + length bytes ≤ 17592186044416 → hidden_in (slice_set rs run.place new) ≡ hidden_in rs
hidden_step rs addr done n run old new d bytes is was where-is long becomes count small low =
    let same : old ≡ is.region = was ∙ get_or_from_slice_get rs run.place is.region d is.found in
    let piece : List ℕ = take n (drop done bytes) in
    let few : length piece ≡ run.count = length-take-le n (drop done bytes) (omega (arith, length-drop done bytes, count, is.few)) ∙ count in
    hidden_put is_past rs run.place is.region new (addr + done) run.at piece is.found (where-is ∙ ap (λ (r : CRegion). r.addr) same) (long ∙ ap (λ (r : CRegion). length r.bytes.now) same)
    (becomes ∙ ap (λ (r : CRegion). with_bytes r.bytes.now run.at piece) same) is.begins (omega (arith, is.fits, few))
    (λ j x before found. clear_less x (addr + done) run.count (length piece) (is.first j x before found) (omega (arith, few)))
    (λ k within. shown_page (addr + done + k) (omega (arith, within, few, is.few, small, low)))

-- As a number

same_byte : (a b : Option ℕ) → byte_number a ≡ byte_number b → a ≡ b
same_byte None None e = refl
same_byte None (Some y) e = absurd (omega (arith, e))
same_byte (Some x) None e = absurd (omega (arith, e))
same_byte (Some x) (Some y) e = let is : x ≡ y = omega (arith, e) in ap (λ (n : ℕ). Some n) is

same_bytes : (xs ys : List (Option ℕ)) → bytes_number xs ≡ bytes_number ys → xs ≡ ys
unfolding bytes_number
same_bytes [] [] e = refl
same_bytes [] (y ∷ ys) e = absurd (omega (arith, e, some_pair (byte_number y) (bytes_number ys)))
same_bytes (x ∷ xs) [] e = absurd (omega (arith, e, some_pair (byte_number x) (bytes_number xs)))
same_bytes (x ∷ xs) (y ∷ ys) e =
    let both = same_pair (byte_number x) (bytes_number xs) (byte_number y) (bytes_number ys) e in
    cons x y xs ys (same_byte x y both.0) (same_bytes xs ys both.1)

pub same_lists : (xs ys : List (List (Option ℕ))) → lists_number xs ≡ lists_number ys → xs ≡ ys
unfolding lists_number
same_lists [] [] e = refl
same_lists [] (y ∷ ys) e = absurd (omega (arith, e, some_pair (bytes_number y) (lists_number ys)))
same_lists (x ∷ xs) [] e = absurd (omega (arith, e, some_pair (bytes_number x) (lists_number xs)))
same_lists (x ∷ xs) (y ∷ ys) e =
    let both = same_pair (bytes_number x) (lists_number xs) (bytes_number y) (lists_number ys) e in
    cons x y xs ys (same_bytes x y both.0) (same_lists xs ys both.1)
