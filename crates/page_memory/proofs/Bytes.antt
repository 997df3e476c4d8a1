-- The bytes of pages as bytes of the memory; pages that are whole.
use Rattle.std.proofs.Common.{◌≡◌, ◌≢◌, ℕ, zero, suc, ◌+◌, ◌*◌, ◌-◌, ◌/◌, ◌%◌, ◌<◌, ◌≤◌, ◌++◌, ◌∷◌, [], List, Option, Some, None, true, false, is_some, IsSome, IfSome, refl, ap, ◌∙◌, subst, length, take, drop, get_or, arith, add-one, add-zero, append-nil, drop-cons, ◌⊎◌, inl, inr, sym, set, length-append, replicate}
use Rattle.std.proofs.{Math.Path.fun_ext, lemmas.{Bool.{cases_eq, cases_lt, Decides.nat_tests}, Grind.{common_steps, same_number_lists}}}
use Rattle.std.proofs.lemmas.List.{take_rest, get_or_append_left, get_or-append-add, length-take-le, take-append-drop, take_more, length-replicate}
use Rattle.std.{proofs.lemmas.Option.{slice_get-get_or, slice_get_cases, slice_get_read}, specs.{List.slice_get, Option.option_and_then}}
use Rattle.page_memory.specs.Memory.{Memory, bytes_at, joined, written}
use Rattle.page_memory.specs.Pages.{Pages, slot_at, page_at, byte_at, IsWhole, with_bytes, with_page_bytes, zero_page, AreWhole, IsPool}

-- The bytes of one page, or of two neighbouring ones, as a range of the memory.

pub page_of_place : (p at : ℕ) → at < 4096 → (4096 * p + at) / 4096 ≡ p
page_of_place p at h = omega arith

pub offset_of_place : (p at : ℕ) → at < 4096 → (4096 * p + at) % 4096 ≡ at
offset_of_place p at h = omega arith

-- one byte of a page that is in
pub byte_in : (pages : Pages) (p at : ℕ) (page : List ℕ) → page_at pages p ≡ Some page → at < 4096 → byte_at pages (4096 * p + at) ≡ slice_get page at
byte_in pages p at page found h = rw (page_of_place p at h, offset_of_place p at h, found) refl

byte_missing : (pages : Pages) (p at : ℕ) → page_at pages p ≡ None → at < 4096 → byte_at pages (4096 * p + at) ≡ None
byte_missing pages p at out h = rw (page_of_place p at h, out) refl

one_further : (p at : ℕ) → 4096 * p + at + 1 ≡ 4096 * p + (at + 1)
one_further p at = omega arith

-- a range within one page that is in
pub bytes_within : (pages : Pages) (p n at : ℕ) (page : List ℕ) → page_at pages p ≡ Some page → length page ≡ 4096 → at + n ≤ 4096 → bytes_at (byte_at pages) (4096 * p + at) n ≡ Some (take n (drop at page))
unfolding bytes_at
bytes_within pages p zero at page found whole fits = refl
bytes_within pages p (suc n) at page found whole fits =
    let here : at < length page = omega arith in
    let byte : byte_at pages (4096 * p + at) ≡ Some (get_or page at 0) = byte_in pages p at page found (omega arith) ∙ slice_get-get_or page at 0 here in
    let rest : bytes_at (byte_at pages) (4096 * p + at + 1) n ≡ Some (take n (drop (at + 1) page)) = rw (one_further p at) (bytes_within pages p n (at + 1) page found whole (omega arith)) in
    rw (byte, rest, drop-cons page at 0 here, add-one at) refl

-- a range whose first page is out
pub bytes_missing : (pages : Pages) (p n at : ℕ) → page_at pages p ≡ None → at < 4096 → 0 < n → bytes_at (byte_at pages) (4096 * p + at) n ≡ None
unfolding bytes_at
bytes_missing pages p zero at out h some = absurd (omega arith)
bytes_missing pages p (suc n) at out h some = rw (byte_missing pages p at out h) refl

abbrev pub appended : Option (List ℕ) → Option (List ℕ) → Option (List ℕ)
appended (Some front) (Some back) = Some (front ++ back)
appended _ _ = None

joined_appended : (b : Option ℕ) (front back : Option (List ℕ)) → joined b (appended front back) ≡ appended (joined b front) back
joined_appended (Some b) (Some front) (Some back) = refl
joined_appended b front back = refl

appended_nil : (back : Option (List ℕ)) → back ≡ appended (Some []) back
appended_nil (Some back) = refl
appended_nil None = refl

-- a range in two parts
pub bytes_at-add : (m : Memory) (place a b : ℕ) → bytes_at m place (a + b) ≡ appended (bytes_at m place a) (bytes_at m (place + a) b)
unfolding bytes_at
bytes_at-add m place zero b =
    let more : 0 + b ≡ b = omega arith in
    rw (more, add-zero place) (appended_nil (bytes_at m place b))
bytes_at-add m place (suc a) b =
    let more : suc a + b ≡ suc (a + b) = omega arith in
    let further : place + suc a ≡ place + 1 + a = omega arith in
    rw (more, further, bytes_at-add m (place + 1) a b) (joined_appended (m place) (bytes_at m (place + 1) a) (bytes_at m (place + 1 + a) b))

appended_none : (front : Option (List ℕ)) → appended front None ≡ None
appended_none (Some front) = refl
appended_none None = refl

-- What a range that begins in a page holds: it is missing where its first page is out, or the next one that it
-- reaches; else it is the bytes of the first page, and of the next one.

pub missing_first : (pages : Pages) (addr n page at : ℕ) → 4096 * page + at ≡ addr → at < 4096 → 0 < n → page_at pages page ≡ None → bytes_at (byte_at pages) addr n ≡ None
missing_first pages addr n page at place small some out = rw (← place) (bytes_missing pages page n at out small some)

next_page : (page at front : ℕ) → at + front ≡ 4096 → 4096 * page + at + front ≡ 4096 * (page + 1) + 0
next_page page at front border = omega arith

pub missing_second : (pages : Pages) (addr n page at front back : ℕ) → 4096 * page + at ≡ addr → at + front ≡ 4096 → front + back ≡ n → 0 < back → page_at pages (page + 1) ≡ None →
    bytes_at (byte_at pages) addr n ≡ None
missing_second pages addr n page at front back place border sum some out =
    let second : bytes_at (byte_at pages) (4096 * page + at + front) back ≡ None = rw (next_page page at front border) (bytes_missing pages (page + 1) back 0 out (omega arith) some) in
    rw (← place, ← sum, bytes_at-add (byte_at pages) (4096 * page + at) front back, second) (appended_none (bytes_at (byte_at pages) (4096 * page + at) front))

nothing_more : (front rest : List ℕ) → length rest ≡ 0 → front ++ rest ≡ front
nothing_more front [] none = append-nil front
nothing_more front (b ∷ rest) none = absurd (omega arith)

pub found_first : (pages : Pages) (addr n page at front back : ℕ) (bytes copied rest : List ℕ) → 4096 * page + at ≡ addr → at + front ≤ 4096 → front + back ≡ n → back ≡ 0 →
    page_at pages page ≡ Some bytes → length bytes ≡ 4096 → copied ≡ take (at + front - at) (drop at bytes) → length rest ≡ 0 → bytes_at (byte_at pages) addr n ≡ Some (copied ++ rest)
found_first pages addr n page at front back bytes copied rest place fits sum none found whole is over =
    let count : front ≡ n = omega arith in
    let same : at + front - at ≡ front = omega arith in
    rw (← place, ← count, nothing_more copied rest over, is, same) (bytes_within pages page front at bytes found whole fits)

pub found_both : (pages : Pages) (addr n page at front back : ℕ) (first second copied rest : List ℕ) → 4096 * page + at ≡ addr → at + front ≡ 4096 → front + back ≡ n → back ≤ 4096 →
    page_at pages page ≡ Some first → length first ≡ 4096 → page_at pages (page + 1) ≡ Some second → length second ≡ 4096 → copied ≡ take (length first - at) (drop at first) → rest ≡ take back second →
    bytes_at (byte_at pages) addr n ≡ Some (copied ++ rest)
found_both pages addr n page at front back first second copied rest place border sum few found whole found' whole' is is' =
    let count_left : length first - at ≡ front = omega (arith, whole, border) in
    let whole_drop : take front (drop at first) ≡ drop at first = rw (← count_left) (take_rest first at) in
    let low : bytes_at (byte_at pages) (4096 * page + at) front ≡ Some (drop at first) = bytes_within pages page front at first found whole (omega arith) ∙ ap (λ (b : List ℕ). Some b) whole_drop in
    let high : bytes_at (byte_at pages) (4096 * page + at + front) back ≡ Some (take back second) = rw (next_page page at front border) (bytes_within pages (page + 1) back 0 second found' whole' (omega arith)) in
    rw (← place, ← sum, bytes_at-add (byte_at pages) (4096 * page + at) front back, low, high, is, is', take_rest first at) refl

pub none_of : {X : Type 0} (o : Option X) → is_some o ≡ false → o ≡ None
none_of None h = refl
none_of (Some x) h = cc

-- a page that is in, with all its bytes
whole_page : (pages : Pages) (p : ℕ) → is_some (page_at pages p) ≡ true → IsWhole pages p → (page : List ℕ) × (page_at pages p ≡ Some page) × (length page ≡ 4096)
whole_page pages p there whole =
    (elim (page_at pages p) as (λ o. is_some o ≡ true → IfSome o (λ page. length page ≡ 4096) → (page : List ℕ) × (o ≡ Some page) × (length page ≡ 4096)) [
      | None ↦ λ there whole. absurd cc
      | Some page ↦ λ there whole. (page, refl, whole)
    ]) there whole

something : (o : Option (List ℕ)) (x : List ℕ) → o ≡ Some x → o ≢ None
something o x e none = cc

pub there_first : (pages : Pages) (addr n page at front back : ℕ) → 4096 * page + at ≡ addr → at + front ≤ 4096 → front + back ≡ n → back ≡ 0 →
    is_some (page_at pages page) ≡ true → IsWhole pages page → bytes_at (byte_at pages) addr n ≢ None
there_first pages addr n page at front back place fits sum none there whole =
    let (bytes, found, len) = whole_page pages page there whole in
    something (bytes_at (byte_at pages) addr n) (take (at + front - at) (drop at bytes) ++ [])
    (found_first pages addr n page at front back bytes (take (at + front - at) (drop at bytes)) [] place fits sum none found len refl refl)

pub there_both : (pages : Pages) (addr n page at front back : ℕ) → 4096 * page + at ≡ addr → at + front ≡ 4096 → front + back ≡ n → back ≤ 4096 →
    is_some (page_at pages page) ≡ true → IsWhole pages page → is_some (page_at pages (page + 1)) ≡ true → IsWhole pages (page + 1) → bytes_at (byte_at pages) addr n ≢ None
there_both pages addr n page at front back place border sum few there whole there' whole' =
    let (first, found, len) = whole_page pages page there whole in
    let (second, found', len') = whole_page pages (page + 1) there' whole' in
    something (bytes_at (byte_at pages) addr n) (take (length first - at) (drop at first) ++ take back second)
    (found_both pages addr n page at front back first second (take (length first - at) (drop at first)) (take back second) place border sum few found len found' len' refl refl)

-- a range whose first byte is missing
pub none_at : (m : Memory) (place n : ℕ) → m place ≡ None → 0 < n → bytes_at m place n ≡ None
unfolding bytes_at
none_at m place zero out some = absurd (omega arith)
none_at m place (suc n) out some = rw out refl

-- a range by its addresses

one_more : (place k : ℕ) → place + suc k ≡ place + 1 + k
one_more place k = omega arith

pub bytes_held : (m : Memory) (place : ℕ) (bytes : List ℕ) → ((k : ℕ) → k < length bytes → m (place + k) ≡ Some (get_or bytes k 0)) → bytes_at m place (length bytes) ≡ Some bytes
unfolding bytes_at
bytes_held m place [] h = refl
bytes_held m place (b ∷ bytes) h =
    let first : m place ≡ Some b = subst (λ (q : ℕ). m q ≡ Some b) (add-zero place) (h 0 (omega arith)) in
    let rest : bytes_at m (place + 1) (length bytes) ≡ Some bytes = bytes_held m (place + 1) bytes (λ k lt. subst (λ (q : ℕ). m q ≡ Some (get_or bytes k 0)) (one_more place k) (h (suc k) (omega arith))) in
    rw (first, rest) refl

some_joined : (b : Option ℕ) (bytes : Option (List ℕ)) → IsSome b → bytes ≢ None → joined b bytes ≢ None
some_joined (Some b) (Some bytes) h k e = cc
some_joined (Some b) None h k e = k refl
some_joined None bytes h k e = cc

pub bytes_some : (m : Memory) (place n : ℕ) → ((k : ℕ) → k < n → IsSome (m (place + k))) → bytes_at m place n ≢ None
unfolding bytes_at
bytes_some m place zero h = λ e. cc
bytes_some m place (suc n) h =
    some_joined (m place) (bytes_at m (place + 1) n) (subst (λ (q : ℕ). IsSome (m q)) (add-zero place) (h 0 (omega arith)))
    (bytes_some m (place + 1) n (λ k lt. subst (λ (q : ℕ). IsSome (m q)) (one_more place k) (h (suc k) (omega arith))))

joined_none : (b : Option ℕ) → joined b None ≡ None
joined_none (Some b) = refl
joined_none None = refl

pub missing_at : (m : Memory) (place n k : ℕ) → k < n → m (place + k) ≡ None → bytes_at m place n ≡ None
unfolding bytes_at
missing_at m place zero k lt out = absurd (omega arith)
missing_at m place (suc n) zero lt out = rw (subst (λ (q : ℕ). m q ≡ None) (add-zero place) out) refl
missing_at m place (suc n) (suc k) lt out =
    rw (missing_at m (place + 1) n k (omega arith) (subst (λ (q : ℕ). m q ≡ None) (one_more place k) out)) (joined_none (m place))

-- a position at which something is lies in the list
pub slot_within : {X : Type 0} (slots : List (Option X)) (i : ℕ) → IsSome (slot_at slots i) → i < length slots
slot_within [] i h = cc
slot_within (x ∷ xs) zero h = omega arith
slot_within (x ∷ xs) (suc i) h = let rest : i < length xs = slot_within xs i h in omega (arith, rest)

-- Bytes put into one page as bytes put into the memory.

pub slice_get-set_other : {X : Type 0} (xs : List X) (i j : ℕ) (x : X) → j ≢ i → slice_get (set xs i x) j ≡ slice_get xs j
slice_get-set_other [] i j x other = refl
slice_get-set_other (y ∷ ys) zero zero x other = absurd (other refl)
slice_get-set_other (y ∷ ys) zero (suc j) x other = refl
slice_get-set_other (y ∷ ys) (suc i) zero x other = refl
slice_get-set_other (y ∷ ys) (suc i) (suc j) x other = slice_get-set_other ys i j x (λ e. other (ap suc e))

pub slice_get-set_same : {X : Type 0} (xs : List X) (i : ℕ) (x : X) → i < length xs → slice_get (set xs i x) i ≡ Some x
slice_get-set_same [] i x h = absurd (omega (arith, h))
slice_get-set_same (y ∷ ys) zero x h = refl
slice_get-set_same (y ∷ ys) (suc i) x h = slice_get-set_same ys i x (omega arith)

-- the pages before and after a write to one of them
pub page_within : (pages : Pages) (p : ℕ) (page : List ℕ) → page_at pages p ≡ Some page → p < length pages
page_within pages p page found = slot_within pages p (subst IsSome (sym found) refl)

-- an address inside the bytes that are written, and one outside
pub written_in : (m : Memory) (place q : ℕ) (bytes : List ℕ) → place ≤ q → q < place + length bytes → written m place bytes q ≡ Some (get_or bytes (q - place) 0)
written_in m place q bytes low high = grind (arith, nat_tests)

pub written_before : (m : Memory) (place q : ℕ) (bytes : List ℕ) → q < place → written m place bytes q ≡ m q
written_before m place q bytes low = grind (arith, nat_tests)

pub written_after : (m : Memory) (place q : ℕ) (bytes : List ℕ) → place + length bytes ≤ q → written m place bytes q ≡ m q
written_after m place q bytes high = grind (arith, nat_tests)

-- a page's bytes after a write
length_with : (page new : List ℕ) (at : ℕ) → length page ≡ 4096 → at + length new ≤ 4096 → length (with_bytes page at new) ≡ 4096
length_with page new at whole fits = grind (arith, common_steps)

get_with_in : (page new : List ℕ) (at k : ℕ) → length page ≡ 4096 → at + length new ≤ 4096 → at ≤ k → k < at + length new → get_or (with_bytes page at new) k 0 ≡ get_or new (k - at) 0
get_with_in page new at k whole fits low high = grind (arith, common_steps)

get_with_before : (page new : List ℕ) (at k : ℕ) → length page ≡ 4096 → at + length new ≤ 4096 → k < at → get_or (with_bytes page at new) k 0 ≡ get_or page k 0
get_with_before page new at k whole fits low = grind (arith, common_steps)

get_with_after : (page new : List ℕ) (at k : ℕ) → length page ≡ 4096 → at + length new ≤ 4096 → at + length new ≤ k → k < 4096 → get_or (with_bytes page at new) k 0 ≡ get_or page k 0
get_with_after page new at k whole fits high low = grind (arith, common_steps)

same_page : (pages : Pages) (p at : ℕ) (new page : List ℕ) → page_at pages p ≡ Some page → page_at (with_page_bytes pages p at new) p ≡ Some (with_bytes page at new)
same_page pages p at new page found =
    rw (found, slice_get-set_same pages p (Some (with_bytes page at new)) (page_within pages p page found)) refl

other_page : (pages : Pages) (p at r : ℕ) (new : List ℕ) → r ≢ p → page_at (with_page_bytes pages p at new) r ≡ page_at pages r
other_page pages p at r new other = rw (slice_get-set_other pages p r _ other) refl

-- pages that are in stay in, and no other comes in
pub stays_in : (pages : Pages) (p at r : ℕ) (new page : List ℕ) → page_at pages p ≡ Some page → is_some (page_at (with_page_bytes pages p at new) r) ≡ is_some (page_at pages r)
stays_in pages p at r new page found =
    elim (cases_eq r p) [
      | inl e ↦ rw (e, same_page pages p at new page found, found) refl
      | inr other ↦ rw (other_page pages p at r new other) refl
    ]

-- the byte at an offset of the page, after the write and as the memory shows it
at_offset : (pages : Pages) (p at k : ℕ) (new page : List ℕ) → page_at pages p ≡ Some page → length page ≡ 4096 → at + length new ≤ 4096 → k < 4096 →
    slice_get (with_bytes page at new) k ≡ written (byte_at pages) (4096 * p + at) new (4096 * p + k)
at_offset pages p at k new page found whole fits small =
    let there : slice_get (with_bytes page at new) k ≡ Some (get_or (with_bytes page at new) k 0) =
    slice_get-get_or (with_bytes page at new) k 0 (rw (length_with page new at whole fits) small) in
    let old : byte_at pages (4096 * p + k) ≡ Some (get_or page k 0) = byte_in pages p k page found small ∙ slice_get-get_or page k 0 (rw whole small) in
    there ∙ elim (cases_lt k at) [
      | inl before ↦ ap (λ (b : ℕ). Some b) (get_with_before page new at k whole fits before) ∙ sym old ∙ sym (written_before (byte_at pages) (4096 * p + at) (4096 * p + k) new (omega arith))
      | inr from ↦ elim (cases_lt k (at + length new)) [
        | inl inside ↦ ap (λ (b : ℕ). Some b) (get_with_in page new at k whole fits from inside)
            ∙ ap (λ (i : ℕ). Some (get_or new i 0)) (omega arith)
            ∙ sym (written_in (byte_at pages) (4096 * p + at) (4096 * p + k) new (omega arith) (omega arith))
        | inr after ↦ ap (λ (b : ℕ). Some b) (get_with_after page new at k whole fits after small) ∙ sym old ∙ sym (written_after (byte_at pages) (4096 * p + at) (4096 * p + k) new (omega arith))
      ]
    ]

outside : (m : Memory) (p at q : ℕ) (new : List ℕ) → at + length new ≤ 4096 → q / 4096 ≢ p → written m (4096 * p + at) new q ≡ m q
outside m p at q new fits other =
    elim (cases_lt q (4096 * p + at)) [
      | inl before ↦ written_before m (4096 * p + at) q new before
      | inr from ↦ written_after m (4096 * p + at) q new (omega arith)
    ]

pub byte_at-with_page_bytes : (pages : Pages) (p at : ℕ) (new page : List ℕ) → page_at pages p ≡ Some page → length page ≡ 4096 → at + length new ≤ 4096 →
    byte_at (with_page_bytes pages p at new) ≡ written (byte_at pages) (4096 * p + at) new
byte_at-with_page_bytes pages p at new page found whole fits =
    fun_ext (λ q. elim (cases_eq (q / 4096) p) [
      | inl e ↦
          let place : q ≡ 4096 * p + q % 4096 = omega arith in
          let seen : byte_at (with_page_bytes pages p at new) q ≡ slice_get (with_bytes page at new) (q % 4096) = rw (e, same_page pages p at new page found) refl in
          seen ∙ at_offset pages p at (q % 4096) new page found whole fits (omega arith) ∙ ap (written (byte_at pages) (4096 * p + at) new) (sym place)
      | inr other ↦
          let seen : byte_at (with_page_bytes pages p at new) q ≡ byte_at pages q = rw (other_page pages p at (q / 4096) new other) refl in
          seen ∙ sym (outside (byte_at pages) p at q new fits other)
    ])

-- two neighbouring ranges, one after the other
pub written-append : (m : Memory) (place : ℕ) (front back : List ℕ) → written (written m place front) (place + length front) back ≡ written m place (front ++ back)
written-append m place front back =
    fun_ext (λ q. elim (cases_lt q place) [
      | inl before ↦ written_before (written m place front) (place + length front) q back (omega arith) ∙ written_before m place q front before ∙ sym (written_before m place q (front ++ back) before)
      | inr from ↦ elim (cases_lt q (place + length front)) [
        | inl first ↦ written_before (written m place front) (place + length front) q back first ∙ written_in m place q front from first
            ∙ ap (λ (b : ℕ). Some b) (sym (get_or_append_left front back 0 (q - place) (omega arith)))
            ∙ sym (written_in m place q (front ++ back) from (rw (length-append front back) (omega arith)))
        | inr second ↦ elim (cases_lt q (place + length front + length back)) [
          | inl inside ↦ written_in (written m place front) (place + length front) q back second inside
              ∙ ap (λ (b : ℕ). Some b) (sym (get_or-append-add front back (q - (place + length front)) 0) ∙ ap (λ (i : ℕ). get_or (front ++ back) i 0) (omega arith))
              ∙ sym (written_in m place q (front ++ back) from (rw (length-append front back) (omega arith)))
          | inr after ↦ written_after (written m place front) (place + length front) q back after ∙ written_after m place q front second ∙ sym (written_after m place q (front ++ back) (rw (length-append front back) (omega arith)))
        ]
      ]
    ])

is_none-false : IsSome {T = List ℕ} None → ⊥
is_none-false e = cc

-- a page that is in, as it is read from the list of pages
read_page : (pages : Pages) (p : ℕ) (page : List ℕ) → Some page ≡ get_or pages p (Some page) → IsSome (page_at pages p) → page_at pages p ≡ Some page
read_page pages p page read there = by_presence (slice_get_cases pages p)
  where
    by_presence : (slice_get pages p ≡ slice_get pages p) × (((x : Option (List ℕ)) × (p < length pages) × (slice_get pages p ≡ Some x) × (get_or pages p x ≡ x)) ⊎ ((length pages ≤ p) × (slice_get pages p ≡ None))) → page_at pages p ≡ Some page
    by_presence (_, inl (x, within, found, is)) = rw (slice_get_read pages (length pages) p (Some page) refl within read) refl
    by_presence (_, inr (past, none)) = absurd (is_none-false (rw none at there))

with_found : (pages : Pages) (p at : ℕ) (new page : List ℕ) → page_at pages p ≡ Some page → with_page_bytes pages p at new ≡ set pages p (Some (with_bytes page at new))
with_found pages p at new page found = rw found refl

pub byte_at_written : (pages : Pages) (p at : ℕ) (new page : List ℕ) → Some page ≡ get_or pages p (Some page) → IsSome (page_at pages p) → length page ≡ 4096 → at + length new ≤ 4096 →
    byte_at (set pages p (Some (with_bytes page at new))) ≡ written (byte_at pages) (4096 * p + at) new
byte_at_written pages p at new page read there whole fits =
    let found : page_at pages p ≡ Some page = read_page pages p page read there in
    rw (← with_found pages p at new page found) (byte_at-with_page_bytes pages p at new page found whole fits)

pub in_written : (pages : Pages) (p at r : ℕ) (new page : List ℕ) → Some page ≡ get_or pages p (Some page) → IsSome (page_at pages p) →
    is_some (page_at (set pages p (Some (with_bytes page at new))) r) ≡ is_some (page_at pages r)
in_written pages p at r new page read there =
    let found : page_at pages p ≡ Some page = read_page pages p page read there in
    rw (← with_found pages p at new page found) (stays_in pages p at r new page found)

-- a range in one page, and one that reaches the next page
pub wrote_first : (m m' : Memory) (addr page at : ℕ) (bytes : List ℕ) → 4096 * page + at ≡ addr → m' ≡ written m (4096 * page + at) bytes → m' ≡ written m addr bytes
wrote_first m m' addr page at bytes place wrote = rw (← place) wrote

pub wrote_both : (m m' m'' : Memory) (addr page at front : ℕ) (bytes low high : List ℕ) → 4096 * page + at ≡ addr → at + front ≡ 4096 → low ≡ take front bytes → high ≡ drop front bytes → length low ≡ front →
    m' ≡ written m (4096 * page + at) low → m'' ≡ written m' (4096 * (page + 1) + 0) high → m'' ≡ written m addr bytes
wrote_both m m' m'' addr page at front bytes low high place border is_low is_high count first second =
    let border' : 4096 * (page + 1) + 0 ≡ 4096 * page + at + front = sym (next_page page at front border) in
    second ∙ rw (first, border', ← count, written-append m (4096 * page + at) low high, place, is_low, is_high, take-append-drop front bytes) refl

-- one position of a list of slots, as it is written
pub slot_at-set : (slots : List (Option ℕ)) (i : ℕ) (b : ℕ) → i < length slots → slot_at (set slots i (Some b)) ≡ written (slot_at slots) i (b ∷ [])
slot_at-set slots i b within =
    fun_ext (λ q. elim (cases_eq q i) [
      | inl e ↦ rw e (rw (slice_get-set_same slots i (Some b) within) (sym (written_in (slot_at slots) i i (b ∷ []) (omega arith) (omega arith) ∙ ap (λ (k : ℕ). Some (get_or (b ∷ []) k 0)) (none_left i))))
      | inr other ↦ elim (cases_lt q i) [
        | inl before ↦ rw (slice_get-set_other slots i q (Some b) other) (sym (written_before (slot_at slots) i q (b ∷ []) before))
        | inr from ↦ rw (slice_get-set_other slots i q (Some b) other) (sym (written_after (slot_at slots) i q (b ∷ []) (omega arith)))
      ]
    ])
  where
    none_left : (i : ℕ) → i - i ≡ 0
    none_left i = omega arith

-- one byte more
pub wrote_more : (slots slots' : List (Option ℕ)) (addr k : ℕ) (bytes : List ℕ) (m : Memory) → slot_at slots ≡ written m addr (take k bytes) → k < length bytes → addr + k < length slots →
    slots' ≡ set slots (addr + k) (Some (get_or bytes k 0)) → slot_at slots' ≡ written m addr (take (k + 1) bytes)
wrote_more slots slots' addr k bytes m so lt within is =
    let count : length (take k bytes) ≡ k = length-take-le k bytes (omega arith) in
    rw (is, slot_at-set slots (addr + k) (get_or bytes k 0) within, so, take_more bytes k 0 lt, ← written-append m addr (take k bytes) (get_or bytes k 0 ∷ []), count) refl

-- Pages that are whole.

pub length-zero_page : length zero_page ≡ 4096
unfolding zero_page
length-zero_page = length-replicate {A = ℕ} 4096 0

-- pages of zeros
zeros_whole : (n : ℕ) → AreWhole (replicate n (Some zero_page))
zeros_whole zero p = tt
zeros_whole (suc n) zero = length-zero_page
zeros_whole (suc n) (suc p) = zeros_whole n p

pub zeros_pool : (n : ℕ) (pages : Pages) → pages ≡ replicate n (Some zero_page) → n ≤ 65536 → IsPool pages
zeros_pool n pages is few = rw is (record { few = rw (length-replicate n (Some zero_page)) few; whole = zeros_whole n })

-- memory tells pages

behind : (x : Option (List ℕ)) (xs : Pages) (place : ℕ) → byte_at (x ∷ xs) (4096 + place) ≡ byte_at xs place
behind x xs place =
    let further : (4096 + place) / 4096 ≡ suc (place / 4096) = omega arith in
    let same : (4096 + place) % 4096 ≡ place % 4096 = omega arith in
    rw (further, same) refl

in_first : (x : Option (List ℕ)) (xs : Pages) (k : ℕ) → k < 4096 → byte_at (x ∷ xs) k ≡ option_and_then (λ bytes. slice_get bytes k) x
in_first x xs k small =
    let zeroth : k / 4096 ≡ 0 = omega arith in
    let same : k % 4096 ≡ k = omega arith in
    rw (zeroth, same) refl

same_bytes : (k : ℕ) (a b : List ℕ) → k < length a → k < length b → slice_get a k ≡ slice_get b k → get_or a k 0 ≡ get_or b k 0
same_bytes k a b in_a in_b h =
    let e : Some (get_or a k 0) ≡ Some (get_or b k 0) = sym (slice_get-get_or a k 0 in_a) ∙ h ∙ slice_get-get_or b k 0 in_b in cc

same_first : (x y : Option (List ℕ)) → IfSome x (λ page. length page ≡ 4096) → IfSome y (λ page. length page ≡ 4096) →
    ((k : ℕ) → k < 4096 → option_and_then (λ bytes. slice_get bytes k) x ≡ option_and_then (λ bytes. slice_get bytes k) y) → x ≡ y
same_first None None wx wy h = refl
same_first None (Some b) wx wy h = let e : None ≡ Some (get_or b 0 0) = h 0 (omega arith) ∙ slice_get-get_or b 0 0 (omega (arith, wy)) in cc
same_first (Some a) None wx wy h = let e : Some (get_or a 0 0) ≡ None = sym (slice_get-get_or a 0 0 (omega (arith, wx))) ∙ h 0 (omega arith) in cc
same_first (Some a) (Some b) wx wy h =
    ap (λ (l : List ℕ). Some l) (same_number_lists a b (wx ∙ sym wy) (λ k lt. same_bytes k a b lt (omega (arith, lt, wx, wy)) (h k (omega (arith, lt, wx)))))

pub told : (a b : Pages) → AreWhole a → AreWhole b → length a ≡ length b → ((place : ℕ) → byte_at a place ≡ byte_at b place) → a ≡ b
told [] [] wa wb len h = refl
told [] (y ∷ ys) wa wb len h = absurd (omega (arith, len))
told (x ∷ xs) [] wa wb len h = absurd (omega (arith, len))
told (x ∷ xs) (y ∷ ys) wa wb len h =
    let first : x ≡ y = same_first x y (wa 0) (wb 0) (λ k small. sym (in_first x xs k small) ∙ h k ∙ in_first y ys k small) in
    let rest : xs ≡ ys = told xs ys (λ p. wa (suc p)) (λ p. wb (suc p)) (omega (arith, len)) (λ place. sym (behind x xs place) ∙ h (4096 + place) ∙ behind y ys place) in
    rw (first, rest) refl
