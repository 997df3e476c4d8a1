-- The bytes of pages as bytes of the memory, by what is at each page.
use Rattle.std.proofs.Common.{◌≡◌, ◌≢◌, ℕ, zero, suc, ◌+◌, ◌*◌, ◌-◌, ◌/◌, ◌%◌, ◌<◌, ◌≤◌, ◌++◌, ◌∷◌, [], List, Option, Some, None, refl, ap, ◌∙◌, length, take, drop, get_or, arith, add-one, append-nil, drop-cons, inl, inr, sym}
use Rattle.std.proofs.{Math.Path.fun_ext, lemmas.{Bool.{cases_eq, cases_lt}, Grind.common_steps}}
use Rattle.std.proofs.lemmas.{List.{take-append-drop}, Option.slice_get-get_or}
use Rattle.std.specs.List.{slice_get}
use Rattle.page_memory.proofs.Bytes.{page_of_place, offset_of_place, bytes_at-add, appended, none_at, written_in, written_before, written_after, written-append}
use Rattle.page_memory.specs.{Memory.{Memory, bytes_at, written}, Pages.with_bytes}
use Rattle.views.specs.Sparse.{byte_by}

-- what is at each page
abbrev pub Pages : Type 0
Pages = ℕ → Option (List ℕ)

-- The bytes of one page, or of two neighbouring ones, as a range of the memory.

byte_of : (f : Pages) (p at : ℕ) (page : List ℕ) → f p ≡ Some page → at < 4096 → byte_by f (4096 * p + at) ≡ slice_get page at
byte_of f p at page found h = rw (page_of_place p at h, offset_of_place p at h, found) refl

byte_missing : (f : Pages) (p at : ℕ) → f p ≡ None → at < 4096 → byte_by f (4096 * p + at) ≡ None
byte_missing f p at out h = rw (page_of_place p at h, out) refl

one_further : (p at : ℕ) → 4096 * p + at + 1 ≡ 4096 * p + (at + 1)
one_further p at = omega arith

bytes_within : (f : Pages) (p n at : ℕ) (page : List ℕ) → f p ≡ Some page → length page ≡ 4096 → at + n ≤ 4096 → bytes_at (byte_by f) (4096 * p + at) n ≡ Some (take n (drop at page))
unfolding bytes_at
bytes_within f p zero at page found whole fits = refl
bytes_within f p (suc n) at page found whole fits =
    let here : at < length page = omega arith in
    let byte : byte_by f (4096 * p + at) ≡ Some (get_or page at 0) = byte_of f p at page found (omega arith) ∙ slice_get-get_or page at 0 here in
    let rest : bytes_at (byte_by f) (4096 * p + at + 1) n ≡ Some (take n (drop (at + 1) page)) = rw (one_further p at) (bytes_within f p n (at + 1) page found whole (omega arith)) in
    rw (byte, rest, drop-cons page at 0 here, add-one at) refl

appended_none : (front : Option (List ℕ)) → appended front None ≡ None
appended_none (Some front) = refl
appended_none None = refl

next_page : (page at front : ℕ) → at + front ≡ 4096 → 4096 * page + at + front ≡ 4096 * (page + 1) + 0
next_page page at front border = omega arith

-- A range is missing where its first page is, or the next one that it reaches.

pub missing_first : (f : Pages) (addr n page at : ℕ) → 4096 * page + at ≡ addr → at < 4096 → 0 < n → f page ≡ None → bytes_at (byte_by f) addr n ≡ None
missing_first f addr n page at place small some out = rw (← place) (none_at (byte_by f) (4096 * page + at) n (byte_missing f page at out small) some)

pub missing_second : (f : Pages) (addr n page at front back : ℕ) → 4096 * page + at ≡ addr → at + front ≡ 4096 → front + back ≡ n → 0 < back → f (page + 1) ≡ None → bytes_at (byte_by f) addr n ≡ None
missing_second f addr n page at front back place border sum some out =
    let second : bytes_at (byte_by f) (4096 * page + at + front) back ≡ None =
    rw (next_page page at front border) (none_at (byte_by f) (4096 * (page + 1) + 0) back (byte_missing f (page + 1) 0 out (omega arith)) some) in
    rw (← place, ← sum, bytes_at-add (byte_by f) (4096 * page + at) front back, second) (appended_none (bytes_at (byte_by f) (4096 * page + at) front))

-- Else it is the bytes of the first page, and of the next one.

nothing_more : (front rest : List ℕ) → length rest ≡ 0 → front ++ rest ≡ front
nothing_more front [] none = append-nil front
nothing_more front (b ∷ rest) none = absurd (omega arith)

pub found_first : (f : Pages) (addr n page at front back : ℕ) (bytes copied rest : List ℕ) → 4096 * page + at ≡ addr → at + front ≤ 4096 → front + back ≡ n → back ≡ 0 →
    f page ≡ Some bytes → length bytes ≡ 4096 → copied ≡ take front (drop at bytes) → length rest ≡ 0 → bytes_at (byte_by f) addr n ≡ Some (copied ++ rest)
found_first f addr n page at front back bytes copied rest place fits sum none found whole is over =
    let count : front ≡ n = omega arith in
    rw (← place, ← count, nothing_more copied rest over, is) (bytes_within f page front at bytes found whole fits)

pub found_both : (f : Pages) (addr n page at front back : ℕ) (first second copied rest : List ℕ) → 4096 * page + at ≡ addr → at + front ≡ 4096 → front + back ≡ n → back ≤ 4096 →
    f page ≡ Some first → length first ≡ 4096 → f (page + 1) ≡ Some second → length second ≡ 4096 → copied ≡ take front (drop at first) → rest ≡ take back (drop 0 second) →
    bytes_at (byte_by f) addr n ≡ Some (copied ++ rest)
found_both f addr n page at front back first second copied rest place border sum few found whole found' whole' is is' =
    let low : bytes_at (byte_by f) (4096 * page + at) front ≡ Some (take front (drop at first)) = bytes_within f page front at first found whole (omega arith) in
    let high : bytes_at (byte_by f) (4096 * page + at + front) back ≡ Some (take back (drop 0 second)) = rw (next_page page at front border) (bytes_within f (page + 1) back 0 second found' whole' (omega arith)) in
    rw (← place, ← sum, bytes_at-add (byte_by f) (4096 * page + at) front back, low, high, is, is') refl

something : (o : Option (List ℕ)) (x : List ℕ) → o ≡ Some x → o ≢ None
something o x e none = cc

pub there_first : (f : Pages) (addr n page at front back : ℕ) (bytes : List ℕ) → 4096 * page + at ≡ addr → at + front ≤ 4096 → front + back ≡ n → back ≡ 0 →
    f page ≡ Some bytes → length bytes ≡ 4096 → bytes_at (byte_by f) addr n ≢ None
there_first f addr n page at front back bytes place fits sum none found whole =
    something (bytes_at (byte_by f) addr n) (take front (drop at bytes) ++ [])
    (found_first f addr n page at front back bytes (take front (drop at bytes)) [] place fits sum none found whole refl refl)

pub there_both : (f : Pages) (addr n page at front back : ℕ) (first second : List ℕ) → 4096 * page + at ≡ addr → at + front ≡ 4096 → front + back ≡ n → back ≤ 4096 →
    f page ≡ Some first → length first ≡ 4096 → f (page + 1) ≡ Some second → length second ≡ 4096 → bytes_at (byte_by f) addr n ≢ None
there_both f addr n page at front back first second place border sum few found whole found' whole' =
    something (bytes_at (byte_by f) addr n) (take front (drop at first) ++ take back (drop 0 second))
    (found_both f addr n page at front back first second (take front (drop at first)) (take back (drop 0 second)) place border sum few found whole found' whole' refl refl)

-- Bytes put into one page as bytes put into the memory.

pub length_with : (page new : List ℕ) (at : ℕ) → length page ≡ 4096 → at + length new ≤ 4096 → length (with_bytes page at new) ≡ 4096
length_with page new at whole fits = grind (arith, common_steps)

get_with_in : (page new : List ℕ) (at k : ℕ) → length page ≡ 4096 → at + length new ≤ 4096 → at ≤ k → k < at + length new → get_or (with_bytes page at new) k 0 ≡ get_or new (k - at) 0
get_with_in page new at k whole fits low high = grind (arith, common_steps)

get_with_before : (page new : List ℕ) (at k : ℕ) → length page ≡ 4096 → at + length new ≤ 4096 → k < at → get_or (with_bytes page at new) k 0 ≡ get_or page k 0
get_with_before page new at k whole fits low = grind (arith, common_steps)

get_with_after : (page new : List ℕ) (at k : ℕ) → length page ≡ 4096 → at + length new ≤ 4096 → at + length new ≤ k → k < 4096 → get_or (with_bytes page at new) k 0 ≡ get_or page k 0
get_with_after page new at k whole fits high low = grind (arith, common_steps)

-- the byte at an offset of the page, after the write and as the memory shows it
at_offset : (f : Pages) (p at k : ℕ) (new page : List ℕ) → f p ≡ Some page → length page ≡ 4096 → at + length new ≤ 4096 → k < 4096 →
    slice_get (with_bytes page at new) k ≡ written (byte_by f) (4096 * p + at) new (4096 * p + k)
at_offset f p at k new page found whole fits small =
    let there : slice_get (with_bytes page at new) k ≡ Some (get_or (with_bytes page at new) k 0) =
    slice_get-get_or (with_bytes page at new) k 0 (rw (length_with page new at whole fits) small) in
    let old : byte_by f (4096 * p + k) ≡ Some (get_or page k 0) = byte_of f p k page found small ∙ slice_get-get_or page k 0 (rw whole small) in
    there ∙ elim (cases_lt k at) [
      | inl before ↦ ap (λ (b : ℕ). Some b) (get_with_before page new at k whole fits before) ∙ sym old ∙ sym (written_before (byte_by f) (4096 * p + at) (4096 * p + k) new (omega arith))
      | inr from ↦ elim (cases_lt k (at + length new)) [
        | inl inside ↦ ap (λ (b : ℕ). Some b) (get_with_in page new at k whole fits from inside)
            ∙ ap (λ (i : ℕ). Some (get_or new i 0)) (omega arith)
            ∙ sym (written_in (byte_by f) (4096 * p + at) (4096 * p + k) new (omega arith) (omega arith))
        | inr after ↦ ap (λ (b : ℕ). Some b) (get_with_after page new at k whole fits after small) ∙ sym old ∙ sym (written_after (byte_by f) (4096 * p + at) (4096 * p + k) new (omega arith))
      ]
    ]

outside : (m : Memory) (p at q : ℕ) (new : List ℕ) → at + length new ≤ 4096 → q / 4096 ≢ p → written m (4096 * p + at) new q ≡ m q
outside m p at q new fits other =
    elim (cases_lt q (4096 * p + at)) [
      | inl before ↦ written_before m (4096 * p + at) q new before
      | inr from ↦ written_after m (4096 * p + at) q new (omega arith)
    ]

-- one page has the bytes, and all others are as they were
pub wrote_page : (f f' : Pages) (p at : ℕ) (new page : List ℕ) → f p ≡ Some page → length page ≡ 4096 → at + length new ≤ 4096 → f' p ≡ Some (with_bytes page at new) →
    ((q : ℕ) → q ≢ p → f' q ≡ f q) → byte_by f' ≡ written (byte_by f) (4096 * p + at) new
wrote_page f f' p at new page found whole fits here others =
    fun_ext (λ q. elim (cases_eq (q / 4096) p) [
      | inl e ↦
          let place : q ≡ 4096 * p + q % 4096 = omega arith in
          let seen : byte_by f' q ≡ slice_get (with_bytes page at new) (q % 4096) = rw (e, here) refl in
          seen ∙ at_offset f p at (q % 4096) new page found whole fits (omega arith) ∙ ap (written (byte_by f) (4096 * p + at) new) (sym place)
      | inr other ↦
          let seen : byte_by f' q ≡ byte_by f q = rw (others (q / 4096) other) refl in
          seen ∙ sym (outside (byte_by f) p at q new fits other)
    ])

pub wrote_both : (m m' m'' : Memory) (addr page at front : ℕ) (bytes low high : List ℕ) → 4096 * page + at ≡ addr → at + front ≡ 4096 → low ≡ take front bytes → high ≡ drop front bytes → length low ≡ front →
    m' ≡ written m (4096 * page + at) low → m'' ≡ written m' (4096 * (page + 1) + 0) high → m'' ≡ written m addr bytes
wrote_both m m' m'' addr page at front bytes low high place border is_low is_high count first second =
    let border' : 4096 * (page + 1) + 0 ≡ 4096 * page + at + front = sym (next_page page at front border) in
    second ∙ rw (first, border', ← count, written-append m (4096 * page + at) low high, place, is_low, is_high, take-append-drop front bytes) refl
