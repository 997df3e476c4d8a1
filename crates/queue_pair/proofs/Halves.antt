-- A half in memory and in a pool of pages; and the lowest identifier that is not claimed.
use Rattle.std.proofs.Common.{◌≡◌, ◌≢◌, inl, inr, ℕ, zero, suc, ◌+◌, ◌*◌, ◌<◌, ◌≤◌, Bool, true, false, IsSome, List, Option, Some, None, length, replicate, get_or, refl, sym, ap, ◌∙◌, subst, arith, ◌/◌, ◌%◌, is_some, IfSome, ◌∷◌, slice_set, not, cond, ltb, map}
use Rattle.std.proofs.lemmas.{Bool.{cases_lt, lt-ltb, le-ltb, not-false, not-true, Decides.nat_tests}, List.{get_or-map, length-map, map-set, Quantifiers.position-Some}}
use Rattle.std.{proofs.lemmas.{List.Sums.{fails_before_first, position_or_len_is}, Option.slice_get-get_or}, specs.List.{slice_get, position, position_or_len}}
use Rattle.std.specs.Option.{option_map, option_and_then}
use Rattle.page_memory.proofs.Bytes.{bytes_held, bytes_some, written_before, written_after, byte_in, page_of_place, offset_of_place, length-zero_page}
use Rattle.page_memory.specs.{Memory.{Memory, written}, Pages.{Pages, page_at, byte_at, zero_page, AreWhole}}
use Rattle.page_memory.specs.declared.page.Half.TheVariants.{Submission, Completion}
use Rattle.entry_codec.specs.{Completion.completion_of, Submission.submission_of, declared.completion.ComEntry.ComEntry}
use Rattle.queue_pair.{proofs.Rings.{see_alike, bytes_agree, phase_from, not_not}, specs.Halves.{IsIn, IsZero, Agree, IsOutside, AreApart}}
use Rattle.queue_pair.specs.Lists.{entries_between, completions_from, PhasesStand}
use Rattle.queue_pair.specs.Memory.{submission_place, completion_place, submission_page, completion_page, submission_slot, completion_slot, half_pages, entry_at, completion_at}
use Rattle.slot_table.{proofs.Places.first-inside, specs.{Places.is_true_at, Searches.{IsFirstFrom, IsNoneFrom}}}

-- A half in memory, and its slots.

-- the slots lie in the half's pages, each in one page
pub submission_within : (n slot : ℕ) → slot < n → 64 * slot + 64 ≤ 4096 * half_pages n Submission
submission_within n slot h = omega arith

pub completion_within : (n slot : ℕ) → slot < n → 16 * slot + 16 ≤ 4096 * half_pages n Completion
completion_within n slot h = omega arith

pub submission_page_within : (n sq slot : ℕ) → slot < n → submission_page sq slot < sq + half_pages n Submission
submission_page_within n sq slot h = omega arith

pub completion_page_within : (n cq slot : ℕ) → slot < n → completion_page cq slot < cq + half_pages n Completion
completion_page_within n cq slot h = omega arith

-- an address of a slot, as an address of the half
further : (base slot k : ℕ) → base + slot + k ≡ base + (slot + k)
further base slot k = omega arith

some_of : {X : Type 0} (o : Option X) → o ≢ None → IsSome o
some_of None h = absurd (h refl)
some_of (Some x) h = refl

pub submission_there : (m : Memory) (sq n slot : ℕ) → IsIn m sq (half_pages n Submission) → slot < n → IsSome (submission_slot m sq slot)
submission_there m sq n slot h s =
    some_of (submission_slot m sq slot) (bytes_some m (submission_place sq slot) 64 (λ k lt.
    subst (λ (q : ℕ). IsSome (m q)) (sym (further (4096 * sq) (64 * slot) k)) (h.there (64 * slot + k) (omega (arith, submission_within n slot s)))))

pub completion_there : (m : Memory) (cq n slot : ℕ) → IsIn m cq (half_pages n Completion) → slot < n → IsSome (completion_slot m cq slot)
completion_there m cq n slot h s =
    some_of (completion_slot m cq slot) (bytes_some m (completion_place cq slot) 16 (λ k lt.
    subst (λ (q : ℕ). IsSome (m q)) (sym (further (4096 * cq) (16 * slot) k)) (h.there (16 * slot + k) (omega (arith, completion_within n slot s)))))

-- memories that agree on a half show the same entries
entry_agree : (m m' : Memory) (sq n slot : ℕ) → Agree m m' sq (half_pages n Submission) → slot < n → entry_at m sq slot ≡ entry_at m' sq slot
entry_agree m m' sq n slot h s =
    ap (λ (b : Option (List ℕ)). option_map submission_of b) (bytes_agree m m' (submission_place sq slot) 64 (λ k lt.
    subst (λ (q : ℕ). m q ≡ m' q) (sym (further (4096 * sq) (64 * slot) k)) (h.same (64 * slot + k) (omega (arith, submission_within n slot s)))))

completion_agree : (m m' : Memory) (cq n slot : ℕ) → Agree m m' cq (half_pages n Completion) → slot < n → completion_at m cq slot ≡ completion_at m' cq slot
completion_agree m m' cq n slot h s =
    ap (λ (b : Option (List ℕ)). option_map completion_of b) (bytes_agree m m' (completion_place cq slot) 16 (λ k lt.
    subst (λ (q : ℕ). m q ≡ m' q) (sym (further (4096 * cq) (16 * slot) k)) (h.same (16 * slot + k) (omega (arith, completion_within n slot s)))))

pub entries_agree : (m m' : Memory) (sq n from to : ℕ) → Agree m m' sq (half_pages n Submission) → from < n → entries_between m sq n from to ≡ entries_between m' sq n from to
entries_agree m m' sq n from to h f = see_alike (entry_at m sq) (entry_at m' sq) n from to f (λ slot s. entry_agree m m' sq n slot h s)

pub posted_agree : (m m' : Memory) (cq n from to : ℕ) → Agree m m' cq (half_pages n Completion) → from < n → completions_from m cq n from to ≡ completions_from m' cq n from to
posted_agree m m' cq n from to h f = see_alike (completion_at m cq) (completion_at m' cq) n from to f (λ slot s. completion_agree m m' cq n slot h s)

pub phases_agree : (m m' : Memory) (cq n tail : ℕ) (phase : Bool) → Agree m m' cq (half_pages n Completion) → PhasesStand m cq n tail phase → PhasesStand m' cq n tail phase
phases_agree m m' cq n tail phase h stand =
    record {
      stands = λ slot s. ap (λ (x : Option ComEntry). option_map (λ entry. entry.phase) x) (sym (completion_agree m m' cq n slot h s)) ∙ stand.stands slot s;
    }

-- a write outside the half
pub outside_agrees : (m : Memory) (place page pages : ℕ) (bytes : List ℕ) → IsOutside place (length bytes) page pages → Agree m (written m place bytes) page pages
outside_agrees m place page pages bytes outside =
    record {
      same = λ k lt. elim outside [
        | inl before ↦ sym (written_after m place (4096 * page + k) bytes (omega arith))
        | inr after ↦ sym (written_before m place (4096 * page + k) bytes (omega arith))
      ];
    }

-- a write to a slot of another half
pub entry_outside : (sq n slot page pages : ℕ) → slot < n → AreApart sq (half_pages n Submission) page pages → IsOutside (submission_place sq slot) 64 page pages
entry_outside sq n slot page pages s apart = elim apart [ inl before ↦ inl (omega (arith, submission_within n slot s)) | inr after ↦ inr (omega arith) ]

pub completion_outside : (cq n slot page pages : ℕ) → slot < n → AreApart cq (half_pages n Completion) page pages → IsOutside (completion_place cq slot) 16 page pages
completion_outside cq n slot page pages s apart = elim apart [ inl before ↦ inl (omega (arith, completion_within n slot s)) | inr after ↦ inr (omega arith) ]

-- so it leaves the list of that half
pub completions_left : (m : Memory) (sq cq n slot from to : ℕ) (bytes : List ℕ) → length bytes ≡ 64 → slot < n → from < n → AreApart sq (half_pages n Submission) cq (half_pages n Completion) →
    completions_from (written m (submission_place sq slot) bytes) cq n from to ≡ completions_from m cq n from to
completions_left m sq cq n slot from to bytes count s f apart =
    let outside : IsOutside (submission_place sq slot) (length bytes) cq (half_pages n Completion) =
    subst (λ (many : ℕ). IsOutside (submission_place sq slot) many cq (half_pages n Completion)) (sym count) (entry_outside sq n slot cq (half_pages n Completion) s apart) in
    sym (posted_agree m (written m (submission_place sq slot) bytes) cq n from to (outside_agrees m (submission_place sq slot) cq (half_pages n Completion) bytes outside) f)

pub entries_left : (m : Memory) (sq cq n slot from to : ℕ) (bytes : List ℕ) → length bytes ≡ 16 → slot < n → from < n → AreApart cq (half_pages n Completion) sq (half_pages n Submission) →
    entries_between (written m (completion_place cq slot) bytes) sq n from to ≡ entries_between m sq n from to
entries_left m sq cq n slot from to bytes count s f apart =
    let outside : IsOutside (completion_place cq slot) (length bytes) sq (half_pages n Submission) =
    subst (λ (many : ℕ). IsOutside (completion_place cq slot) many sq (half_pages n Submission)) (sym count) (completion_outside cq n slot sq (half_pages n Submission) s apart) in
    sym (entries_agree m (written m (completion_place cq slot) bytes) sq n from to (outside_agrees m (completion_place cq slot) sq (half_pages n Submission) bytes outside) f)

-- a half of zeros
zeros : (n k : ℕ) → get_or (replicate {A = ℕ} n 0) k 0 ≡ 0
zeros zero k = refl
zeros (suc n) zero = refl
zeros (suc n) (suc k) = zeros n k

zero_slot : (m : Memory) (cq n slot : ℕ) → IsZero m cq (half_pages n Completion) → slot < n → completion_slot m cq slot ≡ Some (replicate 16 0)
zero_slot m cq n slot h s =
    bytes_held m (completion_place cq slot) (replicate 16 0) (λ k lt.
    subst (λ (q : ℕ). m q ≡ Some (get_or (replicate 16 0) k 0)) (sym (further (4096 * cq) (16 * slot) k))
    (h.zero_there (16 * slot + k) (omega (arith, completion_within n slot s)) ∙ ap (λ (b : ℕ). Some b) (sym (zeros 16 k))))

zero_phase : (completion_of (replicate 16 0)).phase ≡ false
unfolding completion_of
zero_phase = refl

pub zeros_stand : (m : Memory) (cq n : ℕ) → IsZero m cq (half_pages n Completion) → PhasesStand m cq n 0 true
zeros_stand m cq n h =
    record {
      stands = λ slot s.
          ap (λ (b : Option (List ℕ)). option_map (λ (entry : ComEntry). entry.phase) (option_map completion_of b)) (zero_slot m cq n slot h s)
          ∙ ap (λ (b : Bool). Some b) (zero_phase ∙ sym (phase_from 0 slot true (omega arith)));
    }

-- The halves in a pool of pages.

-- an address of the half, by its page and its offset
place_of : (page k : ℕ) → 4096 * page + k ≡ 4096 * (page + k / 4096) + k % 4096
place_of page k = omega arith

byte_there : (pool : Pages) (p at : ℕ) (o : Option (List ℕ)) → page_at pool p ≡ o → IsSome o → IfSome o (λ page. length page ≡ 4096) → at < 4096 → IsSome (byte_at pool (4096 * p + at))
byte_there pool p at None found there whole fits = cc
byte_there pool p at (Some page) found there whole fits =
    let some : byte_at pool (4096 * p + at) ≡ Some (get_or page at 0) = byte_in pool p at page found fits ∙ slice_get-get_or page at 0 (subst (λ (n : ℕ). at < n) (sym whole) fits) in
    ap is_some some

pub pages_in : (pool : Pages) (page pages : ℕ) → AreWhole pool → ((p : ℕ) → p < pages → IsSome (page_at pool (page + p))) → IsIn (byte_at pool) page pages
pages_in pool page pages whole there =
    record {
      there = λ k lt. subst (λ (q : ℕ). IsSome (byte_at pool q)) (sym (place_of page k))
          (byte_there pool (page + k / 4096) (k % 4096) (page_at pool (page + k / 4096)) refl (there (k / 4096) (omega (arith, lt))) (whole (page + k / 4096)) (omega arith));
    }

zero_shown : (at : ℕ) → get_or zero_page at 0 ≡ 0
unfolding zero_page
zero_shown at = zeros 4096 at

zero_byte : (at : ℕ) → at < 4096 → slice_get zero_page at ≡ Some 0
zero_byte at fits =
    slice_get-get_or zero_page at 0 (subst (λ (n : ℕ). at < n) (sym length-zero_page) fits) ∙ ap (λ (b : ℕ). Some b) (zero_shown at)

pub pages_zero : (pool : Pages) (page pages : ℕ) → ((p : ℕ) → p < pages → page_at pool (page + p) ≡ Some zero_page) → IsZero (byte_at pool) page pages
pages_zero pool page pages blank =
    record {
      zero_there = λ k lt.
          ap (byte_at pool) (place_of page k) ∙ byte_in pool (page + k / 4096) (k % 4096) zero_page (blank (k / 4096) (omega (arith, lt))) (omega arith) ∙ zero_byte (k % 4096) (omega arith);
    }

byte_of_page : (pool : Pages) (p at : ℕ) → at < 4096 → byte_at pool (4096 * p + at) ≡ option_and_then (λ bytes. slice_get bytes at) (page_at pool p)
byte_of_page pool p at fits = rw (page_of_place p at fits, offset_of_place p at fits) refl

pub pages_agree : (pool other : Pages) (page pages : ℕ) → ((p : ℕ) → p < pages → page_at pool (page + p) ≡ page_at other (page + p)) → Agree (byte_at pool) (byte_at other) page pages
pages_agree pool other page pages same =
    record {
      same = λ k lt.
          ap (byte_at pool) (place_of page k)
          ∙ byte_of_page pool (page + k / 4096) (k % 4096) (omega arith)
          ∙ ap (option_and_then (λ bytes. slice_get bytes (k % 4096))) (same (k / 4096) (omega (arith, lt)))
          ∙ sym (byte_of_page other (page + k / 4096) (k % 4096) (omega arith))
          ∙ ap (byte_at other) (sym (place_of page k));
    }

-- The lowest identifier that is not claimed.

pub found_within : (claimed : List Bool) (cid : ℕ) → position not claimed ≡ Some cid → cid < length claimed
found_within claimed cid e = (position-Some not claimed cid false e).0

pub found_free : (claimed : List Bool) (cid : ℕ) → position not claimed ≡ Some cid → slice_get claimed cid ≡ Some false
found_free claimed cid e =
    let h = position-Some not claimed cid false e in
    slice_get-get_or claimed cid false h.0 ∙ ap (λ (b : Bool). Some b) (not-true (get_or claimed cid false) h.1)

pub lower_claimed : (claimed : List Bool) (cid lower : ℕ) → position not claimed ≡ Some cid → lower < cid → slice_get claimed lower ≡ Some true
lower_claimed claimed cid lower e below =
    let h = position-Some not claimed cid false e in
    slice_get-get_or claimed lower false (omega (arith, h.0)) ∙ ap (λ (b : Bool). Some b) (not-false (get_or claimed lower false) (h.2 lower below))

none_below : (i n : ℕ) → cond (ltb i n) (Some i) None ≡ None → n ≤ i
none_below i n e = elim (cases_lt i n) [ inl lt ↦ let some : cond (ltb i n) (Some i) None ≡ Some i = grind (arith, nat_tests) in cc | inr le ↦ le ]

pub all_claimed : (claimed : List Bool) (cid : ℕ) → position not claimed ≡ None → cid < length claimed → slice_get claimed cid ≡ Some true
all_claimed claimed cid e within =
    let past : length claimed ≤ position_or_len not claimed = none_below (position_or_len not claimed) (length claimed) e in
    slice_get-get_or claimed cid false within ∙ ap (λ (b : Bool). Some b) (not-false (get_or claimed cid false) (fails_before_first not claimed cid false (omega arith)))

-- the identifiers that are not claimed as a list of their own

free-at : (free : List Bool) (i : ℕ) → i < length free → not (get_or (map not free) i false) ≡ is_true_at free i
free-at free i within = ap not (get_or-map not free i false false within) ∙ not_not (get_or free i false)

pub lowest_free : (free : List Bool) (cid : ℕ) → IsFirstFrom (is_true_at free) 0 cid → position not (map not free) ≡ Some cid
lowest_free free cid first =
    let within : cid < length free = first-inside free first in
    let size : length (map not free) ≡ length free = length-map free not in
    let place : position_or_len not (map not free) ≡ cid =
    position_or_len_is not (map not free) cid false (omega arith) (λ k below. free-at free k (omega arith) ∙ first.before k (omega arith) below)
    (λ inside. free-at free cid within ∙ first.passes) in
    ap (λ (n : ℕ). cond (ltb n (length (map not free))) (Some n) None) place ∙ ap (λ c. cond c (Some cid) None) (lt-ltb cid (length (map not free)) (omega arith))

pub none_free : (free : List Bool) → IsNoneFrom (is_true_at free) 0 → position not (map not free) ≡ None
none_free free none =
    let size : length (map not free) ≡ length free = length-map free not in
    let many : ℕ = length (map not free) in
    let place : position_or_len not (map not free) ≡ many =
    position_or_len_is not (map not free) many false (omega arith) (λ k below. free-at free k (omega arith) ∙ none.fails k (omega arith)) (λ past. absurd (omega arith)) in
    ap (λ (n : ℕ). cond (ltb n many) (Some n) None) place ∙ ap (λ c. cond c (Some many) None) (le-ltb many many (omega arith))

pub claims-none : (n : ℕ) → map not (replicate n true) ≡ replicate n false
claims-none zero = refl
claims-none (suc n) = ap (λ l. false ∷ l) (claims-none n)

pub claims-set : (free now : List Bool) (cid : ℕ) (b : Bool) → now ≡ slice_set free cid b → map not now ≡ slice_set (map not free) cid (not b)
claims-set free now cid b is = ap (map not) is ∙ map-set not free cid b
