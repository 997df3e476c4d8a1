-- The segments of parts, laid in their pages, spell the parts.
use Rattle.std.proofs.Common.{arith, ◌≡◌, ◌≤◌, ◌<◌, ◌+◌, ◌-◌, ◌*◌, ◌/◌, ℕ, zero, suc, ap, sym, ◌∙◌, inl, inr, subst, ◌++◌, refl, List, [], ◌∷◌, length, map, take, drop, get_or, length-append, ◌^◌, add-zero, Some, All, lit≤}
use Rattle.std.proofs.{Math.{Nat.{add-div_right, div-eq_of_lt, div-mul-le_self}, Seq.{take-append_seam, drop-append-add}}, lemmas.Bool.cases_lt}
use Rattle.std.proofs.lemmas.{Bool.Decides.nat_tests, Grind.{common_steps, flat_map-append}}
use Rattle.std.proofs.lemmas.List.{length-drop, take_more, append-nil, length-take-le, drop-drop, take_all, get_or_append_left, get_or-append-add, length-map, take-append-drop}
use Rattle.std.proofs.lemmas.{List.Elements.{All-head, All-tail, All-nil, All-cons, All-map, All-push, All-take, All-drop}, Nat.le-div}
use Rattle.sgl_chain.specs.Chains.{segments_within, pages_needed, link, segments_on, segment_bytes, first_of, AllFit, segment_at, Linked, segments_from}
use Rattle.sgl_chain.specs.{Laws.{HasPages, AreTyped}, Spells.{IsSegment, SpellsBy, Stand, IsLaid, Holds, Spells, descriptors_in}}
use Rattle.sgl_descriptor.{proofs.Spells.spells_itself, specs.{Spelling.{spelling, Fits, IsLink}, Targets.descriptor_of_part, declared.Descriptor.Descriptor}}
use Rattle.sgl_descriptor.specs.declared.{Descriptor.TheVariants.{DataBlock, Segment, LastSegment}, Part.{Part, TheVariants.{Data, Bucket}}}
use Rattle.page_memory.specs.{Memory.{Memory, bytes_at}, Pages.with_bytes}

-- How many segments parts need.

-- the bound on the recursion doesn't matter
pub within_same : (b c k s : ℕ) → 2 ≤ s → 1 ≤ k → k ≤ b → k ≤ c → segments_within b k s ≡ segments_within c k s
within_same zero c k s two some p q = absurd (omega arith)
within_same (suc b) zero k s two some p q = absurd (omega arith)
within_same (suc b) (suc c) k s two some p q =
    let again : 1 ≤ k - (s - 1) → k - (s - 1) ≤ b → k - (s - 1) ≤ c → segments_within b (k - (s - 1)) s ≡ segments_within c (k - (s - 1)) s = within_same b c (k - (s - 1)) s two in
    grind (arith, nat_tests)

pub within_some : (b k s : ℕ) → 1 ≤ k → k ≤ b → 1 ≤ segments_within b k s
within_some zero k s some p = absurd (omega arith)
within_some (suc b) k s some p = grind (arith, nat_tests)

pub within_one : (b k s : ℕ) → 1 ≤ k → k ≤ b → k ≤ s → segments_within b k s ≡ 1
within_one zero k s some p q = absurd (omega arith)
within_one (suc b) k s some p q = grind (arith, nat_tests)

-- of more parts than fit in one segment, the rest needs one segment less
pub within_rest : (k s : ℕ) → 2 ≤ s → s < k → segments_within k k s ≡ 1 + segments_within (k - (s - 1)) (k - (s - 1)) s
within_rest zero s two more = absurd (omega arith)
within_rest (suc k) s two more =
    let same : segments_within k (suc k - (s - 1)) s ≡ segments_within (suc k - (s - 1)) (suc k - (s - 1)) s = within_same k (suc k - (s - 1)) (suc k - (s - 1)) s two (omega arith) (omega arith) (omega arith) in
    grind (arith, nat_tests)

-- no more segments than parts
pub within_few : (b k s : ℕ) → segments_within b k s ≤ b
within_few zero k s = omega arith
within_few (suc b) k s =
    let again : segments_within b (k - (s - 1)) s ≤ b = within_few b (k - (s - 1)) s in
    grind (arith, nat_tests)

-- two parts or more need a page for each segment
pub needed_many : (k s : ℕ) → 2 ≤ k → pages_needed k s ≡ segments_within k k s
needed_many k s two = grind (arith, nat_tests)

-- one part needs no page
pub needed_one : (k s : ℕ) → k ≤ 1 → pages_needed k s ≡ 0
needed_one k s one = grind (arith, nat_tests)

pub needed_few : (k s : ℕ) → pages_needed k s ≤ k
needed_few k s = let few : segments_within k k s ≤ k = within_few k k s in grind (arith, nat_tests)

-- the number of segments by a division
within_divided : (b k s : ℕ) → 2 ≤ s → 2 ≤ k → k ≤ b → segments_within b k s ≡ (k - 2) / (s - 1) + 1
within_divided zero k s low two p = absurd (omega arith)
within_divided (suc b) k s low two p = elim (cases_lt s k) [
  | inl more ↦
      let again : segments_within b (k - (s - 1)) s ≡ (k - (s - 1) - 2) / (s - 1) + 1 = within_divided b (k - (s - 1)) s low (omega arith) (omega arith) in
      let whole : k - (s - 1) - 2 + (s - 1) ≡ k - 2 = omega arith in
      let step : (k - (s - 1) - 2 + (s - 1)) / (s - 1) ≡ (k - (s - 1) - 2) / (s - 1) + 1 = add-div_right (k - (s - 1) - 2) (omega arith) in
      let divided : (k - 2) / (s - 1) ≡ (k - (s - 1) - 2) / (s - 1) + 1 = ap (λ (n : ℕ). n / (s - 1)) (sym whole) ∙ step in
      grind (arith, nat_tests)
  | inr few ↦
      let none : (k - 2) / (s - 1) ≡ 0 = div-eq_of_lt (omega arith) in
      within_one (suc b) k s (omega arith) p few ∙ sym (ap (λ (n : ℕ). n + 1) none)
]

pub needed_divided : (k s : ℕ) → 2 ≤ s → 2 ≤ k → pages_needed k s ≡ (k - 2) / (s - 1) + 1
needed_divided k s low two = needed_many k s two ∙ within_divided k k s low two (omega arith)

-- more parts need no fewer pages
pub needed_more : (j k s : ℕ) → 2 ≤ s → j ≤ k → pages_needed j s ≤ pages_needed k s
needed_more j k s low more = elim (cases_lt 1 j) [
  | inl two ↦
      let few : (j - 2) / (s - 1) ≤ (k - 2) / (s - 1) = le-div ((j - 2) / (s - 1)) (k - 2) (s - 1) (omega arith) (let part : (j - 2) / (s - 1) * (s - 1) ≤ j - 2 = div-mul-le_self (j - 2) (s - 1) in omega arith) in
      let those : pages_needed j s ≡ (j - 2) / (s - 1) + 1 = needed_divided j s low (omega arith) in
      let these : pages_needed k s ≡ (k - 2) / (s - 1) + 1 = needed_divided k s low (omega arith) in
      omega arith
  | inr one ↦ let none : pages_needed j s ≡ 0 = needed_one j s one in omega arith
]

-- The segments of parts, by the length of both lists.

-- parts with a page for each of their segments, at least one
pub record IsCut (s : ℕ) (pages : List ℕ) (parts : List Part) : Type 0 where
  pub low : 2 ≤ s
  pub high : s ≤ 256
  pub some : 0 < length parts
  pub needed : length pages ≡ segments_within (length parts) (length parts) s

pub cut_of : (s : ℕ) (pages : List ℕ) (parts : List Part) → HasPages s pages parts → 2 ≤ length parts → IsCut s pages parts
cut_of s pages parts has two = record { low = has.low; high = has.high; some = has.some; needed = has.needed ∙ needed_many (length parts) s two }

pub on_one : (s : ℕ) (pages : List ℕ) (parts : List Part) → 1 ≤ length pages → length parts ≤ s → segments_on s pages parts ≡ map descriptor_of_part parts ∷ []
on_one s [] parts some few = absurd (omega arith)
on_one s (page ∷ pages) parts some few = grind (arith, nat_tests)

pub on_more : (s : ℕ) (pages : List ℕ) (parts : List Part) (d : ℕ) → 2 ≤ length pages → s < length parts →
    segments_on s pages parts ≡ (map descriptor_of_part (take (s - 1) parts) ++ link s (get_or pages 1 d) (length parts - (s - 1)) ∷ []) ∷ segments_on s (drop 1 pages) (drop (s - 1) parts)
on_more s [] parts d two more = absurd (omega arith)
on_more s (page ∷ []) parts d two more = absurd (omega arith)
on_more s (page ∷ next ∷ pages) parts d two more = grind (arith, nat_tests)

-- at least two pages, where the parts are more than fit in one segment
pub two_pages : (s k n : ℕ) → 2 ≤ s → s < k → n ≡ segments_within k k s → 2 ≤ n
two_pages s k n low more is =
    let rest : segments_within k k s ≡ 1 + segments_within (k - (s - 1)) (k - (s - 1)) s = within_rest k s low more in
    let some : 1 ≤ segments_within (k - (s - 1)) (k - (s - 1)) s = within_some (k - (s - 1)) (k - (s - 1)) s (omega arith) (omega arith) in
    omega arith

pub one_page : (s k n : ℕ) → 0 < k → n ≡ segments_within k k s → 1 ≤ n
one_page s k n some is = let one : 1 ≤ segments_within k k s = within_some k k s (omega arith) (omega arith) in omega arith

length_later : (xs : List ℕ) → length (take (length xs - 1) (drop 1 xs)) ≡ length xs - 1
length_later xs = grind (arith, common_steps)

-- the pages of the rest are as many as it needs
pub pages_of_rest : (s k r : ℕ) (pages : List ℕ) → 2 ≤ s → s < k → length pages ≡ segments_within k k s → r + (s - 1) ≡ k → length (take (length pages - 1) (drop 1 pages)) ≡ segments_within r r s
pages_of_rest s k r pages low more is rest =
    let e : segments_within k k s ≡ 1 + segments_within (k - (s - 1)) (k - (s - 1)) s = within_rest k s low more in
    let same : k - (s - 1) ≡ r = omega arith in
    let f : segments_within k k s ≡ 1 + segments_within r r s = subst (λ (x : ℕ). segments_within k k s ≡ 1 + segments_within x x s) same e in
    length_later pages ∙ omega arith

-- the premises for the rest
pub cut_rest : (s page : ℕ) (pages : List ℕ) (parts : List Part) → IsCut s (page ∷ pages) parts → s < length parts → IsCut s pages (drop (s - 1) parts)
cut_rest s page pages parts cut more =
    let rest : length (drop (s - 1) parts) ≡ length parts - (s - 1) = length-drop (s - 1) parts in
    let low : 2 ≤ s = cut.low in
    let e : segments_within (length parts) (length parts) s ≡ 1 + segments_within (length parts - (s - 1)) (length parts - (s - 1)) s = within_rest (length parts) s cut.low more in
    let n : suc (length pages) ≡ segments_within (length parts) (length parts) s = cut.needed in
    record {
      low = cut.low;
      high = cut.high;
      some = omega arith;
      needed = rw rest (omega arith);
    }

-- no second segment, where there is one page
pub one_alone : (s page : ℕ) (parts : List Part) → IsCut s (page ∷ []) parts → length parts ≤ s
one_alone s page parts cut = elim (cases_lt s (length parts)) [
  | inl more ↦ absurd (let two : 2 ≤ 1 = two_pages s (length parts) 1 cut.low more cut.needed in omega arith)
  | inr few ↦ few
]

-- one segment on each page
pub length-segments_on : (s : ℕ) (pages : List ℕ) (parts : List Part) → IsCut s pages parts → length (segments_on s pages parts) ≡ length pages
length-segments_on s [] parts cut = refl
length-segments_on s (page ∷ []) parts cut = ap length (on_one s (page ∷ []) parts (omega arith) (one_alone s page parts cut))
length-segments_on s (page ∷ next ∷ pages) parts cut = elim (cases_lt s (length parts)) [
  | inl more ↦
      let again : length (segments_on s (next ∷ pages) (drop (s - 1) parts)) ≡ length (next ∷ pages) = length-segments_on s (next ∷ pages) (drop (s - 1) parts) (cut_rest s page (next ∷ pages) parts cut more) in
      ap length (on_more s (page ∷ next ∷ pages) parts next (omega arith) more) ∙ ap suc again
  | inr few ↦
      let one : segments_within (length parts) (length parts) s ≡ 1 = within_one (length parts) (length parts) s cut.some (omega arith) few in
      let n : suc (suc (length pages)) ≡ segments_within (length parts) (length parts) s = cut.needed in
      absurd (omega arith)
]

-- Segments laid in pages.

pub length-spelling : (d : Descriptor) → length (spelling d) ≡ 16
length-spelling (DataBlock addr len) = refl
length-spelling v = refl

pub length-segment_bytes : (descriptors : List Descriptor) → length (segment_bytes descriptors) ≡ 16 * length descriptors
length-segment_bytes [] = refl
length-segment_bytes (d ∷ descriptors) = length-append (spelling d) (segment_bytes descriptors) ∙ omega (arith, length-spelling d, length-segment_bytes descriptors)

drop_again : (i : ℕ) (bytes : List ℕ) → drop 16 (drop (16 * i) bytes) ≡ drop (16 * (i + 1)) bytes
drop_again i bytes = drop-drop 16 (16 * i) bytes ∙ ap (λ (n : ℕ). drop n bytes) (omega arith)

bytes_more : (descriptors : List Descriptor) (i : ℕ) (d : Descriptor) → i < length descriptors → segment_bytes (take (i + 1) descriptors) ≡ segment_bytes (take i descriptors) ++ spelling (get_or descriptors i d)
bytes_more descriptors i d lt =
    ap segment_bytes (take_more descriptors i d lt) ∙ flat_map-append spelling (take i descriptors) (get_or descriptors i d ∷ [])
    ∙ ap (λ (x : List ℕ). segment_bytes (take i descriptors) ++ x) (append-nil (spelling (get_or descriptors i d)))

take_seam : (n : ℕ) (a b : List ℕ) → length a ≡ n → take n (a ++ b) ≡ a
take_seam n a b len = subst (λ (x : ℕ). take x (a ++ b) ≡ a) len (take-append_seam a b)

drop_seam : (n k : ℕ) (a b : List ℕ) → length a ≡ n → drop (n + k) (a ++ b) ≡ drop k b
drop_seam n k a b len = subst (λ (x : ℕ). drop (x + k) (a ++ b) ≡ drop k b) len (drop-append-add a b k)

-- one more descriptor laid
pub lay_more : (descriptors : List Descriptor) (i n : ℕ) (d : Descriptor) (start page : List ℕ) → i < length descriptors → n ≡ 16 →
    page ≡ segment_bytes (take i descriptors) ++ drop (16 * i) start →
    (take (16 * i) page ++ spelling (get_or descriptors i d)) ++ drop (16 * i + n) page ≡ segment_bytes (take (i + 1) descriptors) ++ drop (16 * (i + 1)) start
lay_more descriptors i n d start page lt sixteen is =
    let len : length (segment_bytes (take i descriptors)) ≡ 16 * i = length-segment_bytes (take i descriptors) ∙ ap (λ (x : ℕ). 16 * x) (length-take-le i descriptors (omega arith)) in
    let front : take (16 * i) page ≡ segment_bytes (take i descriptors) = rw is (take_seam (16 * i) (segment_bytes (take i descriptors)) (drop (16 * i) start) len) in
    let back : drop (16 * i + n) page ≡ drop (16 * (i + 1)) start =
    (rw is (drop_seam (16 * i) n (segment_bytes (take i descriptors)) (drop (16 * i) start) len)) ∙ ap (λ (x : ℕ). drop x (drop (16 * i) start)) sixteen ∙ drop_again i start in
    rw (front, back, bytes_more descriptors i d lt) refl

-- all descriptors laid
pub lay_all : (descriptors : List Descriptor) (i : ℕ) (start page : List ℕ) → i ≤ length descriptors → length descriptors ≤ i →
    page ≡ segment_bytes (take i descriptors) ++ drop (16 * i) start → page ≡ with_bytes start 0 (segment_bytes descriptors)
lay_all descriptors i start page le ge is =
    let whole : take i descriptors ≡ descriptors = take_all i descriptors ge in
    let len : 16 * i ≡ 0 + length (segment_bytes descriptors) = omega (arith, length-segment_bytes descriptors) in
    is ∙ rw (whole, len) refl

-- The segments of parts, laid in their pages, spell the parts.

-- bytes at an address are read there
bytes_held : (m : Memory) (place : ℕ) (bytes : List ℕ) → Holds m place bytes → bytes_at m place (length bytes) ≡ Some bytes
unfolding bytes_at
bytes_held m place [] h = refl
bytes_held m place (b ∷ bytes) h = rw (subst (λ (q : ℕ). m q ≡ Some b) (add-zero place) (h 0 (omega arith)), bytes_held m (place + 1) bytes (λ k lt. subst (λ (q : ℕ). m q ≡ Some (get_or bytes k 0)) (one_more place k) (h (suc k) (omega arith)))) refl
  where
    one_more : (place k : ℕ) → place + suc k ≡ place + 1 + k
    one_more place k = omega arith

holds_front : (m : Memory) (place : ℕ) (a b : List ℕ) → Holds m place (a ++ b) → Holds m place a
holds_front m place a b h k lt = h k (rw (length-append a b) (omega arith)) ∙ ap (λ (x : ℕ). Some x) (get_or_append_left a b 0 k lt)

holds_back : (m : Memory) (place n : ℕ) (a b : List ℕ) → length a ≡ n → Holds m place (a ++ b) → Holds m (place + n) b
holds_back m place n a b len h k lt =
    subst (λ (q : ℕ). m q ≡ Some (get_or b k 0)) (omega arith) (h (length a + k) (rw (length-append a b) (omega arith)) ∙ ap (λ (x : ℕ). Some x) (get_or-append-add a b k 0))

holds_stand : (m : Memory) (place : ℕ) (descriptors : List Descriptor) → All Fits descriptors → Holds m place (segment_bytes descriptors) → Stand m place descriptors
holds_stand m place [] fit h = tt
holds_stand m place (d ∷ descriptors) fit h = (
  (spelling d, rw (← length-spelling d) (bytes_held m place (spelling d) (holds_front m place (spelling d) (segment_bytes descriptors) h)), spells_itself d (All-head Fits d descriptors fit)),
  holds_stand m (place + 16) descriptors (All-tail Fits d descriptors fit) (holds_back m place 16 (spelling d) (segment_bytes descriptors) (length-spelling d) h),
)

-- a segment at the start of a page
laid_segment : (m : Memory) (page n : ℕ) (descriptors : List Descriptor) → All Fits descriptors → length descriptors ≡ n → 0 < n →
    Holds m (4096 * page) (segment_bytes descriptors) → IsSegment m (4096 * page) (16 * n) descriptors
laid_segment m page n descriptors fit len some h = (omega arith, omega arith, omega arith, holds_stand m (4096 * page) descriptors fit h)

link_last : (s k page : ℕ) → k ≤ s → link s page k ≡ LastSegment (4096 * page) (16 * k)
link_last s k page few = grind (arith, nat_tests)

link_more : (s k page : ℕ) → s < k → link s page k ≡ Segment (4096 * page) (16 * s)
link_more s k page more = grind (arith, nat_tests)

fit_link : (s k page : ℕ) → page < 2 ^ 32 → s ≤ 256 → Fits (link s page k)
fit_link s k page low few = elim (cases_lt s k) [
  | inl more ↦ rw (link_more s k page more) (omega arith, omega arith)
  | inr less ↦ rw (link_last s k page less) (omega arith, omega arith)
]

pub link_is_link : (s k page : ℕ) → IsLink (link s page k)
link_is_link s k page = elim (cases_lt s k) [
  | inl more ↦ rw (link_more s k page more) refl
  | inr less ↦ rw (link_last s k page less) refl
]

length_linked : (s : ℕ) (parts : List Part) (d : Descriptor) → 2 ≤ s → s < length parts → length (map descriptor_of_part (take (s - 1) parts) ++ d ∷ []) ≡ s
length_linked s parts d two more =
    length-append (map descriptor_of_part (take (s - 1) parts)) (d ∷ [])
    ∙ ap (λ (n : ℕ). n + 1) (length-map (take (s - 1) parts) descriptor_of_part ∙ length-take-le (s - 1) parts (omega arith)) ∙ omega arith

parts_fit : (parts : List Part) → All (λ part. Fits (descriptor_of_part part)) parts → All Fits (map descriptor_of_part parts)
parts_fit parts h = All-map Fits descriptor_of_part parts h

page_fits : (page : ℕ) (pages : List ℕ) (parts : List Part) → AreTyped (page ∷ pages) parts → page < 2 ^ 32
page_fits page pages parts typed = All-head (λ p. p < 2 ^ 32) page pages typed.pages_fit

-- the first parts, and the link after them
front_fits : (s page next : ℕ) (pages : List ℕ) (parts : List Part) → s ≤ 256 → AreTyped (page ∷ next ∷ pages) parts →
    All Fits (map descriptor_of_part (take (s - 1) parts) ++ link s next (length parts - (s - 1)) ∷ [])
front_fits s page next pages parts high typed =
    All-push Fits (map descriptor_of_part (take (s - 1) parts)) (link s next (length parts - (s - 1)))
    (parts_fit (take (s - 1) parts) (All-take (λ part. Fits (descriptor_of_part part)) (s - 1) parts typed.parts_fit))
    (fit_link s (length parts - (s - 1)) next (page_fits next pages parts (record { pages_fit = All-tail (λ p. p < 2 ^ 32) page (next ∷ pages) typed.pages_fit; parts_fit = typed.parts_fit })) high)

typed_rest : (s page : ℕ) (pages : List ℕ) (parts : List Part) → AreTyped (page ∷ pages) parts → AreTyped pages (drop (s - 1) parts)
typed_rest s page pages parts typed = record {
  pages_fit = All-tail (λ p. p < 2 ^ 32) page pages typed.pages_fit;
  parts_fit = All-drop (λ part. Fits (descriptor_of_part part)) (s - 1) parts typed.parts_fit;
}

fit_one : (s page : ℕ) (pages : List ℕ) (parts : List Part) → AreTyped (page ∷ pages) parts → length parts ≤ s → AllFit (segments_on s (page ∷ pages) parts)
fit_one s page pages parts typed few =
    rw (on_one s (page ∷ pages) parts (omega arith) few)
    (All-cons (λ descriptors. All Fits descriptors) (map descriptor_of_part parts) [] (parts_fit parts typed.parts_fit) (All-nil (λ descriptors. All Fits descriptors)))

-- where page numbers and the fields of parts fit their types, so do the fields of all segments
pub segments_fit : (s : ℕ) (pages : List ℕ) (parts : List Part) → IsCut s pages parts → AreTyped pages parts → AllFit (segments_on s pages parts)
segments_fit s [] parts cut typed = All-nil (λ descriptors. All Fits descriptors)
segments_fit s (page ∷ []) parts cut typed = fit_one s page [] parts typed (one_alone s page parts cut)
segments_fit s (page ∷ next ∷ pages) parts cut typed = elim (cases_lt s (length parts)) [
  | inl more ↦
      let again : AllFit (segments_on s (next ∷ pages) (drop (s - 1) parts)) = segments_fit s (next ∷ pages) (drop (s - 1) parts) (cut_rest s page (next ∷ pages) parts cut more) (typed_rest s page (next ∷ pages) parts typed) in
      rw (on_more s (page ∷ next ∷ pages) parts next (omega arith) more)
      (All-cons (λ descriptors. All Fits descriptors) (map descriptor_of_part (take (s - 1) parts) ++ link s next (length parts - (s - 1)) ∷ []) (segments_on s (next ∷ pages) (drop (s - 1) parts)) (front_fits s page next pages parts cut.high typed) again)
  | inr few ↦ fit_one s page (next ∷ pages) parts typed few
]

spells_one : (m : Memory) (s page : ℕ) (pages : List ℕ) (parts : List Part) → IsCut s (page ∷ pages) parts → length parts ≤ s →
    AllFit (segments_on s (page ∷ pages) parts) → IsLaid m (page ∷ pages) (segments_on s (page ∷ pages) parts) →
    SpellsBy m (link s page (length parts)) (segments_on s (page ∷ pages) parts) parts
spells_one m s page pages parts cut few fit laid =
    let e : segments_on s (page ∷ pages) parts ≡ map descriptor_of_part parts ∷ [] = on_one s (page ∷ pages) parts (omega arith) few in
    let there = rw e at laid in
    let fits = All-head (λ descriptors. All Fits descriptors) (map descriptor_of_part parts) [] (rw e at fit) in
    rw (link_last s (length parts) page few, e)
    (laid_segment m page (length parts) (map descriptor_of_part parts) fits (length-map parts descriptor_of_part) cut.some there.0, refl)

-- the segments of parts, laid in their pages, spell the parts
spells_from : (m : Memory) (s page : ℕ) (pages : List ℕ) (parts : List Part) → IsCut s (page ∷ pages) parts →
    AllFit (segments_on s (page ∷ pages) parts) → IsLaid m (page ∷ pages) (segments_on s (page ∷ pages) parts) →
    SpellsBy m (link s page (length parts)) (segments_on s (page ∷ pages) parts) parts
spells_from m s page [] parts cut fit laid = spells_one m s page [] parts cut (one_alone s page parts cut) fit laid
spells_from m s page (next ∷ pages) parts cut fit laid = elim (cases_lt s (length parts)) [
  | inl more ↦
      let rest : IsCut s (next ∷ pages) (drop (s - 1) parts) = cut_rest s page (next ∷ pages) parts cut more in
      let front : List Descriptor = map descriptor_of_part (take (s - 1) parts) in
      let last : Descriptor = link s next (length parts - (s - 1)) in
      let e : segments_on s (page ∷ next ∷ pages) parts ≡ (front ++ last ∷ []) ∷ segments_on s (next ∷ pages) (drop (s - 1) parts) = on_more s (page ∷ next ∷ pages) parts next (omega arith) more in
      let there = rw e at laid in
      let all_fit = rw e at fit in
      let fits : All Fits (front ++ last ∷ []) = All-head (λ descriptors. All Fits descriptors) (front ++ last ∷ []) (segments_on s (next ∷ pages) (drop (s - 1) parts)) all_fit in
      let rest_fits : AllFit (segments_on s (next ∷ pages) (drop (s - 1) parts)) = All-tail (λ descriptors. All Fits descriptors) (front ++ last ∷ []) (segments_on s (next ∷ pages) (drop (s - 1) parts)) all_fit in
      let again : SpellsBy m last (segments_on s (next ∷ pages) (drop (s - 1) parts)) (drop (s - 1) parts) =
      subst (λ (k : ℕ). SpellsBy m (link s next k) (segments_on s (next ∷ pages) (drop (s - 1) parts)) (drop (s - 1) parts)) (length-drop (s - 1) parts) (spells_from m s next pages (drop (s - 1) parts) rest rest_fits there.1) in
      rw (link_more s (length parts) page more, e) (
        laid_segment m page s (front ++ last ∷ []) fits (length_linked s parts last cut.low more) (omega (arith, cut.low)) there.0,
        (take (s - 1) parts, last, drop (s - 1) parts, refl, link_is_link s (length parts - (s - 1)) next, sym (take-append-drop (s - 1) parts), again),
      )
  | inr few ↦ spells_one m s page (next ∷ pages) parts cut few fit laid
]

-- at most two descriptors for each part
count_on : (s : ℕ) (pages : List ℕ) (parts : List Part) → IsCut s pages parts → descriptors_in (segments_on s pages parts) ≤ 2 * length parts
count_on s [] parts cut = omega arith
count_on s (page ∷ []) parts cut = rw (on_one s (page ∷ []) parts (omega arith) (one_alone s page parts cut), length-map parts descriptor_of_part) (omega arith)
count_on s (page ∷ next ∷ pages) parts cut = elim (cases_lt s (length parts)) [
  | inl more ↦
      let again : descriptors_in (segments_on s (next ∷ pages) (drop (s - 1) parts)) ≤ 2 * length (drop (s - 1) parts) = count_on s (next ∷ pages) (drop (s - 1) parts) (cut_rest s page (next ∷ pages) parts cut more) in
      let rest : length (drop (s - 1) parts) ≡ length parts - (s - 1) = length-drop (s - 1) parts in
      let low : 2 ≤ s = cut.low in
      rw (on_more s (page ∷ next ∷ pages) parts next (omega arith) more, length_linked s parts (link s next (length parts - (s - 1))) cut.low more) (omega arith)
  | inr few ↦ rw (on_one s (page ∷ next ∷ pages) parts (omega arith) few, length-map parts descriptor_of_part) (omega arith)
]

-- two parts or more, in segments whose fields fit
pub spells_many : (m : Memory) (s page : ℕ) (pages : List ℕ) (parts : List Part) → IsCut s (page ∷ pages) parts → length parts ≤ 1024 →
    AllFit (segments_on s (page ∷ pages) parts) → IsLaid m (page ∷ pages) (segments_on s (page ∷ pages) parts) → Spells m (link s page (length parts)) parts
spells_many m s page pages parts cut most fit laid =
    let few : descriptors_in (segments_on s (page ∷ pages) parts) ≤ 2 * length parts = count_on s (page ∷ pages) parts cut in
    (segments_on s (page ∷ pages) parts, omega arith, spells_from m s page pages parts cut fit laid)

-- one part spells itself
spells_alone : (m : Memory) (part : Part) → Spells m (descriptor_of_part part) (part ∷ [])
spells_alone m (Data addr len) = ([], lit≤ tt, refl)
spells_alone m (Bucket len) = ([], lit≤ tt, refl)

-- no second segment, where there is no page for a first
pub one_part : (s : ℕ) (parts : List Part) → HasPages s [] parts → length parts ≤ 1
one_part s parts has = elim (cases_lt 1 (length parts)) [
  | inl more ↦
      let cut : IsCut s [] parts = cut_of s [] parts has more in
      let one : 1 ≤ 0 = one_page s (length parts) 0 cut.some cut.needed in
      absurd (omega arith)
  | inr one ↦ one
]

pub two_parts : (s page : ℕ) (pages : List ℕ) (parts : List Part) → HasPages s (page ∷ pages) parts → 2 ≤ length parts
two_parts s page pages parts has = elim (cases_lt 1 (length parts)) [
  | inl more ↦ more
  | inr one ↦
      let none : pages_needed (length parts) s ≡ 0 = needed_one (length parts) s one in
      let n : suc (length pages) ≡ pages_needed (length parts) s = has.needed in
      absurd (omega arith)
]

-- any parts, in segments whose fields fit
pub spells_built : (m : Memory) (s : ℕ) (pages : List ℕ) (parts : List Part) → HasPages s pages parts → length parts ≤ 1024 →
    AllFit (segments_on s pages parts) → IsLaid m pages (segments_on s pages parts) → Spells m (first_of s pages parts) parts
spells_built m s (page ∷ pages) parts has most fit laid = spells_many m s page pages parts (cut_of s (page ∷ pages) parts has (two_parts s page pages parts has)) most fit laid
spells_built m s [] [] has most fit laid = absurd (let some : 0 < 0 = has.some in omega arith)
spells_built m s [] (part ∷ []) has most fit laid = spells_alone m part
spells_built m s [] (part ∷ other ∷ parts) has most fit laid = absurd (let one : suc (suc (length parts)) ≤ 1 = one_part s (part ∷ other ∷ parts) has in omega arith)

-- any parts, with page numbers and fields that fit
pub spells : (m : Memory) (s : ℕ) (pages : List ℕ) (parts : List Part) → HasPages s pages parts → AreTyped pages parts → length parts ≤ 1024 →
    IsLaid m pages (segments_on s pages parts) → Spells m (first_of s pages parts) parts
spells m s pages parts has typed most laid = spells_built m s pages parts has most (any_fit s pages parts has typed) laid
  where
    any_fit : (s : ℕ) (pages : List ℕ) (parts : List Part) → HasPages s pages parts → AreTyped pages parts → AllFit (segments_on s pages parts)
    any_fit s [] parts has typed = All-nil (λ descriptors. All Fits descriptors)
    any_fit s (page ∷ pages) parts has typed = segments_fit s (page ∷ pages) parts (cut_of s (page ∷ pages) parts has (two_parts s page pages parts has)) typed

-- Laid segments, by their numbers.

pub laid_each : (m : Memory) (pages : List ℕ) (segments : List (List Descriptor)) → IsLaid m pages segments → (i : ℕ) → i < length segments →
    Holds m (4096 * get_or pages i 0) (segment_bytes (segment_at segments i))
laid_each m pages [] laid i lt = absurd (omega arith)
laid_each m [] (descriptors ∷ segments) laid i lt = absurd laid
laid_each m (page ∷ pages) (descriptors ∷ segments) laid zero lt = laid.0
laid_each m (page ∷ pages) (descriptors ∷ segments) laid (suc i) lt = laid_each m pages segments laid.1 i (omega arith)

pub laid_all : (m : Memory) (pages : List ℕ) (segments : List (List Descriptor)) → length segments ≤ length pages →
    ((i : ℕ) → i < length segments → Holds m (4096 * get_or pages i 0) (segment_bytes (segment_at segments i))) → IsLaid m pages segments
laid_all m [] [] few each = tt
laid_all m (page ∷ pages) [] few each = tt
laid_all m [] (descriptors ∷ segments) few each = absurd (omega arith)
laid_all m (page ∷ pages) (descriptors ∷ segments) few each = (each 0 (omega arith), laid_all m pages segments (omega arith) (λ i lt. each (suc i) (omega arith)))

-- A segment by its number.

pub found_descriptors : (segments : List (List Descriptor)) (i : ℕ) (segment : Linked) → i < length segments → segments_from segment ≡ drop i segments → segment.descriptors ≡ segment_at segments i
found_descriptors [] i segment lt is = absurd (omega arith)
found_descriptors (descriptors ∷ segments) zero segment lt is = cc
found_descriptors (descriptors ∷ segments) (suc i) segment lt is = found_descriptors segments i segment (omega arith) is

pub found_behind : (segments : List (List Descriptor)) (i : ℕ) (segment : Linked) → i < length segments → segments_from segment ≡ drop i segments → segment.behind ≡ drop (i + 1) segments
found_behind [] i segment lt is = absurd (omega arith)
found_behind (descriptors ∷ segments) zero segment lt is = cc
found_behind (descriptors ∷ segments) (suc i) segment lt is =
    found_behind segments i segment (omega arith) is ∙ ap (λ (n : ℕ). drop n (descriptors ∷ segments)) (next i)
  where
    next : (i : ℕ) → suc (i + 1) ≡ suc i + 1
    next i = omega arith
