-- How a walk ends.
use Rattle.std.proofs.Common.{arith, ◌≡◌, ◌<◌, ◌≤◌, ◌⊎◌, inl, inr, ◌+◌, ◌-◌, ◌*◌, ◌%◌, ◌++◌, ◌∷◌, [], ℕ, zero, suc, Bool, true, false, List, Option, Some, None, refl, sym, ap, subst, ◌∙◌, cond, is_some, length, map, min, nat_eq, nat_lt, add-zero, if◌then◌else◌, ◌≢◌, ◌^◌, ◌&&◌, not, replicate, take, append-nil, append_assoc, ◌||◌}
use Rattle.std.proofs.lemmas.{Bool.{true≢false, cases_lt, cases_Bool, Decides.nat_tests}, List.{take_all, take-replicate, length-replicate}}
use Rattle.std.proofs.lemmas.List.{Concat.flat_map-cons, FromFn.{length-map-range_with_len, take-map-range_with_len}}
use Rattle.std.specs.{List.{AllByRecursion, range_with_len, list_all}, Option.option_and_then}
use Rattle.entry_codec.specs.declared.status.{Status.Status, TheConstants.Status.{DATA_SGL_LENGTH_INVALID, DATA_TRANSFER_ERROR}}
use Rattle.page_memory.specs.Memory.{Memory, bytes_at, joined, page_of, pages_reached}
use Rattle.sgl_descriptor.proofs.{Counts.{length-targets, length-targets_of_part, targets-append}, Spells.found}
use Rattle.sgl_descriptor.specs.Spelling.{IsLink, descriptor_of, is_link}
use Rattle.sgl_descriptor.specs.Targets.{descriptor_of_part, Target, Place, Discarded, counted, counted_in, targets, targets_of_part}
use Rattle.sgl_descriptor.specs.declared.{Descriptor.{Descriptor, TheVariants.{DataBlock, BitBucket, Segment, LastSegment}}, Direction.Direction}
use Rattle.sgl_descriptor.specs.declared.{Direction.TheVariants.{Destination, Source}, Part.{Part, TheVariants.{Data, Bucket}}}
use Rattle.sgl_chain.specs.Spells.{SpellsBy, Stand, Spells, descriptors_in}
use Rattle.controller_walk.proofs.{Along.{is_wanted, still_wanted, bucket_front, count_one}, Courses.{pages_step, from_read, part_most, still_wants}}
use Rattle.controller_walk.specs.{Along.{taken, parts_taken, parts_of_list}, Laws.{ReadsWithin, MovesOutside}}
use Rattle.controller_walk.specs.Units.{Stays, Reads, Moves, Course, Closes, Does, after_read, from_place, rest_of, goes_on, unless_fault, first_fault, moving, first_part, pages_spanned, entry_cursor, next, segment_start, course_of_list, named_on, named_last, verdict, verdict_of_list, names_no_segment, passes_end, Act, touched, units}
use Rattle.controller_walk.specs.declared.cursor.{Cursor.Cursor, Named.{Named, TheVariants.{Unnamed, BySegment, ByLastSegment}}}
use Rattle.controller_walk.specs.declared.walk.WalkState.{WalkState, TheVariants.{End, Fault}}
use Rattle.machine_model.specs.Reached.{only, LiesIn, CourseIn, IsThere, on_pages, ActIn, AreApart, KeepsToPages}
use Rattle.two_sides.specs.Lists.{lists_end_well, long_lists_end_well, lists_keep_to_their_pages, short_lists_end}
use Rattle.page_ledger.specs.Owners.{is_among}

-- The walk of a list that spells parts reads where its segments lie, and moves where its parts lie.

-- Bytes at some addresses of a memory

pub only_bytes : (chain : ℕ → Bool) (m : Memory) (n place : ℕ) (bytes : List ℕ) → bytes_at (only chain m) place n ≡ Some bytes → bytes_at m place n ≡ Some bytes
unfolding bytes_at
only_bytes chain m zero place bytes e = e
only_bytes chain m (suc n) place bytes e = grind (arith, only_bytes chain m n (place + 1))

only_places : (chain : ℕ → Bool) (m : Memory) (n place : ℕ) (bytes : List ℕ) → bytes_at (only chain m) place n ≡ Some bytes → (k : ℕ) → k < n → chain (place + k) ≡ true
unfolding bytes_at
only_places chain m zero place bytes e k lt = absurd (omega arith)
only_places chain m (suc n) place bytes e zero lt = rw (add-zero place) (grind arith)
only_places chain m (suc n) place bytes e (suc k) lt =
    let rest = rest_found (if chain place then m place else None) (bytes_at (only chain m) (place + 1) n) e in
    subst (λ (q : ℕ). chain q ≡ true) (omega arith) (only_places chain m n (place + 1) rest.0 rest.1 k (omega arith))
  where
    rest_found : (o : Option ℕ) (r : Option (List ℕ)) → joined o r ≡ Some bytes → (bs : List ℕ) × (r ≡ Some bs)
    rest_found (Some byte) (Some bs) e = (bs, refl)
    rest_found x r e = absurd cc

-- What lies ahead: some descriptors of a segment, which spell parts with the segments after it

abbrev pub Ahead : Memory → Named → List Descriptor → List (List Descriptor) → List Part → Type 0
Ahead m named ds segments parts =
    ((named_on named ≡ false) × (segments ≡ []) × (ds ≡ map descriptor_of_part parts))
    ⊎ ((named_last named ≡ false) × (front : List Part) × (last : Descriptor) × (rest : List Part)
    × (ds ≡ map descriptor_of_part front ++ last ∷ []) × IsLink last × (parts ≡ front ++ rest) × SpellsBy m last segments rest)

-- the first descriptor is a part, with the others ahead
pub record PartFirst (m : Memory) (named : Named) (d : Descriptor) (ds : List Descriptor) (segments : List (List Descriptor)) (parts : List Part) : Type 0 where
  pub part : Part
  pub parts' : List Part
  pub is : d ≡ descriptor_of_part part
  pub all : parts ≡ part ∷ parts'
  pub behind_it : ds ≡ [] → (named_on named ≡ false) × (segments ≡ []) × (parts' ≡ [])
  pub ahead : Ahead m named ds segments parts'

-- or it is the link to the next segment, the last of its own
pub record LinkFirst (m : Memory) (named : Named) (d : Descriptor) (ds : List Descriptor) (segments : List (List Descriptor)) (parts : List Part) : Type 0 where
  pub is_last : ds ≡ []
  pub named_so : named_last named ≡ false
  pub link : IsLink d
  pub by : SpellsBy m d segments parts

pub first_ahead : (m : Memory) (named : Named) (d : Descriptor) (ds : List Descriptor) (segments : List (List Descriptor)) (parts : List Part)
    → Ahead m named (d ∷ ds) segments parts → PartFirst m named d ds segments parts ⊎ LinkFirst m named d ds segments parts
first_ahead m named d ds segments [] (inl e) = absurd (let e = e.2 in cc)
first_ahead m named d ds segments (p ∷ ps) (inl (by, none, e)) =
    let others : d ∷ ds ≡ descriptor_of_part p ∷ map descriptor_of_part ps → map descriptor_of_part ps ≡ ds = λ e. cc in
    inl (record { part = p; parts' = ps; is = cc; all = refl; behind_it = λ z. (by, none, no_parts ps (others e ∙ z)); ahead = inl (by, none, cc) })
  where
    no_parts : (ps : List Part) → map descriptor_of_part ps ≡ [] → ps ≡ []
    no_parts [] e = refl
    no_parts (p ∷ ps) e = absurd (far e)
      where
        far : descriptor_of_part p ∷ map descriptor_of_part ps ≡ [] → ⊥
        far e = cc
first_ahead m named d ds segments parts (inr (by, [], last, rest, e, link, all, spells)) =
    let same : last ≡ d = cc in
    inr (record { is_last = cc; named_so = by; link = subst IsLink same link; by = subst (λ (x : Descriptor). SpellsBy m x segments parts) same (subst (λ (ps : List Part). SpellsBy m last segments ps) (sym all) spells) })
first_ahead m named d ds segments parts (inr (by, f ∷ fs, last, rest, e, link, all, spells)) =
    let others : d ∷ ds ≡ descriptor_of_part f ∷ (map descriptor_of_part fs ++ last ∷ []) → ds ≡ map descriptor_of_part fs ++ last ∷ [] = λ e. cc in
    inl (record { part = f; parts' = fs ++ rest; is = cc; all = all; behind_it = λ z. absurd (some fs (sym (others e) ∙ z)); ahead = inr (by, fs, last, rest, others e, link, refl, spells) })
  where
    some : (fs : List Part) → map descriptor_of_part fs ++ last ∷ [] ≡ [] → ⊥
    some [] e = cc
    some (f ∷ fs) e = cc

-- the parts that a link leads to, starting at the first descriptor of its segment
pub record LinkedTo (m : Memory) (named : Named) (addr len : ℕ) (behind : List (List Descriptor)) (parts : List Part) : Type 0 where
  pub first : Descriptor
  pub others : List Descriptor
  pub segments : List (List Descriptor)
  pub are : behind ≡ (first ∷ others) ∷ segments
  pub whole : len ≡ 16 * length (first ∷ others)
  pub aligned : addr % 8 ≡ 0
  pub stand : Stand m addr (first ∷ others)
  pub ahead : Ahead m named (first ∷ others) segments parts

pub linked_last : (m : Memory) (addr len : ℕ) (segments : List (List Descriptor)) (parts : List Part) → SpellsBy m (LastSegment addr len) segments parts → LinkedTo m ByLastSegment addr len segments parts
linked_last m addr len ([] ∷ []) parts by = absurd (omega (arith, by.0.1, by.0.2))
linked_last m addr len ((d ∷ ds) ∷ []) parts by =
    record { first = d; others = ds; segments = []; are = refl; whole = by.0.2; aligned = by.0.0; stand = by.0.3; ahead = inl (refl, refl, by.1) }
linked_last m addr len x parts by = absurd by

pub linked_on : (m : Memory) (addr len : ℕ) (segments : List (List Descriptor)) (parts : List Part) → SpellsBy m (Segment addr len) segments parts → LinkedTo m BySegment addr len segments parts
linked_on m addr len [] parts by = absurd by
linked_on m addr len ([] ∷ xs) parts by = absurd (omega (arith, by.0.1, by.0.2))
linked_on m addr len ((d ∷ ds) ∷ xs) parts (segment, (front, last, rest, is, link, all, spells)) =
    record { first = d; others = ds; segments = xs; are = refl; whole = segment.2; aligned = segment.0; stand = segment.3; ahead = inr (refl, front, last, rest, is, link, all, spells) }

-- Where a walk is in such a list

moves_in : (chain own : ℕ → Bool) (m : Memory) (rest : Course) → CourseIn chain own rest → (n place len offset : ℕ) → n ≡ pages_spanned place len
    → ((k : ℕ) → k < len → own (place + k) ≡ true) → CourseIn chain own (moving m n place len offset rest)
unfolding moving
moves_in chain own m rest h zero place len offset pages lies = h
moves_in chain own m rest h (suc n) place len offset pages lies =
    let less : n ≡ pages_spanned (place + first_part place len) (len - first_part place len) = omega (arith, pages, pages_step place len (some place len n pages)) in
    both (is_some (bytes_at m place (first_part place len))) _
    (moves_in chain own m rest h n (place + first_part place len) (len - first_part place len) (offset + first_part place len) less
    (λ k lt. subst (λ (q : ℕ). own q ≡ true) (omega arith) (lies (first_part place len + k) (omega arith))))
  where
    some : (place len n : ℕ) → suc n ≡ pages_spanned place len → 0 < len
    some place len n e = grind (arith, nat_tests)

    part : (place len : ℕ) → 0 < len → (0 < first_part place len) × (first_part place len ≤ len) × (place % 4096 + first_part place len ≤ 4096)
    part place len some = grind (arith, nat_tests)

    both : (b : Bool) (c : Course) → CourseIn chain own c → CourseIn chain own (cond b (Does (Moves place (first_part place len) offset) c) (Does Stays (Closes (Fault DATA_TRANSFER_ERROR))))
    both true c h = let p = part place len (some place len n pages) in ((p.0, p.2, λ k lt. lies k (omega (arith, p.1))), h)
    both false c h = (tt, tt)

abbrev FromIn : (chain own : ℕ → Bool) → Memory → Direction → ℕ → ℕ → Type 0
FromIn chain own m dir need k =
    (c : Cursor) (wanted : ℕ) (d : Descriptor) (ds : List Descriptor) (segments : List (List Descriptor)) (parts : List Part)
    → c.left ≡ length (d ∷ ds) → Stand (only chain m) c.place (d ∷ ds) → Ahead (only chain m) c.named (d ∷ ds) segments parts → AllByRecursion (LiesIn own) parts
    → CourseIn chain own (from_place k m dir need c wanted)

-- a descriptor is next, if bytes are still wanted
wanted_in : (chain own : ℕ → Bool) (m : Memory) (dir : Direction) (need k : ℕ) (c : Cursor) (wanted : ℕ) → CourseIn chain own (from_place k m dir need c wanted) → CourseIn chain own (rest_of k m dir need (Some c) wanted)
wanted_in chain own m dir need k c wanted h = either (nat_eq wanted 0)
  where
    either : (b : Bool) → CourseIn chain own (cond b (Closes End) (from_place k m dir need c wanted))
    either true = tt
    either false = h

-- after a part: the next descriptor of its segment, or the end
next_in : (chain own : ℕ → Bool) (m : Memory) (dir : Direction) (need k : ℕ) → FromIn chain own m dir need k
    → (c : Cursor) (wanted : ℕ) (d : Descriptor) (ds : List Descriptor) (segments : List (List Descriptor)) (parts : List Part)
    → c.left ≡ length (d ∷ ds) → Stand (only chain m) (c.place + 16) ds → Ahead (only chain m) c.named ds segments parts → AllByRecursion (LiesIn own) parts
    → CourseIn chain own (rest_of k m dir need (next c) wanted)
next_in chain own m dir need k from c wanted d [] segments parts left stand ahead lie =
    subst (λ (n : ℕ). CourseIn chain own (rest_of k m dir need (if nat_lt 1 n then Some (record { place = c.place + 16; left = c.left - 1; named = c.named }) else None) wanted)) (sym left) tt
next_in chain own m dir need k from c wanted d (e ∷ es) segments parts left stand ahead lie =
    let more : (n l : ℕ) → n ≡ suc (suc l) → nat_lt 1 n ≡ true = λ n l e. grind (arith, nat_tests) in
    subst (λ (b : Bool). CourseIn chain own (rest_of k m dir need (if b then Some (record { place = c.place + 16; left = c.left - 1; named = c.named }) else None) wanted)) (sym (more c.left (length es) left))
    (wanted_in chain own m dir need k (record { place = c.place + 16; left = c.left - 1; named = c.named }) wanted
    (from (record { place = c.place + 16; left = c.left - 1; named = c.named }) wanted e es segments parts (omega (arith, left)) stand ahead lie))

unless_in : (chain own : ℕ → Bool) (f : Option Status) (c : Course) → CourseIn chain own c → CourseIn chain own (unless_fault f c)
unless_in chain own (Some status) c h = tt
unless_in chain own None c h = h

-- what follows a part
part_in : (chain own : ℕ → Bool) (m : Memory) (dir : Direction) (need k : ℕ) (c : Cursor) (wanted : ℕ) (part : Part) → LiesIn own part
    → ((w : ℕ) → CourseIn chain own (rest_of k m dir need (next c) w))
    → CourseIn chain own (goes_on m dir need c wanted (rest_of k m dir need) (descriptor_of_part part))
part_in chain own m dir need k c wanted (Data addr len) lies later =
    moves_in chain own m _ (later (wanted - len)) (pages_spanned addr (min len wanted)) addr (min len wanted) (need - wanted) refl (λ i lt. lies i (omega arith))
part_in chain own m dir need k c wanted (Bucket len) lies later = later _

start_in : (chain own : ℕ → Bool) (m : Memory) (dir : Direction) (need k : ℕ) → FromIn chain own m dir need k → (named : Named) (addr len wanted : ℕ) (segments : List (List Descriptor)) (parts : List Part)
    → LinkedTo (only chain m) named addr len segments parts → AllByRecursion (LiesIn own) parts → CourseIn chain own (rest_of k m dir need (Some (segment_start named addr len)) wanted)
start_in chain own m dir need k from named addr len wanted segments parts to lie =
    wanted_in chain own m dir need k (segment_start named addr len) wanted (from (segment_start named addr len) wanted to.first to.others to.segments parts (omega (arith, to.whole)) to.stand to.ahead lie)

-- what follows a link
link_in : (chain own : ℕ → Bool) (m : Memory) (dir : Direction) (need k : ℕ) → FromIn chain own m dir need k → (c : Cursor) (wanted : ℕ) (d : Descriptor) (segments : List (List Descriptor)) (parts : List Part)
    → IsLink d → SpellsBy (only chain m) d segments parts → AllByRecursion (LiesIn own) parts → CourseIn chain own (goes_on m dir need c wanted (rest_of k m dir need) d)
link_in chain own m dir need k from c wanted (Segment addr len) segments parts link by lie = start_in chain own m dir need k from BySegment addr len wanted segments parts (linked_on (only chain m) addr len segments parts by) lie
link_in chain own m dir need k from c wanted (LastSegment addr len) segments parts link by lie = start_in chain own m dir need k from ByLastSegment addr len wanted segments parts (linked_last (only chain m) addr len segments parts by) lie
link_in chain own m dir need k from c wanted x segments parts link by lie = absurd (true≢false (sym link))

read_in : (chain own : ℕ → Bool) (m : Memory) (dir : Direction) (need k : ℕ) → FromIn chain own m dir need k → (c : Cursor) (wanted : ℕ) (d : Descriptor) (ds : List Descriptor) (segments : List (List Descriptor)) (parts : List Part)
    → c.left ≡ length (d ∷ ds) → Stand (only chain m) (c.place + 16) ds → Ahead (only chain m) c.named (d ∷ ds) segments parts → AllByRecursion (LiesIn own) parts
    → CourseIn chain own (after_read m dir need c wanted (rest_of k m dir need) (Some d))
read_in chain own m dir need k from c wanted d ds segments parts left stand ahead lie = unless_in chain own (first_fault c d) _ (by_first (first_ahead (only chain m) c.named d ds segments parts ahead))
  where
    by_first : PartFirst (only chain m) c.named d ds segments parts ⊎ LinkFirst (only chain m) c.named d ds segments parts → CourseIn chain own (goes_on m dir need c wanted (rest_of k m dir need) d)
    by_first (inl p) =
        let lie' : AllByRecursion (LiesIn own) (p.part ∷ p.parts') = subst (AllByRecursion (LiesIn own)) p.all lie in
        subst (λ (x : Descriptor). CourseIn chain own (goes_on m dir need c wanted (rest_of k m dir need) x)) (sym p.is)
        (part_in chain own m dir need k c wanted p.part lie'.0 (λ w. next_in chain own m dir need k from c w d ds segments p.parts' left stand p.ahead lie'.1))
    by_first (inr l) = link_in chain own m dir need k from c wanted d segments parts l.link l.by lie

from_in : (chain own : ℕ → Bool) (m : Memory) (dir : Direction) (need k : ℕ) → FromIn chain own m dir need k
unfolding from_place
from_in chain own m dir need zero c wanted d ds segments parts left stand ahead lie = (tt, tt)
from_in chain own m dir need (suc k) c wanted d ds segments parts left ((bytes, there, is), stand) ahead lie =
    let sub_suc : (k : ℕ) → suc k - 1 ≡ k = λ k. omega arith in
    subst (CourseIn chain own) (sym (from_read (suc k) m dir need c wanted bytes (omega arith) (only_bytes chain m 16 c.place bytes there)))
    (subst (λ (n : ℕ). CourseIn chain own (Does (Reads c.place) (after_read m dir need c wanted (rest_of n m dir need) (descriptor_of bytes)))) (sym (sub_suc k))
    (subst (λ (o : Option Descriptor). CourseIn chain own (Does (Reads c.place) (after_read m dir need c wanted (rest_of k m dir need) o))) (sym (found bytes d is))
    (only_places chain m 16 c.place bytes there, read_in chain own m dir need k (from_in chain own m dir need k) c wanted d ds segments parts left stand ahead lie)))

-- a list's first descriptor is in a segment of one
pub spells_ahead : (m : Memory) (d : Descriptor) (segments : List (List Descriptor)) (parts : List Part) → SpellsBy m d segments parts → Ahead m Unnamed (d ∷ []) segments parts
spells_ahead m (DataBlock addr len) (x ∷ xs) parts by = absurd by
spells_ahead m (BitBucket len) (x ∷ xs) parts by = absurd by
spells_ahead m (Segment addr len) segments parts by = inr (refl, [], Segment addr len, parts, refl, refl, refl, by)
spells_ahead m (LastSegment addr len) segments parts by = inr (refl, [], LastSegment addr len, parts, refl, refl, refl, by)
spells_ahead m x segments parts by = inl (refl, refl, ap (map descriptor_of_part) (sym by))

pub list_in : (chain own : ℕ → Bool) (m : Memory) (sgl1 : List ℕ) (first : Descriptor) (parts : List Part) (dir : Direction) (need : ℕ)
    → descriptor_of sgl1 ≡ Some first → Spells (only chain m) first parts → AllByRecursion (LiesIn own) parts → CourseIn chain own (course_of_list m sgl1 dir need)
list_in chain own m sgl1 first parts dir need spelled (segments, few, by) lie = (
  tt,
  subst (λ (o : Option Descriptor). CourseIn chain own (after_read m dir need entry_cursor need (rest_of 4095 m dir need) o)) (sym spelled)
      (read_in chain own m dir need 4095 (from_in chain own m dir need 4095) entry_cursor need first [] segments parts refl tt (spells_ahead (only chain m) first segments parts by) lie),
)

-- The walk of a list that spells parts which are there ends without a fault where they count what is moved or more, and otherwise for lack of a byte.

-- Bytes that are there

pub bytes_there : (m : Memory) (n place : ℕ) → ((k : ℕ) → k < n → is_some (m (place + k)) ≡ true) → is_some (bytes_at m place n) ≡ true
unfolding bytes_at
bytes_there m zero place there = refl
bytes_there m (suc n) place there =
    let joined_is_there : (a : Option ℕ) (b : Option (List ℕ)) → is_some a ≡ true → is_some b ≡ true → is_some (joined a b) ≡ true = λ a b e f. grind arith in
    joined_is_there (m place) (bytes_at m (place + 1) n) (subst (λ (q : ℕ). is_some (m q) ≡ true) (add-zero place) (there 0 (omega arith)))
    (bytes_there m n (place + 1) (λ k lt. subst (λ (q : ℕ). is_some (m q) ≡ true) (omega arith) (there (suc k) (omega arith))))

last_there : (m : Memory) (n place : ℕ) (bytes : List ℕ) → bytes_at m place (suc n) ≡ Some bytes → is_some (m (place + n)) ≡ true
unfolding bytes_at
last_there m zero place bytes e = rw (add-zero place) (grind arith)
last_there m (suc n) place bytes e =
    let rest = rest_found (m place) (bytes_at m (place + 1) (suc n)) e in
    subst (λ (q : ℕ). is_some (m q) ≡ true) (omega arith) (last_there m n (place + 1) rest.0 rest.1)
  where
    rest_found : (a : Option ℕ) (b : Option (List ℕ)) → joined a b ≡ Some bytes → (bs : List ℕ) × (b ≡ Some bs)
    rest_found (Some x) (Some xs) e = (xs, refl)
    rest_found x b e = absurd cc

-- where descriptors stand, their last byte does
end_of_stand : (m : Memory) (place : ℕ) (d : Descriptor) (ds : List Descriptor) → Stand m place (d ∷ ds) → is_some (m (place + 16 * length ds + 15)) ≡ true
end_of_stand m place d [] ((bytes, there, is), stand) = subst (λ (q : ℕ). is_some (m q) ≡ true) (omega arith) (last_there m 15 place bytes there)
end_of_stand m place d (e ∷ es) (first, stand) = subst (λ (q : ℕ). is_some (m q) ≡ true) (omega arith) (end_of_stand m (place + 16) e es stand)

-- The table of faults, where none applies

no_fault : (c : Cursor) (d : Descriptor)
    → (is_link d && named_last c.named) ≡ false → (is_link d && nat_lt 1 c.left) ≡ false → (is_link d && names_no_segment d) ≡ false
    → (not (is_link d) && named_on c.named && nat_eq c.left 1) ≡ false → passes_end d ≡ false → first_fault c d ≡ None
no_fault c d a b e f h = rw (a, b, e, f, h) refl

not_less : (a b : ℕ) → b ≤ a → nat_lt a b ≡ false
not_less a b h = grind (arith, nat_tests)

fourth_row : (named : Named) (left : ℕ) → (left ≡ 1 → named_on named ≡ false) → (named_on named && nat_eq left 1) ≡ false
fourth_row named left h = grind arith

part_fits : (m : Memory) (part : Part) → IsThere m part → passes_end (descriptor_of_part part) ≡ false
part_fits m part there = grind arith

no_link : (part : Part) → is_link (descriptor_of_part part) ≡ false
no_link part = grind arith

-- the fault of a link that names a whole segment, from the last position of one that no Last Segment descriptor names
names_one : (addr len l : ℕ) → addr % 8 ≡ 0 → len ≡ 16 * suc l → names_no_segment (Segment addr len) ≡ false
names_one addr len l aligned whole = grind (arith, nat_tests)

no_fault_of_link : (c : Cursor) (addr len l : ℕ) → named_last c.named ≡ false → c.left ≡ 1 → addr % 8 ≡ 0 → len ≡ 16 * suc l → addr + len ≤ 2 ^ 64
    → (first_fault c (Segment addr len) ≡ None) × (first_fault c (LastSegment addr len) ≡ None)
no_fault_of_link c addr len l named left aligned whole ends = (
  no_fault c (Segment addr len) named (not_less 1 c.left (omega (arith, left))) (names_one addr len l aligned whole) refl (not_less (2 ^ 64) (addr + len) ends),
  no_fault c (LastSegment addr len) named (not_less 1 c.left (omega (arith, left))) (names_one addr len l aligned whole) refl (not_less (2 ^ 64) (addr + len) ends),
)

-- A prefix of a part has the first of its targets

abbrev front_of : ℕ → Part → Part
front_of wanted (Data addr len) = Data addr (min len wanted)
front_of wanted (Bucket len) = Bucket (min len wanted)

range_front : (addr len wanted : ℕ) → map (λ place. Place place) (range_with_len addr (min len wanted)) ≡ take wanted (map (λ place. Place place) (range_with_len addr len))
range_front addr len wanted =
    let shorter : wanted < len → min len wanted ≡ wanted = λ less. omega arith in
    elim (cases_lt wanted len) [
      | inl less ↦ ap (λ (n : ℕ). map (λ place. Place place) (range_with_len addr n)) (shorter less) ∙ sym (take-map-range_with_len (λ place. Place place) addr len wanted (omega arith))
      | inr most ↦ ap (λ (n : ℕ). map (λ place. Place place) (range_with_len addr n)) (omega arith)
          ∙ sym (take_all wanted (map (λ place. Place place) (range_with_len addr len)) (omega (arith, length-map-range_with_len (λ place. Place place) addr len)))
    ]

discarded_front : (len wanted : ℕ) → replicate (min len wanted) Discarded ≡ take wanted (replicate len Discarded)
discarded_front len wanted =
    let whole : len ≤ wanted → min len wanted ≡ len = λ most. omega arith in
    elim (cases_lt wanted len) [
      | inl less ↦ ap (λ (n : ℕ). replicate n Discarded) (let shorter : min len wanted ≡ wanted = omega arith in shorter) ∙ sym (take-replicate wanted len Discarded (omega arith))
      | inr most ↦ ap (λ (n : ℕ). replicate n Discarded) (whole most) ∙ sym (take_all wanted (replicate len Discarded) (omega (arith, length-replicate len Discarded)))
    ]

front_targets : (dir : Direction) (wanted : ℕ) (part : Part) → targets_of_part dir (front_of wanted part) ≡ take wanted (targets_of_part dir part)
front_targets dir wanted (Data addr len) = range_front addr len wanted
front_targets Destination wanted (Bucket len) = discarded_front len wanted
front_targets Source wanted (Bucket len) = sym (take_all wanted [] (omega arith))

take_front : (n k : ℕ) (xs ys : List Target) → k ≡ n - length xs → take n (xs ++ ys) ≡ take n xs ++ take k ys
take_front (suc n) k [] ys e = let all : k ≡ suc n = omega (arith, e) in rw all refl
take_front (suc n) k (x ∷ xs) ys e = ap (λ (ts : List Target). x ∷ ts) (take_front n k xs ys (omega (arith, e)))
take_front x k y ys e = let none : k ≡ 0 = omega (arith, e) in rw none refl

fronts_join : (dir : Direction) (before : List Part) (wanted : ℕ) (part : Part) (parts : List Part)
    → targets dir (before ++ front_of wanted part ∷ []) ++ take (wanted - counted dir (descriptor_of_part part)) (targets dir parts) ≡ targets dir before ++ take wanted (targets dir (part ∷ parts))
fronts_join dir before wanted part parts =
    ap (λ (ts : List Target). ts ++ take (wanted - counted dir (descriptor_of_part part)) (targets dir parts)) (targets-append dir before (front_of wanted part ∷ []))
    ∙ append_assoc (targets dir before) (targets dir (front_of wanted part ∷ [])) (take (wanted - counted dir (descriptor_of_part part)) (targets dir parts))
    ∙ ap (λ (ts : List Target). targets dir before ++ ts) (ap (λ (ts : List Target). ts ++ take (wanted - counted dir (descriptor_of_part part)) (targets dir parts))
    (flat_map-cons (targets_of_part dir) (front_of wanted part) [] ∙ append-nil (targets_of_part dir (front_of wanted part)) ∙ front_targets dir wanted part)
    ∙ sym (take_front wanted (wanted - counted dir (descriptor_of_part part)) (targets_of_part dir part) (targets dir parts) (ap (λ (n : ℕ). wanted - n) (sym (length-targets_of_part dir part))))
    ∙ ap (take wanted) (sym (flat_map-cons (targets_of_part dir) part parts)))

-- Courses that end

-- how a course ends that wants some bytes of parts, by how many they count
abbrev end_of : ℕ → ℕ → WalkState
end_of wanted count = if nat_lt count wanted then Fault DATA_SGL_LENGTH_INVALID else End

enough_ends : (wanted count : ℕ) → wanted ≤ count → end_of wanted count ≡ End
enough_ends wanted count enough = ap (λ (b : Bool). if b then Fault DATA_SGL_LENGTH_INVALID else End) (not_less count wanted enough)

short_ends : (wanted count : ℕ) → count < wanted → end_of wanted count ≡ Fault DATA_SGL_LENGTH_INVALID
short_ends wanted count short =
    let less : nat_lt count wanted ≡ true = grind (arith, nat_tests) in
    ap (λ (b : Bool). if b then Fault DATA_SGL_LENGTH_INVALID else End) less

-- once a part is taken, that much less is wanted
end_behind : (wanted count behind : ℕ) → end_of (wanted - count) behind ≡ end_of wanted (count + behind)
end_behind wanted count behind = elim (cases_lt (count + behind) wanted) [
  | inl short ↦ short_ends (wanted - count) behind (omega (arith, short)) ∙ sym (short_ends wanted (count + behind) short)
  | inr enough ↦ enough_ends (wanted - count) behind (omega (arith, enough)) ∙ sym (enough_ends wanted (count + behind) enough)
]

-- The course ends so, and what it takes after other parts has the wanted prefix of the targets of these.
record EndsWith (m : Memory) (dir : Direction) (need wanted : ℕ) (parts : List Part) (c : Course) : Type 0 where
  ends : verdict c ≡ end_of wanted (counted_in dir parts)
  takes : (before : List Part) → counted_in dir before + wanted ≡ need → targets dir (parts_taken m dir need before c) ≡ targets dir before ++ take wanted (targets dir parts)

moves_on : (m : Memory) (dir : Direction) (need wanted : ℕ) (parts : List Part) (rest : Course) → EndsWith m dir need wanted parts rest → (n place len offset : ℕ) → n ≡ pages_spanned place len
    → ((k : ℕ) → k < len → is_some (m (place + k)) ≡ true) → EndsWith m dir need wanted parts (moving m n place len offset rest)
unfolding moving
moves_on m dir need wanted parts rest h zero place len offset pages there = h
moves_on m dir need wanted parts rest h (suc n) place len offset pages there =
    let less : n ≡ pages_spanned (place + first_part place len) (len - first_part place len) = omega (arith, pages, pages_step place len (grind (arith, nat_tests))) in
    subst (λ (b : Bool). EndsWith m dir need wanted parts (cond b (Does (Moves place (first_part place len) offset) (moving m n (place + first_part place len) (len - first_part place len) (offset + first_part place len) rest)) (Does Stays (Closes (Fault DATA_TRANSFER_ERROR)))))
    (sym (bytes_there m (first_part place len) place (λ k lt. there k (omega (arith, (part_most place len).0)))))
    (moved (moves_on m dir need wanted parts rest h n (place + first_part place len) (len - first_part place len) (offset + first_part place len) less
    (λ k lt. subst (λ (q : ℕ). is_some (m q) ≡ true) (omega arith) (there (first_part place len + k) (omega arith)))))
  where
    moved : {c : Course} → EndsWith m dir need wanted parts c → EndsWith m dir need wanted parts (Does (Moves place (first_part place len) offset) c)
    moved h = record { ends = h.ends; takes = h.takes }

-- where no byte is wanted any more, the course is over
over_ends : (m : Memory) (dir : Direction) (need k : ℕ) (after : Option Cursor) (wanted : ℕ) (parts : List Part) → wanted ≡ 0 → EndsWith m dir need wanted parts (rest_of k m dir need after wanted)
over_ends m dir need k None wanted parts none = rw none (record { ends = sym (enough_ends 0 (counted_in dir parts) (omega arith)); takes = λ before sum. sym (append-nil (targets dir before)) })
over_ends m dir need k (Some c) wanted parts none = rw none (record { ends = sym (enough_ends 0 (counted_in dir parts) (omega arith)); takes = λ before sum. sym (append-nil (targets dir before)) })

-- where no descriptor is left, it is over too
nothing_left : (m : Memory) (dir : Direction) (need k wanted : ℕ) (parts : List Part) → parts ≡ [] → EndsWith m dir need wanted parts (rest_of k m dir need None wanted)
nothing_left m dir need k zero parts none = over_ends m dir need k None zero parts refl
nothing_left m dir need k (suc n) parts none =
    rw (none, still_wants (suc n) (λ z. omega (arith, z))) (record { ends = sym (short_ends (suc n) 0 (omega arith)); takes = λ before sum. sym (append-nil (targets dir before)) })

-- else the descriptor is next
wanted_ends : (m : Memory) (dir : Direction) (need k : ℕ) (c : Cursor) (wanted : ℕ) (parts : List Part) → 0 < wanted → EndsWith m dir need wanted parts (from_place k m dir need c wanted)
    → EndsWith m dir need wanted parts (rest_of k m dir need (Some c) wanted)
wanted_ends m dir need k c wanted parts some h =
    subst (λ (b : Bool). EndsWith m dir need wanted parts (cond b (Closes End) (from_place k m dir need c wanted))) (sym (still_wants wanted (λ none. omega (arith, some, none)))) h

abbrev FromEnds : Memory → Direction → ℕ → ℕ → Type 0
FromEnds m dir need k =
    (c : Cursor) (wanted : ℕ) (d : Descriptor) (ds : List Descriptor) (segments : List (List Descriptor)) (parts : List Part)
    → c.left ≡ length (d ∷ ds) → Stand m c.place (d ∷ ds) → Ahead m c.named (d ∷ ds) segments parts → length (d ∷ ds) + descriptors_in segments ≤ k
    → AllByRecursion (IsThere m) parts → EndsWith m dir need wanted parts (from_place k m dir need c wanted)

next_ends : (m : Memory) (dir : Direction) (need k : ℕ) → FromEnds m dir need k
    → (c : Cursor) (wanted : ℕ) (d : Descriptor) (ds : List Descriptor) (segments : List (List Descriptor)) (parts : List Part)
    → c.left ≡ length (d ∷ ds) → Stand m (c.place + 16) ds → Ahead m c.named ds segments parts → (ds ≡ [] → parts ≡ []) → length ds + descriptors_in segments ≤ k
    → AllByRecursion (IsThere m) parts → EndsWith m dir need wanted parts (rest_of k m dir need (next c) wanted)
next_ends m dir need k from c wanted d [] segments parts left stand ahead none few there =
    subst (λ (n : ℕ). EndsWith m dir need wanted parts (rest_of k m dir need (if nat_lt 1 n then Some (record { place = c.place + 16; left = c.left - 1; named = c.named }) else None) wanted)) (sym left)
    (nothing_left m dir need k wanted parts (none refl))
next_ends m dir need k from c wanted d (e ∷ es) segments parts left stand ahead none few there =
    let more : (n l : ℕ) → n ≡ suc (suc l) → nat_lt 1 n ≡ true = λ n l e. grind (arith, nat_tests) in
    elim (cases_Bool (nat_eq wanted 0)) [
      | inl z ↦ over_ends m dir need k (next c) wanted parts ((is_wanted wanted).0 z)
      | inr z ↦
          subst (λ (b : Bool). EndsWith m dir need wanted parts (rest_of k m dir need (if b then Some (record { place = c.place + 16; left = c.left - 1; named = c.named }) else None) wanted)) (sym (more c.left (length es) left))
          (wanted_ends m dir need k (record { place = c.place + 16; left = c.left - 1; named = c.named }) wanted parts ((is_wanted wanted).1 z)
          (from (record { place = c.place + 16; left = c.left - 1; named = c.named }) wanted e es segments parts (omega (arith, left)) stand ahead few there))
    ]

-- a part's course, its descriptor taken already
abbrev EndsBehind : Memory → Direction → ℕ → ℕ → Descriptor → List Part → Course → Type 0
EndsBehind m dir need wanted d parts c =
    (verdict c ≡ end_of wanted (counted_in dir parts))
    × ((before : List Part) → counted_in dir before + wanted ≡ need → targets dir (parts_taken m dir need (taken dir need before (Some d)) c) ≡ targets dir before ++ take wanted (targets dir parts))

part_ends : (m : Memory) (dir : Direction) (need k : ℕ) (c : Cursor) (wanted : ℕ) (part : Part) (parts : List Part) → IsThere m part
    → EndsWith m dir need (wanted - counted dir (descriptor_of_part part)) parts (rest_of k m dir need (next c) (wanted - counted dir (descriptor_of_part part)))
    → EndsBehind m dir need wanted (descriptor_of_part part) (part ∷ parts) (goes_on m dir need c wanted (rest_of k m dir need) (descriptor_of_part part))
part_ends m dir need k c wanted (Data addr len) parts there h =
    let on = moves_on m dir need (wanted - len) parts _ h (pages_spanned addr (min len wanted)) addr (min len wanted) (need - wanted) refl (λ i lt. there.1 i (omega arith)) in (
      on.ends ∙ end_behind wanted len (counted_in dir parts),
      λ before sum.
          subst
          (λ (w : ℕ). targets dir (parts_taken m dir need (before ++ Data addr (min len w) ∷ []) (goes_on m dir need c wanted (rest_of k m dir need) (DataBlock addr len))) ≡ targets dir before ++ take wanted (targets dir (Data addr len ∷ parts)))
          (sym (still_wanted dir before wanted need sum))
          (on.takes (before ++ Data addr (min len wanted) ∷ []) (count_one dir before (Data addr (min len wanted)) len wanted need (omega arith) sum) ∙ fronts_join dir before wanted (Data addr len) parts),
    )
part_ends m dir need k c wanted (Bucket len) parts there h = (
  h.ends ∙ end_behind wanted (counted dir (BitBucket len)) (counted_in dir parts),
  λ before sum.
      subst
      (λ (w : ℕ). targets dir (parts_taken m dir need (before ++ Bucket (min len w) ∷ []) (goes_on m dir need c wanted (rest_of k m dir need) (BitBucket len))) ≡ targets dir before ++ take wanted (targets dir (Bucket len ∷ parts)))
      (sym (still_wanted dir before wanted need sum))
      (h.takes (before ++ Bucket (min len wanted) ∷ []) (count_one dir before (Bucket (min len wanted)) (counted dir (BitBucket len)) wanted need (bucket_front dir len wanted) sum) ∙ fronts_join dir before wanted (Bucket len) parts),
)

below_end : (m : Memory) → ((place : ℕ) → is_some (m place) ≡ true → place < 2 ^ 64) → (addr len : ℕ) (d : Descriptor) (ds : List Descriptor) → len ≡ 16 * length (d ∷ ds) → Stand m addr (d ∷ ds) → addr + len ≤ 2 ^ 64
below_end m low addr len d ds whole stand = let last = low (addr + 16 * length ds + 15) (end_of_stand m addr d ds stand) in omega (arith, whole, last)

start_ends : (m : Memory) (dir : Direction) (need k : ℕ) → FromEnds m dir need k → (named : Named) (addr len wanted : ℕ) (segments : List (List Descriptor)) (parts : List Part)
    → LinkedTo m named addr len segments parts → descriptors_in segments ≤ k → AllByRecursion (IsThere m) parts
    → EndsWith m dir need wanted parts (rest_of k m dir need (Some (segment_start named addr len)) wanted)
start_ends m dir need k from named addr len wanted segments parts to few there =
    elim (cases_Bool (nat_eq wanted 0)) [
      | inl z ↦ over_ends m dir need k (Some (segment_start named addr len)) wanted parts ((is_wanted wanted).0 z)
      | inr z ↦
          wanted_ends m dir need k (segment_start named addr len) wanted parts ((is_wanted wanted).1 z)
          (from (segment_start named addr len) wanted to.first to.others to.segments parts (omega (arith, to.whole)) to.stand to.ahead
          (subst (λ (xs : List (List Descriptor)). descriptors_in xs ≤ k) to.are few) there)
    ]

unless_ends : (m : Memory) (dir : Direction) (need wanted : ℕ) (d : Descriptor) (parts : List Part) (f : Option Status) (c : Course) → f ≡ None → EndsBehind m dir need wanted d parts c → EndsBehind m dir need wanted d parts (unless_fault f c)
unless_ends m dir need wanted d parts f c none h = rw none h

link_ends : (m : Memory) (dir : Direction) (need k : ℕ) → ((place : ℕ) → is_some (m place) ≡ true → place < 2 ^ 64) → FromEnds m dir need k
    → (c : Cursor) (wanted : ℕ) (d : Descriptor) (segments : List (List Descriptor)) (parts : List Part)
    → IsLink d → named_last c.named ≡ false → c.left ≡ 1 → SpellsBy m d segments parts → descriptors_in segments ≤ k → AllByRecursion (IsThere m) parts
    → EndsBehind m dir need wanted d parts (unless_fault (first_fault c d) (goes_on m dir need c wanted (rest_of k m dir need) d))
link_ends m dir need k low from c wanted (DataBlock addr len) segments parts link named left by few there = absurd (true≢false (sym link))
link_ends m dir need k low from c wanted (BitBucket len) segments parts link named left by few there = absurd (true≢false (sym link))
link_ends m dir need k low from c wanted (Segment addr len) segments parts link named left by few there =
    let to = linked_on m addr len segments parts by in
    let ends = start_ends m dir need k from BySegment addr len wanted segments parts to few there in
    unless_ends m dir need wanted (Segment addr len) parts (first_fault c (Segment addr len)) (rest_of k m dir need (Some (segment_start BySegment addr len)) wanted)
    (no_fault_of_link c addr len (length to.others) named left to.aligned to.whole (below_end m low addr len to.first to.others to.whole to.stand)).0
    (ends.ends, ends.takes)
link_ends m dir need k low from c wanted (LastSegment addr len) segments parts link named left by few there =
    let to = linked_last m addr len segments parts by in
    let ends = start_ends m dir need k from ByLastSegment addr len wanted segments parts to few there in
    unless_ends m dir need wanted (LastSegment addr len) parts (first_fault c (LastSegment addr len)) (rest_of k m dir need (Some (segment_start ByLastSegment addr len)) wanted)
    (no_fault_of_link c addr len (length to.others) named left to.aligned to.whole (below_end m low addr len to.first to.others to.whole to.stand)).1
    (ends.ends, ends.takes)

read_ends : (m : Memory) (dir : Direction) (need k : ℕ) → ((place : ℕ) → is_some (m place) ≡ true → place < 2 ^ 64) → FromEnds m dir need k
    → (c : Cursor) (wanted : ℕ) (d : Descriptor) (ds : List Descriptor) (segments : List (List Descriptor)) (parts : List Part)
    → c.left ≡ length (d ∷ ds) → Stand m (c.place + 16) ds → Ahead m c.named (d ∷ ds) segments parts → length ds + descriptors_in segments ≤ k
    → AllByRecursion (IsThere m) parts
    → EndsBehind m dir need wanted d parts (after_read m dir need c wanted (rest_of k m dir need) (Some d))
read_ends m dir need k low from c wanted d ds segments parts left stand ahead few there = by_first (first_ahead m c.named d ds segments parts ahead)
  where
    by_first : PartFirst m c.named d ds segments parts ⊎ LinkFirst m c.named d ds segments parts → EndsBehind m dir need wanted d parts (after_read m dir need c wanted (rest_of k m dir need) (Some d))
    by_first (inl p) =
        let there' : AllByRecursion (IsThere m) (p.part ∷ p.parts') = subst (AllByRecursion (IsThere m)) p.all there in
        subst (λ (x : Descriptor). EndsBehind m dir need wanted x parts (after_read m dir need c wanted (rest_of k m dir need) (Some x))) (sym p.is)
        (subst (λ (ps : List Part). EndsBehind m dir need wanted (descriptor_of_part p.part) ps (after_read m dir need c wanted (rest_of k m dir need) (Some (descriptor_of_part p.part)))) (sym p.all)
        (unless_ends m dir need wanted (descriptor_of_part p.part) (p.part ∷ p.parts') (first_fault c (descriptor_of_part p.part)) (goes_on m dir need c wanted (rest_of k m dir need) (descriptor_of_part p.part))
        (no_fault c (descriptor_of_part p.part)
        (subst (λ (b : Bool). (b && named_last c.named) ≡ false) (sym (no_link p.part)) refl)
        (subst (λ (b : Bool). (b && nat_lt 1 c.left) ≡ false) (sym (no_link p.part)) refl)
        (subst (λ (b : Bool). (b && names_no_segment (descriptor_of_part p.part)) ≡ false) (sym (no_link p.part)) refl)
        (subst (λ (b : Bool). (not b && named_on c.named && nat_eq c.left 1) ≡ false) (sym (no_link p.part)) (fourth_row c.named c.left (λ one. (p.behind_it (alone ds (sym left ∙ one))).0)))
        (part_fits m p.part there'.0))
        (part_ends m dir need k c wanted p.part p.parts' there'.0
        (next_ends m dir need k from c (wanted - counted dir (descriptor_of_part p.part)) d ds segments p.parts' left stand p.ahead (λ z. (p.behind_it z).2) few there'.1))))
      where
        alone : (ds : List Descriptor) → suc (length ds) ≡ 1 → ds ≡ []
        alone [] e = refl
        alone (x ∷ xs) e = absurd (omega (arith, e))
    by_first (inr l) =
        link_ends m dir need k low from c wanted d segments parts l.link l.named_so (left ∙ ap (λ (xs : List Descriptor). suc (length xs)) l.is_last) l.by (omega (arith, few)) there

from_ends : (m : Memory) (dir : Direction) (need : ℕ) → ((place : ℕ) → is_some (m place) ≡ true → place < 2 ^ 64) → (k : ℕ) → FromEnds m dir need k
from_ends m dir need low zero c wanted d ds segments parts left stand ahead few there = absurd (omega (arith, few))
from_ends m dir need low (suc k) c wanted d ds segments parts left ((bytes, is_there, is), stand) ahead few there =
    let sub_suc : (k : ℕ) → suc k - 1 ≡ k = λ k. omega arith in
    subst (EndsWith m dir need wanted parts) (sym (from_read (suc k) m dir need c wanted bytes (omega arith) is_there))
    (subst (λ (n : ℕ). EndsWith m dir need wanted parts (Does (Reads c.place) (after_read m dir need c wanted (rest_of n m dir need) (descriptor_of bytes)))) (sym (sub_suc k))
    (let ends = read_ends m dir need k low (from_ends m dir need low k) c wanted d ds segments parts left stand ahead (omega (arith, few)) there in
    record {
      ends = subst (λ (o : Option Descriptor). verdict (after_read m dir need c wanted (rest_of k m dir need) o) ≡ end_of wanted (counted_in dir parts)) (sym (found bytes d is)) ends.0;
      takes = λ before sum.
          subst (λ (o : Option (List ℕ)). targets dir (parts_taken m dir need (taken dir need before (option_and_then descriptor_of o)) (after_read m dir need c wanted (rest_of k m dir need) (descriptor_of bytes))) ≡ targets dir before ++ take wanted (targets dir parts)) (sym is_there)
          (subst (λ (o : Option Descriptor). targets dir (parts_taken m dir need (taken dir need before o) (after_read m dir need c wanted (rest_of k m dir need) o)) ≡ targets dir before ++ take wanted (targets dir parts)) (sym (found bytes d is)) (ends.1 before sum));
    }))

-- starting at its entry's descriptor
list_ends : (m : Memory) (sgl1 : List ℕ) (first : Descriptor) (parts : List Part) (dir : Direction) (need : ℕ)
    → ((place : ℕ) → is_some (m place) ≡ true → place < 2 ^ 64) → descriptor_of sgl1 ≡ Some first → Spells m first parts → AllByRecursion (IsThere m) parts
    → (verdict_of_list m sgl1 dir need ≡ end_of need (counted_in dir parts)) × (targets dir (parts_of_list m sgl1 dir need) ≡ take need (targets dir parts))
list_ends m sgl1 first parts dir need low spelled (segments, few, by) there =
    let ends = read_ends m dir need 4095 low (from_ends m dir need low 4095) entry_cursor need first [] segments parts refl tt (spells_ahead m first segments parts by) (omega (arith, few)) there in (
      subst (λ (o : Option Descriptor). verdict (after_read m dir need entry_cursor need (rest_of 4095 m dir need) o) ≡ end_of need (counted_in dir parts)) (sym spelled) ends.0,
      subst (λ (o : Option Descriptor). targets dir (parts_taken m dir need (taken dir need [] o) (after_read m dir need entry_cursor need (rest_of 4095 m dir need) o)) ≡ take need (targets dir parts)) (sym spelled)
          (ends.1 [] (omega arith)),
    )

pub long_lists_end : long_lists_end_well
long_lists_end m sgl1 first parts dir need low spelled spells there enough =
    let both = list_ends m sgl1 first parts dir need low spelled spells there in
    (both.0 ∙ enough_ends need (counted_in dir parts) enough, both.1)

pub shorter_lists_end : short_lists_end
shorter_lists_end m sgl1 first parts dir need low spelled spells there short =
    (list_ends m sgl1 first parts dir need low spelled spells there).0 ∙ short_ends need (counted_in dir parts) short

pub lists_end : lists_end_well
lists_end m sgl1 first parts dir need low spelled spells there count =
    let both = long_lists_end m sgl1 first parts dir need low spelled spells there (omega (arith, count)) in
    (both.0, both.1 ∙ take_all need (targets dir parts) (omega (arith, count, length-targets dir parts)))

-- A walk that reads in the chain pages and moves in the data pages: what it touches.

pub reads_in : (chain own : ℕ → Bool) (c : Course) → CourseIn chain own c → ReadsWithin chain c
reads_in chain own (Closes v) h = tt
reads_in chain own (Does Stays rest) h = reads_in chain own rest h.1
reads_in chain own (Does (Reads place) rest) h = (h.0, reads_in chain own rest h.1)
reads_in chain own (Does (Moves place n offset) rest) h = reads_in chain own rest h.1

pub moves_out : (chain own : ℕ → Bool) → ((place : ℕ) → own place ≡ true → chain place ≡ false) → (c : Course) → CourseIn chain own c → MovesOutside chain c
moves_out chain own apart (Closes v) h = tt
moves_out chain own apart (Does Stays rest) h = moves_out chain own apart rest h.1
moves_out chain own apart (Does (Reads place) rest) h = moves_out chain own apart rest h.1
moves_out chain own apart (Does (Moves place n offset) rest) h = (λ k lt. apart (place + k) (h.0.2 k lt), moves_out chain own apart rest h.1)

-- the pages of a range whose first and last byte lie on pages that pass a test
range_pages : (f : ℕ → Bool) (place n : ℕ) → f (page_of place) ≡ true → f (page_of (place + n - 1)) ≡ true → list_all f (pages_reached place n) ≡ true
range_pages f place n first last = grind arith

abbrev of_either : List ℕ → List ℕ → ℕ → Bool
of_either chain_pages data_pages p = is_among chain_pages p || is_among data_pages p

pub act_touches : (chain_pages data_pages : List ℕ) (a : Act) → ActIn (on_pages chain_pages) (on_pages data_pages) a → list_all (of_either chain_pages data_pages) (touched a) ≡ true
act_touches chain_pages data_pages a h = grind arith

touches_in : (chain_pages data_pages : List ℕ) (c : Course) → CourseIn (on_pages chain_pages) (on_pages data_pages) c
    → AllByRecursion (λ a. list_all (λ p. is_among chain_pages p || is_among data_pages p) (touched a) ≡ true) (units c)
touches_in chain_pages data_pages (Closes v) h = tt
touches_in chain_pages data_pages (Does a rest) h = (act_touches chain_pages data_pages a h.0, touches_in chain_pages data_pages rest h.1)

pub keeps_in : (chain_pages data_pages : List ℕ) (c : Course) → AreApart chain_pages data_pages → CourseIn (on_pages chain_pages) (on_pages data_pages) c → KeepsToPages chain_pages data_pages c
keeps_in chain_pages data_pages c apart inside = record {
  reads = reads_in (on_pages chain_pages) (on_pages data_pages) c inside;
  moves = moves_out (on_pages chain_pages) (on_pages data_pages) (λ place own. apart (page_of place) own) c inside;
  units_in = inside;
  touches = touches_in chain_pages data_pages c inside;
}

pub lists_keep : lists_keep_to_their_pages
lists_keep chain_pages data_pages m sgl1 parts dir need apart list =
    keeps_in chain_pages data_pages (course_of_list m sgl1 dir need) apart
    (list_in (on_pages chain_pages) (on_pages data_pages) m sgl1 list.first parts dir need list.spelled list.spells list.parts_lie)
