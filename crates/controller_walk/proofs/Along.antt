-- The moves of a list follow the targets of its parts, and a list that ends well moves each byte that has an address.
use Rattle.std.proofs.Common.{arith, ◌≡◌, ◌<◌, ◌≤◌, ◌+◌, ◌-◌, ◌++◌, ◌∷◌, [], ℕ, zero, suc, Bool, true, false, List, Option, Some, None, refl, sym, ap, subst, ◌∙◌, cond, is_some, length, map, min, nat_eq, ◌≢◌, inl, inr, replicate}
use Rattle.std.proofs.lemmas.{Bool.{cases_lt, Decides.nat_tests}, Grind.common_steps, List.FromFn.{length-map-range_with_len, get_or-map-range_with_len}}
use Rattle.std.{proofs.lemmas.Option.{slice_get-get_or, slice_get_within}, specs.{List.{slice_get, range_with_len}, Option.option_and_then}}
use Rattle.entry_codec.specs.declared.status.{Status.Status, TheConstants.Status.{DATA_TRANSFER_ERROR, DATA_SGL_LENGTH_INVALID}}
use Rattle.page_memory.specs.Memory.{Memory, bytes_at}
use Rattle.sgl_descriptor.{proofs.Counts.{length-targets, targets-append, counted_in-append}, specs.Spelling.descriptor_of}
use Rattle.sgl_descriptor.specs.{Targets.{Target, Place, targets, counted, counted_in, Discarded}, declared.Descriptor.Descriptor}
use Rattle.sgl_descriptor.specs.declared.{Descriptor.TheVariants.{DataBlock, BitBucket, Segment, LastSegment}, Direction.Direction}
use Rattle.sgl_descriptor.specs.declared.{Direction.TheVariants.{Destination, Source}, Part.{Part, TheVariants.{Data, Bucket}}}
use Rattle.controller_walk.proofs.Courses.{part_most, pages_step}
use Rattle.controller_walk.specs.Along.{taken, wanted_behind, MovesAlong, ListMovesAlong, descriptor_at, parts_taken, MovesByte, MovesAll, ListMovesAll}
use Rattle.controller_walk.specs.Units.{Stays, Moves, Course, Closes, Does, after_read, read_at, from_place, behind, goes_on, unless_fault, first_fault, moving, first_part, pages_spanned, entry_cursor, next, Reads, verdict}
use Rattle.controller_walk.specs.declared.{cursor.Cursor.Cursor, walk.WalkState.TheVariants.{End, Fault}}

-- The moves of a list follow the targets of its parts.

-- the target of a byte of a block after others
range_target : (addr len i : ℕ) → i < len → slice_get (map (λ place. Place place) (range_with_len addr len)) i ≡ Some (Place (addr + i))
range_target addr len i lt =
    slice_get-get_or (map (λ place. Place place) (range_with_len addr len)) i (Place 0) (rw (length-map-range_with_len (λ place. Place place) addr len) lt)
    ∙ ap (λ (t : Target). Some t) (get_or-map-range_with_len (λ place. Place place) addr len i (addr + i) (Place 0) lt refl)

pub get_behind : (xs ys : List Target) (i k : ℕ) → i ≡ length xs + k → slice_get (xs ++ ys) i ≡ slice_get ys k
get_behind [] ys i k e = let same : i ≡ k = omega (arith, e) in rw same refl
get_behind (x ∷ xs) ys zero k e = absurd (omega arith)
get_behind (x ∷ xs) ys (suc i) k e = get_behind xs ys i k (omega arith)

block_target : (dir : Direction) (parts : List Part) (addr len offset i : ℕ) → counted_in dir parts ≡ offset → i < len →
    slice_get (targets dir (parts ++ Data addr len ∷ [])) (offset + i) ≡ Some (Place (addr + i))
block_target dir parts addr len offset i count lt =
    ap (λ (ts : List Target). slice_get ts (offset + i)) (targets-append dir parts (Data addr len ∷ []))
    ∙ get_behind (targets dir parts) (targets dir (Data addr len ∷ [])) (offset + i) i (omega (arith, length-targets dir parts))
    ∙ ap (λ (ts : List Target). slice_get ts i) (one_part dir addr len)
    ∙ range_target addr len i lt
  where
    one_part : (dir : Direction) (addr len : ℕ) → targets dir (Data addr len ∷ []) ≡ map (λ place. Place place) (range_with_len addr len)
    one_part dir addr len = grind (arith, common_steps)

-- what follows moves along, where its parts and the bytes still wanted make up the need
abbrev Follows : Memory → Direction → ℕ → (Option Cursor → ℕ → Course) → Type 0
Follows m dir need later = (a : Option Cursor) (wanted : ℕ) (parts : List Part) → counted_in dir parts + wanted ≡ need → MovesAlong m dir need parts (later a wanted)

along_moving : (m : Memory) (dir : Direction) (need : ℕ) (parts : List Part) (n place len offset : ℕ) (rest : Course) → offset + len ≤ need →
    ((i : ℕ) → i < len → slice_get (targets dir parts) (offset + i) ≡ Some (Place (place + i))) → MovesAlong m dir need parts rest → MovesAlong m dir need parts (moving m n place len offset rest)
unfolding moving
along_moving m dir need parts zero place len offset rest within there h = h
along_moving m dir need parts (suc n) place len offset rest within there h =
    both (is_some (bytes_at m place (first_part place len))) _
    (λ i lt. there i (omega (arith, (part_most place len).0)))
    (along_moving m dir need parts n (place + first_part place len) (len - first_part place len) (offset + first_part place len) rest (omega (arith, within, (part_most place len).0))
    (λ i lt. rw (← sum offset (first_part place len) i, ← sum place (first_part place len) i) (there (first_part place len + i) (omega arith))) h)
  where
    sum : (a b c : ℕ) → a + (b + c) ≡ a + b + c
    sum a b c = omega arith

    both : (b : Bool) (c : Course) → ((i : ℕ) → i < first_part place len → slice_get (targets dir parts) (offset + i) ≡ Some (Place (place + i))) → MovesAlong m dir need parts c →
        MovesAlong m dir need parts (cond b (Does (Moves place (first_part place len) offset) c) (Does Stays (Closes (Fault DATA_TRANSFER_ERROR))))
    both true c t k = (omega (arith, within, (part_most place len).0), t, k)
    both false c t k = λ e. cc

-- how many bytes are wanted, where the parts count the others
pub still_wanted : (dir : Direction) (parts : List Part) (wanted need : ℕ) → counted_in dir parts + wanted ≡ need → wanted_behind dir need parts ≡ wanted
still_wanted dir parts wanted need sum = omega (arith, sum)

-- the prefix of a bucket counts what is wanted of the bucket
pub bucket_front : (dir : Direction) (len wanted : ℕ) → counted_in dir (Bucket (min len wanted) ∷ []) ≡ min (counted dir (BitBucket len)) wanted
bucket_front Destination len wanted = omega arith
bucket_front Source len wanted = omega arith

-- after the wanted prefix of one more part, parts and wanted bytes still make up the need
pub count_one : (dir : Direction) (parts : List Part) (part : Part) (n wanted need : ℕ) → counted_in dir (part ∷ []) ≡ min n wanted → counted_in dir parts + wanted ≡ need →
    counted_in dir (parts ++ part ∷ []) + (wanted - n) ≡ need
count_one dir parts part n wanted need one sum = omega (arith, counted_in-append dir parts (part ∷ []))

along_on : (m : Memory) (dir : Direction) (need : ℕ) (c : Cursor) (wanted : ℕ) (later : Option Cursor → ℕ → Course) (parts : List Part) (d : Descriptor) →
    counted_in dir parts + wanted ≡ need → Follows m dir need later → MovesAlong m dir need (taken dir need parts (Some d)) (goes_on m dir need c wanted later d)
along_on m dir need c wanted later parts (DataBlock addr len) sum h =
    subst (λ (w : ℕ). MovesAlong m dir need (parts ++ Data addr (min len w) ∷ []) (goes_on m dir need c wanted later (DataBlock addr len))) (sym (still_wanted dir parts wanted need sum))
    (along_moving m dir need (parts ++ Data addr (min len wanted) ∷ []) (pages_spanned addr (min len wanted)) addr (min len wanted) (need - wanted) _ (omega (arith, sum))
    (λ i lt. block_target dir parts addr (min len wanted) (need - wanted) i (omega (arith, sum)) lt)
    (h (next c) (wanted - len) (parts ++ Data addr (min len wanted) ∷ []) (count_one dir parts (Data addr (min len wanted)) len wanted need (omega arith) sum)))
along_on m dir need c wanted later parts (BitBucket len) sum h =
    subst (λ (w : ℕ). MovesAlong m dir need (parts ++ Bucket (min len w) ∷ []) (goes_on m dir need c wanted later (BitBucket len))) (sym (still_wanted dir parts wanted need sum))
    (h (next c) (wanted - counted dir (BitBucket len)) (parts ++ Bucket (min len wanted) ∷ []) (count_one dir parts (Bucket (min len wanted)) (counted dir (BitBucket len)) wanted need (bucket_front dir len wanted) sum))
along_on m dir need c wanted later parts (Segment addr len) sum h = h _ wanted parts sum
along_on m dir need c wanted later parts (LastSegment addr len) sum h = h _ wanted parts sum

along_unless : (m : Memory) (dir : Direction) (need : ℕ) (parts : List Part) (f : Option Status) (c : Course) → MovesAlong m dir need parts c → MovesAlong m dir need parts (unless_fault f c)
along_unless m dir need parts (Some status) c h = λ e. cc
along_unless m dir need parts None c h = h

along_read : (m : Memory) (dir : Direction) (need : ℕ) (c : Cursor) (wanted : ℕ) (later : Option Cursor → ℕ → Course) (parts : List Part) (found : Option Descriptor) →
    counted_in dir parts + wanted ≡ need → Follows m dir need later → MovesAlong m dir need (taken dir need parts found) (after_read m dir need c wanted later found)
along_read m dir need c wanted later parts None sum h = λ e. cc
along_read m dir need c wanted later parts (Some d) sum h =
    along_unless m dir need (taken dir need parts (Some d)) (first_fault c d) (goes_on m dir need c wanted later d) (along_on m dir need c wanted later parts d sum h)

along_at : (m : Memory) (dir : Direction) (need : ℕ) (c : Cursor) (wanted : ℕ) (later : Option Cursor → ℕ → Course) (parts : List Part) (found : Option (List ℕ)) → bytes_at m c.place 16 ≡ found →
    0 < wanted → counted_in dir parts + wanted ≡ need → Follows m dir need later → MovesAlong m dir need parts (read_at m dir need c wanted later found)
along_at m dir need c wanted later parts None e some sum h = λ e'. cc
along_at m dir need c wanted later parts (Some bytes) e some sum h = (
  omega (arith, some, sum),
  subst (λ (o : Option (List ℕ)). MovesAlong m dir need (taken dir need parts (option_and_then descriptor_of o)) (after_read m dir need c wanted later (descriptor_of bytes)))
      (sym e) (along_read m dir need c wanted later parts (descriptor_of bytes) sum h),
)

-- a byte is wanted, or none
pub is_wanted : (n : ℕ) → (nat_eq n 0 ≡ true → n ≡ 0) × (nat_eq n 0 ≡ false → 0 < n)
is_wanted n = grind (arith, nat_tests)

along_behind : (m : Memory) (dir : Direction) (need : ℕ) (from : Cursor → ℕ → Course) →
    ((c : Cursor) (wanted : ℕ) (parts : List Part) → 0 < wanted → counted_in dir parts + wanted ≡ need → MovesAlong m dir need parts (from c wanted)) → Follows m dir need (behind from)
along_behind m dir need from h None wanted parts sum = ending (nat_eq wanted 0) refl
  where
    ending : (b : Bool) → nat_eq wanted 0 ≡ b → cond b End (Fault DATA_SGL_LENGTH_INVALID) ≡ End → counted_in dir parts ≡ need
    ending true e v = let none : wanted ≡ 0 = (is_wanted wanted).0 e in omega (arith, sum, none)
    ending false e v = cc
along_behind m dir need from h (Some c) wanted parts sum = either (nat_eq wanted 0) refl
  where
    either : (b : Bool) → nat_eq wanted 0 ≡ b → MovesAlong m dir need parts (cond b (Closes End) (from c wanted))
    either true e = let none : wanted ≡ 0 = (is_wanted wanted).0 e in λ v. omega (arith, sum, none)
    either false e = h c wanted parts ((is_wanted wanted).1 e) sum

along_from : (k : ℕ) (m : Memory) (dir : Direction) (need : ℕ) (c : Cursor) (wanted : ℕ) (parts : List Part) → 0 < wanted → counted_in dir parts + wanted ≡ need → MovesAlong m dir need parts (from_place k m dir need c wanted)
unfolding from_place
along_from zero m dir need c wanted parts some sum = λ e. cc
along_from (suc k) m dir need c wanted parts some sum =
    along_at m dir need c wanted (behind (from_place k m dir need)) parts (bytes_at m c.place 16) refl some sum
    (along_behind m dir need (from_place k m dir need) (along_from k m dir need))

pub list_moves_along : (m : Memory) (sgl1 : List ℕ) (dir : Direction) (need : ℕ) → ListMovesAlong m sgl1 dir need
list_moves_along m sgl1 dir need =
    along_read m dir need entry_cursor need (behind (from_place 4095 m dir need)) [] (descriptor_of sgl1) (none_yet need)
    (along_behind m dir need (from_place 4095 m dir need) (along_from 4095 m dir need))
  where
    none_yet : (n : ℕ) → 0 + n ≡ n
    none_yet n = omega arith

-- A list that ends well moves each byte that has an address.

-- one more descriptor's part comes after the others, and so do those of a course
none_more : (parts : List Part) → parts ≡ parts ++ []
none_more parts = grind (arith, common_steps)

more_taken : (dir : Direction) (need : ℕ) (parts : List Part) (found : Option Descriptor) → (more : List Part) × (taken dir need parts found ≡ parts ++ more)
more_taken dir need parts (Some (DataBlock addr len)) = (Data addr _ ∷ [], refl)
more_taken dir need parts (Some (BitBucket len)) = (Bucket _ ∷ [], refl)
more_taken dir need parts v = ([], none_more parts)

pub more_parts : (m : Memory) (dir : Direction) (need : ℕ) (c : Course) (parts : List Part) → (more : List Part) × (parts_taken m dir need parts c ≡ parts ++ more)
more_parts m dir need (Closes v) parts = ([], none_more parts)
more_parts m dir need (Does Stays rest) parts = more_parts m dir need rest parts
more_parts m dir need (Does (Moves place n offset) rest) parts = more_parts m dir need rest parts
more_parts m dir need (Does (Reads place) rest) parts =
    let one : (more : List Part) × (taken dir need parts (descriptor_at m place) ≡ parts ++ more) = more_taken dir need parts (descriptor_at m place) in
    let others : (more : List Part) × (parts_taken m dir need (taken dir need parts (descriptor_at m place)) rest ≡ taken dir need parts (descriptor_at m place) ++ more) = more_parts m dir need rest (taken dir need parts (descriptor_at m place)) in
    (one.0 ++ others.0, others.1 ∙ ap (λ (ps : List Part). ps ++ others.0) one.1 ∙ joined parts one.0 others.0)
  where
    joined : (a b c : List Part) → (a ++ b) ++ c ≡ a ++ (b ++ c)
    joined a b c = grind (arith, common_steps)

-- a target among the first ones
get_front : (xs ys : List Target) (i : ℕ) → i < length xs → slice_get (xs ++ ys) i ≡ slice_get xs i
get_front [] ys i lt = absurd (omega (arith, lt))
get_front (x ∷ xs) ys zero lt = refl
get_front (x ∷ xs) ys (suc i) lt = get_front xs ys i (omega (arith, lt))

get_discarded : (n i p : ℕ) → slice_get (replicate n Discarded) i ≢ Some (Place p)
get_discarded zero i p h = cc
get_discarded (suc n) zero p h = cc
get_discarded (suc n) (suc i) p h = get_discarded n i p h

no_place : (dir : Direction) (len i p : ℕ) → slice_get (targets dir (Bucket len ∷ [])) i ≢ Some (Place p)
no_place Source len i p h = cc
no_place Destination len i p h = get_discarded len i p (rw (← one len) h)
  where
    one : (len : ℕ) → targets Destination (Bucket len ∷ []) ≡ replicate len Discarded
    one len = grind (arith, common_steps)

-- no byte of a bucket has an address
bucket_place : (m : Memory) (dir : Direction) (need : ℕ) (parts : List Part) (len : ℕ) (c : Course) (i p : ℕ) → counted_in dir parts ≤ i →
    slice_get (targets dir (parts_taken m dir need (parts ++ Bucket len ∷ []) c)) i ≡ Some (Place p) → counted_in dir (parts ++ Bucket len ∷ []) ≤ i
bucket_place m dir need parts len c i p from there =
    elim (cases_lt i (counted_in dir (parts ++ Bucket len ∷ []))) [
      | inl inside ↦ absurd (no_place dir len (i - counted_in dir parts) p (sym (found inside) ∙ there))
      | inr behind' ↦ omega arith
    ]
  where
    found : i < counted_in dir (parts ++ Bucket len ∷ []) → slice_get (targets dir (parts_taken m dir need (parts ++ Bucket len ∷ []) c)) i ≡ slice_get (targets dir (Bucket len ∷ [])) (i - counted_in dir parts)
    found inside =
        let more : (more : List Part) × (parts_taken m dir need (parts ++ Bucket len ∷ []) c ≡ (parts ++ Bucket len ∷ []) ++ more) = more_parts m dir need c (parts ++ Bucket len ∷ []) in
        ap (λ (ps : List Part). slice_get (targets dir ps) i) more.1
        ∙ ap (λ (ts : List Target). slice_get ts i) (targets-append dir (parts ++ Bucket len ∷ []) more.0)
        ∙ get_front (targets dir (parts ++ Bucket len ∷ [])) (targets dir more.0) i (omega (arith, inside, length-targets dir (parts ++ Bucket len ∷ [])))
        ∙ ap (λ (ts : List Target). slice_get ts i) (targets-append dir parts (Bucket len ∷ []))
        ∙ get_behind (targets dir parts) (targets dir (Bucket len ∷ [])) i (i - counted_in dir parts) (omega (arith, from, length-targets dir parts))

abbrev FollowsAll : Memory → Direction → ℕ → (Option Cursor → ℕ → Course) → Type 0
FollowsAll m dir need later = (a : Option Cursor) (wanted : ℕ) (parts : List Part) → counted_in dir parts + wanted ≡ need → MovesAll m dir need parts (later a wanted)

-- a block of which each part is moved, and what follows it
all_moving : (m : Memory) (dir : Direction) (need : ℕ) (parts : List Part) (rest : Course) → MovesAll m dir need parts rest → (n place len offset : ℕ) → n ≡ pages_spanned place len → counted_in dir parts ≡ offset + len →
    verdict (moving m n place len offset rest) ≡ End → (i p : ℕ) → offset ≤ i → slice_get (targets dir (parts_taken m dir need parts (moving m n place len offset rest))) i ≡ Some (Place p) → MovesByte i (moving m n place len offset rest)
unfolding moving
all_moving m dir need parts rest h zero place len offset pages count ends i p from there = h ends i p (omega (arith, count, from, empty place len pages)) there
  where
    empty : (place len : ℕ) → 0 ≡ pages_spanned place len → len ≡ 0
    empty place len e = grind (arith, nat_tests)
all_moving m dir need parts rest h (suc n) place len offset pages count ends i p from there =
    both (is_some (bytes_at m place (first_part place len))) (moving m n (place + first_part place len) (len - first_part place len) (offset + first_part place len) rest)
    (λ ends' further there'. all_moving m dir need parts rest h n (place + first_part place len) (len - first_part place len) (offset + first_part place len) less (omega (arith, count, most)) ends' i p further there') ends there
  where
    most : first_part place len ≤ len
    most = (part_most place len).0

    some : (place len : ℕ) → suc n ≡ pages_spanned place len → 0 < len
    some place len e = grind (arith, nat_tests)

    less : n ≡ pages_spanned (place + first_part place len) (len - first_part place len)
    less = omega (arith, pages, pages_step place len (some place len pages))

    both : (b : Bool) (c : Course) →
        (verdict c ≡ End → offset + first_part place len ≤ i → slice_get (targets dir (parts_taken m dir need parts c)) i ≡ Some (Place p) → MovesByte i c) →
        verdict (cond b (Does (Moves place (first_part place len) offset) c) (Does Stays (Closes (Fault DATA_TRANSFER_ERROR)))) ≡ End →
        slice_get (targets dir (parts_taken m dir need parts (cond b (Does (Moves place (first_part place len) offset) c) (Does Stays (Closes (Fault DATA_TRANSFER_ERROR)))))) i ≡ Some (Place p) →
        MovesByte i (cond b (Does (Moves place (first_part place len) offset) c) (Does Stays (Closes (Fault DATA_TRANSFER_ERROR))))
    both false c k e t = absurd (faulty e)
      where
        faulty : Fault DATA_TRANSFER_ERROR ≡ End → ⊥
        faulty e = cc
    both true c k e t = elim (cases_lt i (offset + first_part place len)) [
      | inl inside ↦ inl (from, inside)
      | inr further ↦ inr (k e (omega (arith, further)) t)
    ]

all_on : (m : Memory) (dir : Direction) (need : ℕ) (c : Cursor) (wanted : ℕ) (later : Option Cursor → ℕ → Course) (parts : List Part) (d : Descriptor) →
    counted_in dir parts + wanted ≡ need → FollowsAll m dir need later →
    verdict (goes_on m dir need c wanted later d) ≡ End → (i p : ℕ) → counted_in dir parts ≤ i →
    slice_get (targets dir (parts_taken m dir need (taken dir need parts (Some d)) (goes_on m dir need c wanted later d))) i ≡ Some (Place p) → MovesByte i (goes_on m dir need c wanted later d)
all_on m dir need c wanted later parts (DataBlock addr len) sum h ends i p from there =
    all_moving m dir need (parts ++ Data addr (min len wanted) ∷ []) (later (next c) (wanted - len))
    (h (next c) (wanted - len) (parts ++ Data addr (min len wanted) ∷ []) (count_one dir parts (Data addr (min len wanted)) len wanted need (omega arith) sum))
    (pages_spanned addr (min len wanted)) addr (min len wanted) (need - wanted) refl (omega (arith, sum, counted_in-append dir parts (Data addr (min len wanted) ∷ []))) ends i p (omega (arith, sum, from))
    (subst (λ (w : ℕ). slice_get (targets dir (parts_taken m dir need (parts ++ Data addr (min len w) ∷ []) (goes_on m dir need c wanted later (DataBlock addr len)))) i ≡ Some (Place p))
    (still_wanted dir parts wanted need sum) there)
all_on m dir need c wanted later parts (BitBucket len) sum h ends i p from there =
    let there' : slice_get (targets dir (parts_taken m dir need (parts ++ Bucket (min len wanted) ∷ []) (later (next c) (wanted - counted dir (BitBucket len))))) i ≡ Some (Place p) =
    subst (λ (w : ℕ). slice_get (targets dir (parts_taken m dir need (parts ++ Bucket (min len w) ∷ []) (later (next c) (wanted - counted dir (BitBucket len))))) i ≡ Some (Place p))
    (still_wanted dir parts wanted need sum) there in
    h (next c) (wanted - counted dir (BitBucket len)) (parts ++ Bucket (min len wanted) ∷ [])
    (count_one dir parts (Bucket (min len wanted)) (counted dir (BitBucket len)) wanted need (bucket_front dir len wanted) sum)
    ends i p (bucket_place m dir need parts (min len wanted) (later (next c) (wanted - counted dir (BitBucket len))) i p from there') there'
all_on m dir need c wanted later parts (Segment addr len) sum h ends i p from there = h _ wanted parts sum ends i p from there
all_on m dir need c wanted later parts (LastSegment addr len) sum h ends i p from there = h _ wanted parts sum ends i p from there

all_unless : (m : Memory) (dir : Direction) (need : ℕ) (parts : List Part) (f : Option Status) (c : Course) (i p : ℕ) →
    (verdict c ≡ End → slice_get (targets dir (parts_taken m dir need parts c)) i ≡ Some (Place p) → MovesByte i c) →
    verdict (unless_fault f c) ≡ End → slice_get (targets dir (parts_taken m dir need parts (unless_fault f c))) i ≡ Some (Place p) → MovesByte i (unless_fault f c)
all_unless m dir need parts (Some status) c i p h ends there = cc
all_unless m dir need parts None c i p h ends there = h ends there

all_read : (m : Memory) (dir : Direction) (need : ℕ) (c : Cursor) (wanted : ℕ) (later : Option Cursor → ℕ → Course) (parts : List Part) (found : Option Descriptor) →
    counted_in dir parts + wanted ≡ need → FollowsAll m dir need later →
    verdict (after_read m dir need c wanted later found) ≡ End → (i p : ℕ) → counted_in dir parts ≤ i →
    slice_get (targets dir (parts_taken m dir need (taken dir need parts found) (after_read m dir need c wanted later found))) i ≡ Some (Place p) → MovesByte i (after_read m dir need c wanted later found)
all_read m dir need c wanted later parts None sum h ends i p from there = cc
all_read m dir need c wanted later parts (Some d) sum h ends i p from there =
    all_unless m dir need (taken dir need parts (Some d)) (first_fault c d) (goes_on m dir need c wanted later d) i p
    (λ ends' there'. all_on m dir need c wanted later parts d sum h ends' i p from there') ends there

all_at : (m : Memory) (dir : Direction) (need : ℕ) (c : Cursor) (wanted : ℕ) (later : Option Cursor → ℕ → Course) (parts : List Part) (found : Option (List ℕ)) → bytes_at m c.place 16 ≡ found →
    counted_in dir parts + wanted ≡ need → FollowsAll m dir need later → MovesAll m dir need parts (read_at m dir need c wanted later found)
all_at m dir need c wanted later parts None e sum h ends i p from there = cc
all_at m dir need c wanted later parts (Some bytes) e sum h ends i p from there =
    all_read m dir need c wanted later parts (descriptor_of bytes) sum h ends i p from
    (subst (λ (o : Option (List ℕ)). slice_get (targets dir (parts_taken m dir need (taken dir need parts (option_and_then descriptor_of o)) (after_read m dir need c wanted later (descriptor_of bytes)))) i ≡ Some (Place p)) e there)

-- at the end of a list no byte is left
no_more : (dir : Direction) (parts : List Part) (i p : ℕ) → counted_in dir parts ≤ i → slice_get (targets dir parts) i ≢ Some (Place p)
no_more dir parts i p from there =
    let within : i < length (targets dir parts) = slice_get_within (targets dir parts) i (Place p) there in absurd (omega (arith, within, from, length-targets dir parts))

all_behind : (m : Memory) (dir : Direction) (need : ℕ) (from : Cursor → ℕ → Course) →
    ((c : Cursor) (wanted : ℕ) (parts : List Part) → counted_in dir parts + wanted ≡ need → MovesAll m dir need parts (from c wanted)) → FollowsAll m dir need (behind from)
all_behind m dir need from h None wanted parts sum ends i p past there = no_more dir parts i p past there
all_behind m dir need from h (Some c) wanted parts sum ends i p past there = either (nat_eq wanted 0) ends i p past there
  where
    either : (b : Bool) → MovesAll m dir need parts (cond b (Closes End) (from c wanted))
    either true ends' i p past there = no_more dir parts i p past there
    either false ends' i p past there = h c wanted parts sum ends' i p past there

all_from : (k : ℕ) (m : Memory) (dir : Direction) (need : ℕ) (c : Cursor) (wanted : ℕ) (parts : List Part) → counted_in dir parts + wanted ≡ need → MovesAll m dir need parts (from_place k m dir need c wanted)
unfolding from_place
all_from zero m dir need c wanted parts sum ends i p past there = cc
all_from (suc k) m dir need c wanted parts sum ends i p past there =
    all_at m dir need c wanted (behind (from_place k m dir need)) parts (bytes_at m c.place 16) refl sum
    (all_behind m dir need (from_place k m dir need) (all_from k m dir need)) ends i p past there

pub list_moves_all : (m : Memory) (sgl1 : List ℕ) (dir : Direction) (need : ℕ) → ListMovesAll m sgl1 dir need
list_moves_all m sgl1 dir need ends i p there =
    all_read m dir need entry_cursor need (behind (from_place 4095 m dir need)) [] (descriptor_of sgl1) (none_yet need)
    (all_behind m dir need (from_place 4095 m dir need) (all_from 4095 m dir need)) ends i p (omega arith) there
  where
    none_yet : (n : ℕ) → 0 + n ≡ n
    none_yet n = omega arith
