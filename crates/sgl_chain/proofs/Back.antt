-- A chain's parts are those that it was built of, and a descriptor spells at most one list of parts.
use Rattle.std.proofs.Common.{◌∙◌, arith, ◌≡◌, ◌≤◌, ◌<◌, ◌-◌, ◌++◌, ℕ, suc, refl, inl, inr, List, [], ◌∷◌, Some, None, length, map, take, drop, ap, subst, sym, ◌+◌, zero, Option, lit≤, lit<}
use Rattle.std.proofs.lemmas.{Bool.{cases_lt, Decides.nat_tests}, List.{append-nil, take-append-drop, append_cancel_left, Elements.filter_map-append}}
use Rattle.std.specs.List.{filter_map}
use Rattle.sgl_descriptor.{proofs.Spells.found, specs.{Spelling.{IsSpelling, IsLink, descriptor_of}, Targets.descriptor_of_part}}
use Rattle.sgl_descriptor.specs.declared.{Descriptor.{Descriptor, TheVariants.{DataBlock, BitBucket, Segment, LastSegment}}, Part.Part}
use Rattle.sgl_descriptor.specs.declared.Part.TheVariants.{Data, Bucket}
use Rattle.sgl_chain.proofs.Spelled.{IsCut, cut_of, cut_rest, one_alone, on_one, on_more, length-segments_on, one_part, two_parts, spells_built, needed_few}
use Rattle.sgl_chain.specs.Chains.{part_of, link, segments_on, first_of, parts_in, parts_from, parts_of, Sgl, AllFit, pages_needed}
use Rattle.sgl_chain.specs.{Laws.{HasPages, chain_of, HasBytesOf}, Spells.{IsLaid, Spells, IsSegment, SpellsBy, Stand}}
use Rattle.sgl_chain.specs.WorkedList.{data_bytes, link_bytes, bucket_bytes, linked_pages}
use Rattle.page_memory.specs.{Memory.{Memory, bytes_at, joined}, Pages.byte_at}

-- A chain's parts are those that it was built of.

part_back : (part : Part) → part_of (descriptor_of_part part) ≡ Some part
part_back (Data addr len) = refl
part_back (Bucket len) = refl

pub parts_found : (parts : List Part) → filter_map part_of (map descriptor_of_part parts) ≡ parts
parts_found [] = refl
parts_found (part ∷ parts) = rw (part_back part, parts_found parts) refl

link_no_part : (s k page : ℕ) → part_of (link s page k) ≡ None
link_no_part s k page = grind (arith, nat_tests)

no_part : (d : Descriptor) → part_of d ≡ None → filter_map part_of (d ∷ []) ≡ []
no_part d is = rw is refl

pub parts_linked : (parts : List Part) (d : Descriptor) → part_of d ≡ None → filter_map part_of (map descriptor_of_part parts ++ d ∷ []) ≡ parts
parts_linked parts d is = filter_map-append part_of (map descriptor_of_part parts) (d ∷ []) ∙ (rw (parts_found parts, no_part d is) (append-nil parts))

parts_alone : (s page : ℕ) (pages : List ℕ) (parts : List Part) → length parts ≤ s → parts_in (segments_on s (page ∷ pages) parts) ≡ parts
parts_alone s page pages parts few = rw (on_one s (page ∷ pages) parts (omega arith) few, append-nil (filter_map part_of (map descriptor_of_part parts)), parts_found parts) refl

-- the parts in the segments, where there is one
parts_again : (s page : ℕ) (pages : List ℕ) (parts : List Part) → IsCut s (page ∷ pages) parts → parts_in (segments_on s (page ∷ pages) parts) ≡ parts
parts_again s page [] parts cut = parts_alone s page [] parts (one_alone s page parts cut)
parts_again s page (next ∷ pages) parts cut = elim (cases_lt s (length parts)) [
  | inl more ↦
      let again : parts_in (segments_on s (next ∷ pages) (drop (s - 1) parts)) ≡ drop (s - 1) parts = parts_again s next pages (drop (s - 1) parts) (cut_rest s page (next ∷ pages) parts cut more) in
      rw (on_more s (page ∷ next ∷ pages) parts next (omega arith) more, parts_linked (take (s - 1) parts) (link s next (length parts - (s - 1))) (link_no_part s (length parts - (s - 1)) next), again)
      (take-append-drop (s - 1) parts)
  | inr few ↦ parts_alone s page (next ∷ pages) parts few
]

-- there is a segment, so the chain's parts are those in its segments
parts_inside : (s page : ℕ) (pages : List ℕ) (parts : List Part) (d : Descriptor) → parts_from d (segments_on s (page ∷ pages) parts) ≡ parts_in (segments_on s (page ∷ pages) parts)
parts_inside s page pages parts d = grind (arith, nat_tests)

-- the parts of a chain
pub parts_back : (s : ℕ) (pages : List ℕ) (parts : List Part) → HasPages s pages parts → parts_of (chain_of s pages parts) ≡ parts
parts_back s (page ∷ pages) parts has =
    parts_inside s page pages parts (first_of s (page ∷ pages) parts) ∙ parts_again s page pages parts (cut_of s (page ∷ pages) parts has (two_parts s page pages parts has))
parts_back s [] [] has = absurd (let some : 0 < 0 = has.some in omega arith)
parts_back s [] (part ∷ []) has = parts_found (part ∷ [])
parts_back s [] (part ∷ other ∷ parts) has = absurd (let one : suc (suc (length parts)) ≤ 1 = one_part s (part ∷ other ∷ parts) has in omega arith)

-- What a chain with known first descriptor and segments is.

-- the chain of parts on pages
pub record IsBuilt (s : ℕ) (pages : List ℕ) (parts : List Part) (sgl : Sgl) : Type 0 where
  pub has : HasPages s pages parts
  pub first : sgl.first ≡ first_of s pages parts
  pub segments : sgl.segments ≡ segments_on s pages parts

pub is_built : (s : ℕ) (pages : List ℕ) (parts : List Part) (sgl : Sgl) → 2 ≤ s → s ≤ 256 → 0 < length parts → length pages ≡ pages_needed (length parts) s →
    sgl.first ≡ first_of s pages parts → sgl.segments ≡ segments_on s pages parts → IsBuilt s pages parts sgl
is_built s pages parts sgl low high some needed first segments =
    record { has = record { low = low; high = high; some = some; needed = needed }; first = first; segments = segments }

-- one segment on each page
pub length-built : (s : ℕ) (pages : List ℕ) (parts : List Part) → HasPages s pages parts → length (segments_on s pages parts) ≡ pages_needed (length parts) s
length-built s [] parts has = has.needed
length-built s (page ∷ pages) parts has = length-segments_on s (page ∷ pages) parts (cut_of s (page ∷ pages) parts has (two_parts s page pages parts has)) ∙ has.needed

pub few_segments : (s : ℕ) (pages : List ℕ) (parts : List Part) (segments : List (List Descriptor)) → HasPages s pages parts → length parts ≤ 1024 →
    segments ≡ segments_on s pages parts → length segments ≤ 1024
few_segments s pages parts segments has most is =
    let few : pages_needed (length parts) s ≤ length parts = needed_few (length parts) s in
    let len : length segments ≡ pages_needed (length parts) s = ap length is ∙ length-built s pages parts has in
    omega arith

pub built_count : (s : ℕ) (pages : List ℕ) (parts : List Part) (sgl : Sgl) → IsBuilt s pages parts sgl → length sgl.segments ≡ pages_needed (length parts) s
built_count s pages parts sgl is = rw is.segments (length-built s pages parts is.has)

pub built_spells : (s : ℕ) (pages : List ℕ) (parts : List Part) (sgl : Sgl) → IsBuilt s pages parts sgl → length parts ≤ 1024 → AllFit sgl.segments →
    (m : Memory) → IsLaid m pages sgl.segments → Spells m sgl.first parts
built_spells s pages parts sgl is most fit m laid =
    rw is.first (spells_built m s pages parts is.has most (rw is.segments at fit) (rw is.segments at laid))

pub built_parts : (s : ℕ) (pages : List ℕ) (parts : List Part) (sgl : Sgl) → IsBuilt s pages parts sgl → parts_of sgl ≡ parts
built_parts s pages parts sgl is = rw (is.first, is.segments) (parts_back s pages parts is.has)

-- A descriptor spells at most one list of parts.

-- the same bytes spell one descriptor
same_spelling : (d e : Descriptor) (bytes : List ℕ) → IsSpelling d bytes → IsSpelling e bytes → d ≡ e
same_spelling d e bytes is also =
    let one : descriptor_of bytes ≡ Some d = found bytes d is in
    let other : descriptor_of bytes ≡ Some e = found bytes e also in
    cc

-- the descriptor at an address
Stands : Memory → ℕ → Descriptor → Type 0
Stands m place d = (bytes : List ℕ) × (bytes_at m place 16 ≡ Some bytes) × IsSpelling d bytes

same_descriptor : (m : Memory) (place : ℕ) (d e : Descriptor) → Stands m place d → Stands m place e → d ≡ e
unfolding Stands
same_descriptor m place d e (bytes, there, is) (others, too, also) =
    let same : others ≡ bytes = cc in
    same_spelling d e bytes is (subst (λ (x : List ℕ). IsSpelling e x) same also)

same_descriptors : (m : Memory) (place : ℕ) (ds es : List Descriptor) → length ds ≡ length es → Stand m place ds → Stand m place es → ds ≡ es
unfolding Stands
same_descriptors m place [] [] len one other = refl
same_descriptors m place [] (e ∷ es) len one other = absurd (omega arith)
same_descriptors m place (d ∷ ds) [] len one other = absurd (omega arith)
same_descriptors m place (d ∷ ds) (e ∷ es) len one other =
    let head : d ≡ e = same_descriptor m place d e one.0 other.0 in
    let tail : ds ≡ es = same_descriptors m (place + 16) ds es (omega arith) one.1 other.1 in
    cc

pub same_segment : (m : Memory) (addr len : ℕ) (ds es : List Descriptor) → IsSegment m addr len ds → IsSegment m addr len es → ds ≡ es
same_segment m addr len ds es one other = same_descriptors m addr ds es (omega (arith, one.2, other.2)) one.3 other.3

same_parts : (parts others : List Part) → map descriptor_of_part parts ≡ map descriptor_of_part others → parts ≡ others
same_parts parts others e = sym (parts_found parts) ∙ ap (filter_map part_of) e ∙ parts_found others

pub no_part_of_link : (d : Descriptor) → IsLink d → part_of d ≡ None
no_part_of_link (Segment addr len) is = refl
no_part_of_link (LastSegment addr len) is = refl
no_part_of_link v is = cc

same_front : (front others : List Part) (last link : Descriptor) → IsLink last → IsLink link →
    map descriptor_of_part front ++ last ∷ [] ≡ map descriptor_of_part others ++ link ∷ [] → front ≡ others
same_front front others last link is also e =
    sym (parts_linked front last (no_part_of_link last is)) ∙ ap (filter_map part_of) e ∙ parts_linked others link (no_part_of_link link also)

same_last : (front others : List Part) (last link : Descriptor) → front ≡ others →
    map descriptor_of_part front ++ last ∷ [] ≡ map descriptor_of_part others ++ link ∷ [] → last ≡ link
same_last front others last link same e =
    let back : map descriptor_of_part others ++ last ∷ [] ≡ map descriptor_of_part others ++ link ∷ [] =
    ap (λ (x : List Part). map descriptor_of_part x ++ last ∷ []) (sym same) ∙ e in
    let tails : last ∷ [] ≡ link ∷ [] = append_cancel_left (map descriptor_of_part others) (last ∷ []) (link ∷ []) back in
    cc

same_by : (m : Memory) (d : Descriptor) (segments others : List (List Descriptor)) (parts also : List Part) → SpellsBy m d segments parts → SpellsBy m d others also → parts ≡ also
same_by m (DataBlock addr len) [] [] parts also one other = one ∙ sym other
same_by m (DataBlock addr len) (x ∷ xs) others parts also one other = absurd one
same_by m (DataBlock addr len) [] (y ∷ ys) parts also one other = absurd other
same_by m (BitBucket len) [] [] parts also one other = one ∙ sym other
same_by m (BitBucket len) (x ∷ xs) others parts also one other = absurd one
same_by m (BitBucket len) [] (y ∷ ys) parts also one other = absurd other
same_by m (LastSegment addr len) [] others parts also one other = absurd one
same_by m (LastSegment addr len) (x ∷ x2 ∷ xs) others parts also one other = absurd one
same_by m (LastSegment addr len) (x ∷ []) [] parts also one other = absurd other
same_by m (LastSegment addr len) (x ∷ []) (y ∷ y2 ∷ ys) parts also one other = absurd other
same_by m (LastSegment addr len) (x ∷ []) (y ∷ []) parts also one other =
    same_parts parts also (sym one.1 ∙ same_segment m addr len x y one.0 other.0 ∙ other.1)
same_by m (Segment addr len) [] others parts also one other = absurd one
same_by m (Segment addr len) (x ∷ xs) [] parts also one other = absurd other
same_by m (Segment addr len) (x ∷ xs) (y ∷ ys) parts also (at, (front, last, rest, is, link, all, behind)) (at', (front', last', rest', is', link', all', behind')) =
    let segment : x ≡ y = same_segment m addr len x y at at' in
    let joined : map descriptor_of_part front ++ last ∷ [] ≡ map descriptor_of_part front' ++ last' ∷ [] = sym is ∙ segment ∙ is' in
    let fronts : front ≡ front' = same_front front front' last last' link link' joined in
    let lasts : last ≡ last' = same_last front front' last last' fronts joined in
    let rests : rest ≡ rest' = same_by m last xs ys rest rest' behind (subst (λ (d : Descriptor). SpellsBy m d ys rest') (sym lasts) behind') in
    all ∙ (rw (fronts, rests) refl) ∙ sym all'

-- at most one list of parts
pub one_list : (m : Memory) (d : Descriptor) (parts also : List Part) → Spells m d parts → Spells m d also → parts ≡ also
one_list m d parts also (segments, few, by) (others, few', by') = same_by m d segments others parts also by by'

-- What is spelled over a memory is spelled over every memory that has the same bytes, and more.

record Joined (byte : Option ℕ) (bytes : Option (List ℕ)) (all : List ℕ) : Type 0 where
  first : ℕ
  rest : List ℕ
  first_is : byte ≡ Some first
  rest_is : bytes ≡ Some rest
  all_is : all ≡ first ∷ rest

joined_of : (byte : Option ℕ) (bytes : Option (List ℕ)) (all : List ℕ) → joined byte bytes ≡ Some all → Joined byte bytes all
joined_of (Some b) (Some bs) all e = record { first = b; rest = bs; first_is = refl; rest_is = refl; all_is = cc }
joined_of (Some b) None all e = cc
joined_of None bytes all e = cc

join_there : (byte : Option ℕ) (bytes : Option (List ℕ)) (first : ℕ) (rest : List ℕ) (all : List ℕ) → byte ≡ Some first → bytes ≡ Some rest → all ≡ first ∷ rest →
    joined byte bytes ≡ Some all
join_there byte bytes first rest all first_is rest_is all_is = rw (first_is, rest_is, all_is) refl

bytes_there : (m larger : Memory) → HasBytesOf larger m → (n place : ℕ) (bytes : List ℕ) → bytes_at m place n ≡ Some bytes → bytes_at larger place n ≡ Some bytes
unfolding bytes_at
bytes_there m larger has zero place bytes e = e
bytes_there m larger has (suc n) place bytes e =
    let parts : Joined (m place) (bytes_at m (place + 1) n) bytes = joined_of (m place) (bytes_at m (place + 1) n) bytes e in
    join_there (larger place) (bytes_at larger (place + 1) n) parts.first parts.rest bytes (has place parts.first parts.first_is) (bytes_there m larger has n (place + 1) parts.rest parts.rest_is) parts.all_is

stand_there : (m larger : Memory) → HasBytesOf larger m → (place : ℕ) (descriptors : List Descriptor) → Stand m place descriptors → Stand larger place descriptors
stand_there m larger has place [] stand = tt
stand_there m larger has place (d ∷ descriptors) ((bytes, there, is), rest) =
    ((bytes, bytes_there m larger has 16 place bytes there, is), stand_there m larger has (place + 16) descriptors rest)

segment_there : (m larger : Memory) → HasBytesOf larger m → (addr len : ℕ) (descriptors : List Descriptor) → IsSegment m addr len descriptors → IsSegment larger addr len descriptors
segment_there m larger has addr len descriptors (aligned, some, whole, stand) = (aligned, some, whole, stand_there m larger has addr descriptors stand)

by_there : (m larger : Memory) → HasBytesOf larger m → (d : Descriptor) (segments : List (List Descriptor)) (parts : List Part) → SpellsBy m d segments parts → SpellsBy larger d segments parts
by_there m larger has (DataBlock addr len) [] parts by = by
by_there m larger has (DataBlock addr len) (x ∷ xs) parts by = absurd by
by_there m larger has (BitBucket len) [] parts by = by
by_there m larger has (BitBucket len) (x ∷ xs) parts by = absurd by
by_there m larger has (LastSegment addr len) [] parts by = absurd by
by_there m larger has (LastSegment addr len) (x ∷ []) parts (segment, is) = (segment_there m larger has addr len x segment, is)
by_there m larger has (LastSegment addr len) (x ∷ y ∷ xs) parts by = absurd by
by_there m larger has (Segment addr len) [] parts by = absurd by
by_there m larger has (Segment addr len) (x ∷ xs) parts (segment, (front, last, rest, is, link, all, behind)) =
    (segment_there m larger has addr len x segment, (front, last, rest, is, link, all, by_there m larger has last xs rest behind))

pub spells_there : (m larger : Memory) → HasBytesOf larger m → (d : Descriptor) (parts : List Part) → Spells m d parts → Spells larger d parts
spells_there m larger has d parts (segments, few, by) = (segments, few, by_there m larger has d segments parts by)

-- The worked list.

front_segment : IsSegment (byte_at linked_pages) 4096 32 (DataBlock 0x4000 512 ∷ LastSegment 8192 16 ∷ [])
unfolding bytes_at
front_segment = (refl, lit< tt, refl, ((data_bytes, refl, (refl, refl, refl)), ((link_bytes, refl, (refl, refl, refl)), tt)))

last_segment : IsSegment (byte_at linked_pages) 8192 16 (BitBucket 512 ∷ [])
unfolding bytes_at
last_segment = (refl, lit< tt, refl, ((bucket_bytes, refl, (refl, refl)), tt))

pub list_spelled : Spells (byte_at linked_pages) (Segment 4096 32) (Data 0x4000 512 ∷ Bucket 512 ∷ [])
list_spelled = (
  (DataBlock 0x4000 512 ∷ LastSegment 8192 16 ∷ []) ∷ (BitBucket 512 ∷ []) ∷ [],
  lit≤ tt,
  (front_segment, (Data 0x4000 512 ∷ [], LastSegment 8192 16, Bucket 512 ∷ [], refl, refl, refl, (last_segment, refl))),
)

-- the descriptors of parts have no link among them
no_link : (parts : List Part) → DataBlock 0x4000 512 ∷ LastSegment 8192 16 ∷ [] ≡ map descriptor_of_part parts → ⊥
no_link parts e =
    let found : Data 0x4000 512 ∷ [] ≡ parts = ap (filter_map part_of) e ∙ parts_found parts in
    let lengths : 2 ≡ length (map descriptor_of_part (Data 0x4000 512 ∷ [])) = ap length e ∙ ap (λ (x : List Part). length (map descriptor_of_part x)) (sym found) in
    cc

refused_by : (segments : List (List Descriptor)) (parts : List Part) → SpellsBy (byte_at linked_pages) (LastSegment 4096 32) segments parts → ⊥
refused_by [] parts by = by
refused_by (x ∷ y ∷ segments) parts by = by
refused_by (descriptors ∷ []) parts (segment, is) =
    no_link parts (same_segment (byte_at linked_pages) 4096 32 (DataBlock 0x4000 512 ∷ LastSegment 8192 16 ∷ []) descriptors front_segment segment ∙ is)

pub list_refused : (parts : List Part) → Spells (byte_at linked_pages) (LastSegment 4096 32) parts → ⊥
list_refused parts (segments, few, by) = refused_by segments parts by
