-- Worked walks over a store of 8 pages, beside those of controller_walk.
use Rattle.std.specs.Prelude.{ℕ, slice_set, Some, None, List, [], ◌∷◌, replicate, take, drop}
use Rattle.machine_model.specs.Memory.{memory_of}
use Rattle.controller_walk.specs.{Units.{Stays, Course, Closes, Does, course_of_list, touched, after_read, entry_cursor, rest_of}, Walks.answer}
use Rattle.controller_walk.specs.declared.walk.WalkState.{WalkState, TheVariants.{More, End, Fault}}
use Rattle.sgl_descriptor.specs.{Spelling.{spelling, descriptor_of}, declared.Descriptor.{Descriptor, TheVariants.{DataBlock, BitBucket, Segment, LastSegment}}}
use Rattle.sgl_descriptor.specs.declared.Direction.TheVariants.{Destination, Source}
use Rattle.page_memory.specs.Pages.{Pages, zero_page, with_page_bytes}
use Rattle.entry_codec.specs.declared.status.TheConstants.Status.{DATA_SGL_LENGTH_INVALID, DATA_TRANSFER_ERROR, INVALID_SGL_COUNT, INVALID_SGL_SEGMENT}

abbrev pub store : Pages
store = replicate 8 (Some zero_page)

-- two descriptors at 1000h
abbrev pub two_at : Descriptor → Descriptor → Pages
two_at d e = with_page_bytes (with_page_bytes store 1 0 (spelling d)) 1 16 (spelling e)

-- what each step answers, and the pages that it touches
abbrev pub outcomes : Course → List (WalkState × List ℕ)
outcomes (Closes v) = []
outcomes (Does a rest) = (answer rest, touched a) ∷ outcomes rest

abbrev pub walk_of : Pages → List ℕ → ℕ → List (WalkState × List ℕ)
walk_of m sgl1 need = outcomes (course_of_list (memory_of m) sgl1 Destination need)

-- the same where a list has this many descriptors after the first
abbrev pub short_walk_of : ℕ → Pages → List ℕ → ℕ → List (WalkState × List ℕ)
short_walk_of more m sgl1 need =
    outcomes (Does Stays (after_read (memory_of m) Destination need entry_cursor need (rest_of more (memory_of m) Destination need) (descriptor_of sgl1)))

-- a segment that names itself, here with 50 descriptors for 4,096
abbrev pub circle : List (WalkState × List ℕ)
circle = drop 48 (short_walk_of 49 (with_page_bytes store 1 0 (spelling (Segment 4096 16))) (spelling (Segment 4096 16)) 512)

abbrev pub circle_said : List (WalkState × List ℕ)
circle_said = (More, 1 ∷ []) ∷ (More, 1 ∷ []) ∷ (Fault INVALID_SGL_COUNT, []) ∷ []

-- a descriptor in two pages; a zero-length block beyond the pool; a bucket of a source
abbrev pub straddling : Pages
straddling = with_page_bytes (with_page_bytes store 1 4088 (take 8 (spelling (DataBlock 8192 512)))) 2 0 (drop 8 (spelling (DataBlock 8192 512)))

abbrev pub straddling_descriptor : List (WalkState × List ℕ)
straddling_descriptor = walk_of straddling (spelling (LastSegment 8184 16)) 512

abbrev pub straddling_descriptor_said : List (WalkState × List ℕ)
straddling_descriptor_said = (More, []) ∷ (More, 1 ∷ 2 ∷ []) ∷ (End, 2 ∷ []) ∷ []

abbrev pub empty_block_and_bucket : List (WalkState × List ℕ)
empty_block_and_bucket = outcomes (course_of_list (memory_of (two_at (DataBlock 99999 0) (BitBucket 7))) (spelling (LastSegment 4096 32)) Source 512)

abbrev pub empty_block_and_bucket_said : List (WalkState × List ℕ)
empty_block_and_bucket_said = (More, []) ∷ (More, 1 ∷ []) ∷ (Fault DATA_SGL_LENGTH_INVALID, 1 ∷ []) ∷ []

-- the order of the faults: some lists meet two of them
abbrev pub store_at : Descriptor → Pages
store_at d = with_page_bytes store 1 0 (spelling d)

abbrev pub pool_without_2 : Pages → Pages
pool_without_2 m = slice_set m 2 None

abbrev pub orders : List (List (WalkState × List ℕ))
orders =
    -- d before e and f: a bad link in the first position of a last segment
    walk_of (two_at (Segment 3 7) (DataBlock 8192 512)) (spelling (LastSegment 4096 32)) 512
    -- e before f: a bad link in the first position of a linked segment
    ∷ walk_of (two_at (Segment 3 7) (Segment 8192 16)) (spelling (Segment 4096 32)) 512
    -- f alone: length zero, and an address that is no multiple of 8
    ∷ walk_of store (spelling (Segment 4096 0)) 512
    ∷ walk_of store (spelling (LastSegment 4100 16)) 512
    -- g, whatever the length: a block longer than what is wanted in the last position of a linked segment
    ∷ walk_of (store_at (DataBlock 8192 9999)) (spelling (Segment 4096 16)) 512
    -- i before j, by the whole length: a block that ends above 2^64 after what is wanted
    ∷ walk_of store (spelling (DataBlock 18446744073709551104 513)) 512
    -- i: a link that ends above 2^64, and one that ends there and is unreadable
    ∷ walk_of store (spelling (LastSegment 18446744073709551608 16)) 512
    ∷ walk_of store (spelling (LastSegment 18446744073709551600 16)) 512
    -- j: the first of two pages is moved
    ∷ walk_of (pool_without_2 store) (spelling (DataBlock 8000 512)) 512
    -- b: half of a descriptor is unreadable, and no page of it is named
    ∷ walk_of (pool_without_2 straddling) (spelling (LastSegment 8184 16)) 512
    -- a bucket of a read counts, as far as it is wanted
    ∷ walk_of store (spelling (BitBucket 512)) 512
    ∷ walk_of store (spelling (BitBucket 513)) 512
    -- a zero-length block before the wanted bytes, and one after them
    ∷ walk_of (two_at (DataBlock 3 0) (DataBlock 8192 512)) (spelling (LastSegment 4096 32)) 512
    ∷ walk_of (two_at (DataBlock 8192 512) (DataBlock 3 0)) (spelling (LastSegment 4096 32)) 512
    ∷ []

abbrev pub orders_said : List (List (WalkState × List ℕ))
orders_said =
    ((More, []) ∷ (Fault INVALID_SGL_SEGMENT, 1 ∷ []) ∷ [])
    ∷ ((More, []) ∷ (Fault INVALID_SGL_COUNT, 1 ∷ []) ∷ [])
    ∷ ((Fault INVALID_SGL_SEGMENT, []) ∷ [])
    ∷ ((Fault INVALID_SGL_SEGMENT, []) ∷ [])
    ∷ ((More, []) ∷ (Fault INVALID_SGL_SEGMENT, 1 ∷ []) ∷ [])
    ∷ ((Fault DATA_SGL_LENGTH_INVALID, []) ∷ [])
    ∷ ((Fault DATA_SGL_LENGTH_INVALID, []) ∷ [])
    ∷ ((More, []) ∷ (Fault DATA_TRANSFER_ERROR, []) ∷ [])
    ∷ ((More, []) ∷ (More, 1 ∷ []) ∷ (Fault DATA_TRANSFER_ERROR, []) ∷ [])
    ∷ ((More, []) ∷ (Fault DATA_TRANSFER_ERROR, []) ∷ [])
    ∷ ((End, []) ∷ [])
    ∷ ((End, []) ∷ [])
    ∷ ((More, []) ∷ (More, 1 ∷ []) ∷ (More, 1 ∷ []) ∷ (End, 2 ∷ []) ∷ [])
    ∷ ((More, []) ∷ (More, 1 ∷ []) ∷ (End, 2 ∷ []) ∷ [])
    ∷ []

-- lists that are longer than their data: the first part of a block of 513 in one page, and of one of 9,999 in two; after the wanted bytes a bucket, a link
-- that would be a fault, and a descriptor on a page that is out
abbrev pub longer : List (List (WalkState × List ℕ))
longer =
    walk_of store (spelling (DataBlock 8192 513)) 512
    ∷ walk_of store (spelling (DataBlock 8000 9999)) 512
    ∷ walk_of (two_at (DataBlock 8192 600) (BitBucket 512)) (spelling (LastSegment 4096 32)) 512
    ∷ walk_of (two_at (BitBucket 600) (Segment 3 7)) (spelling (LastSegment 4096 32)) 512
    ∷ walk_of (pool_without_2 (with_page_bytes store 1 4080 (spelling (DataBlock 0 512)))) (spelling (LastSegment 8176 32)) 512
    ∷ []

abbrev pub longer_said : List (List (WalkState × List ℕ))
longer_said =
    ((More, []) ∷ (End, 2 ∷ []) ∷ [])
    ∷ ((More, []) ∷ (More, 1 ∷ []) ∷ (End, 2 ∷ []) ∷ [])
    ∷ ((More, []) ∷ (More, 1 ∷ []) ∷ (End, 2 ∷ []) ∷ [])
    ∷ ((More, []) ∷ (End, 1 ∷ []) ∷ [])
    ∷ ((More, []) ∷ (More, 1 ∷ []) ∷ (End, 0 ∷ []) ∷ [])
    ∷ []

-- a before b: the descriptor after the last that may be taken isn't read
abbrev pub too_many : List (WalkState × List ℕ)
too_many = short_walk_of 0 store (spelling (LastSegment 65536 16)) 512

abbrev pub too_many_said : List (WalkState × List ℕ)
too_many_said = (More, []) ∷ (Fault INVALID_SGL_COUNT, []) ∷ []
