-- What is left of a walk, where its definition is stuck; what it reads and moves.
use Rattle.std.proofs.Common.{arith, ◌≡◌, ◌≢◌, ◌≤◌, ◌<◌, ◌+◌, ◌-◌, min, nat_eq, ℕ, zero, suc, List, Option, Some, None, refl, cond, is_some, Bool, true, false, ◌++◌, Result, Ok, Err, OnOk, ap, subst, take, drop, length, slice_range, inl, inr}
use Rattle.std.proofs.lemmas.{Bool.{cases_Bool, Decides.nat_tests}, Grind.common_steps}
use Rattle.entry_codec.specs.declared.status.{Status.Status, TheConstants.Status.{DATA_TRANSFER_ERROR, INVALID_SGL_COUNT}}
use Rattle.page_memory.specs.Memory.{Memory, bytes_at, written}
use Rattle.sgl_descriptor.specs.{Spelling.descriptor_of, declared.Descriptor.{Descriptor, TheVariants.{DataBlock}}}
use Rattle.sgl_descriptor.specs.declared.Direction.{Direction, TheVariants.{Destination, Source}}
use Rattle.controller_walk.specs.{Faults.next_in, Laws.reads_in, Progress.IsStateOf}
use Rattle.controller_walk.specs.Units.{Stays, Reads, Moves, Course, Closes, Does, after_read, read_at, from_place, rest_of, behind, moving, first_part, pages_spanned, goes_on, unless_fault, first_fault, entry_cursor, units, units_of_list}
use Rattle.controller_walk.specs.{Walks.{answer, course_in, Moved}, declared.{cause.WalkFault.WalkFault, cursor.Cursor.Cursor, progress.Block.Block}}
use Rattle.controller_walk.specs.declared.progress.{Progress.Progress, State.{State, TheVariants.{First, Next, Data, Over}}}
use Rattle.controller_walk.specs.declared.walk.WalkState.TheVariants.{More, Fault, End}

-- What is left of a walk, at each point where its definition is stuck.

more_found : (m : Memory) (dir : Direction) (need : ℕ) (c : Cursor) (wanted : ℕ) (later : Option Cursor → ℕ → Course) (found : Option (List ℕ)) →
    answer (read_at m dir need c wanted later found) ≡ More
more_found m dir need c wanted later None = refl
more_found m dir need c wanted later (Some bytes) = refl

-- where a descriptor is next, there is a step
pub more_at : (k : ℕ) (m : Memory) (dir : Direction) (need : ℕ) (c : Cursor) (wanted : ℕ) → answer (from_place k m dir need c wanted) ≡ More
unfolding from_place
more_at zero m dir need c wanted = refl
more_at (suc k) m dir need c wanted = more_found m dir need c wanted (behind (from_place k m dir need)) (bytes_at m c.place 16)

-- where bytes are wanted, the descriptor is next
pub still_wants : (wanted : ℕ) → wanted ≢ 0 → nat_eq wanted 0 ≡ false
still_wants wanted some = grind (arith, nat_tests)

-- after the wanted prefix of a block, just as many bytes are wanted as after the whole
pub behind_front : (len wanted : ℕ) → wanted - min len wanted ≡ wanted - len
behind_front len wanted = omega arith

-- the first part of a range lies in one of its pages
pub pages_step : (place len : ℕ) → 0 < len → pages_spanned place len ≡ suc (pages_spanned (place + first_part place len) (len - first_part place len))
pages_step place len some = grind (arith, nat_tests)

-- where a range is left, there is a step
pub more_moving : (m : Memory) (place len offset : ℕ) (rest : Course) → 0 < len → answer (moving m (pages_spanned place len) place len offset rest) ≡ More
unfolding moving
more_moving m place len offset rest some =
    rw (pages_step place len some)
    (elim (cases_Bool (is_some (bytes_at m place (first_part place len)))) [ inl there ↦ rw there refl | inr missing ↦ rw missing refl ])

-- nothing is moved for a range of no bytes
pub none_moving : (m : Memory) (place len offset : ℕ) (rest : Course) → len ≡ 0 → moving m (pages_spanned place len) place len offset rest ≡ rest
unfolding moving
none_moving m place len offset rest none = rw none refl

-- the three outcomes where a descriptor is next
pub from_none : (k : ℕ) (m : Memory) (dir : Direction) (need : ℕ) (c : Cursor) (wanted : ℕ) → k ≡ 0 →
    from_place k m dir need c wanted ≡ Does Stays (Closes (Fault INVALID_SGL_COUNT))
unfolding from_place
from_none k m dir need c wanted none = rw none refl

pub from_missing : (k : ℕ) (m : Memory) (dir : Direction) (need : ℕ) (c : Cursor) (wanted : ℕ) → 0 < k → bytes_at m c.place 16 ≡ None →
    from_place k m dir need c wanted ≡ Does Stays (Closes (Fault DATA_TRANSFER_ERROR))
unfolding from_place
from_missing zero m dir need c wanted some missing = absurd (omega arith)
from_missing (suc k) m dir need c wanted some missing = rw missing refl

pub from_read : (k : ℕ) (m : Memory) (dir : Direction) (need : ℕ) (c : Cursor) (wanted : ℕ) (bytes : List ℕ) → 0 < k → bytes_at m c.place 16 ≡ Some bytes →
    from_place k m dir need c wanted ≡ Does (Reads c.place) (after_read m dir need c wanted (rest_of (k - 1) m dir need) (descriptor_of bytes))
unfolding from_place
from_read zero m dir need c wanted bytes some found = absurd (omega arith)
from_read (suc k) m dir need c wanted bytes some found = let less : suc k - 1 ≡ k = omega arith in rw (found, less) refl

-- the two outcomes of a move
pub moving_found : (m : Memory) (place len offset : ℕ) (rest : Course) (bytes : List ℕ) → 0 < len → bytes_at m place (first_part place len) ≡ Some bytes →
    moving m (pages_spanned place len) place len offset rest
    ≡ Does (Moves place (first_part place len) offset)
    (moving m (pages_spanned (place + first_part place len) (len - first_part place len)) (place + first_part place len) (len - first_part place len) (offset + first_part place len) rest)
unfolding moving
moving_found m place len offset rest bytes some found = rw (pages_step place len some, found) refl

pub moving_missing : (m : Memory) (place len offset : ℕ) (rest : Course) → 0 < len → bytes_at m place (first_part place len) ≡ None →
    moving m (pages_spanned place len) place len offset rest ≡ Does Stays (Closes (Fault DATA_TRANSFER_ERROR))
unfolding moving
moving_missing m place len offset rest some missing = rw (pages_step place len some, missing) refl

pub part_most : (place len : ℕ) → (first_part place len ≤ len) × (first_part place len ≤ 4096)
part_most place len = grind (arith, nat_tests)

-- Which descriptor the next unit of a walk reads.

read_there : (m : Memory) (dir : Direction) (need : ℕ) (c : Cursor) (wanted : ℕ) (later : Option Cursor → ℕ → Course) (found : Option (List ℕ)) (place : ℕ) (rest : Course)
    → read_at m dir need c wanted later found ≡ Does (Reads place) rest → c.place ≡ place
read_there m dir need c wanted later None place rest e = cc
read_there m dir need c wanted later (Some bytes) place rest e = cc

from_reads : (k : ℕ) (m : Memory) (dir : Direction) (need : ℕ) (c : Cursor) (wanted place : ℕ) (rest : Course)
    → from_place k m dir need c wanted ≡ Does (Reads place) rest → c.place ≡ place
unfolding from_place
from_reads zero m dir need c wanted place rest e = cc
from_reads (suc k) m dir need c wanted place rest e = read_there m dir need c wanted (behind (from_place k m dir need)) (bytes_at m c.place 16) place rest e

moving_reads_none : (m : Memory) (n place len offset : ℕ) (rest : Course) (from : ℕ) (left : Course) → moving m (suc n) place len offset rest ≡ Does (Reads from) left → ⊥
unfolding moving
moving_reads_none m n place len offset rest from left e =
    by_presence (is_some (bytes_at m place (first_part place len))) (moving m n (place + first_part place len) (len - first_part place len) (offset + first_part place len) rest) e
  where
    by_presence : (b : Bool) (c : Course) → cond b (Does (Moves place (first_part place len) offset) c) (Does Stays (Closes (Fault DATA_TRANSFER_ERROR))) ≡ Does (Reads from) left → ⊥
    by_presence true c e = cc
    by_presence false c e = cc

-- a walk at a descriptor reads that one, if it reads one
pub next_reads : (m : Memory) (w : Progress) (s : State) (c : Cursor) (place : ℕ) (rest : Course) → s ≡ Next c → course_in m w s ≡ Does (Reads place) rest → c.place ≡ place
next_reads m w (Next d) c place rest is e = let same : d ≡ c = cc in let there : d.place ≡ place = from_reads w.allowed m w.direction w.need d w.wanted place rest e in cc
next_reads m w v c place rest is e = cc

-- a walk that is within a block, or over, reads none
pub others_read_none : (m : Memory) (w : Progress) (s : State) (place : ℕ) (rest : Course)
    → next_in w s ≡ None → IsStateOf w.need w.wanted s → course_in m w s ≡ Does (Reads place) rest → ⊥
others_read_none m w (First sgl1) place rest none is e = cc
others_read_none m w (Next d) place rest none is e = cc
others_read_none m w (Data b a) place rest none is e =
    moving_reads_none m (pages_spanned (b.place + first_part b.place b.len) (b.len - first_part b.place b.len)) b.place b.len b.offset _ place rest (rw (pages_step b.place b.len is.0.0) at e)
others_read_none m w (Over fault) place rest none is e = cc

pub within_takes_none : (w : Progress) (s : State) (block : Block) (after : Option Cursor) → s ≡ Data block after → next_in w s ≡ None
within_takes_none w s block after is = rw is refl

pub over_takes_none : (w : Progress) (s : State) (fault : Option WalkFault) → s ≡ Over fault → next_in w s ≡ None
over_takes_none w s fault is = rw is refl

-- How many descriptors a course reads.

-- what follows reads at most k descriptors
abbrev ReadsFew : ℕ → Course → Type 0
ReadsFew k c = reads_in (units c) ≤ k

abbrev FollowsFew : ℕ → (Option Cursor → ℕ → Course) → Type 0
FollowsFew k later = (a : Option Cursor) (wanted : ℕ) → ReadsFew k (later a wanted)

few_moving : (k : ℕ) (m : Memory) (n place len offset : ℕ) (rest : Course) → ReadsFew k rest → ReadsFew k (moving m n place len offset rest)
unfolding moving
few_moving k m zero place len offset rest h = h
few_moving k m (suc n) place len offset rest h =
    both (is_some (bytes_at m place (first_part place len))) _ (few_moving k m n (place + first_part place len) (len - first_part place len) (offset + first_part place len) rest h)
  where
    both : (b : Bool) (c : Course) → ReadsFew k c → ReadsFew k (cond b (Does (Moves place (first_part place len) offset) c) (Does Stays (Closes (Fault DATA_TRANSFER_ERROR))))
    both true c few = few
    both false c few = omega arith

few_on : (k : ℕ) (m : Memory) (dir : Direction) (need : ℕ) (c : Cursor) (wanted : ℕ) (later : Option Cursor → ℕ → Course) (d : Descriptor) → FollowsFew k later → ReadsFew k (goes_on m dir need c wanted later d)
few_on k m dir need c wanted later (DataBlock addr len) h = few_moving k m (pages_spanned addr (min len wanted)) addr (min len wanted) (need - wanted) _ (h _ _)
few_on k m dir need c wanted later v h = h _ _

few_unless : (k : ℕ) (f : Option Status) (c : Course) → ReadsFew k c → ReadsFew k (unless_fault f c)
few_unless k (Some status) c h = omega arith
few_unless k None c h = h

few_read : (k : ℕ) (m : Memory) (dir : Direction) (need : ℕ) (c : Cursor) (wanted : ℕ) (later : Option Cursor → ℕ → Course) (found : Option Descriptor) → FollowsFew k later → ReadsFew k (after_read m dir need c wanted later found)
few_read k m dir need c wanted later None h = omega arith
few_read k m dir need c wanted later (Some d) h = few_unless k (first_fault c d) _ (few_on k m dir need c wanted later d h)

few_at : (k : ℕ) (m : Memory) (dir : Direction) (need : ℕ) (c : Cursor) (wanted : ℕ) (later : Option Cursor → ℕ → Course) (found : Option (List ℕ)) → FollowsFew k later → ReadsFew (suc k) (read_at m dir need c wanted later found)
few_at k m dir need c wanted later None h = omega arith
few_at k m dir need c wanted later (Some bytes) h =
    let few : ReadsFew k (after_read m dir need c wanted later (descriptor_of bytes)) = few_read k m dir need c wanted later (descriptor_of bytes) h in omega (arith, few)

few_behind : (k : ℕ) (from : Cursor → ℕ → Course) → ((c : Cursor) (wanted : ℕ) → ReadsFew k (from c wanted)) → FollowsFew k (behind from)
few_behind k from h None wanted = omega arith
few_behind k from h (Some c) wanted = either (nat_eq wanted 0)
  where
    either : (b : Bool) → ReadsFew k (cond b (Closes End) (from c wanted))
    either true = omega arith
    either false = h c wanted

few_from : (k : ℕ) (m : Memory) (dir : Direction) (need : ℕ) (c : Cursor) (wanted : ℕ) → ReadsFew k (from_place k m dir need c wanted)
unfolding from_place
few_from zero m dir need c wanted = omega arith
few_from (suc k) m dir need c wanted =
    few_at k m dir need c wanted (behind (from_place k m dir need)) (bytes_at m c.place 16) (few_behind k (from_place k m dir need) (few_from k m dir need))

pub few_in_list : (m : Memory) (sgl1 : List ℕ) (dir : Direction) (need : ℕ) → reads_in (units_of_list m sgl1 dir need) ≤ 4095
few_in_list m sgl1 dir need =
    few_read 4095 m dir need entry_cursor need (behind (from_place 4095 m dir need)) (descriptor_of sgl1)
    (few_behind 4095 (from_place 4095 m dir need) (few_from 4095 m dir need))

-- The bytes of one move.

pub on_ok : {T E : Type 0} (r : Result T E) (P Q : Type 0) → (P → Q) → OnOk r P → OnOk r Q
on_ok (Ok x) P Q f h = f h
on_ok (Err e) P Q f h = h

pub on_ok_both : {T E : Type 0} (r : Result T E) (P Q R : Type 0) → (P → Q → R) → OnOk r P → OnOk r Q → OnOk r R
on_ok_both (Ok x) P Q R f p q = f p q
on_ok_both (Err e) P Q R f p q = p

tail_is : (offset n : ℕ) (bytes : List ℕ) → drop (offset + n - offset) (drop offset bytes) ≡ drop (offset + n) bytes
tail_is offset n bytes = grind (arith, common_steps)

pub read_moved : (place offset n k : ℕ) (m m' : Memory) (bytes new : List ℕ) → m' ≡ m → k ≡ n → bytes_at m place k ≡ Some new →
    Moved Source place n offset m m' bytes (take offset bytes ++ (new ++ drop (offset + n - offset) (drop offset bytes)))
read_moved place offset n k m m' bytes new same len found =
    ((new, subst (λ (x : ℕ). bytes_at m place x ≡ Some new) len found, ap (λ (t : List ℕ). take offset bytes ++ (new ++ t)) (tail_is offset n bytes)), same)

pub length_mid : (offset n : ℕ) (bytes : List ℕ) → offset + n ≤ length bytes → length (take (offset + n - offset) (drop offset bytes)) ≡ n
length_mid offset n bytes within = grind (arith, common_steps)

-- bytes that are not missing
pub found_of : (m : Memory) (place k n : ℕ) → k ≡ n → bytes_at m place k ≢ None → (found : List ℕ) × (bytes_at m place n ≡ Some found)
found_of m place k n same there = by_bytes (bytes_at m place n) refl
  where
    by_bytes : (o : Option (List ℕ)) → bytes_at m place n ≡ o → (found : List ℕ) × (bytes_at m place n ≡ Some found)
    by_bytes None e = absurd (there (rw same e))
    by_bytes (Some found) e = (found, e)

pub wrote_moved : (place offset n k : ℕ) (m m' : Memory) (bytes : List ℕ) → k ≡ n → bytes_at m place k ≢ None →
    m' ≡ written m place (slice_range bytes offset (offset + n)) → Moved Destination place n offset m m' bytes bytes
wrote_moved place offset n k m m' bytes same there wrote =
    let found : (found : List ℕ) × (bytes_at m place n ≡ Some found) = found_of m place k n same there in
    ((found.0, found.1, wrote), refl)
