-- Memories that agree on the descriptors that are read give one course.
use Rattle.std.proofs.Common.{arith, ◌≡◌, ◌<◌, ◌+◌, ◌-◌, ◌&&◌, ℕ, zero, suc, Bool, true, false, List, Option, Some, None, refl, sym, ap, subst, ◌∙◌, cond, is_some, add-zero, min, nat_eq}
use Rattle.entry_codec.specs.declared.status.{Status.Status, TheConstants.Status.DATA_TRANSFER_ERROR}
use Rattle.page_memory.specs.Memory.{Memory, bytes_at, joined}
use Rattle.sgl_descriptor.specs.{Spelling.descriptor_of, declared.Descriptor.{Descriptor, TheVariants.{DataBlock}}}
use Rattle.sgl_descriptor.specs.declared.Direction.{Direction}
use Rattle.controller_walk.specs.{Laws.{Agree, ReadsWithin, SameCourse}, Serving.{Serves, SameWhereServed, SameListWhereServed}}
use Rattle.controller_walk.specs.Units.{Stays, Reads, Moves, Course, Closes, Does, after_read, read_at, from_place, behind, goes_on, unless_fault, first_fault, moving, first_part, pages_spanned, entry_cursor}
use Rattle.controller_walk.specs.{Walks.{course, course_in}, declared.{cursor.Cursor.Cursor, progress.{Progress.Progress, State.State}}}
use Rattle.controller_walk.specs.declared.{progress.State.TheVariants.{First, Next, Data, Over}, walk.WalkState.TheVariants.{End, Fault}}

-- Memories that agree on the descriptors read give one course.

some_joined : (a : Option ℕ) (b : Option (List ℕ)) → is_some (joined a b) ≡ (is_some a && is_some b)
some_joined (Some x) (Some xs) = refl
some_joined (Some x) None = refl
some_joined None (Some xs) = refl
some_joined None None = refl

bytes_same : (m m' : Memory) (place n : ℕ) → ((k : ℕ) → k < n → m (place + k) ≡ m' (place + k)) → bytes_at m place n ≡ bytes_at m' place n
unfolding bytes_at
bytes_same m m' place zero h = refl
bytes_same m m' place (suc n) h =
    let first : m place ≡ m' place = subst (λ (q : ℕ). m q ≡ m' q) (add-zero place) (h 0 (omega arith)) in
    let rest : bytes_at m (place + 1) n ≡ bytes_at m' (place + 1) n = bytes_same m m' (place + 1) n (λ k lt. subst (λ (q : ℕ). m q ≡ m' q) (one_more place k) (h (suc k) (omega arith))) in
    rw (first, rest) refl
  where
    one_more : (place k : ℕ) → place + suc k ≡ place + 1 + k
    one_more place k = omega arith

there_same : (m m' : Memory) (place n : ℕ) → ((q : ℕ) → is_some (m q) ≡ is_some (m' q)) → is_some (bytes_at m place n) ≡ is_some (bytes_at m' place n)
unfolding bytes_at
there_same m m' place zero h = refl
there_same m m' place (suc n) h =
    some_joined (m place) (bytes_at m (place + 1) n) ∙ (rw (h place, there_same m m' (place + 1) n h) refl) ∙ sym (some_joined (m' place) (bytes_at m' (place + 1) n))

-- moves, where what follows is the same
moving_same : (at : ℕ → Bool) (m m' : Memory) (n place len offset : ℕ) (rest rest' : Course) → ((q : ℕ) → is_some (m q) ≡ is_some (m' q)) →
    (ReadsWithin at rest → rest ≡ rest') → ReadsWithin at (moving m n place len offset rest) → moving m n place len offset rest ≡ moving m' n place len offset rest'
unfolding moving
moving_same at m m' zero place len offset rest rest' there h look = h look
moving_same at m m' (suc n) place len offset rest rest' there h look =
    rw (← there_same m m' place (first_part place len) there)
    (both (is_some (bytes_at m place (first_part place len))) _ _ (λ l. moving_same at m m' n (place + first_part place len) (len - first_part place len) (offset + first_part place len) rest rest' there h l) look)
  where
    both : (b : Bool) (x y : Course) → (ReadsWithin at x → x ≡ y) → ReadsWithin at (cond b (Does (Moves place (first_part place len) offset) x) (Does Stays (Closes (Fault DATA_TRANSFER_ERROR)))) →
        cond b (Does (Moves place (first_part place len) offset) x) (Does Stays (Closes (Fault DATA_TRANSFER_ERROR))) ≡ cond b (Does (Moves place (first_part place len) offset) y) (Does Stays (Closes (Fault DATA_TRANSFER_ERROR)))
    both true x y f l = ap (λ (z : Course). Does (Moves place (first_part place len) offset) z) (f l)
    both false x y f l = refl

goes_same : (at : ℕ → Bool) (m m' : Memory) (dir : Direction) (need : ℕ) (c : Cursor) (wanted : ℕ) (later later' : Option Cursor → ℕ → Course) (d : Descriptor) → ((q : ℕ) → is_some (m q) ≡ is_some (m' q)) →
    ((a : Option Cursor) (w : ℕ) → ReadsWithin at (later a w) → later a w ≡ later' a w) → ReadsWithin at (goes_on m dir need c wanted later d) → goes_on m dir need c wanted later d ≡ goes_on m' dir need c wanted later' d
goes_same at m m' dir need c wanted later later' (DataBlock addr len) there h look = moving_same at m m' (pages_spanned addr (min len wanted)) addr (min len wanted) (need - wanted) _ _ there (h _ _) look
goes_same at m m' dir need c wanted later later' v there h look = h _ _ look

fault_same : (at : ℕ → Bool) (f : Option Status) (x y : Course) → (ReadsWithin at x → x ≡ y) → ReadsWithin at (unless_fault f x) → unless_fault f x ≡ unless_fault f y
fault_same at (Some s) x y h look = refl
fault_same at None x y h look = h look

read_same : (at : ℕ → Bool) (m m' : Memory) (dir : Direction) (need : ℕ) (c : Cursor) (wanted : ℕ) (later later' : Option Cursor → ℕ → Course) (found : Option Descriptor) → ((q : ℕ) → is_some (m q) ≡ is_some (m' q)) →
    ((a : Option Cursor) (w : ℕ) → ReadsWithin at (later a w) → later a w ≡ later' a w) → ReadsWithin at (after_read m dir need c wanted later found) → after_read m dir need c wanted later found ≡ after_read m' dir need c wanted later' found
read_same at m m' dir need c wanted later later' None there h look = refl
read_same at m m' dir need c wanted later later' (Some d) there h look =
    fault_same at (first_fault c d) _ _ (goes_same at m m' dir need c wanted later later' d there h) look

place_same : (at : ℕ → Bool) (m m' : Memory) (dir : Direction) (need : ℕ) (c : Cursor) (wanted : ℕ) (later later' : Option Cursor → ℕ → Course) (b b' : Option (List ℕ)) → ((q : ℕ) → is_some (m q) ≡ is_some (m' q)) →
    is_some b ≡ is_some b' → (((k : ℕ) → k < 16 → at (c.place + k) ≡ true) → b ≡ b') →
    ((a : Option Cursor) (w : ℕ) → ReadsWithin at (later a w) → later a w ≡ later' a w) → ReadsWithin at (read_at m dir need c wanted later b) → read_at m dir need c wanted later b ≡ read_at m' dir need c wanted later' b'
place_same at m m' dir need c wanted later later' None None there s e h look = refl
place_same at m m' dir need c wanted later later' None (Some y) there s e h look = cc
place_same at m m' dir need c wanted later later' (Some x) b' there s e h look =
    let is : Some x ≡ b' = e look.0 in
    rw (← is) (ap (λ (z : Course). Does (Reads c.place) z) (read_same at m m' dir need c wanted later later' (descriptor_of x) there h look.1))

behind_same : (at : ℕ → Bool) (from from' : Cursor → ℕ → Course) → ((c : Cursor) (w : ℕ) → ReadsWithin at (from c w) → from c w ≡ from' c w) → (a : Option Cursor) (w : ℕ) → ReadsWithin at (behind from a w) → behind from a w ≡ behind from' a w
behind_same at from from' h None w look = refl
behind_same at from from' h (Some c) w look = either (nat_eq w 0) look
  where
    either : (b : Bool) → ReadsWithin at (cond b (Closes End) (from c w)) → cond b (Closes End) (from c w) ≡ cond b (Closes End) (from' c w)
    either true l = refl
    either false l = h c w l

-- memories that agree on the descriptors read give one course
from_same : (at : ℕ → Bool) (m m' : Memory) → Agree at m m' → (k : ℕ) (dir : Direction) (need : ℕ) (c : Cursor) (wanted : ℕ) → ReadsWithin at (from_place k m dir need c wanted) → from_place k m dir need c wanted ≡ from_place k m' dir need c wanted
unfolding from_place
from_same at m m' agree zero dir need c wanted look = refl
from_same at m m' agree (suc k) dir need c wanted look =
    place_same at m m' dir need c wanted (behind (from_place k m dir need)) (behind (from_place k m' dir need)) (bytes_at m c.place 16) (bytes_at m' c.place 16) agree.there
    (there_same m m' c.place 16 agree.there)
    (λ inside. bytes_same m m' c.place 16 (λ j lt. agree.same (c.place + j) (inside j lt)))
    (behind_same at (from_place k m dir need) (from_place k m' dir need) (from_same at m m' agree k dir need)) look

rest_same : (at : ℕ → Bool) (m m' : Memory) → Agree at m m' → (k : ℕ) (dir : Direction) (need : ℕ) (a : Option Cursor) (wanted : ℕ) → ReadsWithin at (behind (from_place k m dir need) a wanted) → behind (from_place k m dir need) a wanted ≡ behind (from_place k m' dir need) a wanted
rest_same at m m' agree k dir need = behind_same at (from_place k m dir need) (from_place k m' dir need) (from_same at m m' agree k dir need)

pub list_same : (m m' : Memory) → SameCourse m m'
list_same m m' at sgl1 dir need agree look =
    ap (λ (z : Course). Does Stays z)
    (read_same at m m' dir need entry_cursor need (behind (from_place 4095 m dir need)) (behind (from_place 4095 m' dir need)) (descriptor_of sgl1) agree.there
    (rest_same at m m' agree 4095 dir need) look)

state_same : (at : ℕ → Bool) (m m' : Memory) → Agree at m m' → (w : Progress) (s : State) → ReadsWithin at (course_in m w s) → course_in m w s ≡ course_in m' w s
state_same at m m' agree w (First sgl1) look =
    ap (λ (z : Course). Does Stays z)
    (read_same at m m' w.direction w.need entry_cursor w.wanted (behind (from_place w.allowed m w.direction w.need)) (behind (from_place w.allowed m' w.direction w.need)) (descriptor_of sgl1) agree.there
    (rest_same at m m' agree w.allowed w.direction w.need) look)
state_same at m m' agree w (Next c) look = from_same at m m' agree w.allowed w.direction w.need c w.wanted look
state_same at m m' agree w (Data block after) look =
    moving_same at m m' (pages_spanned block.place block.len) block.place block.len block.offset _ _ agree.there (rest_same at m m' agree w.allowed w.direction w.need after w.wanted) look
state_same at m m' agree w (Over fault) look = refl

-- and what is left of a walk is the same in them
pub walk_same : (at : ℕ → Bool) (m m' : Memory) → Agree at m m' → (w : Progress) → ReadsWithin at (course m w) → course m w ≡ course m' w
walk_same at m m' agree w look = state_same at m m' agree w w.state look

-- A memory that serves a course gives it again.

-- what follows in one memory is served, and is the same in the other
abbrev Follows : (m other : Memory) → (later later' : Option Cursor → ℕ → Course) → Type 0
Follows m other later later' = (a : Option Cursor) (w : ℕ) → Serves m other (later a w) → later' a w ≡ later a w

served_moving : (m other : Memory) (n place len offset : ℕ) (rest rest' : Course) → (Serves m other rest → rest' ≡ rest)
    → Serves m other (moving m n place len offset rest) → moving other n place len offset rest' ≡ moving m n place len offset rest
unfolding moving
served_moving m other zero place len offset rest rest' h serves = h serves
served_moving m other (suc n) place len offset rest rest' h serves =
    both (is_some (bytes_at m place (first_part place len))) _ _
    (λ s. served_moving m other n (place + first_part place len) (len - first_part place len) (offset + first_part place len) rest rest' h s) serves
  where
    both : (b : Bool) (x y : Course) → (Serves m other x → y ≡ x)
        → Serves m other (cond b (Does (Moves place (first_part place len) offset) x) (Does Stays (Closes (Fault DATA_TRANSFER_ERROR))))
        → cond (is_some (bytes_at other place (first_part place len))) (Does (Moves place (first_part place len) offset) y) (Does Stays (Closes (Fault DATA_TRANSFER_ERROR)))
        ≡ cond b (Does (Moves place (first_part place len) offset) x) (Does Stays (Closes (Fault DATA_TRANSFER_ERROR)))
    both true x y f s = rw s.0 (ap (λ (z : Course). Does (Moves place (first_part place len) offset) z) (f s.1))
    both false x y f s = absurd (s refl)

served_on : (m other : Memory) (dir : Direction) (need : ℕ) (c : Cursor) (wanted : ℕ) (later later' : Option Cursor → ℕ → Course) (d : Descriptor)
    → Follows m other later later' → Serves m other (goes_on m dir need c wanted later d) → goes_on other dir need c wanted later' d ≡ goes_on m dir need c wanted later d
served_on m other dir need c wanted later later' (DataBlock addr len) h serves = served_moving m other (pages_spanned addr (min len wanted)) addr (min len wanted) (need - wanted) _ _ (h _ _) serves
served_on m other dir need c wanted later later' v h serves = h _ _ serves

served_unless : (m other : Memory) (f : Option Status) (x y : Course) → (Serves m other x → y ≡ x) → Serves m other (unless_fault f x) → unless_fault f y ≡ unless_fault f x
served_unless m other (Some s) x y h serves = refl
served_unless m other None x y h serves = h serves

served_read : (m other : Memory) (dir : Direction) (need : ℕ) (c : Cursor) (wanted : ℕ) (later later' : Option Cursor → ℕ → Course) (found : Option Descriptor)
    → Follows m other later later' → Serves m other (after_read m dir need c wanted later found) → after_read other dir need c wanted later' found ≡ after_read m dir need c wanted later found
served_read m other dir need c wanted later later' None h serves = refl
served_read m other dir need c wanted later later' (Some d) h serves =
    served_unless m other (first_fault c d) _ _ (served_on m other dir need c wanted later later' d h) serves

served_at : (m other : Memory) (dir : Direction) (need : ℕ) (c : Cursor) (wanted : ℕ) (later later' : Option Cursor → ℕ → Course) (b : Option (List ℕ)) → bytes_at m c.place 16 ≡ b
    → Follows m other later later' → Serves m other (read_at m dir need c wanted later b)
    → read_at other dir need c wanted later' (bytes_at other c.place 16) ≡ read_at m dir need c wanted later b
served_at m other dir need c wanted later later' None e h serves = absurd (serves refl)
served_at m other dir need c wanted later later' (Some bytes) e h serves =
    rw (serves.0, e) (ap (λ (z : Course). Does (Reads c.place) z) (served_read m other dir need c wanted later later' (descriptor_of bytes) h serves.1))

served_behind : (m other : Memory) (from from' : Cursor → ℕ → Course) → ((c : Cursor) (w : ℕ) → Serves m other (from c w) → from' c w ≡ from c w) → Follows m other (behind from) (behind from')
served_behind m other from from' h None w serves = refl
served_behind m other from from' h (Some c) w serves = either (nat_eq w 0) serves
  where
    either : (b : Bool) → Serves m other (cond b (Closes End) (from c w)) → cond b (Closes End) (from' c w) ≡ cond b (Closes End) (from c w)
    either true s = refl
    either false s = h c w s

served_from : (m other : Memory) (k : ℕ) (dir : Direction) (need : ℕ) (c : Cursor) (wanted : ℕ)
    → Serves m other (from_place k m dir need c wanted) → from_place k other dir need c wanted ≡ from_place k m dir need c wanted
unfolding from_place
served_from m other zero dir need c wanted serves = refl
served_from m other (suc k) dir need c wanted serves =
    served_at m other dir need c wanted (behind (from_place k m dir need)) (behind (from_place k other dir need)) (bytes_at m c.place 16) refl
    (served_behind m other (from_place k m dir need) (from_place k other dir need) (served_from m other k dir need)) serves

served_rest : (m other : Memory) (k : ℕ) (dir : Direction) (need : ℕ) → Follows m other (behind (from_place k m dir need)) (behind (from_place k other dir need))
served_rest m other k dir need = served_behind m other (from_place k m dir need) (from_place k other dir need) (served_from m other k dir need)

pub list_served : (m other : Memory) → SameListWhereServed m other
list_served m other sgl1 dir need serves =
    ap (λ (z : Course). Does Stays z)
    (served_read m other dir need entry_cursor need (behind (from_place 4095 m dir need)) (behind (from_place 4095 other dir need)) (descriptor_of sgl1) (served_rest m other 4095 dir need) serves)

state_served : (m other : Memory) (w : Progress) (s : State) → Serves m other (course_in m w s) → course_in other w s ≡ course_in m w s
state_served m other w (First sgl1) serves =
    ap (λ (z : Course). Does Stays z)
    (served_read m other w.direction w.need entry_cursor w.wanted (behind (from_place w.allowed m w.direction w.need)) (behind (from_place w.allowed other w.direction w.need)) (descriptor_of sgl1)
    (served_rest m other w.allowed w.direction w.need) serves)
state_served m other w (Next c) serves = served_from m other w.allowed w.direction w.need c w.wanted serves
state_served m other w (Data block after) serves =
    served_moving m other (pages_spanned block.place block.len) block.place block.len block.offset _ _ (served_rest m other w.allowed w.direction w.need after w.wanted) serves
state_served m other w (Over fault) serves = refl

pub walk_served : (m other : Memory) → SameWhereServed m other
walk_served m other w serves = state_served m other w w.state serves
