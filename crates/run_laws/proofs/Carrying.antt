-- What a run carries from step to step: gathered bytes, what is received, and in which order.
use Rattle.sgl_descriptor.specs.declared.Part.TheVariants as part
use Rattle.std.proofs.Common.{◌≡◌, ◌⊎◌, inl, inr, ℕ, zero, suc, ◌+◌, ◌-◌, ◌%◌, ◌<◌, ◌≤◌, nat_lt, Bool, true, false, Option, Some, List, [], ◌∷◌, ◌++◌, length, take, drop, slice_get, refl, ap, sym, ◌∙◌, arith, subst, add-zero, append_assoc, ◌*◌, map, slice_range, replicate, ◌/◌, ◌==◌, slice_set, None, min, eq-eqb}
use Rattle.std.proofs.lemmas.{Bool.{or_parts, eqb-false, cases_Bool, or_left, or_right, Decides.nat_tests}, Grind.common_steps, List.Concat.flat_map-cons}
use Rattle.std.{proofs.lemmas.Option.slice_get_within, specs.{List.{AllByRecursion, list_any, range_with_len}, Option.{option_map_or, option_and_then}}}
use Rattle.page_ledger.specs.Owners.{is_among}
use Rattle.page_memory.{proofs.Bytes.byte_in, specs.{Memory.{Memory, page_of, bytes_at}, Pages.{Pages, page_at, byte_at, with_bytes, with_page_bytes}}}
use Rattle.sgl_descriptor.{proofs.Counts.targets-append, specs.{Spelling.descriptor_of, Targets.{Target, Place, targets, Discarded, targets_of_part, counted}}}
use Rattle.sgl_descriptor.specs.declared.{Descriptor.{Descriptor, TheVariants.{DataBlock, BitBucket}}, Direction.Direction}
use Rattle.sgl_descriptor.specs.declared.{Direction.TheVariants.{Destination, Source}, Part.Part}
use Rattle.controller_walk.{proofs.{Along.more_parts, Courses.part_most}, specs.Along.{MovesAlong, MovesByte, taken, parts_taken, descriptor_at}}
use Rattle.controller_walk.specs.Units.{Act, Stays, Reads, Moves, Course, Closes, Does, units, after_read, read_at, from_place, behind, goes_on, unless_fault, first_fault, moving, first_part, pages_spanned, entry_cursor, next, course_of_list}
use Rattle.controller_walk.specs.declared.{cursor.Cursor.Cursor}
use Rattle.machine_model.{proofs.Counting.{times-cons, held_once}, specs.{After.page_bytes, Image.undiscarded, Reached.{on_pages, CourseIn}, Step.times}}
use Rattle.machine_model.specs.Weights.{one}
use Rattle.io_commands.specs.{DataBytes.{PagesOut, gathered}, Requests.{parts_of, crosses_page}, Values.numbers_of, declared.request.Piece.Piece}
use Rattle.io_commands.specs.declared.request.Piece.TheVariants.{Data, Bucket}
use Rattle.run_laws.specs.Blocks.{partly}
use Rattle.two_sides.proofs.{Served.{not_crossing, in_page}, Untouched.bytes_elsewhere}
use Rattle.entry_codec.specs.declared.status.{Status.Status}
use Rattle.page_memory.proofs.Lists.{some_is}

-- What the units of a course carry from memory to a source command's bytes: at its end the bytes of its data pages.

-- one unit, and units one after the other
abbrev pub did : Pages → Act → List ℕ → List ℕ
did m Stays bytes = bytes
did m (Reads place) bytes = bytes
did m (Moves place n offset) bytes = with_bytes bytes offset (page_bytes m place n)

abbrev pub carried : Pages → List Act → List ℕ → List ℕ
carried m [] bytes = bytes
carried m (act ∷ acts) bytes = carried m acts (did m act bytes)

pub carried_more : (m : Pages) (us : List Act) (t : ℕ) (act : Act) (bytes : List ℕ) → slice_get us t ≡ Some act → carried m (take (t + 1) us) bytes ≡ did m act (carried m (take t us) bytes)
carried_more m [] t act bytes e = absurd cc
carried_more m (u ∷ us) zero act bytes e = let same : u ≡ act = cc in ap (λ (x : Act). did m x bytes) same
carried_more m (u ∷ us) (suc t) act bytes e = grind (arith, carried_more m us t act (did m u bytes))

-- Units that move within pages which stay carry the same
pub carried_same : (chain own : List ℕ) (m m' : Pages) → ((p : ℕ) → is_among own p ≡ true → page_at m' p ≡ page_at m p) → (c : Course) (t : ℕ) (bytes : List ℕ)
    → CourseIn (on_pages chain) (on_pages own) c → carried m' (take t (units c)) bytes ≡ carried m (take t (units c)) bytes
carried_same chain own m m' same (Closes v) zero bytes h = refl
carried_same chain own m m' same (Closes v) (suc t) bytes h = refl
carried_same chain own m m' same (Does act rest) zero bytes h = refl
carried_same chain own m m' same (Does Stays rest) (suc t) bytes h = carried_same chain own m m' same rest t bytes h.1
carried_same chain own m m' same (Does (Reads place) rest) (suc t) bytes h = carried_same chain own m m' same rest t bytes h.1
carried_same chain own m m' same (Does (Moves place n offset) rest) (suc t) bytes h =
    let here : is_among own (page_of place) ≡ true = subst (λ (q : ℕ). is_among own (page_of q) ≡ true) (add-zero place) (h.0.2 0 h.0.0) in
    let moved : page_bytes m' place n ≡ page_bytes m place n = ap (λ (o : Option (List ℕ)). option_map_or (λ bytes. take n (drop (place % 4096) bytes)) o []) (same (page_of place) here) in
    ap (λ (x : List ℕ). carried m' (take t (units rest)) (with_bytes bytes offset x)) moved
    ∙ carried_same chain own m m' same rest t (with_bytes bytes offset (page_bytes m place n)) h.1

-- Each move goes to its targets, and lies in one page that is in

pub record MoveTo (m : Pages) (ts : List Target) (place n offset : ℕ) : Type 0 where
  pub some : 0 < n
  pub targets : (i : ℕ) → i < n → slice_get ts (offset + i) ≡ Some (Place (place + i))
  pub one_page : place % 4096 + n ≤ 4096
  pub page : List ℕ
  pub there : page_at m (page_of place) ≡ Some page
  pub whole : length page ≡ 4096

abbrev pub MovesTo : Pages → List Target → Course → Type 0
MovesTo m ts (Closes v) = Unit {0}
MovesTo m ts (Does Stays rest) = MovesTo m ts rest
MovesTo m ts (Does (Reads place) rest) = MovesTo m ts rest
MovesTo m ts (Does (Moves place n offset) rest) = MoveTo m ts place n offset × MovesTo m ts rest

front_get : {A : Type 0} (xs ys : List A) (i : ℕ) (x : A) → slice_get xs i ≡ Some x → slice_get (xs ++ ys) i ≡ Some x
front_get [] ys i x e = absurd cc
front_get (y ∷ xs) ys zero x e = e
front_get (y ∷ xs) ys (suc i) x e = front_get xs ys i x e

pub moves_to : (m : Pages) (mem : Memory) (dir : Direction) (need : ℕ) (chain own : List ℕ) (ts : List Target)
    → ((p : ℕ) → is_among own p ≡ true → (page : List ℕ) × (page_at m p ≡ Some page) × (length page ≡ 4096))
    → (c : Course) (parts : List Part) → MovesAlong mem dir need parts c → targets dir (parts_taken mem dir need parts c) ≡ ts → CourseIn (on_pages chain) (on_pages own) c → MovesTo m ts c
moves_to m mem dir need chain own ts there (Closes v) parts along is h = tt
moves_to m mem dir need chain own ts there (Does Stays rest) parts along is h = moves_to m mem dir need chain own ts there rest parts along is h.1
moves_to m mem dir need chain own ts there (Does (Reads place) rest) parts along is h = moves_to m mem dir need chain own ts there rest (taken dir need parts (descriptor_at mem place)) along.1 is h.1
moves_to m mem dir need chain own ts there (Does (Moves place n offset) rest) parts along is h =
    let more = more_parts mem dir need rest parts in
    let here : is_among own (page_of place) ≡ true = subst (λ (q : ℕ). is_among own (page_of q) ≡ true) (add-zero place) (h.0.2 0 h.0.0) in
    let page = there (page_of place) here in (
      record {
        some = h.0.0;
        targets = λ i lt.
            ap (λ (us : List Target). slice_get us (offset + i)) (sym is ∙ ap (targets dir) more.1)
            ∙ ap (λ (us : List Target). slice_get us (offset + i)) (targets-append dir parts more.0)
            ∙ front_get (targets dir parts) (targets dir more.0) (offset + i) (Place (place + i)) (along.1 i lt);
        one_page = h.0.1;
        page = page.0;
        there = page.1;
        whole = page.2;
      },
      moves_to m mem dir need chain own ts there rest parts along.2 is h.1,
    )

-- A byte that is moved is that of its target

pub get_take : {A : Type 0} (xs : List A) (n i : ℕ) → i < n → slice_get (take n xs) i ≡ slice_get xs i
get_take [] zero i lt = refl
get_take [] (suc n) i lt = refl
get_take (x ∷ xs) zero i lt = absurd (omega (arith, lt))
get_take (x ∷ xs) (suc n) zero lt = refl
get_take (x ∷ xs) (suc n) (suc i) lt = get_take xs n i (omega (arith, lt))

pub get_drop : {A : Type 0} (xs : List A) (n i : ℕ) → slice_get (drop n xs) i ≡ slice_get xs (n + i)
get_drop [] zero i = refl
get_drop [] (suc n) i = refl
get_drop (x ∷ xs) zero i = grind arith
get_drop (x ∷ xs) (suc n) i = grind (arith, get_drop xs n i)

pub get_front : {A : Type 0} (xs ys : List A) (i : ℕ) → i < length xs → slice_get (xs ++ ys) i ≡ slice_get xs i
get_front [] ys i lt = absurd (omega (arith, lt))
get_front (x ∷ xs) ys zero lt = refl
get_front (x ∷ xs) ys (suc i) lt = get_front xs ys i (omega (arith, lt))

pub get_back : {A : Type 0} (xs ys : List A) (i : ℕ) → slice_get (xs ++ ys) (length xs + i) ≡ slice_get ys i
get_back [] ys i = grind arith
get_back (x ∷ xs) ys i = grind (arith, get_back xs ys i)

length_cut : (xs : List ℕ) (at : ℕ) → at ≤ length xs → length (take at xs) ≡ at
length_cut xs at h = grind (arith, common_steps, h)

pub length_with : (xs new : List ℕ) (at : ℕ) → at + length new ≤ length xs → length (with_bytes xs at new) ≡ length xs
length_with xs new at fits = grind (arith, common_steps, fits)

apart : (xs new : List ℕ) (at : ℕ) → with_bytes xs at new ≡ take at xs ++ (new ++ drop (at + length new) xs)
apart xs new at = append_assoc (take at xs) new (drop (at + length new) xs)

-- bytes that are put: below, within and above
pub get_below : (xs new : List ℕ) (at i : ℕ) → at + length new ≤ length xs → i < at → slice_get (with_bytes xs at new) i ≡ slice_get xs i
get_below xs new at i fits lt =
    ap (λ (ys : List ℕ). slice_get ys i) (apart xs new at) ∙ get_front (take at xs) (new ++ drop (at + length new) xs) i (omega (arith, lt, fits, length_cut xs at (omega (arith, fits)))) ∙ get_take xs at i lt

pub get_within : (xs new : List ℕ) (at i : ℕ) → at + length new ≤ length xs → i < length new → slice_get (with_bytes xs at new) (at + i) ≡ slice_get new i
get_within xs new at i fits lt = grind (arith, apart, length_cut, get_back, get_front)

pub get_above : (xs new : List ℕ) (at i : ℕ) → at + length new ≤ length xs → slice_get (with_bytes xs at new) (at + (length new + i)) ≡ slice_get xs (at + (length new + i))
get_above xs new at i fits =
    ap (λ (ys : List ℕ). slice_get ys (at + (length new + i))) (apart xs new at)
    ∙ subst (λ (k : ℕ). slice_get (take at xs ++ (new ++ drop (at + length new) xs)) (k + (length new + i)) ≡ slice_get xs (at + (length new + i))) (length_cut xs at (omega (arith, fits)))
    (get_back (take at xs) (new ++ drop (at + length new) xs) (length new + i) ∙ get_back new (drop (at + length new) xs) i ∙ get_drop xs (at + length new) i
    ∙ ap (slice_get xs) (omega arith))

-- what is read from one page
pub move_length : (m : Pages) (ts : List Target) (place n offset : ℕ) → MoveTo m ts place n offset → length (page_bytes m place n) ≡ n
move_length m ts place n offset h = grind (arith, common_steps)

pub move_byte : (m : Pages) (ts : List Target) (place n offset i : ℕ) → MoveTo m ts place n offset → i < n → slice_get (page_bytes m place n) i ≡ byte_at m (place + i)
move_byte m ts place n offset i h lt = grind (arith, get_take, get_drop)

pub place_is : {p q : ℕ} → Some (Place p) ≡ Some (Place q) → p ≡ q
place_is e = cc

-- a move puts the byte of each of its targets, and leaves the others
pub moved_byte : (m : Pages) (ts : List Target) (place n offset : ℕ) (bytes : List ℕ) (i p x : ℕ) → MoveTo m ts place n offset → length bytes ≡ length ts
    → slice_get ts i ≡ Some (Place p) → byte_at m p ≡ Some x → (((offset ≤ i) × (i < offset + n)) ⊎ (slice_get bytes i ≡ Some x)) → slice_get (with_bytes bytes offset (page_bytes m place n)) i ≡ Some x
moved_byte m ts place n offset bytes i p x h len target is either = by_position (nat_lt i offset) refl (nat_lt i (offset + n)) refl either
  where
    count : length (page_bytes m place n) ≡ n
    count = move_length m ts place n offset h

    fits : offset + length (page_bytes m place n) ≤ length bytes
    fits =
        let last = slice_get_within ts (offset + (n - 1)) (Place (place + (n - 1))) (h.targets (n - 1) (omega (arith, h.some))) in
        omega (arith, count, last, len, h.some)

    less : (a b : ℕ) → nat_lt a b ≡ true → a < b
    less a b e = grind (arith, nat_tests, e)

    not_less : (a b : ℕ) → nat_lt a b ≡ false → b ≤ a
    not_less a b e = grind (arith, nat_tests, e)

    within : (k : ℕ) → i ≡ offset + k → k < n → slice_get (with_bytes bytes offset (page_bytes m place n)) i ≡ Some x
    within k e lt =
        let same : place + k ≡ p = place_is (sym (h.targets k lt) ∙ ap (slice_get ts) (sym e) ∙ target) in
        ap (slice_get (with_bytes bytes offset (page_bytes m place n))) e ∙ get_within bytes (page_bytes m place n) offset k fits (omega (arith, count, lt)) ∙ move_byte m ts place n offset k h lt ∙ ap (byte_at m) same ∙ is

    by_position : (b : Bool) → nat_lt i offset ≡ b → (c : Bool) → nat_lt i (offset + n) ≡ c → (((offset ≤ i) × (i < offset + n)) ⊎ (slice_get bytes i ≡ Some x)) → slice_get (with_bytes bytes offset (page_bytes m place n)) i ≡ Some x
    by_position true e c f (inl r) = absurd (omega (arith, r.0, less i offset e))
    by_position true e c f (inr old) = get_below bytes (page_bytes m place n) offset i fits (less i offset e) ∙ old
    by_position false e true f r = within (i - offset) (omega (arith, not_less i offset e)) (omega (arith, not_less i offset e, less i (offset + n) f))
    by_position false e false f (inl r) = absurd (omega (arith, r.1, not_less i (offset + n) f))
    by_position false e false f (inr old) =
        let k : i ≡ offset + (length (page_bytes m place n) + (i - offset - n)) = omega (arith, not_less i (offset + n) f, count) in
        ap (slice_get (with_bytes bytes offset (page_bytes m place n))) k ∙ get_above bytes (page_bytes m place n) offset (i - offset - n) fits ∙ ap (slice_get bytes) (sym k) ∙ old

moved_fits : (m : Pages) (ts : List Target) (place n offset : ℕ) (bytes : List ℕ) → MoveTo m ts place n offset → length bytes ≡ length ts → length (with_bytes bytes offset (page_bytes m place n)) ≡ length ts
moved_fits m ts place n offset bytes h len =
    let last = slice_get_within ts (offset + (n - 1)) (Place (place + (n - 1))) (h.targets (n - 1) (omega (arith, h.some))) in
    length_with bytes (page_bytes m place n) offset (omega (arith, move_length m ts place n offset h, last, len, h.some)) ∙ len

pub carried_length : (m : Pages) (ts : List Target) (c : Course) (bytes : List ℕ) → MovesTo m ts c → length bytes ≡ length ts → length (carried m (units c) bytes) ≡ length ts
carried_length m ts (Closes v) bytes h len = len
carried_length m ts (Does Stays rest) bytes h len = carried_length m ts rest bytes h len
carried_length m ts (Does (Reads place) rest) bytes h len = carried_length m ts rest bytes h len
carried_length m ts (Does (Moves place n offset) rest) bytes h len = carried_length m ts rest (with_bytes bytes offset (page_bytes m place n)) h.1 (moved_fits m ts place n offset bytes h.0 len)

pub carried_byte : (m : Pages) (ts : List Target) (i p x : ℕ) → slice_get ts i ≡ Some (Place p) → byte_at m p ≡ Some x → (c : Course) (bytes : List ℕ) → MovesTo m ts c → length bytes ≡ length ts
    → (MovesByte i c ⊎ (slice_get bytes i ≡ Some x)) → slice_get (carried m (units c) bytes) i ≡ Some x
carried_byte m ts i p x target is (Closes v) bytes h len (inl none) = absurd none
carried_byte m ts i p x target is (Closes v) bytes h len (inr old) = old
carried_byte m ts i p x target is (Does Stays rest) bytes h len either = carried_byte m ts i p x target is rest bytes h len either
carried_byte m ts i p x target is (Does (Reads place) rest) bytes h len either = carried_byte m ts i p x target is rest bytes h len either
carried_byte m ts i p x target is (Does (Moves place n offset) rest) bytes h len (inl (inl r)) =
    carried_byte m ts i p x target is rest (with_bytes bytes offset (page_bytes m place n)) h.1 (moved_fits m ts place n offset bytes h.0 len) (inr (moved_byte m ts place n offset bytes i p x h.0 len target is (inl r)))
carried_byte m ts i p x target is (Does (Moves place n offset) rest) bytes h len (inl (inr later)) =
    carried_byte m ts i p x target is rest (with_bytes bytes offset (page_bytes m place n)) h.1 (moved_fits m ts place n offset bytes h.0 len) (inl later)
carried_byte m ts i p x target is (Does (Moves place n offset) rest) bytes h len (inr old) =
    carried_byte m ts i p x target is rest (with_bytes bytes offset (page_bytes m place n)) h.1 (moved_fits m ts place n offset bytes h.0 len) (inr (moved_byte m ts place n offset bytes i p x h.0 len target is (inr old)))

-- What is in a command's data pages, byte for byte along its targets.

-- the bytes at the targets that are places, one after the other
abbrev pub Gathers : Pages → List Target → List ℕ → Type 0
Gathers m [] [] = Unit {0}
Gathers m [] (g ∷ gs) = ⊥
Gathers m (Place p ∷ ts) [] = ⊥
Gathers m (Place p ∷ ts) (g ∷ gs) = (byte_at m p ≡ Some g) × Gathers m ts gs
Gathers m (Discarded ∷ ts) gs = Gathers m ts gs

gathers_append : (m : Pages) (ts us : List Target) (gs hs : List ℕ) → Gathers m ts gs → Gathers m us hs → Gathers m (ts ++ us) (gs ++ hs)
gathers_append m [] us [] hs a b = b
gathers_append m (Place p ∷ ts) us (g ∷ gs) hs a b = (a.0, gathers_append m ts us gs hs a.1 b)
gathers_append m (Discarded ∷ ts) us gs hs a b = gathers_append m ts us gs hs a b
gathers_append m ts us gs hs a b = absurd a

gathers_range : (m : Pages) (xs : List ℕ) (addr : ℕ) → ((i : ℕ) → i < length xs → byte_at m (addr + i) ≡ slice_get xs i) → Gathers m (map (λ place. Place place) (range_with_len addr (length xs))) xs
gathers_range m [] addr h = tt
gathers_range m (x ∷ xs) addr h = (
  subst (λ (q : ℕ). byte_at m q ≡ Some x) (add-zero addr) (h 0 (omega arith)),
  gathers_range m xs (addr + 1) (λ i lt. subst (λ (q : ℕ). byte_at m q ≡ slice_get xs i) (omega arith) (h (suc i) (omega (arith, lt)))),
)

gathers_bucket : (m : Pages) (len : ℕ) → Gathers m (replicate len Discarded) []
gathers_bucket m zero = tt
gathers_bucket m (suc len) = gathers_bucket m len

-- a page that stands whole in memory
abbrev pub Stands : Pages → (ℕ × List ℕ) → Type 0
Stands m page = (page_at m page.0 ≡ Some page.1) × (length page.1 ≡ 4096)

gathers_piece : (m : Pages) (page : ℕ × List ℕ) (offset len : ℕ) → Stands m page → offset + len ≤ 4096
    → Gathers m (map (λ place. Place place) (range_with_len (4096 * page.0 + offset) len)) (slice_range page.1 offset (offset + len))
gathers_piece m page offset len stands fits =
    let count : (xs : List ℕ) → offset + len ≤ length xs → length (take (offset + len - offset) (drop offset xs)) ≡ len = λ xs h. grind (arith, common_steps, h) in
    subst (λ (n : ℕ). Gathers m (map (λ place. Place place) (range_with_len (4096 * page.0 + offset) n)) (slice_range page.1 offset (offset + len))) (count page.1 (omega (arith, stands.1, fits)))
    (gathers_range m (slice_range page.1 offset (offset + len)) (4096 * page.0 + offset) (λ i lt. (grind (arith, byte_in, get_take, get_drop))))

-- the data pages hold what their draft gathers
pub gathers_pieces : (m : Pages) (dir : Direction) (pieces : List Piece) (pages : PagesOut) → list_any crosses_page pieces ≡ false → AllByRecursion (Stands m) pages
    → Gathers m (targets dir (parts_of pieces (numbers_of pages))) (gathered pieces pages)
gathers_pieces m dir [] pages crosses stand = tt
gathers_pieces m dir (Bucket len ∷ pieces) pages crosses stand =
    subst (λ (ts : List Target). Gathers m ts (gathered pieces pages)) (sym (flat_map-cons (targets_of_part dir) (part.Bucket len) (parts_of pieces (numbers_of pages))))
    (bucket dir (gathers_pieces m dir pieces pages crosses stand))
  where
    bucket : (d : Direction) → Gathers m (targets dir (parts_of pieces (numbers_of pages))) (gathered pieces pages)
        → Gathers m (targets_of_part d (part.Bucket len) ++ targets dir (parts_of pieces (numbers_of pages))) (gathered pieces pages)
    bucket Destination h = gathers_append m (replicate len Discarded) (targets dir (parts_of pieces (numbers_of pages))) [] (gathered pieces pages) (gathers_bucket m len) h
    bucket Source h = h
gathers_pieces m dir (Data offset len ∷ pieces) [] crosses stand = tt
gathers_pieces m dir (Data offset len ∷ pieces) (page ∷ pages) crosses stand =
    let c = or_parts (nat_lt 4096 (offset + len)) (list_any crosses_page pieces) crosses in
    subst (λ (ts : List Target). Gathers m ts (slice_range page.1 offset (offset + len) ++ gathered pieces pages)) (sym (flat_map-cons (targets_of_part dir) (part.Data (4096 * page.0 + offset) len) (parts_of pieces (numbers_of pages))))
    (gathers_append m (map (λ place. Place place) (range_with_len (4096 * page.0 + offset) len)) (targets dir (parts_of pieces (numbers_of pages))) (slice_range page.1 offset (offset + len)) (gathered pieces pages)
    (gathers_piece m page offset len stand.0 (not_crossing offset len c.0)) (gathers_pieces m dir pieces pages c.1 stand.1))

-- Bytes that stand at all targets are the undiscarded ones
pub all_stand : (m : Pages) (ts : List Target) (gs bs : List ℕ) → Gathers m ts gs → length bs ≡ length ts
    → ((i p x : ℕ) → slice_get ts i ≡ Some (Place p) → byte_at m p ≡ Some x → slice_get bs i ≡ Some x) → undiscarded ts bs ≡ gs
all_stand m [] [] [] g len h = refl
all_stand m [] (x ∷ gs) bs g len h = absurd g
all_stand m (Place p ∷ ts) [] bs g len h = absurd g
all_stand m (Place p ∷ ts) (x ∷ gs) (b ∷ bs) g len h =
    let same : b ≡ x = some_is (h 0 p x refl g.0) in
    rw (same, all_stand m ts gs bs g.1 (omega (arith, len)) (λ i q y e f. h (suc i) q y e f)) refl
all_stand m (Discarded ∷ ts) gs (b ∷ bs) g len h = all_stand m ts gs bs g (omega (arith, len)) (λ i q y e f. h (suc i) q y e f)
all_stand m ts gs bs g len h = absurd (omega (arith, len))

-- of a source nothing is discarded
abbrev pub IsPlace : Target → Type 0
IsPlace (Place p) = Unit {0}
IsPlace Discarded = ⊥

places_append : (ts us : List Target) → AllByRecursion IsPlace ts → AllByRecursion IsPlace us → AllByRecursion IsPlace (ts ++ us)
places_append [] us a b = b
places_append (t ∷ ts) us a b = (a.0, places_append ts us a.1 b)

places_range : (n addr : ℕ) → AllByRecursion IsPlace (map (λ place. Place place) (range_with_len addr n))
places_range zero addr = tt
places_range (suc n) addr = (tt, places_range n (addr + 1))

pub source_places : (parts : List Part) → AllByRecursion IsPlace (targets Source parts)
source_places [] = tt
source_places (part.Data addr len ∷ parts) = grind (arith, source_places parts, flat_map-cons, places_append, places_range)
source_places (part.Bucket len ∷ parts) = subst (AllByRecursion IsPlace) (sym (flat_map-cons (targets_of_part Source) (part.Bucket len) parts)) (source_places parts)

pub none_discarded : (ts : List Target) (bs : List ℕ) → AllByRecursion IsPlace ts → length bs ≡ length ts → undiscarded ts bs ≡ bs
none_discarded [] [] h len = refl
none_discarded [] (b ∷ bs) h len = absurd (omega (arith, len))
none_discarded (t ∷ ts) [] h len = refl
none_discarded (Place p ∷ ts) (b ∷ bs) h len = ap (λ (xs : List ℕ). b ∷ xs) (none_discarded ts bs h.1 (omega (arith, len)))
none_discarded (Discarded ∷ ts) (b ∷ bs) h len = absurd h.0

-- Bytes that stand at the first targets, where the others have what another memory has there
pub some_stand : (m own : Pages) (k : ℕ) (ts : List Target) (gs os bs : List ℕ) → Gathers m ts gs → Gathers own ts os → length bs ≡ length ts
    → ((i p x : ℕ) → slice_get ts i ≡ Some (Place p) → byte_at m p ≡ Some x → i < k → slice_get bs i ≡ Some x)
    → ((i p x : ℕ) → slice_get ts i ≡ Some (Place p) → byte_at m p ≡ Some x → k ≤ i → byte_at own p ≡ Some x) → gs ≡ partly k ts bs os
some_stand m own k [] [] [] bs g o len h l = at k
  where
    at : (k : ℕ) → [] ≡ partly k [] bs []
    at k = grind arith
some_stand m own k [] (x ∷ gs) os bs g o len h l = absurd g
some_stand m own k [] [] (x ∷ os) bs g o len h l = absurd o
some_stand m own k (Place p ∷ ts) [] os bs g o len h l = absurd g
some_stand m own k (Place p ∷ ts) (x ∷ gs) [] bs g o len h l = absurd o
some_stand m own k (t ∷ ts) gs os [] g o len h l = absurd (omega (arith, len))
some_stand m own zero (Place p ∷ ts) (x ∷ gs) (y ∷ os) (b ∷ bs) g o len h l =
    let same : x ≡ y = some_is (sym (l 0 p x refl g.0 (omega arith)) ∙ o.0) in
    rw (same, some_stand m own zero ts gs os bs g.1 o.1 (omega (arith, len)) (λ i q z e f lt. absurd (omega (arith, lt))) (λ i q z e f le. l (suc i) q z e f (omega arith))) refl
some_stand m own (suc k) (Place p ∷ ts) (x ∷ gs) (y ∷ os) (b ∷ bs) g o len h l =
    let same : b ≡ x = some_is (h 0 p x refl g.0 (omega arith)) in
    rw (same, some_stand m own k ts gs os bs g.1 o.1 (omega (arith, len)) (λ i q z e f lt. h (suc i) q z e f (omega (arith, lt))) (λ i q z e f le. l (suc i) q z e f (omega (arith, le)))) refl
some_stand m own zero (Discarded ∷ ts) gs os (b ∷ bs) g o len h l =
    some_stand m own zero ts gs os bs g o (omega (arith, len)) (λ i q z e f lt. absurd (omega (arith, lt))) (λ i q z e f le. l (suc i) q z e f (omega arith))
some_stand m own (suc k) (Discarded ∷ ts) gs os (b ∷ bs) g o len h l =
    some_stand m own k ts gs os bs g o (omega (arith, len)) (λ i q z e f lt. h (suc i) q z e f (omega (arith, lt))) (λ i q z e f le. l (suc i) q z e f (omega (arith, le)))

-- What a walk to a destination writes into the data pages: the first bytes of its job, and nothing after them.

pub set_there : (m : Pages) (p : ℕ) (x : List ℕ) (y : Option (List ℕ)) → page_at m p ≡ Some x → page_at (slice_set m p y) p ≡ y
set_there [] p x y e = absurd cc
set_there (z ∷ m) zero x y e = refl
set_there (z ∷ m) (suc p) x y e = set_there m p x y e

-- the page that is written
page_written : (m : Pages) (p at : ℕ) (page new : List ℕ) → page_at m p ≡ Some page → page_at (with_page_bytes m p at new) p ≡ Some (with_bytes page at new)
page_written m p at page new e = set_there m p page (option_and_then (λ page. Some (with_bytes page at new)) (page_at m p)) e ∙ ap (option_and_then (λ page. Some (with_bytes page at new))) e

pub written_within : (m : Pages) (place i : ℕ) (page new : List ℕ) → page_at m (page_of place) ≡ Some page → length page ≡ 4096 → place % 4096 + length new ≤ 4096 → i < length new
    → byte_at (with_page_bytes m (place / 4096) (place % 4096) new) (place + i) ≡ slice_get new i
written_within m place i page new there whole fits lt =
    let low : page_of (place + i) ≡ page_of place = omega (arith, fits, lt) in
    let at : (place + i) % 4096 ≡ place % 4096 + i = omega (arith, fits, lt) in
    ap (λ (k : ℕ). option_and_then (λ bytes. slice_get bytes ((place + i) % 4096)) (page_at (with_page_bytes m (place / 4096) (place % 4096) new) k)) low
    ∙ ap (option_and_then (λ bytes. slice_get bytes ((place + i) % 4096))) (page_written m (page_of place) (place % 4096) page new there)
    ∙ ap (slice_get (with_bytes page (place % 4096) new)) at
    ∙ get_within page new (place % 4096) i (omega (arith, whole, fits)) lt

pub written_outside : (m : Pages) (place p : ℕ) (page new : List ℕ) → page_at m (page_of place) ≡ Some page → length page ≡ 4096 → place % 4096 + length new ≤ 4096 → ((i : ℕ) → i < length new → p ≡ place + i → ⊥)
    → byte_at (with_page_bytes m (place / 4096) (place % 4096) new) p ≡ byte_at m p
written_outside m place p page new there whole fits far = elim (cases_Bool (page_of place == page_of p)) [
  | inl e ↦
      let same = same_page (page_of place) (page_of p) e in
      ap (λ (k : ℕ). option_and_then (λ bytes. slice_get bytes (p % 4096)) (page_at (with_page_bytes m (place / 4096) (place % 4096) new) k)) (sym same)
      ∙ ap (option_and_then (λ bytes. slice_get bytes (p % 4096))) (page_written m (page_of place) (place % 4096) page new there)
      ∙ inside (nat_lt (p % 4096) (place % 4096)) refl same
      ∙ sym (ap (λ (k : ℕ). option_and_then (λ bytes. slice_get bytes (p % 4096)) (page_at m k)) (sym same) ∙ ap (option_and_then (λ bytes. slice_get bytes (p % 4096))) there)
  | inr e ↦ ap (option_and_then (λ bytes. slice_get bytes (p % 4096))) (bytes_elsewhere m (page_of place) (page_of p) (place % 4096) new (eqb-false (page_of place) (page_of p) e))
]
  where
    same_page : (a b : ℕ) → (a == b) ≡ true → a ≡ b
    same_page a b e = grind (arith, nat_tests, e)

    less : (a b : ℕ) → nat_lt a b ≡ true → a < b
    less a b e = grind (arith, nat_tests, e)

    not_less : (a b : ℕ) → nat_lt a b ≡ false → b ≤ a
    not_less a b e = grind (arith, nat_tests, e)

    inside : (b : Bool) → nat_lt (p % 4096) (place % 4096) ≡ b → page_of place ≡ page_of p → slice_get (with_bytes page (place % 4096) new) (p % 4096) ≡ slice_get page (p % 4096)
    inside true e same = get_below page new (place % 4096) (p % 4096) (omega (arith, whole, fits)) (less (p % 4096) (place % 4096) e)
    inside false e same = above (nat_lt (p % 4096) (place % 4096 + length new)) refl
      where
        above : (b : Bool) → nat_lt (p % 4096) (place % 4096 + length new) ≡ b → slice_get (with_bytes page (place % 4096) new) (p % 4096) ≡ slice_get page (p % 4096)
        above true f =
            absurd (far (p % 4096 - place % 4096) (omega (arith, not_less (p % 4096) (place % 4096) e, less (p % 4096) (place % 4096 + length new) f)) (omega (arith, same, not_less (p % 4096) (place % 4096) e)))
        above false f =
            let k : p % 4096 ≡ place % 4096 + (length new + (p % 4096 - place % 4096 - length new)) = omega (arith, not_less (p % 4096) (place % 4096 + length new) f) in
            ap (slice_get (with_bytes page (place % 4096) new)) k ∙ get_above page new (place % 4096) (p % 4096 - place % 4096 - length new) (omega (arith, whole, fits)) ∙ ap (slice_get page) (sym k)

-- The addresses of the first k targets have the first k bytes, the others what another memory has there.
pub record Received (m own : Pages) (ts : List Target) (bs : List ℕ) (k : ℕ) : Type 0 where
  pub first : (i p : ℕ) → slice_get ts i ≡ Some (Place p) → i < k → byte_at m p ≡ slice_get bs i
  pub rest : (i p : ℕ) → slice_get ts i ≡ Some (Place p) → k ≤ i → byte_at m p ≡ byte_at own p

-- one move more
pub received_more : (m own : Pages) (ts : List Target) (bs : List ℕ) (k place n offset : ℕ) → MoveTo m ts place n offset → length bs ≡ length ts
    → ((i j p : ℕ) → slice_get ts i ≡ Some (Place p) → slice_get ts j ≡ Some (Place p) → i ≡ j)
    → k ≤ offset → ((i p : ℕ) → slice_get ts i ≡ Some (Place p) → i < offset → i < k) → Received m own ts bs k
    → Received (with_page_bytes m (place / 4096) (place % 4096) (take n (drop offset bs))) own ts bs (offset + n)
received_more m own ts bs k place n offset to len differ le gap h = record {
  first = λ i p target lt. first i p target lt (nat_lt i offset) refl;
  rest = λ i p target above. outside i p target (λ x l e. omega (arith, above, l, e)) ∙ h.rest i p target (omega (arith, above, le));
}
  where
    count : length (take n (drop offset bs)) ≡ n
    count = cut bs (omega (arith, (slice_get_within ts (offset + (n - 1)) (Place (place + (n - 1))) (to.targets (n - 1) (omega (arith, to.some)))), len, to.some))
      where
        cut : (xs : List ℕ) → offset + n ≤ length xs → length (take n (drop offset xs)) ≡ n
        cut xs h = grind (arith, common_steps, h)

    less : (a b : ℕ) → nat_lt a b ≡ true → a < b
    less a b e = grind (arith, nat_tests, e)

    not_less : (a b : ℕ) → nat_lt a b ≡ false → b ≤ a
    not_less a b e = grind (arith, nat_tests, e)

    outside : (i p : ℕ) → slice_get ts i ≡ Some (Place p) → ((x : ℕ) → x < n → i ≡ offset + x → ⊥) → byte_at (with_page_bytes m (place / 4096) (place % 4096) (take n (drop offset bs))) p ≡ byte_at m p
    outside i p target far =
        written_outside m place p to.page (take n (drop offset bs)) to.there to.whole (omega (arith, count, to.one_page))
        (λ x lt e. far x (omega (arith, lt, count)) (differ i (offset + x) p target (to.targets x (omega (arith, lt, count)) ∙ ap (λ (q : ℕ). Some (Place q)) (sym e))))

    first : (i p : ℕ) → slice_get ts i ≡ Some (Place p) → i < offset + n → (b : Bool) → nat_lt i offset ≡ b → byte_at (with_page_bytes m (place / 4096) (place % 4096) (take n (drop offset bs))) p ≡ slice_get bs i
    first i p target lt true e = outside i p target (λ x l f. omega (arith, less i offset e, f)) ∙ h.first i p target (gap i p target (less i offset e))
    first i p target lt false e =
        let at : i ≡ offset + (i - offset) = omega (arith, not_less i offset e) in
        let low : i - offset < n = omega (arith, lt, not_less i offset e) in
        let same : p ≡ place + (i - offset) = place_is (sym target ∙ ap (slice_get ts) at ∙ to.targets (i - offset) low) in
        ap (byte_at (with_page_bytes m (place / 4096) (place % 4096) (take n (drop offset bs)))) same
        ∙ written_within m place (i - offset) to.page (take n (drop offset bs)) to.there to.whole (omega (arith, count, to.one_page)) (omega (arith, low, count))
        ∙ get_take (drop offset bs) n (i - offset) low ∙ get_drop bs offset (i - offset) ∙ ap (slice_get bs) (sym at)

-- memory that is unchanged at the addresses
pub received_still : (m m' own : Pages) (ts : List Target) (bs : List ℕ) (k : ℕ) → ((i p : ℕ) → slice_get ts i ≡ Some (Place p) → byte_at m' p ≡ byte_at m p) → Received m own ts bs k → Received m' own ts bs k
received_still m m' own ts bs k same h = record {
  first = λ i p target lt. same i p target ∙ h.first i p target lt;
  rest = λ i p target le. same i p target ∙ h.rest i p target le;
}

-- The units of a list move its bytes in ascending order, each byte once, and each to an address of its own.

-- Ascending offsets

abbrev pub Ordered : ℕ → Course → Type 0
Ordered k (Closes v) = Unit {0}
Ordered k (Does Stays rest) = Ordered k rest
Ordered k (Does (Reads place) rest) = Ordered k rest
Ordered k (Does (Moves place n offset) rest) = (k ≤ offset) × Ordered (offset + n) rest

ordered_less : (k k' : ℕ) → k' ≤ k → (c : Course) → Ordered k c → Ordered k' c
ordered_less k k' le (Closes v) h = tt
ordered_less k k' le (Does Stays rest) h = ordered_less k k' le rest h
ordered_less k k' le (Does (Reads place) rest) h = ordered_less k k' le rest h
ordered_less k k' le (Does (Moves place n offset) rest) h = (omega (arith, le, h.0), h.1)

ordered_moving : (m : Memory) (n place len offset end : ℕ) (rest : Course) → offset + len ≤ end → Ordered end rest → Ordered offset (moving m n place len offset rest)
unfolding moving
ordered_moving m zero place len offset end rest le h = ordered_less end offset (omega (arith, le)) rest h
ordered_moving m (suc n) place len offset end rest le h =
    grind (arith, ordered_moving m n (place + first_part place len) (len - first_part place len) (offset + first_part place len) end rest (omega (arith, le, (part_most place len).0)) h)

abbrev Follows : ℕ → (Option Cursor → ℕ → Course) → Type 0
Follows need later = (a : Option Cursor) (wanted : ℕ) → wanted ≤ need → Ordered (need - wanted) (later a wanted)

ordered_on : (m : Memory) (dir : Direction) (need : ℕ) (c : Cursor) (wanted : ℕ) (later : Option Cursor → ℕ → Course) (d : Descriptor) → wanted ≤ need → Follows need later
    → Ordered (need - wanted) (goes_on m dir need c wanted later d)
ordered_on m dir need c wanted later (DataBlock addr len) le h =
    ordered_moving m (pages_spanned addr (min len wanted)) addr (min len wanted) (need - wanted) (need - (wanted - len)) _ (omega (arith, le)) (h (next c) (wanted - len) (omega (arith, le)))
ordered_on m dir need c wanted later (BitBucket len) le h =
    ordered_less (need - (wanted - counted dir (BitBucket len))) (need - wanted) (omega (arith, le)) (later (next c) (wanted - counted dir (BitBucket len))) (h (next c) (wanted - counted dir (BitBucket len)) (omega (arith, le)))
ordered_on m dir need c wanted later d le h = h _ wanted le

ordered_unless : (k : ℕ) (f : Option Status) (c : Course) → Ordered k c → Ordered k (unless_fault f c)
ordered_unless k (Some status) c h = tt
ordered_unless k None c h = h

ordered_read : (m : Memory) (dir : Direction) (need : ℕ) (c : Cursor) (wanted : ℕ) (later : Option Cursor → ℕ → Course) (found : Option Descriptor) → wanted ≤ need → Follows need later
    → Ordered (need - wanted) (after_read m dir need c wanted later found)
ordered_read m dir need c wanted later None le h = tt
ordered_read m dir need c wanted later (Some d) le h =
    ordered_unless (need - wanted) (first_fault c d) _ (ordered_on m dir need c wanted later d le h)

ordered_at : (m : Memory) (dir : Direction) (need : ℕ) (c : Cursor) (wanted : ℕ) (later : Option Cursor → ℕ → Course) (found : Option (List ℕ)) → wanted ≤ need → Follows need later
    → Ordered (need - wanted) (read_at m dir need c wanted later found)
ordered_at m dir need c wanted later None le h = tt
ordered_at m dir need c wanted later (Some bytes) le h = ordered_read m dir need c wanted later (descriptor_of bytes) le h

ordered_behind : (need : ℕ) (from : Cursor → ℕ → Course) → ((c : Cursor) (wanted : ℕ) → wanted ≤ need → Ordered (need - wanted) (from c wanted)) → Follows need (behind from)
ordered_behind need from h None wanted le = tt
ordered_behind need from h (Some c) wanted le = grind arith

ordered_from : (k : ℕ) (m : Memory) (dir : Direction) (need : ℕ) (c : Cursor) (wanted : ℕ) → wanted ≤ need → Ordered (need - wanted) (from_place k m dir need c wanted)
unfolding from_place
ordered_from zero m dir need c wanted le = tt
ordered_from (suc k) m dir need c wanted le =
    ordered_at m dir need c wanted (behind (from_place k m dir need)) (bytes_at m c.place 16) le (ordered_behind need (from_place k m dir need) (ordered_from k m dir need))

pub list_ordered : (m : Memory) (sgl1 : List ℕ) (dir : Direction) (need : ℕ) → Ordered 0 (course_of_list m sgl1 dir need)
list_ordered m sgl1 dir need =
    ordered_less (need - need) 0 (omega arith) (after_read m dir need entry_cursor need (behind (from_place 4095 m dir need)) (descriptor_of sgl1))
    (ordered_read m dir need entry_cursor need (behind (from_place 4095 m dir need)) (descriptor_of sgl1) (omega arith)
    (ordered_behind need (from_place 4095 m dir need) (ordered_from 4095 m dir need)))

-- How far units have come

abbrev pub came : Act → ℕ → ℕ
came Stays k = k
came (Reads place) k = k
came (Moves place n offset) k = offset + n

abbrev pub reach : ℕ → List Act → ℕ
reach k [] = k
reach k (act ∷ us) = reach (came act k) us

pub reach_more : (us : List Act) (t k : ℕ) (act : Act) → slice_get us t ≡ Some act → reach k (take (t + 1) us) ≡ came act (reach k (take t us))
reach_more [] t k act e = absurd cc
reach_more (u ∷ us) zero k act e = let same : u ≡ act = cc in ap (λ (x : Act). came x k) same
reach_more (u ∷ us) (suc t) k act e = grind (arith, reach_more us t (came u k) act)

reach_above : (k : ℕ) (c : Course) (t : ℕ) → Ordered k c → k ≤ reach k (take t (units c))
reach_above k (Closes v) zero h = omega arith
reach_above k (Closes v) (suc t) h = omega arith
reach_above k (Does act rest) zero h = omega arith
reach_above k (Does Stays rest) (suc t) h = reach_above k rest t h
reach_above k (Does (Reads place) rest) (suc t) h = reach_above k rest t h
reach_above k (Does (Moves place n offset) rest) (suc t) h = omega (arith, h.0, reach_above (offset + n) rest t h.1)

-- the next move is not below what was reached
pub next_above : (k : ℕ) (c : Course) (t place n offset : ℕ) → Ordered k c → slice_get (units c) t ≡ Some (Moves place n offset) → reach k (take t (units c)) ≤ offset
next_above k (Does (Moves p n' o) rest) zero place n offset h e = grind arith
next_above k (Does Stays rest) (suc t) place n offset h e = next_above k rest t place n offset h e
next_above k (Does (Reads p) rest) (suc t) place n offset h e = next_above k rest t place n offset h e
next_above k (Does (Moves p n' o) rest) (suc t) place n offset h e = next_above (o + n') rest t place n offset h.1 e
next_above k c t place n offset h e = absurd cc

moved_above : (k i : ℕ) (c : Course) → Ordered k c → MovesByte i c → k ≤ i
moved_above k i (Closes v) h m = absurd m
moved_above k i (Does Stays rest) h m = moved_above k i rest h m
moved_above k i (Does (Reads place) rest) h m = moved_above k i rest h m
moved_above k i (Does (Moves place n offset) rest) h (inl m) = omega (arith, h.0, m.0)
moved_above k i (Does (Moves place n offset) rest) h (inr m) = omega (arith, h.0, moved_above (offset + n) i rest h.1 m)

-- a byte that is moved at all, and lies below the next move, was moved before
pub below_reached : (k i : ℕ) (c : Course) (t place n offset : ℕ) → Ordered k c → MovesByte i c → slice_get (units c) t ≡ Some (Moves place n offset) → i < offset → i < reach k (take t (units c))
below_reached k i (Closes v) t place n offset h m e lt = absurd m
below_reached k i (Does (Moves p n' o) rest) zero place n offset h m e lt = grind (arith, moved_above)
below_reached k i (Does Stays rest) (suc t) place n offset h m e lt = below_reached k i rest t place n offset h m e lt
below_reached k i (Does (Reads p) rest) (suc t) place n offset h m e lt = below_reached k i rest t place n offset h m e lt
below_reached k i (Does (Moves p n' o) rest) (suc t) place n offset h (inl x) e lt = omega (arith, x.1, reach_above (o + n') rest t h.1)
below_reached k i (Does (Moves p n' o) rest) (suc t) place n offset h (inr x) e lt = below_reached (o + n') i rest t place n offset h.1 x e lt
below_reached k i c zero place n offset h m e lt = absurd cc

-- in the end each byte that is moved was
pub all_reached : (k i : ℕ) (c : Course) (t : ℕ) → Ordered k c → MovesByte i c → length (units c) ≤ t → i < reach k (take t (units c))
all_reached k i (Closes v) t h m le = absurd m
all_reached k i (Does act rest) zero h m le = absurd (omega (arith, le))
all_reached k i (Does Stays rest) (suc t) h m le = all_reached k i rest t h m (omega (arith, le))
all_reached k i (Does (Reads p) rest) (suc t) h m le = all_reached k i rest t h m (omega (arith, le))
all_reached k i (Does (Moves p n o) rest) (suc t) h (inl x) le = omega (arith, x.1, reach_above (o + n) rest t h.1)
all_reached k i (Does (Moves p n o) rest) (suc t) h (inr x) le = all_reached (o + n) i rest t h.1 x (omega (arith, le))

-- Targets in different pages are different addresses

split_get : {A : Type 0} (xs ys : List A) (i : ℕ) (x : A) → slice_get (xs ++ ys) i ≡ Some x → (slice_get xs i ≡ Some x) ⊎ ((k : ℕ) × (i ≡ length xs + k) × (slice_get ys k ≡ Some x))
split_get [] ys i x e = inr (i, omega arith, e)
split_get (y ∷ xs) ys zero x e = inl e
split_get (y ∷ xs) ys (suc i) x e = grind (arith, split_get xs ys i x e)

range_get : (len addr i p : ℕ) → slice_get (map (λ place. Place place) (range_with_len addr len)) i ≡ Some (Place p) → (i < len) × (p ≡ addr + i)
range_get zero addr i p e = absurd cc
range_get (suc len) addr zero p e = (omega arith, omega (arith, place_is e))
range_get (suc len) addr (suc i) p e = let h = range_get len (addr + 1) i p e in (omega (arith, h.0), omega (arith, h.1))

bucket_get : (len i p : ℕ) → slice_get (replicate len Discarded) i ≡ Some (Place p) → ⊥
bucket_get (suc len) (suc i) p e = bucket_get len i p e
bucket_get len i p e = cc

-- the target of a list's byte is in one of the pages
pub target_in : (pieces : List Piece) (pages : List ℕ) (i p : ℕ) → list_any crosses_page pieces ≡ false → slice_get (targets Destination (parts_of pieces pages)) i ≡ Some (Place p) → is_among pages (page_of p) ≡ true
target_in [] pages i p crosses e = absurd cc
target_in (Bucket len ∷ pieces) pages i p crosses e = by_part (λ k f. target_in pieces pages k p crosses f) (split_get (replicate len Discarded) (targets Destination (parts_of pieces pages)) i (Place p) (ap (λ (ts : List Target). slice_get ts i) (sym (flat_map-cons (targets_of_part Destination) (part.Bucket len) (parts_of pieces pages))) ∙ e))
  where
    by_part : ((k : ℕ) → slice_get (targets Destination (parts_of pieces pages)) k ≡ Some (Place p) → is_among pages (page_of p) ≡ true)
        → (slice_get (replicate len Discarded) i ≡ Some (Place p)) ⊎ ((k : ℕ) × (i ≡ length (replicate len Discarded) + k) × (slice_get (targets Destination (parts_of pieces pages)) k ≡ Some (Place p))) → is_among pages (page_of p) ≡ true
    by_part ih (inl h) = absurd (bucket_get len i p h)
    by_part ih (inr h) = ih h.0 h.2
target_in (Data offset len ∷ pieces) [] i p crosses e = absurd cc
target_in (Data offset len ∷ pieces) (page ∷ pages) i p crosses e =
    by_part (λ k f. target_in pieces pages k p (or_parts (nat_lt 4096 (offset + len)) (list_any crosses_page pieces) crosses).1 f) (split_get (map (λ place. Place place) (range_with_len (4096 * page + offset) len)) (targets Destination (parts_of pieces pages)) i (Place p)
    (ap (λ (ts : List Target). slice_get ts i) (sym (flat_map-cons (targets_of_part Destination) (part.Data (4096 * page + offset) len) (parts_of pieces pages))) ∙ e))
  where
    c : ((nat_lt 4096 (offset + len)) ≡ false) × (list_any crosses_page pieces ≡ false)
    c = or_parts (nat_lt 4096 (offset + len)) (list_any crosses_page pieces) crosses

    by_part : ((k : ℕ) → slice_get (targets Destination (parts_of pieces pages)) k ≡ Some (Place p) → is_among pages (page_of p) ≡ true)
        → (slice_get (map (λ place. Place place) (range_with_len (4096 * page + offset) len)) i ≡ Some (Place p)) ⊎ ((k : ℕ) × (i ≡ length (map (λ place. Place place) (range_with_len (4096 * page + offset) len)) + k) × (slice_get (targets Destination (parts_of pieces pages)) k ≡ Some (Place p)))
        → is_among (page ∷ pages) (page_of p) ≡ true
    by_part ih (inl h) =
        let r = range_get len (4096 * page + offset) i p h in
        or_left (page == page_of p) (is_among pages (page_of p)) (eq-eqb page (page_of p) (sym (ap page_of r.1 ∙ in_page page offset len i (not_crossing offset len c.0) r.0)))
    by_part ih (inr h) = or_right (page == page_of p) (is_among pages (page_of p)) (ih h.0 h.2)

pub targets_differ : (pieces : List Piece) (pages : List ℕ) → list_any crosses_page pieces ≡ false → ((p : ℕ) → times p pages ≤ 1) → (i k p : ℕ)
    → slice_get (targets Destination (parts_of pieces pages)) i ≡ Some (Place p) → slice_get (targets Destination (parts_of pieces pages)) k ≡ Some (Place p) → i ≡ k
targets_differ [] pages crosses once i k p e f = absurd cc
targets_differ (Bucket len ∷ pieces) pages crosses once i k p e f = by_both_parts (λ x y g h. targets_differ pieces pages crosses once x y p g h) (cut i e) (cut k f)
  where
    cut : (i : ℕ) → slice_get (targets Destination (parts_of (Bucket len ∷ pieces) pages)) i ≡ Some (Place p)
        → (slice_get (replicate len Discarded) i ≡ Some (Place p)) ⊎ ((k : ℕ) × (i ≡ length (replicate len Discarded) + k) × (slice_get (targets Destination (parts_of pieces pages)) k ≡ Some (Place p)))
    cut i e = split_get (replicate len Discarded) (targets Destination (parts_of pieces pages)) i (Place p) (ap (λ (ts : List Target). slice_get ts i) (sym (flat_map-cons (targets_of_part Destination) (part.Bucket len) (parts_of pieces pages))) ∙ e)

    by_both_parts : ((x y : ℕ) → slice_get (targets Destination (parts_of pieces pages)) x ≡ Some (Place p) → slice_get (targets Destination (parts_of pieces pages)) y ≡ Some (Place p) → x ≡ y)
        → (slice_get (replicate len Discarded) i ≡ Some (Place p)) ⊎ ((x : ℕ) × (i ≡ length (replicate len Discarded) + x) × (slice_get (targets Destination (parts_of pieces pages)) x ≡ Some (Place p)))
        → (slice_get (replicate len Discarded) k ≡ Some (Place p)) ⊎ ((x : ℕ) × (k ≡ length (replicate len Discarded) + x) × (slice_get (targets Destination (parts_of pieces pages)) x ≡ Some (Place p))) → i ≡ k
    by_both_parts ih (inl h) y = absurd (bucket_get len i p h)
    by_both_parts ih (inr h) (inl g) = absurd (bucket_get len k p g)
    by_both_parts ih (inr h) (inr g) = omega (arith, h.1, g.1, ih h.0 g.0 h.2 g.2)
targets_differ (Data offset len ∷ pieces) [] crosses once i k p e f = absurd cc
targets_differ (Data offset len ∷ pieces) (page ∷ pages) crosses once i k p e f =
    by_both_parts (λ x y g h. targets_differ pieces pages (or_parts (nat_lt 4096 (offset + len)) (list_any crosses_page pieces) crosses).1 (λ q. omega (arith, once q, times-cons q page pages)) x y p g h) (cut i e) (cut k f)
  where
    c : ((nat_lt 4096 (offset + len)) ≡ false) × (list_any crosses_page pieces ≡ false)
    c = or_parts (nat_lt 4096 (offset + len)) (list_any crosses_page pieces) crosses

    Part : ℕ → Type 0
    Part i = (slice_get (map (λ place. Place place) (range_with_len (4096 * page + offset) len)) i ≡ Some (Place p)) ⊎ ((x : ℕ) × (i ≡ length (map (λ place. Place place) (range_with_len (4096 * page + offset) len)) + x) × (slice_get (targets Destination (parts_of pieces pages)) x ≡ Some (Place p)))

    cut : (i : ℕ) → slice_get (targets Destination (parts_of (Data offset len ∷ pieces) (page ∷ pages))) i ≡ Some (Place p) → Part i
    cut i e = split_get (map (λ place. Place place) (range_with_len (4096 * page + offset) len)) (targets Destination (parts_of pieces pages)) i (Place p)
        (ap (λ (ts : List Target). slice_get ts i) (sym (flat_map-cons (targets_of_part Destination) (part.Data (4096 * page + offset) len) (parts_of pieces pages))) ∙ e)

    -- an address of the first page is none of the others'
    apart : (i x : ℕ) → slice_get (map (λ place. Place place) (range_with_len (4096 * page + offset) len)) i ≡ Some (Place p) → slice_get (targets Destination (parts_of pieces pages)) x ≡ Some (Place p) → ⊥
    apart i x h g =
        let r = range_get len (4096 * page + offset) i p h in
        let here : page_of p ≡ page = ap page_of r.1 ∙ in_page page offset len i (not_crossing offset len c.0) r.0 in
        let there : is_among pages page ≡ true = ap (is_among pages) (sym here) ∙ target_in pieces pages x p c.1 g in
        omega (arith, once page, times-cons page page pages, held_once page pages there, ap one (eq-eqb page page refl))

    by_both_parts : ((x y : ℕ) → slice_get (targets Destination (parts_of pieces pages)) x ≡ Some (Place p) → slice_get (targets Destination (parts_of pieces pages)) y ≡ Some (Place p) → x ≡ y) → Part i → Part k → i ≡ k
    by_both_parts ih (inl h) (inl g) = omega (arith, (range_get len (4096 * page + offset) i p h).1, (range_get len (4096 * page + offset) k p g).1)
    by_both_parts ih (inl h) (inr g) = absurd (apart i g.0 h g.2)
    by_both_parts ih (inr h) (inl g) = absurd (apart k h.0 g h.2)
    by_both_parts ih (inr h) (inr g) = omega (arith, h.1, g.1, ih h.0 g.0 h.2 g.2)
