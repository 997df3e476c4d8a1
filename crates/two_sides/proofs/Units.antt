-- What the first unit of a walk does to a pool and to the command's bytes, as the machine writes it.
use Rattle.std.proofs.Common.{◌≡◌, ℕ, zero, suc, ◌+◌, ◌-◌, ◌*◌, ◌/◌, ◌%◌, ◌<◌, ◌≤◌, ◌++◌, Bool, true, false, cond, Option, Some, None, IfSome, IsSome, is_some, List, [], ◌∷◌, length, take, drop, slice_get, slice_range, nat_le, nat_eq, leb-true, append_assoc, refl, ap, ap₂, sym, ◌∙◌, arith, subst, inl, inr}
use Rattle.std.{proofs.lemmas.{Bool.cases_Bool, List.{length-take-le, length-drop}}, specs.Option.option_map_or}
use Rattle.machine_model.{proofs.Steps.{in_store, in_store-with_bytes}, specs.{After.page_bytes, State.{State, Job}}}
use Rattle.controller_walk.specs.Laws.{after_units}
use Rattle.controller_walk.specs.Units.{Act, Stays, Reads, Moves, Course, Closes, Does, units, touched, read_at, from_place, behind, moving, first_part, pages_spanned}
use Rattle.controller_walk.specs.{Walks.{Effect, DoesFirst, LeavesRest, IfMore, answer, course_in}, declared.{cursor.Cursor.Cursor, progress.Progress.Progress}}
use Rattle.controller_walk.specs.declared.{progress.State.TheVariants.{First, Next, Data, Over}, walk.{Walk.Walk, WalkState.WalkState}}
use Rattle.controller_walk.specs.declared.walk.WalkState.TheVariants.{End, Fault}
use Rattle.entry_codec.specs.declared.status.TheConstants.Status.{DATA_TRANSFER_ERROR}
use Rattle.host_core.proofs.QueueLists.{page-written}
use Rattle.io_commands.specs.Jobs.{course_of_walk}
use Rattle.two_sides.proofs.ControllerMoves.{unit_bytes, unit_memory}
use Rattle.page_memory.{proofs.Bytes.{bytes_within, bytes_missing, told}, specs.Memory.{Memory, bytes_at, pages_reached, written}}
use Rattle.page_memory.specs.Pages.{Pages, page_at, byte_at, AreWhole, IsPool}
use Rattle.sgl_descriptor.specs.declared.Direction.{Direction, TheVariants.{Destination, Source}}
use Rattle.controller_walk.specs.declared.progress.State as progress
use Rattle.slot_table.proofs.Rows.{option_is}
use Rattle.host_core.proofs.Lists.{same_pages}

-- The first unit

pub record FirstUnit (c : Course) (dir : Direction) (m m' : Memory) (bytes bytes' : List ℕ) (outcome : WalkState) (left : Course) (pages : List ℕ) : Type 0 where
  pub act : Act
  pub rest : Course
  pub is : c ≡ Does act rest
  pub effect : Effect dir act m m' bytes bytes'
  pub touches : pages ≡ touched act
  pub answers : outcome ≡ answer rest
  pub goes_on : IfMore outcome (left ≡ rest)

pub first_unit : (c : Course) (dir : Direction) (m m' : Memory) (bytes bytes' : List ℕ) (outcome : WalkState) (left : Course) (pages : List ℕ)
    → DoesFirst c dir m m' bytes bytes' [] pages → LeavesRest c outcome left → FirstUnit c dir m m' bytes bytes' outcome left pages
first_unit (Closes v) dir m m' bytes bytes' outcome left pages does leaves = absurd does
first_unit (Does act rest) dir m m' bytes bytes' outcome left pages does leaves =
    record { act = act; rest = rest; is = refl; effect = does.0; touches = does.1; answers = leaves.0; goes_on = leaves.1 }

-- it is the next one of the list, where this many are done
pub next_done : (n : ℕ) (c : Course) (act : Act) (rest : Course) → after_units n c ≡ Does act rest → (slice_get (units c) n ≡ Some act) × (after_units (n + 1) c ≡ rest)
next_done n c act rest e =
    let both = along_units n c e in
    let next : n + 1 ≡ suc n = omega arith in
    (both.0, ap (λ (k : ℕ). after_units k c) next ∙ both.1)
  where
    along_units : (n : ℕ) (c : Course) → after_units n c ≡ Does act rest → (slice_get (units c) n ≡ Some act) × (after_units (suc n) c ≡ rest)
    along_units zero (Closes v) e = absurd cc
    along_units zero (Does x r) e = let same : x ≡ act = cc in let behind_it : r ≡ rest = cc in (ap Some same, behind_it)
    along_units (suc n) (Closes v) e = absurd cc
    along_units (suc n) (Does x r) e = along_units n r e

-- Each move lies in one page.

abbrev pub InPage : Act → Type 0
InPage (Moves place n offset) = (0 < n) × (place % 4096 + n ≤ 4096)
InPage x = Unit {0}

abbrev pub HeadInPage : Course → Type 0
HeadInPage (Closes v) = Unit {0}
HeadInPage (Does act rest) = InPage act

head_moving : (m : Memory) (n place len offset : ℕ) (rest : Course) → (0 < n → 0 < len) → HeadInPage rest → HeadInPage (moving m n place len offset rest)
unfolding moving
head_moving m zero place len offset rest some h = h
head_moving m (suc n) place len offset rest some h = by_presence (is_some (bytes_at m place (first_part place len)))
  where
    by_presence : (b : Bool) → HeadInPage (cond b (Does (Moves place (first_part place len) offset) (moving m n (place + first_part place len) (len - first_part place len) (offset + first_part place len) rest)) (Does Stays (Closes (Fault DATA_TRANSFER_ERROR))))
    by_presence true =
        elim (cases_Bool (nat_le len (4096 - place % 4096))) [
          | inl e ↦ rw e ((some (omega arith)), omega (arith, leb-true len (4096 - place % 4096) e))
          | inr e ↦ rw e (omega arith, omega arith)
        ]
    by_presence false = tt

head_from : (k : ℕ) (m : Memory) (dir : Direction) (need : ℕ) (c : Cursor) (wanted : ℕ) → HeadInPage (from_place k m dir need c wanted)
unfolding from_place
head_from zero m dir need c wanted = tt
head_from (suc k) m dir need c wanted = by_bytes (bytes_at m c.place 16)
  where
    by_bytes : (o : Option (List ℕ)) → HeadInPage (read_at m dir need c wanted (behind (from_place k m dir need)) o)
    by_bytes None = tt
    by_bytes (Some bytes) = tt

head_behind : (k : ℕ) (m : Memory) (dir : Direction) (need : ℕ) (o : Option Cursor) (wanted : ℕ) → HeadInPage (behind (from_place k m dir need) o wanted)
head_behind k m dir need None wanted = tt
head_behind k m dir need (Some c) wanted = by_wanted (nat_eq wanted 0)
  where
    by_wanted : (b : Bool) → HeadInPage (cond b (Closes End) (from_place k m dir need c wanted))
    by_wanted true = tt
    by_wanted false = head_from k m dir need c wanted

head_in : (m : Memory) (w : Progress) (s : progress.State) → HeadInPage (course_in m w s)
head_in m w (First sgl1) = tt
head_in m w (Next c) = head_from w.allowed m w.direction w.need c w.wanted
head_in m w (Data block after) =
    head_moving m (pages_spanned block.place block.len) block.place block.len block.offset _ (λ h. grind arith) (head_behind w.allowed m w.direction w.need after w.wanted)
head_in m w (Over fault) = tt

pub head_in_page : (m : Memory) (o : Option Walk) → HeadInPage (course_of_walk m o)
head_in_page m None = tt
head_in_page m (Some w) = head_in m w w.state

-- The pool and the bytes after it

-- the page of a move is in
page_of_move : (pages : Pages) (place n : ℕ) (found : List ℕ) → 0 < n → bytes_at (byte_at pages) place n ≡ Some found → (page : List ℕ) × (page_at pages (place / 4096) ≡ Some page)
page_of_move pages place n found some e =
    let parts : 4096 * (place / 4096) + place % 4096 ≡ place = omega arith in
    elim (option_is (page_at pages (place / 4096))) [
      | inl f ↦
          let missing : bytes_at (byte_at pages) place n ≡ None = subst (λ (x : ℕ). bytes_at (byte_at pages) x n ≡ None) parts (bytes_missing pages (place / 4096) n (place % 4096) f (omega arith) some) in
          absurd (let no : None ≡ Some found = sym missing ∙ e in cc)
      | inr (page, f) ↦ (page, f)
    ]

short_take : {A : Type 0} (n : ℕ) (xs : List A) → length (take n xs) ≤ n
short_take (suc n) (x ∷ xs) = omega (arith, short_take n xs)
short_take x xs = omega arith

range_is : (bytes : List ℕ) (offset n : ℕ) → slice_range bytes offset (offset + n) ≡ take n (drop offset bytes)
range_is bytes offset n = let k : offset + n - offset ≡ n = omega arith in ap (λ (x : ℕ). take x (drop offset bytes)) k

pub effect_told : (s : State) (j : Job) (new : Pages) (dir : Direction) (act : Act) (bytes' : List ℕ) → IsPool s.memory → AreWhole new → length new ≡ length s.memory → InPage act
    → Effect dir act (byte_at s.memory) (byte_at new) j.bytes bytes' → (new ≡ unit_memory s j dir act) × (bytes' ≡ unit_bytes s dir act j.bytes)
effect_told s j new Destination (Moves place n offset) bytes' pool whole size fits e =
    let (found, there, wrote) = e.0 in
    let (page, at) = page_of_move s.memory place n found fits.0 there in
    let parts : 4096 * (place / 4096) + place % 4096 ≡ place = omega arith in
    let short : length (take n (drop offset j.bytes)) ≤ n = short_take n (drop offset j.bytes) in (
      page-written s.memory new (place / 4096) (place % 4096) (take n (drop offset j.bytes)) (subst IsSome (sym at) refl) (omega (arith, short, fits.1)) pool whole size
          (wrote ∙ ap₂ (λ (p : ℕ) (xs : List ℕ). written (byte_at s.memory) p xs) (sym parts) (range_is j.bytes offset n)),
      e.1,
    )
effect_told s j new Source (Moves place n offset) bytes' pool whole size fits e =
    let (found, there, got) = e.0 in
    let (page, at) = page_of_move s.memory place n found fits.0 there in
    let parts : 4096 * (place / 4096) + place % 4096 ≡ place = omega arith in
    let long : length page ≡ 4096 = subst (λ o. IfSome o (λ page. length page ≡ 4096)) at (pool.whole (place / 4096)) in
    let read : bytes_at (byte_at s.memory) place n ≡ Some (take n (drop (place % 4096) page)) =
    subst (λ (p : ℕ). bytes_at (byte_at s.memory) p n ≡ Some (take n (drop (place % 4096) page))) parts (bytes_within s.memory (place / 4096) n (place % 4096) page at long fits.1) in
    let same : found ≡ take n (drop (place % 4096) page) = cc (there, read) in
    let is : page_bytes s.memory place n ≡ take n (drop (place % 4096) page) = ap (λ o. option_map_or (λ bytes. take n (drop (place % 4096) bytes)) o []) at in
    let many : length (page_bytes s.memory place n) ≡ n = ap length is ∙ (length-take-le n (drop (place % 4096) page) (omega (arith, length-drop (place % 4096) page, long, fits.1))) in (
      same_pages s.memory new pool.whole whole size e.1,
      got
          ∙ (ap₂ (λ (xs : List ℕ) (k : ℕ). take offset j.bytes ++ (xs ++ drop (offset + k) j.bytes)) (same ∙ sym is) (sym many)
          ∙ sym (append_assoc (take offset j.bytes) (page_bytes s.memory place n) (drop (offset + length (page_bytes s.memory place n)) j.bytes))),
    )
effect_told s j new dir x bytes' pool whole size fits e = (same_pages s.memory new pool.whole whole size e.0, e.1)

-- which pages are in stays
pub unit_stays : (s : State) (j : Job) (dir : Direction) (act : Act) → in_store (unit_memory s j dir act) ≡ in_store s.memory
unit_stays s j dir Stays = refl
unit_stays s j dir (Reads place) = refl
unit_stays s j Destination (Moves place n offset) = in_store-with_bytes s.memory (place / 4096) (place % 4096) (take n (drop offset j.bytes))
unit_stays s j Source (Moves place n offset) = refl

-- a unit touches two pages at most
few_reached : (place n : ℕ) → length (pages_reached place n) < 3
few_reached place n = grind arith

pub few_touched : (act : Act) → length (touched act) < 3
few_touched act = grind arith
