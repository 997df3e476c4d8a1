-- Regions as a memory: what a run of a range shows, and what is left where one is overwritten.
use Rattle.std.proofs.Common.{◌≡◌, ◌≢◌, ◌⊎◌, inl, inr, ℕ, zero, suc, ◌+◌, ◌-◌, ◌<◌, ◌≤◌, ◌&&◌, Bool, true, false, List, [], ◌∷◌, ◌++◌, Option, Some, None, refl, sym, ap, ◌∙◌, subst, if◌then◌else◌, length, take, drop, get_or, max, nat_le, nat_lt, slice_set, arith}
use Rattle.std.{proofs.{Math.{Path.fun_ext, Seq.{map-set_same, take-add}}, lemmas.{Bool.{cases_lt, Decides.nat_tests}, List.{length-drop, length-take-le, take_all, take_more}, Option.{get_or_from_slice_get, slice_get-get_or, slice_get_within}}}, specs.{List.slice_get, Option.{IsSome, is_some}}}
use Rattle.page_memory.{proofs.Bytes.{bytes_held, bytes_some, missing_at, written-append, written_in, written_before, written_after}, specs.{Memory.{Memory, bytes_at, written}, Pages.with_bytes}}
use Rattle.nvmesgl_c.{proofs.{Named.written_alike, Slices.{get_range, get_with_before, get_with_in, length_range, wrote}}, specs.Regions.{IsClear, IsMissing, IsRun, Row, byte_in, has_byte, memory_of, pages_of, pages_up_to, row_of, table_of}}
use Rattle.nvmesgl_c.specs.declared.words.region.{CRegion.CRegion, Run.Run}

-- Which addresses a region has

pub clash : (b : Bool) → b ≡ true → b ≡ false → ⊥
clash b has lacks = cc

decide : (b : Bool) → (b ≡ true) ⊎ (b ≡ false)
decide true = inl refl
decide false = inr refl

has_within : (r : CRegion) (p : ℕ) → r.addr ≤ p → p < r.addr + length r.bytes.now → has_byte r p ≡ true
has_within r p low high = grind (arith, nat_tests)

has_before : (r : CRegion) (p : ℕ) → p < r.addr → has_byte r p ≡ false
has_before r p low = grind (arith, nat_tests)

has_past : (r : CRegion) (p : ℕ) → r.addr + length r.bytes.now ≤ p → has_byte r p ≡ false
has_past r p high = grind (arith, nat_tests)

starts : (r : CRegion) (p : ℕ) → has_byte r p ≡ true → r.addr ≤ p
starts r p has = elim (cases_lt p r.addr) [
  | inl low ↦ absurd (clash (has_byte r p) has (has_before r p low))
  | inr high ↦ high
]

pub same_range : (old new : CRegion) (p : ℕ) → new.addr ≡ old.addr → length new.bytes.now ≡ length old.bytes.now → has_byte new p ≡ has_byte old p
same_range old new p addr len = λ i. nat_le (addr i) p && nat_lt p (addr i + len i)

pub clear_less : (r : CRegion) (addr count less : ℕ) → IsClear r addr count → less ≤ count → IsClear r addr less
clear_less r addr count less clear few = λ k low. clear k (omega (arith, low, few))

-- an address that lies outside what is clear of a region
outside : (r : CRegion) (addr count p : ℕ) → IsClear r addr count → has_byte r p ≡ true → (p < addr) ⊎ (addr + count ≤ p)
outside r addr count p clear has = elim (cases_lt p addr) [
  | inl low ↦ inl low
  | inr from ↦ elim (cases_lt p (addr + count)) [
    | inl small ↦ absurd (clash (has_byte r p) has (subst (λ (q : ℕ). has_byte r q ≡ false) (within addr p from) (clear (p - addr) (omega (arith, small, from)))))
    | inr high ↦ inr high
  ]
] where
  within : (addr p : ℕ) → addr ≤ p → addr + (p - addr) ≡ p
  within addr p from = omega (arith, from)

-- The first region that has a byte

byte_here : (r : CRegion) (rs : List CRegion) (p : ℕ) → has_byte r p ≡ true → byte_in (r ∷ rs) p ≡ slice_get r.bytes.now (p - r.addr)
byte_here r rs p has = ap (λ (b : Bool). if b then slice_get r.bytes.now (p - r.addr) else byte_in rs p) has

byte_on : (r : CRegion) (rs : List CRegion) (p : ℕ) → has_byte r p ≡ false → byte_in (r ∷ rs) p ≡ byte_in rs p
byte_on r rs p lacks = ap (λ (b : Bool). if b then slice_get r.bytes.now (p - r.addr) else byte_in rs p) lacks

pub same_region : (a b : CRegion) → Some a ≡ Some b → a ≡ b
same_region a b e = cc

byte_found : (rs : List CRegion) (place p : ℕ) (r : CRegion) → slice_get rs place ≡ Some r
    → ((j : ℕ) (x : CRegion) → j < place → slice_get rs j ≡ Some x → has_byte x p ≡ false)
    → has_byte r p ≡ true → byte_in rs p ≡ slice_get r.bytes.now (p - r.addr)
byte_found [] place p r found first has = absurd (omega (arith, slice_get_within [] place r found))
byte_found (x ∷ xs) zero p r found first has =
    subst (λ (o : CRegion). has_byte o p ≡ true → byte_in (x ∷ xs) p ≡ slice_get o.bytes.now (p - o.addr)) (same_region x r found) (byte_here x xs p) has
byte_found (x ∷ xs) (suc place) p r found first has =
    byte_on x xs p (first zero x (omega arith) refl) ∙ byte_found xs place p r found (λ j o low is. first (suc j) o (omega (arith, low)) is) has

byte_none : (rs : List CRegion) (p : ℕ) → ((j : ℕ) (x : CRegion) → slice_get rs j ≡ Some x → has_byte x p ≡ false) → byte_in rs p ≡ None
byte_none [] p none = refl
byte_none (x ∷ xs) p none = byte_on x xs p (none zero x refl) ∙ byte_none xs p (λ j o is. none (suc j) o is)

offset : (addr from at k : ℕ) → from + at ≡ addr → addr + k - from ≡ at + k
offset addr from at k begins = omega (arith, begins)

-- what a run shows
run_shows : (rs : List CRegion) (addr most : ℕ) (run : Run) (is : IsRun rs addr most run) (k : ℕ) → k < run.count → byte_in rs (addr + k) ≡ slice_get is.region.bytes.now (run.at + k)
run_shows rs addr most run is k low =
    byte_found rs run.place (addr + k) is.region is.found (λ j x before found. is.first j x before found k low)
    (has_within is.region (addr + k) (omega (arith, is.begins)) (omega (arith, is.begins, is.fits, low)))
    ∙ ap (slice_get is.region.bytes.now) (offset addr is.region.addr run.at k is.begins)

-- A write

-- one that is seen from another place
shifted : (m m' : Memory) (from at addr p : ℕ) (new : List ℕ) → from + at ≡ addr → from ≤ p → m (p - from) ≡ m' p → written m at new (p - from) ≡ written m' addr new p
shifted m m' from at addr p new begins low e = elim (cases_lt p addr) [
  | inl before ↦ written_before m at (p - from) new (omega (arith, before, begins, low)) ∙ e ∙ sym (written_before m' addr p new before)
  | inr on ↦ elim (cases_lt p (addr + length new)) [
    | inl inside ↦ written_in m at (p - from) new (omega (arith, begins, on)) (omega (arith, begins, low, inside))
        ∙ ap (λ (i : ℕ). Some (get_or new i 0)) (back from at addr p begins low) ∙ sym (written_in m' addr p new on inside)
    | inr after ↦ written_after m at (p - from) new (omega (arith, begins, low, after)) ∙ e ∙ sym (written_after m' addr p new after)
  ]
] where
  back : (from at addr p : ℕ) → from + at ≡ addr → from ≤ p → p - from - at ≡ p - addr
  back from at addr p begins low = omega (arith, begins, low)

-- of the region itself
put_here : (old new : CRegion) (xs : List CRegion) (addr at p : ℕ) (bytes : List ℕ) → new.addr ≡ old.addr → length new.bytes.now ≡ length old.bytes.now → new.bytes.now ≡ with_bytes old.bytes.now at bytes
    → old.addr + at ≡ addr → at + length bytes ≤ length old.bytes.now → byte_in (new ∷ xs) p ≡ written (byte_in (old ∷ xs)) addr bytes p
put_here old new xs addr at p bytes where-is long becomes begins fits = elim (decide (has_byte old p)) [
  | inl has ↦ byte_here new xs p (same_range old new p where-is long ∙ has)
      ∙ ap (λ (a : ℕ). slice_get new.bytes.now (p - a)) where-is
      ∙ ap (λ (l : List ℕ). slice_get l (p - old.addr)) becomes
      ∙ ap (λ (m : Memory). m (p - old.addr)) (wrote old.bytes.now bytes at fits)
      ∙ shifted (slice_get old.bytes.now) (byte_in (old ∷ xs)) old.addr at addr p bytes begins (starts old p has) (sym (byte_here old xs p has))
  | inr lacks ↦ byte_on new xs p (same_range old new p where-is long ∙ lacks) ∙ sym (byte_on old xs p lacks)
      ∙ elim (cases_lt p addr) [
        | inl before ↦ sym (written_before (byte_in (old ∷ xs)) addr p bytes before)
        | inr on ↦ elim (cases_lt p (addr + length bytes)) [
          | inl inside ↦ absurd (clash (has_byte old p) (has_within old p (omega (arith, begins, on)) (omega (arith, begins, fits, inside))) lacks)
          | inr after ↦ sym (written_after (byte_in (old ∷ xs)) addr p bytes after)
        ]
      ]
]

-- of a region after others, which have no byte of the range
put_at : (rs : List CRegion) (place : ℕ) (old new : CRegion) (addr at p : ℕ) (bytes : List ℕ) → slice_get rs place ≡ Some old → new.addr ≡ old.addr → length new.bytes.now ≡ length old.bytes.now
    → new.bytes.now ≡ with_bytes old.bytes.now at bytes → old.addr + at ≡ addr → at + length bytes ≤ length old.bytes.now
    → ((j : ℕ) (x : CRegion) → j < place → slice_get rs j ≡ Some x → IsClear x addr (length bytes))
    → byte_in (slice_set rs place new) p ≡ written (byte_in rs) addr bytes p
put_at [] place old new addr at p bytes found where-is long becomes begins fits first = absurd (omega (arith, slice_get_within [] place old found))
put_at (x ∷ xs) zero old new addr at p bytes found where-is long becomes begins fits first =
    put_here old new xs addr at p bytes where-is long becomes begins fits
    ∙ ap (λ (o : CRegion). written (byte_in (o ∷ xs)) addr bytes p) (sym (same_region x old found))
put_at (x ∷ xs) (suc place) old new addr at p bytes found where-is long becomes begins fits first = elim (decide (has_byte x p)) [
  | inl has ↦ byte_here x (slice_set xs place new) p has ∙ sym (byte_here x xs p has)
      ∙ elim (outside x addr (length bytes) p (first zero x (omega arith) refl) has) [
        | inl before ↦ sym (written_before (byte_in (x ∷ xs)) addr p bytes before)
        | inr after ↦ sym (written_after (byte_in (x ∷ xs)) addr p bytes after)
      ]
  | inr lacks ↦ byte_on x (slice_set xs place new) p lacks
      ∙ put_at xs place old new addr at p bytes found where-is long becomes begins fits (λ j o low is. first (suc j) o (omega (arith, low)) is)
      ∙ written_alike (byte_in xs) (byte_in (x ∷ xs)) addr p bytes (sym (byte_on x xs p lacks))
]

-- this many bytes were written, and the next run is
pub put_more : (m : Memory) (rs : List CRegion) (addr done : ℕ) (run : Run) (new : CRegion) (bytes piece : List ℕ) (is : IsRun rs (addr + done) (length bytes - done) run)
    → new.addr ≡ is.region.addr → length new.bytes.now ≡ length is.region.bytes.now → new.bytes.now ≡ with_bytes is.region.bytes.now run.at piece
    → piece ≡ take run.count (drop done bytes) → length piece ≡ run.count → done ≤ length bytes
    → byte_in rs ≡ written m addr (take done bytes)
    → byte_in (slice_set rs run.place new) ≡ written m addr (take (done + run.count) bytes)
put_more m rs addr done run new bytes piece is where-is long becomes cut few small so-far =
    fun_ext (λ p. put_at rs run.place is.region new (addr + done) run.at p piece is.found where-is long becomes is.begins (omega (arith, is.fits, few))
    (λ j x low found. clear_less x (addr + done) run.count (length piece) (is.first j x low found) (omega (arith, few))))
    ∙ ap (λ (o : Memory). written o (addr + done) piece) so-far
    ∙ ap (λ (n : ℕ). written (written m addr (take done bytes)) (addr + n) piece) (sym (length-take-le done bytes small))
    ∙ written-append m addr (take done bytes) piece
    ∙ ap (λ (l : List ℕ). written m addr (take done bytes ++ l)) cut
    ∙ ap (written m addr) (sym (take-add done run.count bytes))

-- so it is with a region that is read out of its table
pub put_step : (m : Memory) (rs : List CRegion) (addr done n : ℕ) (run : Run) (old new d : CRegion) (bytes : List ℕ) → IsRun rs (addr + done) (length bytes - done) run → old ≡ get_or rs run.place d
    → new.addr ≡ old.addr → length new.bytes.now ≡ length old.bytes.now → new.bytes.now ≡ with_bytes old.bytes.now run.at (take n (drop done bytes))
    → n ≡ run.count → done ≤ length bytes → byte_in rs ≡ written m addr (take done bytes)
    → byte_in (slice_set rs run.place new) ≡ written m addr (take (done + run.count) bytes)
put_step m rs addr done n run old new d bytes is was where-is long becomes count small so-far =
    let same : old ≡ is.region = was ∙ get_or_from_slice_get rs run.place is.region d is.found in
    put_more m rs addr done run new bytes (take n (drop done bytes)) is (where-is ∙ ap (λ (r : CRegion). r.addr) same) (long ∙ ap (λ (r : CRegion). length r.bytes.now) same)
    (becomes ∙ ap (λ (r : CRegion). with_bytes r.bytes.now run.at (take n (drop done bytes))) same) (ap (λ (k : ℕ). take k (drop done bytes)) count)
    (length-take-le n (drop done bytes) (omega (arith, length-drop done bytes, count, is.few)) ∙ count) small so-far

holds-nothing : (o : Option ℕ) → IsSome o → o ≡ None → ⊥
holds-nothing o some none = clash (is_some o) some (ap (λ (p : Option ℕ). is_some p) none)

-- the runs end only where all is written
pub all_put : (m : Memory) (rs : List CRegion) (addr done : ℕ) (bytes : List ℕ) → done ≤ length bytes → byte_in rs ≡ written m addr (take done bytes)
    → (0 < length bytes - done → byte_in rs (addr + done) ≡ None) → ((k : ℕ) → k < length bytes → IsSome (m (addr + k))) → byte_in rs ≡ written m addr bytes
all_put m rs addr done bytes small so-far ends there = elim (cases_lt done (length bytes)) [
  | inl more ↦ absurd (holds-nothing (m (addr + done)) (there done more)
      (sym (written_after m addr (addr + done) (take done bytes) (omega (arith, length-take-le done bytes small))) ∙ ap (λ (o : Memory). o (addr + done)) (sym so-far) ∙ ends (omega (arith, more))))
  | inr all ↦ so-far ∙ ap (written m addr) (take_all done bytes all)
]

row_with : ℕ → ℕ → ℕ → Row
row_with addr len lies = record { addr = addr; len = len; lies = lies }

same_row : (old new : CRegion) → new.addr ≡ old.addr → length new.bytes.now ≡ length old.bytes.now → new.bytes.ghost_name ≡ old.bytes.ghost_name → row_of new ≡ row_of old
unfolding row_with
same_row old new addr len lies = λ i. row_with (addr i) (len i) (lies i)

-- where the regions lie stays
pub same_table : (rs : List CRegion) (place : ℕ) (old new d : CRegion) → old ≡ get_or rs place d → new.addr ≡ old.addr → length new.bytes.now ≡ length old.bytes.now → new.bytes.ghost_name ≡ old.bytes.ghost_name
    → table_of (slice_set rs place new) ≡ table_of rs
same_table rs place old new d was addr len lies = map-set_same row_of rs place new d (same_row old new addr len lies ∙ ap row_of was)

-- A read

some_is : (o : Option ℕ) (x : ℕ) → o ≡ Some x → IsSome o
some_is o x e = ap (λ (p : Option ℕ). is_some p) e

again : (addr done k : ℕ) → done ≤ k → addr + done + (k - done) ≡ addr + k
again addr done k from = omega (arith, from)

-- what a run shows is there
run_some : (rs : List CRegion) (addr most : ℕ) (run : Run) (is : IsRun rs addr most run) (k : ℕ) → k < run.count → byte_in rs (addr + k) ≡ Some (get_or is.region.bytes.now (run.at + k) 0)
run_some rs addr most run is k low = run_shows rs addr most run is k low ∙ slice_get-get_or is.region.bytes.now (run.at + k) 0 (omega (arith, is.fits, low))

pub there_more : (rs : List CRegion) (addr done most : ℕ) (run : Run) → IsRun rs (addr + done) most run → ((k : ℕ) → k < done → IsSome (byte_in rs (addr + k)))
    → (k : ℕ) → k < done + run.count → IsSome (byte_in rs (addr + k))
there_more rs addr done most run is so-far k low = elim (cases_lt k done) [
  | inl before ↦ so-far k before
  | inr from ↦ subst (λ (p : ℕ). IsSome (byte_in rs p)) (again addr done k from)
      (some_is (byte_in rs (addr + done + (k - done))) (get_or is.region.bytes.now (run.at + (k - done)) 0) (run_some rs (addr + done) most run is (k - done) (omega (arith, low, from))))
]

pub copied_more : (rs : List CRegion) (addr done most n : ℕ) (run : Run) (r : CRegion) (old new : List ℕ) → IsRun rs (addr + done) most run → r ≡ get_or rs run.place r
    → new ≡ with_bytes old done (take n (drop run.at r.bytes.now)) → n ≡ run.count → done + run.count ≤ length old
    → ((k : ℕ) → k < done → byte_in rs (addr + k) ≡ Some (get_or old k 0)) → (k : ℕ) → k < done + run.count → byte_in rs (addr + k) ≡ Some (get_or new k 0)
copied_more rs addr done most n run r old new is was becomes count fits so-far k low =
    let same : r ≡ is.region = was ∙ get_or_from_slice_get rs run.place is.region r is.found in
    let piece : List ℕ = take n (drop run.at r.bytes.now) in
    let long : length piece ≡ run.count = length_range r.bytes.now run.at n (rw (count, same) is.fits) ∙ count in
    rw becomes (elim (cases_lt k done) [
      | inl before ↦ so-far k before ∙ ap (λ (b : ℕ). Some b) (sym (get_with_before old piece done k (omega (arith, long, fits)) before))
      | inr from ↦ ap (byte_in rs) (sym (again addr done k from)) ∙ run_some rs (addr + done) most run is (k - done) (omega (arith, low, from))
          ∙ ap (λ (x : CRegion). Some (get_or x.bytes.now (run.at + (k - done)) 0)) (sym same)
          ∙ ap (λ (b : ℕ). Some b) (sym (get_range r.bytes.now run.at n (k - done) (rw (count, same) is.fits) (omega (arith, low, from, count))))
          ∙ ap (λ (b : ℕ). Some b) (sym (get_with_in old piece done k (omega (arith, long, fits)) from (omega (arith, low, long))))
    ])

-- no region has the byte at an address
pub none_there : (rs : List CRegion) (addr left place : ℕ) → 0 < left → length rs ≤ place → ((j : ℕ) (x : CRegion) → j < place → slice_get rs j ≡ Some x → IsClear x addr left) → byte_in rs addr ≡ None
none_there rs addr left place some all first =
    byte_none rs addr (λ j x found. subst (λ (p : ℕ). has_byte x p ≡ false) (at_front addr) (first j x (omega (arith, slice_get_within rs j x found, all)) found 0 some)) where
      at_front : (addr : ℕ) → addr + 0 ≡ addr
      at_front addr = omega arith

-- Regions as a memory, whose addresses end

pub past_none : (rs : List CRegion) (p : ℕ) → 17592186044416 ≤ p → memory_of rs p ≡ None
past_none rs p high = grind (arith, nat_tests)

low_byte : (rs : List CRegion) (p : ℕ) → p < 17592186044416 → memory_of rs p ≡ byte_in rs p
low_byte rs p low = grind (arith, nat_tests)

pub missing_past : (rs : List CRegion) (addr n : ℕ) → 0 < n → 17592186044416 < addr + n → bytes_at (memory_of rs) addr n ≡ None
missing_past rs addr n some past = missing_at (memory_of rs) addr n (n - 1) (omega (arith, some)) (past_none rs (addr + (n - 1)) (omega (arith, some, past)))

pub missing_in : (rs : List CRegion) (addr n : ℕ) → addr + n ≤ 17592186044416 → IsMissing rs addr n → bytes_at (memory_of rs) addr n ≡ None
missing_in rs addr n low is = missing_at (memory_of rs) addr n is.place is.within (low_byte rs (addr + is.place) (omega (arith, low, is.within)) ∙ is.none)

pub read_in : (rs : List CRegion) (addr : ℕ) (into : List ℕ) → addr + length into ≤ 17592186044416 → ((k : ℕ) → k < length into → byte_in rs (addr + k) ≡ Some (get_or into k 0))
    → bytes_at (memory_of rs) addr (length into) ≡ Some into
read_in rs addr into low all = bytes_held (memory_of rs) addr into (λ k small. low_byte rs (addr + k) (omega (arith, low, small)) ∙ all k small)

pub there_in : (rs : List CRegion) (addr n : ℕ) → addr + n ≤ 17592186044416 → ((k : ℕ) → k < n → IsSome (byte_in rs (addr + k))) → bytes_at (memory_of rs) addr n ≢ None
there_in rs addr n low all = bytes_some (memory_of rs) addr n (λ k small. subst (λ (o : Option ℕ). IsSome o) (sym (low_byte rs (addr + k) (omega (arith, low, small)))) (all k small))

pub wrote_in : (rs rs' : List CRegion) (addr : ℕ) (bytes : List ℕ) → addr + length bytes ≤ 17592186044416 → byte_in rs' ≡ written (byte_in rs) addr bytes → memory_of rs' ≡ written (memory_of rs) addr bytes
wrote_in rs rs' addr bytes low e = fun_ext (λ p. elim (cases_lt p 17592186044416) [
  | inl small ↦ low_byte rs' p small ∙ ap (λ (m : Memory). m p) e ∙ written_alike (byte_in rs) (memory_of rs) addr p bytes (sym (low_byte rs p small))
  | inr high ↦ past_none rs' p high ∙ sym (past_none rs p high) ∙ sym (written_after (memory_of rs) addr p bytes (omega (arith, low, high)))
])

-- How many pages there are

pub pages_more : (rs : List CRegion) (r : CRegion) → pages_of (rs ++ r ∷ []) ≡ max (pages_of rs) (pages_up_to r)
pages_more [] r = omega arith
pages_more (x ∷ xs) r = ap (max (pages_up_to x)) (pages_more xs r) ∙ three (pages_up_to x) (pages_of xs) (pages_up_to r) where
  three : (a b c : ℕ) → max a (max b c) ≡ max (max a b) c
  three a b c = omega arith

pub pages_step : (rs : List CRegion) (i pages most : ℕ) (r : CRegion) → i < length rs → r ≡ get_or rs i r → pages ≡ pages_of (take i rs) → most ≡ max pages (pages_up_to r) → most ≡ pages_of (take (i + 1) rs)
pages_step rs i pages most r low was so-far picks =
    picks ∙ ap (λ (n : ℕ). max n (pages_up_to r)) so-far ∙ ap (λ (x : CRegion). max (pages_of (take i rs)) (pages_up_to x)) was ∙ sym (pages_more (take i rs) (get_or rs i r))
    ∙ ap pages_of (sym (take_more rs i r low))
