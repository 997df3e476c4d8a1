-- Blocks, pieces and numbers of a load, one after the other.
use Rattle.std.proofs.Common.{◌≡◌, ◌∙◌, ℕ, ◌+◌, ◌-◌, ◌<◌, suc, List, ◌++◌, arith, ap, append_assoc, sym, add-one, ◌*◌, ◌/◌, ◌%◌, ◌^◌, ◌≤◌, inl, inr, refl, subst, All, [], ◌∷◌, length, map, ◌⊎◌, Option}
use Rattle.std.proofs.Math.{ListN.get_or-append, Nat.{add-mul, mul-add, mul-le-mul_right, pow-suc}, Seq.get_or-append_seam}
use Rattle.std.{proofs.lemmas.{Bool.{cases_lt, le-ltb, lt-ltb}, List.{length-append, length-map, map-append, append-nil}}, specs.Io.KnownBytes.{Appends, Keeps}}
use Rattle.std.specs.Prelude.{slice_index_or}
use Rattle.load.specs.{Content.{block_bytes, blocks_bytes, rows}, Histograms.{IsBucketOf, low_of}, Lines.{IsLineFront, line_text}, Planning.{full_pieces, pieces_of}}
use Rattle.load.specs.{Tallies.{TaskEnd, both, no_tally, tallies_from, tally_from}, declared.{plan.Planned.Planned, tally.Tally.Tally}}
use Rattle.script_cli.specs.declared.workload.Pattern.{Pattern}
use Rattle.io_commands.specs.declared.request.Piece.{Piece, TheVariants.Data}
use Rattle.script_cli.{proofs.Texts.{appends_none, keeps_then}, specs.Inputs.{Gains, IsFront}}

-- The bytes of blocks, one after the other.

-- the next block of those that are left
pub next_block : (seed generation at end : ℕ) → at < end
    → blocks_bytes seed generation at (end - at) ≡ block_bytes seed at generation ++ blocks_bytes seed generation (at + 1) (end - (at + 1))
next_block seed generation at end more =
    let left : end - at ≡ suc (end - (at + 1)) = omega arith in
    ap (blocks_bytes seed generation at) left

-- a block after the bytes so far
pub block_put : (seed generation at end : ℕ) (old new whole : List ℕ) → at < end → new ≡ old ++ block_bytes seed at generation
    → old ++ blocks_bytes seed generation at (end - at) ≡ whole → new ++ blocks_bytes seed generation (at + 1) (end - (at + 1)) ≡ whole
block_put seed generation at end old new whole more put is =
    ap (λ (bs : List ℕ). bs ++ blocks_bytes seed generation (at + 1) (end - (at + 1))) put
    ∙ append_assoc old (block_bytes seed at generation) (blocks_bytes seed generation (at + 1) (end - (at + 1)))
    ∙ ap (λ (bs : List ℕ). old ++ bs) (sym (next_block seed generation at end more)) ∙ is

-- The rows of a block.

-- the next row of those that are left
next_row : (row : List ℕ) (at : ℕ) → at < 7 → rows row at (7 - at) ≡ at ∷ row ++ rows row (at + 1) (7 - (at + 1))
next_row row at more =
    let left : 7 - at ≡ suc (7 - (at + 1)) = omega arith in
    ap (rows row at) left

-- a row after the bytes so far
pub row_put : (row : List ℕ) (at : ℕ) (old mid new whole : List ℕ) → at < 7 → mid ≡ old ++ at ∷ [] → new ≡ mid ++ row
    → old ++ rows row at (7 - at) ≡ whole → new ++ rows row (at + 1) (7 - (at + 1)) ≡ whole
row_put row at old mid new whole more pushed put is =
    let left : List ℕ = rows row (at + 1) (7 - (at + 1)) in
    ap (λ (bs : List ℕ). bs ++ left) put
    ∙ append_assoc mid row left
    ∙ ap (λ (bs : List ℕ). bs ++ (row ++ left)) pushed
    ∙ append_assoc old (at ∷ []) (row ++ left)
    ∙ ap (λ (bs : List ℕ). old ++ bs) (sym (next_row row at more)) ∙ is

-- The buckets of numbers.

-- the next power of two is twice this one
twice : (n : ℕ) → 2 ^ (n + 1) ≡ 2 ^ n + 2 ^ n
twice n =
    let next : 2 ^ (n + 1) ≡ 2 ^ n * 2 = ap (λ (m : ℕ). 2 ^ m) (add-one n) ∙ pow-suc 2 n in
    omega (arith, next)

-- What holds of a number between this many powers of two and one more of them
pub record IsBetween (shift top value : ℕ) : Type 0 where
  pub low : top * 2 ^ shift ≤ value
  pub high : value < (top + 1) * 2 ^ shift
  pub large : 0 < shift → 16 ≤ top
  pub few : shift ≤ 59

few_more : (shift top value : ℕ) → 32 ≤ top → top * 2 ^ shift ≤ value → value < 2 ^ 64 → shift ≤ 59 → shift + 1 ≤ 59
few_more shift top value much low fits few =
    elim (cases_lt shift 59) [
      | inl below ↦ omega arith
      | inr above ↦
          let last : shift ≡ 59 = omega arith in
          let at : top * 2 ^ 59 ≤ value = subst (λ (n : ℕ). top * 2 ^ n ≤ value) last low in
          absurd (omega arith)
    ]

-- half as many of the next power of two
pub halved : (shift top value : ℕ) → 32 ≤ top → value < 2 ^ 64 → IsBetween shift top value → IsBetween (shift + 1) (top / 2) value
halved shift top value much fits is =
    let half : top / 2 + top / 2 ≤ top = omega arith in
    let past : top + 1 ≤ top / 2 + 1 + (top / 2 + 1) = omega arith in
    let below : (top / 2 + top / 2) * 2 ^ shift ≤ top * 2 ^ shift = mul-le-mul_right (2 ^ shift) half in
    let above : (top + 1) * 2 ^ shift ≤ (top / 2 + 1 + (top / 2 + 1)) * 2 ^ shift = mul-le-mul_right (2 ^ shift) past in
    let low_is : top / 2 * 2 ^ (shift + 1) ≡ (top / 2 + top / 2) * 2 ^ shift =
    ap (λ (p : ℕ). top / 2 * p) (twice shift) ∙ mul-add (top / 2) (2 ^ shift) (2 ^ shift) ∙ sym (add-mul (top / 2) (top / 2) (2 ^ shift)) in
    let high_is : (top / 2 + 1) * 2 ^ (shift + 1) ≡ (top / 2 + 1 + (top / 2 + 1)) * 2 ^ shift =
    ap (λ (p : ℕ). (top / 2 + 1) * p) (twice shift) ∙ mul-add (top / 2 + 1) (2 ^ shift) (2 ^ shift) ∙ sym (add-mul (top / 2 + 1) (top / 2 + 1) (2 ^ shift)) in
    record {
      low = omega (arith, low_is, below, is.low);
      high = omega (arith, high_is, above, is.high);
      large = λ some. omega arith;
      few = few_more shift top value much is.low fits is.few;
    }

-- the first number of a bucket of a power of two
low_at : (shift top : ℕ) → 0 < shift → 16 ≤ top → top < 32 → low_of (16 * shift + top) ≡ top * 2 ^ shift
low_at shift top some least most =
    let whole : 16 + (16 * shift + top) % 16 ≡ top = omega arith in
    let power : (16 * shift + top) / 16 - 1 ≡ shift = omega arith in
    let many : 32 ≤ 16 * shift + top = omega arith in
    rw (le-ltb (16 * shift + top) 32 many) (rw (whole, power) refl)

low_small : (n : ℕ) → n < 32 → low_of n ≡ n
low_small n few = rw (lt-ltb n 32 few) refl

-- the first number of the next one
low_after : (shift top : ℕ) → 0 < shift → 16 ≤ top → top < 32 → low_of (16 * shift + top + 1) ≡ (top + 1) * 2 ^ shift
low_after shift top some least most =
    elim (cases_lt (top + 1) 32) [
      | inl below ↦
          let next : 16 * shift + top + 1 ≡ 16 * shift + (top + 1) = omega arith in
          ap low_of next ∙ low_at shift (top + 1) some (omega arith) below
      | inr above ↦
          let next : 16 * shift + top + 1 ≡ 16 * (shift + 1) + 16 = omega arith in
          let last : top + 1 ≡ 32 = omega arith in
          let power : 16 * 2 ^ (shift + 1) ≡ 32 * 2 ^ shift = omega (arith, twice shift) in
          ap low_of next ∙ low_at (shift + 1) 16 (omega arith) (omega arith) (omega arith) ∙ power ∙ sym (ap (λ (n : ℕ). n * 2 ^ shift) last)
    ]

small_after : (top : ℕ) → top < 32 → low_of (top + 1) ≡ top + 1
small_after top few =
    elim (cases_lt (top + 1) 32) [
      | inl below ↦ low_small (top + 1) below
      | inr above ↦
          let last : top + 1 ≡ 32 = omega arith in
          ap low_of last ∙ sym last
    ]

-- the bucket of such a number
pub in_bucket : (shift top value : ℕ) → top < 32 → IsBetween shift top value → IsBucketOf (16 * shift + top) value
in_bucket shift top value few is =
    elim (cases_lt 0 shift) [
      | inl some ↦
          let low = low_at shift top some (is.large some) few in
          let after = low_after shift top some (is.large some) few in
          (omega (arith, low, is.low), omega (arith, after, is.high))
      | inr none ↦
          let zero_is : shift ≡ 0 = omega arith in
          let low : top * 2 ^ 0 ≤ value = subst (λ (n : ℕ). top * 2 ^ n ≤ value) zero_is is.low in
          let high : value < (top + 1) * 2 ^ 0 = subst (λ (n : ℕ). value < (top + 1) * 2 ^ n) zero_is is.high in
          let here : 16 * shift + top ≡ top = omega arith in
          let next : 16 * shift + top + 1 ≡ top + 1 = omega arith in
          let first = ap low_of here ∙ low_small top few in
          let after = ap low_of next ∙ small_after top few in
          (omega (arith, first, low), omega (arith, after, high))
    ]

-- Lists of lists, one after the other.

-- what holds of each place holds with one more
each_behind : {X : Type 0} (P : ℕ → X → Type 0) (xs : List X) (y : X) → ((s : ℕ) (d : X) → s < length xs → P s (slice_index_or xs s d)) → P (length xs) y
    → (s : ℕ) (d : X) → s < length (xs ++ y ∷ []) → P s (slice_index_or (xs ++ y ∷ []) s d)
each_behind {X} P xs y each last s d below =
    elim (cases_lt s (length xs)) [
      | inl before ↦ subst (λ (x : X). P s x) (sym (get_or-append xs (y ∷ []) d s before)) (each s d before)
      | inr behind ↦
          let at : s ≡ length xs = omega (arith, length-append xs (y ∷ [])) in
          let is : slice_index_or (xs ++ y ∷ []) s d ≡ y = ap (λ (k : ℕ). slice_index_or (xs ++ y ∷ []) k d) at ∙ get_or-append_seam xs y [] d in
          subst (λ (x : X). P s x) (sym is) (subst (λ (k : ℕ). P k y) (sym at) last)
    ]

-- the same of lists that are seen in values
pub each_more : {V X : Type 0} (seen : V → X) (P : ℕ → X → Type 0) (vs ws : List V) (v : V) → ws ≡ vs ++ v ∷ []
    → ((s : ℕ) (d : X) → s < length (map seen vs) → P s (slice_index_or (map seen vs) s d)) → P (length vs) (seen v)
    → (s : ℕ) (d : X) → s < length (map seen ws) → P s (slice_index_or (map seen ws) s d)
each_more {V} {X} seen P vs ws v more each last =
    let is : map seen ws ≡ map seen vs ++ seen v ∷ [] = ap (map seen) more ∙ map-append seen vs (v ∷ []) in
    subst (λ (xs : List X). (s : ℕ) (d : X) → s < length xs → P s (slice_index_or xs s d)) (sym is)
    (each_behind P (map seen vs) (seen v) each (subst (λ (k : ℕ). P k (seen v)) (sym (length-map vs seen)) last))

-- and so of all
pub one_more : {V : Type 0} (P : V → Type 0) (vs ws : List V) (v : V) → ws ≡ vs ++ v ∷ [] → All P vs → P v → All P ws
one_more {V} P vs ws v more all last =
    subst (λ (xs : List V). All P xs) (sym more) (λ k d below. each_behind (λ (s : ℕ) (x : V). P x) vs v (λ s e under. all s e under) last k d below)

-- The pieces of a command, one page after the other.

-- where more than a page is left, its first page is full
pub first_page : (rest : ℕ) → 8 < rest → pieces_of rest ≡ Data 0 4096 ∷ pieces_of (rest - 8)
first_page rest more =
    let pages : (rest - 1) / 8 ≡ suc ((rest - 8 - 1) / 8) = omega arith in
    let last : rest - 8 * ((rest - 1) / 8) ≡ rest - 8 - 8 * ((rest - 8 - 1) / 8) = omega arith in
    ap (λ (n : ℕ). full_pieces ((rest - 1) / 8) (Data 0 (512 * n) ∷ [])) last
    ∙ ap (λ (n : ℕ). full_pieces n (Data 0 (512 * (rest - 8 - 8 * ((rest - 8 - 1) / 8))) ∷ [])) pages

-- a full page after the pieces so far
pub page_pushed : (old new : List Piece) (rest blocks : ℕ) → new ≡ old ++ Data 0 4096 ∷ [] → 8 < rest → old ++ pieces_of rest ≡ pieces_of blocks
    → new ++ pieces_of (rest - 8) ≡ pieces_of blocks
page_pushed old new rest blocks pushed more is =
    ap (λ (ps : List Piece). ps ++ pieces_of (rest - 8)) pushed ∙ append_assoc old (Data 0 4096 ∷ []) (pieces_of (rest - 8))
    ∙ ap (λ (ps : List Piece). old ++ ps) (sym (first_page rest more)) ∙ is

-- Commands are counted one after the other.

-- where no command is left, or none has an end, no more is counted
pub all_counted : (tally : Tally) (ps : List Planned) (es : List TaskEnd) → (ps ≡ []) ⊎ (es ≡ []) → tally_from tally ps es ≡ tally
all_counted tally ps es (inl none) = rw none refl
all_counted tally [] es (inr none) = refl
all_counted tally (p ∷ ps) es (inr none) = rw none refl

-- the next submitter of those that are left
pub one_list_counted : {V W : Type 0} (plan_of : V → List Planned) (ends_of : W → List TaskEnd) (old new : Tally) (ps qs : List V) (es fs : List W)
    (p : V) (e : W) → ps ≡ p ∷ qs → es ≡ e ∷ fs → new ≡ both old (tally_from no_tally (plan_of p) (ends_of e))
    → tallies_from new (map plan_of qs) (map ends_of fs) ≡ tallies_from old (map plan_of ps) (map ends_of es)
one_list_counted plan_of ends_of old new ps qs es fs p e first second is = rw (first, second, is) refl

-- where no submitter is left, or none has ends, no more is counted
pub all_lists_counted : {V W : Type 0} (plan_of : V → List Planned) (ends_of : W → List TaskEnd) (tally : Tally) (ps : List V) (es : List W)
    → (ps ≡ []) ⊎ (es ≡ []) → tallies_from tally (map plan_of ps) (map ends_of es) ≡ tally
all_lists_counted plan_of ends_of tally ps es (inl none) = rw none refl
all_lists_counted plan_of ends_of tally [] es (inr none) = refl
all_lists_counted plan_of ends_of tally (p ∷ ps) es (inr none) = rw none refl

-- What is written of a load that did not run to its end.

pub nothing_written : (pattern : Pattern) (bytes : Option (List ℕ)) → Gains bytes bytes (IsLineFront pattern)
nothing_written pattern bytes = ([], (no_tally, (line_text pattern no_tally, refl)), appends_none bytes)

pub front_written : (pattern : Pattern) (tally : Tally) (a b : Option (List ℕ)) → Gains a b (λ front. IsFront front (line_text pattern tally)) → Gains a b (IsLineFront pattern)
front_written pattern tally a b (bytes, front, appends) = (bytes, (tally, front), appends)

-- a line that is written whole is a prefix of itself
pub whole_written : (line : List ℕ) (a b c : Option (List ℕ)) → Appends a b line → Keeps b c → Gains a c (λ front. IsFront front line)
whole_written line a b c written kept = (line, ([], sym (append-nil line)), keeps_then a b c line written kept)
