-- Bytes with zeros after them, piece by piece.
use Rattle.std.proofs.Common.{◌≡◌, ℕ, zero, suc, Bool, false, nat_lt, List, [], ◌∷◌, ◌++◌, ◌+◌, ◌-◌, ◌<◌, ◌≤◌, ◌∙◌, refl, ap, sym, subst, cond, append_assoc, length-append, length, replicate, take, drop, sum_by, arith}
use Rattle.std.proofs.lemmas.List.{length-drop, length-take-le, take_at, drop_at, drop-drop, take-replicate, drop-replicate}
use Rattle.std.proofs.lemmas.{Bool.{or_parts, Decides.nat_tests}, List.Sums.{sum_by-cons}}
use Rattle.std.specs.List.{list_any}
use Rattle.page_memory.specs.Pages.{with_bytes}
use Rattle.io_commands.specs.{DataBytes.{PagesOut, data_length, filled}, Requests.{crosses_page, data_count, is_data}}
use Rattle.io_commands.specs.declared.request.Piece.{Piece, TheVariants.{Data, Bucket}}

-- bytes are written after other bytes
pub written_behind : (page here zeros : List ℕ) (at : ℕ) → at + length here ≤ length page → with_bytes (with_bytes page at here) (at + length here) zeros ≡ with_bytes page at (here ++ zeros)
written_behind page here zeros at fits =
    let front : List ℕ = take at page ++ here in
    let rest : List ℕ = drop (at + length here) page in
    let long : length front ≡ at + length here = length-append (take at page) here ∙ ap (λ (n : ℕ). n + length here) (length-take-le at page (omega arith)) in
    let first : take (at + length here) (front ++ rest) ≡ front = take_at front rest (at + length here) long in
    let behind : drop (at + length here + length zeros) (front ++ rest) ≡ drop (at + length here + length zeros) page =
    sym (drop-drop (length zeros) (at + length here) (front ++ rest)) ∙ ap (drop (length zeros)) (drop_at front rest (at + length here) long) ∙ drop-drop (length zeros) (at + length here) page in
    rw (first, behind, append_assoc (take at page) here zeros, length-append here zeros) (ap (λ (n : ℕ). (take at page ++ (here ++ zeros)) ++ drop n page) (omega arith))

-- the first of the padded bytes are what there is of the bytes, and zeros ..
take_padded : (len more : ℕ) (bytes : List ℕ) → take len (bytes ++ replicate (len + more - length bytes) 0) ≡ take len bytes ++ replicate (len - length (take len bytes)) 0
take_padded zero more bytes = refl
take_padded (suc len) more [] =
    let whole : suc len + more - 0 ≡ suc len + more = omega arith in
    let first : suc len - 0 ≡ suc len = omega arith in
    rw (whole, first) (take-replicate (suc len) (suc len + more) 0 (omega arith))
take_padded (suc len) more (b ∷ bytes) =
    let whole : suc len + more - suc (length bytes) ≡ len + more - length bytes = omega arith in
    let first : suc len - suc (length (take len bytes)) ≡ len - length (take len bytes) = omega arith in
    rw (whole, first) (ap (λ (xs : List ℕ). b ∷ xs) (take_padded len more bytes))

-- .. and so are the others
drop_padded : (len more : ℕ) (bytes : List ℕ) → drop len (bytes ++ replicate (len + more - length bytes) 0) ≡ drop len bytes ++ replicate (more - length (drop len bytes)) 0
drop_padded zero more bytes = ap (λ (n : ℕ). bytes ++ replicate n 0) (omega arith)
drop_padded (suc len) more [] = drop-replicate (suc len) (suc len + more - 0) 0 ∙ ap (λ (n : ℕ). replicate n 0) (omega arith)
drop_padded (suc len) more (b ∷ bytes) =
    let whole : suc len + more - suc (length bytes) ≡ len + more - length bytes = omega arith in
    rw whole (drop_padded len more bytes)

-- a piece has what there is of the bytes, and zeros; the pieces after it have the others
pub piece_filled : (pieces others : List Piece) (piece : Piece) (offset len : ℕ) (pages behind left : PagesOut) (page new : ℕ × List ℕ) (bytes here rest : List ℕ)
    → pieces ≡ piece ∷ others → piece ≡ Data offset len → pages ≡ page ∷ behind → here ≡ take len bytes → rest ≡ drop len bytes
    → new ≡ (page.0, with_bytes page.1 offset (here ++ replicate (len - length here) 0)) → left ≡ filled others behind (rest ++ replicate (sum_by data_length others - length rest) 0)
    → ◌≡◌ {A = PagesOut} (new ∷ left) (filled pieces pages (bytes ++ replicate (sum_by data_length pieces - length bytes) 0))
piece_filled pieces others piece offset len pages behind left page new bytes here rest are is there first last wrote filled_behind =
    let more : ℕ = sum_by data_length others in
    rw (are, is, there, sum_by-cons data_length (Data offset len) others, take_padded len more bytes, drop_padded len more bytes, wrote, filled_behind, first, last) refl

-- What is owed of the first piece, and of those after it

owed : (pieces others : List Piece) (piece : Piece) → pieces ≡ piece ∷ others → list_any crosses_page pieces ≡ false → (crosses_page piece ≡ false) × (list_any crosses_page others ≡ false)
owed pieces others piece are inside = or_parts (crosses_page piece) (list_any crosses_page others) (subst (λ (ps : List Piece). list_any crosses_page ps ≡ false) are inside)

pub piece_inside : (pieces others : List Piece) (piece : Piece) (offset len : ℕ) → pieces ≡ piece ∷ others → piece ≡ Data offset len → list_any crosses_page pieces ≡ false → offset + len ≤ 4096
piece_inside pieces others piece offset len are is inside = fits (subst (λ (p : Piece). crosses_page p ≡ false) is (owed pieces others piece are inside).0) where
  fits : nat_lt 4096 (offset + len) ≡ false → offset + len ≤ 4096
  fits h = grind (arith, nat_tests)

pub others_inside : (pieces others : List Piece) (piece : Piece) → pieces ≡ piece ∷ others → list_any crosses_page pieces ≡ false → list_any crosses_page others ≡ false
others_inside pieces others piece are inside = (owed pieces others piece are inside).1

pub pages_behind : (pieces others : List Piece) (piece : Piece) (offset len : ℕ) (pages behind : PagesOut) (page : ℕ × List ℕ) → pieces ≡ piece ∷ others → piece ≡ Data offset len → pages ≡ page ∷ behind
    → data_count pieces ≤ length pages → data_count others ≤ length behind
pages_behind pieces others piece offset len pages behind page are is there enough =
    subst (λ (p : Piece). data_count (p ∷ others) ≤ length (page ∷ behind) → data_count others ≤ length behind) (sym is)
    (λ e. omega (arith, e, sum_by-cons (λ (p : Piece). cond (is_data p) 1 0) (Data offset len) others))
    (subst (λ (ps : PagesOut). data_count (piece ∷ others) ≤ length ps) there (subst (λ (ps : List Piece). data_count ps ≤ length pages) are enough))

pub bytes_behind : (pieces others : List Piece) (piece : Piece) (offset len : ℕ) (bytes rest : List ℕ) → pieces ≡ piece ∷ others → piece ≡ Data offset len → rest ≡ drop len bytes
    → length bytes ≤ sum_by data_length pieces → length rest ≤ sum_by data_length others
bytes_behind pieces others piece offset len bytes rest are is last few =
    subst (λ (xs : List ℕ). length xs ≤ sum_by data_length others) (sym last)
    (subst (λ (p : Piece). length bytes ≤ sum_by data_length (p ∷ others) → length (drop len bytes) ≤ sum_by data_length others) (sym is)
    (λ e. omega (arith, e, length-drop len bytes, sum_by-cons data_length (Data offset len) others))
    (subst (λ (ps : List Piece). length bytes ≤ sum_by data_length ps) are few))

-- a bucket at the front has nothing to fill
pub bucket_passed : (pieces others : List Piece) (piece : Piece) (len : ℕ) → pieces ≡ piece ∷ others → piece ≡ Bucket len → (data_count pieces ≡ data_count others) × (sum_by data_length pieces ≡ sum_by data_length others)
bucket_passed pieces others piece len are is =
    rw (are, is) (omega (arith, sum_by-cons (λ (p : Piece). cond (is_data p) 1 0) (Bucket len) others), omega (arith, sum_by-cons data_length (Bucket len) others))

pub bucket_filled : (pieces others : List Piece) (piece : Piece) (len : ℕ) (pages new : PagesOut) (bytes : List ℕ) → pieces ≡ piece ∷ others → piece ≡ Bucket len
    → new ≡ filled others pages (bytes ++ replicate (sum_by data_length others - length bytes) 0) → new ≡ filled pieces pages (bytes ++ replicate (sum_by data_length pieces - length bytes) 0)
bucket_filled pieces others piece len pages new bytes are is behind =
    let sums : sum_by data_length others ≡ sum_by data_length (Bucket len ∷ others) = omega (arith, sum_by-cons data_length (Bucket len) others) in
    behind ∙ rw (are, is) (ap (λ (n : ℕ). filled others pages (bytes ++ replicate (n - length bytes) 0)) sums)
