-- Rows of bytes, one after the other, are the text of all of them.
use Rattle.std.proofs.Common.{arith, ◌≡◌, ◌<◌, ◌+◌, ◌/◌, ◌++◌, ◌∷◌, ◌∙◌, [], ℕ, suc, List, ap, append-nil, append_assoc, codes, drop, length, refl, sym, take}
use Rattle.texts.specs.Slots.{row_bytes_text, rows_text}

rows_step : (n : ℕ) (bytes : List ℕ) → rows_text (suc n) bytes ≡ codes "   " ++ (row_bytes_text (take 16 bytes) ++ ((10 ∷ []) ++ rows_text n (drop 16 bytes)))
unfolding rows_text
rows_step n bytes = refl

no_rows : (bytes : List ℕ) → rows_text 0 bytes ≡ []
unfolding rows_text
no_rows bytes = refl

joined : (a b r n t : List ℕ) → (a ++ (b ++ (r ++ n))) ++ t ≡ a ++ (b ++ (r ++ (n ++ t)))
joined a b r n t = append_assoc a _ t ∙ ap (λ (x : List ℕ). a ++ x) (append_assoc b _ t ∙ ap (λ (x : List ℕ). b ++ x) (append_assoc r n t))

one_more : (k n : ℕ) → k + 16 ≡ n → n / 16 ≡ suc (k / 16)
one_more k n e = omega arith

-- one more row is put
pub row_put : (said said' rest row behind whole : List ℕ) → said ++ rows_text (length rest / 16) rest ≡ whole → row ≡ take 16 rest → behind ≡ drop 16 rest → length behind + 16 ≡ length rest
    → said' ≡ said ++ (codes "   " ++ (row_bytes_text row ++ (10 ∷ []))) → said' ++ rows_text (length behind / 16) behind ≡ whole
row_put said said' rest row behind whole same is_row is_behind len is_said =
    ap (λ (x : List ℕ). x ++ rows_text n behind) is_said
    ∙ (joined said (codes "   ") (row_bytes_text row) (10 ∷ []) (rows_text n behind)
    ∙ (ap (λ (x : List ℕ). said ++ x) step ∙ same))
  where
    n : ℕ
    n = length behind / 16

    step : codes "   " ++ (row_bytes_text row ++ ((10 ∷ []) ++ rows_text n behind)) ≡ rows_text (length rest / 16) rest
    step = (rw (is_row, is_behind) refl) ∙ (sym (rows_step (length behind / 16) rest) ∙ ap (λ (m : ℕ). rows_text m rest) (sym (one_more (length behind) (length rest) len)))

pub all_put : (said rest whole : List ℕ) → said ++ rows_text (length rest / 16) rest ≡ whole → length rest < 16 → said ≡ whole
all_put said rest whole same short = sym (append-nil said) ∙ (ap (λ (text : List ℕ). said ++ text) (sym (none ∙ no_rows rest)) ∙ same)
  where
    none : rows_text (length rest / 16) rest ≡ rows_text 0 rest
    none = ap (λ (n : ℕ). rows_text n rest) (grind arith)
