-- A table of regions as one number, which tells it.
use Rattle.std.proofs.Common.{◌≡◌, ℕ, zero, suc, ◌<◌, List, [], ◌∷◌, refl, ap, arith}
use Rattle.nvmesgl_c.specs.Regions.{Row, paired, number_of}

pub same_pair : (a b c d : ℕ) → paired a b ≡ paired c d → (a ≡ c) × (b ≡ d)
unfolding paired
same_pair zero b zero d e = (refl, omega (arith, e))
same_pair zero b (suc c) d e = absurd (omega (arith, e))
same_pair (suc a) b zero d e = absurd (omega (arith, e))
same_pair (suc a) b (suc c) d e =
    let inner : (a ≡ c) × (b ≡ d) = same_pair a b c d (omega (arith, e)) in (ap suc inner.0, inner.1)

pub some_pair : (a b : ℕ) → 0 < paired a b
unfolding paired
some_pair zero b = omega arith
some_pair (suc a) b = omega (arith, some_pair a b)

row_with : ℕ → ℕ → ℕ → Row
row_with addr len lies = record { addr = addr; len = len; lies = lies }

same_rows : (x y : Row) (xs ys : List Row) → x.addr ≡ y.addr → x.len ≡ y.len → x.lies ≡ y.lies → xs ≡ ys → x ∷ xs ≡ y ∷ ys
unfolding row_with
same_rows x y xs ys addr len lies rest = λ i. row_with (addr i) (len i) (lies i) ∷ rest i

pub same_table : (xs ys : List Row) → number_of xs ≡ number_of ys → xs ≡ ys
unfolding number_of
same_table [] [] e = refl
same_table [] (y ∷ ys) e = absurd (omega (arith, e, some_pair y.addr (paired y.len (paired y.lies (number_of ys)))))
same_table (x ∷ xs) [] e = absurd (omega (arith, e, some_pair x.addr (paired x.len (paired x.lies (number_of xs)))))
same_table (x ∷ xs) (y ∷ ys) e =
    let addr = same_pair x.addr (paired x.len (paired x.lies (number_of xs))) y.addr (paired y.len (paired y.lies (number_of ys))) e in
    let len = same_pair x.len (paired x.lies (number_of xs)) y.len (paired y.lies (number_of ys)) addr.1 in
    let lies = same_pair x.lies (number_of xs) y.lies (number_of ys) len.1 in
    same_rows x y xs ys addr.0 len.0 lies.0 (same_table xs ys lies.1)
