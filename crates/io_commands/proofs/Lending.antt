-- A data page of a draft is lent: what the draft is with other bytes there.
use Rattle.std.proofs.Common.{◌≡◌, ℕ, zero, suc, ◌<◌, Option, Some, None, List, [], ◌∷◌, length, take, drop, slice_get, slice_set, slice_index_or, refl, ap, sym, ◌∙◌, arith}
use Rattle.std.specs.Option.{option_map_or}
use Rattle.io_commands.proofs.Building.{built_filled}
use Rattle.io_commands.specs.{DataBytes.PagesOut, Drafts.{DraftContents, IsDraft}, Lent.{with_bytes_of, bytes_of}, Requests.{data_count, joined_parts}, Values.numbers_of}
use Rattle.sgl_chain.specs.Chains.{pages_needed}

behind : (x : ℕ × List ℕ) (f : ℕ × List ℕ → PagesOut) (o : Option (ℕ × List ℕ)) (z : PagesOut) → ◌≡◌ {A = PagesOut} (x ∷ option_map_or f o z) (option_map_or (λ p. x ∷ f p) o (x ∷ z))
behind x f None z = refl
behind x f (Some p) z = refl

next : (x : ℕ × List ℕ) (ps : PagesOut) (i : ℕ) (w : List ℕ) → ◌≡◌ {A = PagesOut} (x ∷ with_bytes_of ps i w) (with_bytes_of (x ∷ ps) (suc i) w)
next x ps i w = behind x (λ p. slice_set ps i (p.0, w)) (slice_get ps i) ps

-- The pages keep their numbers, and are as many.

numbers_lent : (ps : PagesOut) (i : ℕ) (w : List ℕ) → numbers_of (with_bytes_of ps i w) ≡ numbers_of ps
numbers_lent [] i w = refl
numbers_lent (p ∷ ps) zero w = refl
numbers_lent (p ∷ ps) (suc i) w = ap numbers_of (sym (next p ps i w)) ∙ ap (λ (ns : List ℕ). p.0 ∷ ns) (numbers_lent ps i w)

length_lent : (ps : PagesOut) (i : ℕ) (w : List ℕ) → length (with_bytes_of ps i w) ≡ length ps
length_lent [] i w = refl
length_lent (p ∷ ps) zero w = refl
length_lent (p ∷ ps) (suc i) w = ap length (sym (next p ps i w)) ∙ ap (λ (n : ℕ). suc n) (length_lent ps i w)

pub lent_keeps : (d : DraftContents) (i : ℕ) (w : List ℕ) → IsDraft d → IsDraft (record d { data_pages = with_bytes_of d.data_pages i w })
lent_keeps d i w h =
    record {
      good = h.good;
      low = h.low;
      high = h.high;
      pieces_have_pages = length_lent d.data_pages i w ∙ h.pieces_have_pages;
      chain_has_pages = h.chain_has_pages
          ∙ ap (λ (numbers : List ℕ). pages_needed (length (joined_parts d.request.pieces numbers)) d.segment) (sym (numbers_lent d.data_pages i w));
      built = built_filled d (with_bytes_of d.data_pages i w) d.entry (numbers_lent d.data_pages i w) h.built;
    }

-- Its first pages are those of its data.

lent_front : (n : ℕ) (xs : PagesOut) (i : ℕ) (page : ℕ × List ℕ) (w : List ℕ) → i < length (take n xs) → page ≡ slice_index_or xs i page
    → ◌≡◌ {A = PagesOut} (take n (slice_set xs i (page.0, w))) (with_bytes_of (take n xs) i w)
lent_front zero xs i page w l e = absurd (omega (arith, l))
lent_front (suc n) [] i page w l e = absurd (omega (arith, l))
lent_front (suc n) (x ∷ xs) zero page w l e = ap (λ (p : ℕ × List ℕ). (p.0, w) ∷ take n xs) e
lent_front (suc n) (x ∷ xs) (suc i) page w l e = ap (λ (ps : PagesOut). x ∷ ps) (lent_front n xs i page w (omega (arith, l)) e) ∙ next x (take n xs) i w

lent_back : (n : ℕ) (xs : PagesOut) (i : ℕ) (y : ℕ × List ℕ) → i < length (take n xs) → drop n (slice_set xs i y) ≡ drop n xs
lent_back zero xs i y l = absurd (omega (arith, l))
lent_back (suc n) [] i y l = absurd (omega (arith, l))
lent_back (suc n) (x ∷ xs) zero y l = refl
lent_back (suc n) (x ∷ xs) (suc i) y l = lent_back n xs i y (omega (arith, l))

pub lent_bytes : (n : ℕ) (xs : PagesOut) (i : ℕ) (page : ℕ × List ℕ) → i < length (take n xs) → page ≡ slice_index_or xs i page → page.1 ≡ bytes_of (take n xs) i
lent_bytes zero xs i page l e = absurd (omega (arith, l))
lent_bytes (suc n) [] i page l e = absurd (omega (arith, l))
lent_bytes (suc n) (x ∷ xs) zero page l e = ap (λ (p : ℕ × List ℕ). p.1) e
lent_bytes (suc n) (x ∷ xs) (suc i) page l e = lent_bytes n xs i page (omega (arith, l)) e

pub lent_is : (d : DraftContents) (xs : PagesOut) (i : ℕ) (page : ℕ × List ℕ) (w : List ℕ) → d.data_pages ≡ take (data_count d.request.pieces) xs → d.chain_pages ≡ drop (data_count d.request.pieces) xs
    → i < length (take (data_count d.request.pieces) xs) → page ≡ slice_index_or xs i page
    → ◌≡◌ {A = DraftContents}
    (record d { data_pages = take (data_count d.request.pieces) (slice_set xs i (page.0, w)); chain_pages = drop (data_count d.request.pieces) (slice_set xs i (page.0, w)) })
    (record d { data_pages = with_bytes_of d.data_pages i w })
lent_is d xs i page w in_data in_chain l e =
    rw (in_data, in_chain, lent_front (data_count d.request.pieces) xs i page w l e, lent_back (data_count d.request.pieces) xs i (page.0, w) l) refl
