-- Bytes are laid into the start of buffers, one after the other.
use Rattle.std.proofs.Common.{◌≡◌, ℕ, zero, suc, ◌+◌, ◌<◌, ◌≤◌, List, [], ◌∷◌, ◌++◌, length, take, drop, map, min, slice_set, refl, ap, sym, ◌∙◌, arith, length-set, subst}
use Rattle.std.proofs.lemmas.List.{length-map, append-nil, drop_all, take_all, drop_min, same_lists, places, map-set, get_or-map}
use Rattle.std.specs.Prelude.{get_or}
use Rattle.std.proofs.lemmas.List.Folds.{flat_map-map}
use Rattle.nvmesgl_c.specs.declared.words.buffers.CBuffer.{CBuffer}
use Rattle.std.specs.List.{flat_map}
use Rattle.nvmesgl_c.specs.Buffers.{contents_of, filled, lengths_of, joined_buffers}

-- the bytes in each buffer, once they are laid in
abbrev pub laid_in : List ℕ → List (List ℕ) → List (List ℕ)
laid_in bytes [] = []
laid_in bytes (old ∷ olds) = filled bytes old ∷ laid_in (drop (length old) bytes) olds

length_filled : (bytes old : List ℕ) → length (filled bytes old) ≡ length old
length_filled bytes old = grind (arith, places)

filled_joined : (bytes old more : List ℕ) → filled bytes old ++ filled (drop (length old) bytes) more ≡ filled bytes (old ++ more)
filled_joined bytes old more = same_lists _ _ (grind (arith, places)) (λ k d h. grind (arith, places))

pub joined_laid : (bytes : List ℕ) (olds : List (List ℕ)) → flat_map (λ (x : List ℕ). x) (laid_in bytes olds) ≡ filled bytes (flat_map (λ (x : List ℕ). x) olds)
joined_laid bytes [] = sym (drop_all (length bytes) [] (omega arith))
joined_laid bytes (old ∷ olds) = ap (λ (l : List ℕ). filled bytes old ++ l) (joined_laid (drop (length old) bytes) olds) ∙ filled_joined bytes old (flat_map (λ (x : List ℕ). x) olds)

pub lengths_laid : (bytes : List ℕ) (olds : List (List ℕ)) → map (λ (x : List ℕ). length x) (laid_in bytes olds) ≡ map (λ (x : List ℕ). length x) olds
lengths_laid bytes [] = refl
lengths_laid bytes (old ∷ olds) =
    ap (λ (n : ℕ). n ∷ map (λ (x : List ℕ). length x) (laid_in (drop (length old) bytes) olds)) (length_filled bytes old)
    ∙ ap (λ (l : List ℕ). length old ∷ l) (lengths_laid (drop (length old) bytes) olds)

-- this many buffers are filled, and what is left goes into the others
pub record Scattered (bytes rest : List ℕ) (olds nows : List (List ℕ)) (count : ℕ) : Type 0 where
  pub lays : laid_in bytes olds ≡ take count nows ++ laid_in rest (drop count nows)
  pub long : length nows ≡ length olds

pub none_scattered : (bytes : List ℕ) (olds : List (List ℕ)) → Scattered bytes bytes olds olds 0
none_scattered bytes olds = record { lays = refl; long = refl }

one_more : (rest : List ℕ) (nows : List (List ℕ)) (count : ℕ) → count < length nows
    → take count nows ++ laid_in rest (drop count nows)
    ≡ take (suc count) (slice_set nows count (filled rest (get_or nows count []))) ++ laid_in (drop (length (get_or nows count [])) rest) (drop (suc count) (slice_set nows count (filled rest (get_or nows count []))))
one_more rest [] count l = absurd (omega arith)
one_more rest (now ∷ nows) zero l = refl
one_more rest (now ∷ nows) (suc count) l = ap (λ (cells : List (List ℕ)). now ∷ cells) (one_more rest nows count (omega arith))

pub scattered_more : (bytes rest : List ℕ) (olds nows : List (List ℕ)) (count : ℕ) → Scattered bytes rest olds nows count → count < length nows
    → Scattered bytes (drop (length (get_or nows count [])) rest) olds (slice_set nows count (filled rest (get_or nows count []))) (count + 1)
scattered_more bytes rest olds nows count h l =
    let next : suc count ≡ count + 1 = omega arith in
    let now = get_or nows count [] in
    let set = slice_set nows count (filled rest now) in
    record {
      lays = h.lays ∙ (one_more rest nows count l ∙ ap (λ (n : ℕ). take n set ++ laid_in (drop (length now) rest) (drop n set)) next);
      long = length-set nows count (filled rest now) ∙ h.long;
    }

pub all_scattered : (bytes rest : List ℕ) (olds nows : List (List ℕ)) (count : ℕ) → Scattered bytes rest olds nows count → length nows ≤ count → nows ≡ laid_in bytes olds
all_scattered bytes rest olds nows count h l =
    sym (append-nil nows)
    ∙ ap (λ (front : List (List ℕ)). front ++ []) (sym (take_all count nows l))
    ∙ ap (λ (back : List (List ℕ)). take count nows ++ laid_in rest back) (sym (drop_all count nows l))
    ∙ sym h.lays

-- one buffer is filled
pub buffer_scattered : (bytes rest : List ℕ) (olds buffers : List CBuffer) (i count : ℕ) (old new d : CBuffer) → Scattered bytes rest (contents_of olds) (contents_of buffers) i → i < length buffers
    → old ≡ get_or buffers i d → count ≡ min (length old.bytes.now) (length rest) → new.bytes.now ≡ filled rest old.bytes.now
    → Scattered bytes (drop count rest) (contents_of olds) (contents_of (slice_set buffers i new)) (i + 1)
buffer_scattered bytes rest olds buffers i count old new d h l was counts fills =
    let now : get_or (contents_of buffers) i [] ≡ old.bytes.now = get_or-map (λ (r : CBuffer). r.bytes.now) buffers i d [] l ∙ ap (λ (r : CBuffer). r.bytes.now) (sym was) in
    let long : i < length (contents_of buffers) = rw (length-map buffers (λ (r : CBuffer). r.bytes.now)) l in
    let more = scattered_more bytes rest (contents_of olds) (contents_of buffers) i h long in
    rw (map-set (λ (r : CBuffer). r.bytes.now) buffers i new, fills, counts, drop_min (length old.bytes.now) rest)
    (subst (λ (o : List ℕ). Scattered bytes (drop (length o) rest) (contents_of olds) (slice_set (contents_of buffers) i (filled rest o)) (i + 1)) now more)

pub buffers_scattered : (bytes rest : List ℕ) (olds buffers : List CBuffer) (i : ℕ) → Scattered bytes rest (contents_of olds) (contents_of buffers) i → length buffers ≤ i
    → (lengths_of buffers ≡ lengths_of olds) × (joined_buffers buffers ≡ filled bytes (joined_buffers olds))
buffers_scattered bytes rest olds buffers i h l =
    let long : length (contents_of buffers) ≤ i = rw (length-map buffers (λ (r : CBuffer). r.bytes.now)) l in
    let all = all_scattered bytes rest (contents_of olds) (contents_of buffers) i h long in
    let flat : (rs : List CBuffer) → flat_map (λ (x : List ℕ). x) (contents_of rs) ≡ joined_buffers rs = flat_map-map (λ (x : List ℕ). x) (λ (r : CBuffer). r.bytes.now) in (
      ap (λ (ls : List (List ℕ)). map (λ (x : List ℕ). length x) ls) all ∙ lengths_laid bytes (contents_of olds),
      sym (flat buffers) ∙ ap (λ (ls : List (List ℕ)). flat_map (λ (x : List ℕ). x) ls) all ∙ joined_laid bytes (contents_of olds) ∙ ap (filled bytes) (flat olds),
    )
