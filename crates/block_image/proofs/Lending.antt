-- Where lent blocks lie in the namespace that is shown.
use Rattle.std.proofs.Common.{◌≡◌, ℕ, ◌+◌, ◌-◌, ◌*◌, ◌%◌, ◌≤◌, true, List, ◌++◌, length, replicate, take, drop, sym, ◌∙◌, ap, arith, append_assoc, length-append}
use Rattle.std.proofs.lemmas.List.{take-append-drop, take-append-le, length-take-le, length-drop, length-replicate, take_at, drop_at}
use Rattle.std.proofs.lemmas.Bool.Decides.{nat_tests}
use Rattle.block_image.specs.Blocks.{IsPart, block_count, blocks_at, with_blocks, shown, is_lent}

-- blocks that are lent begin after the first of them, and end with the last
pub record LiesIn (first : ℕ) (lent : List ℕ) (slba n : ℕ) : Type 0 where
  pub low : first ≤ slba
  pub inside : slba + n ≤ first + block_count lent

pub lies_in : (first : ℕ) (lent : List ℕ) (slba n : ℕ) → is_lent first lent slba n ≡ true → LiesIn first lent slba n
lies_in first lent slba n is = record { low = grind (arith, nat_tests); inside = grind (arith, nat_tests) }

-- the middle of three parts, cut at a place
cut : (front lent back : List ℕ) (s : ℕ) → (front ++ lent) ++ back ≡ (front ++ take s lent) ++ (drop s lent ++ back)
cut front lent back s = ap (λ (xs : List ℕ). (front ++ xs) ++ back) (sym (take-append-drop s lent)) ∙ simp append_assoc

take-cut : (front lent back : List ℕ) (s k : ℕ) → s ≤ length lent → k ≡ length front + s → take k ((front ++ lent) ++ back) ≡ front ++ take s lent
take-cut front lent back s k inside is =
    let long : length (front ++ take s lent) ≡ k = omega (arith, length-append front (take s lent), length-take-le s lent inside) in
    ap (take k) (cut front lent back s) ∙ take_at (front ++ take s lent) (drop s lent ++ back) k long

drop-cut : (front lent back : List ℕ) (s k : ℕ) → s ≤ length lent → k ≡ length front + s → drop k ((front ++ lent) ++ back) ≡ drop s lent ++ back
drop-cut front lent back s k inside is =
    let long : length (front ++ take s lent) ≡ k = omega (arith, length-append front (take s lent), length-take-le s lent inside) in
    ap (drop k) (cut front lent back s) ∙ drop_at (front ++ take s lent) (drop s lent ++ back) k long

-- the blocks that are shown where some are lent are the lent ones
pub shown_part : (blocks first : ℕ) (lent : List ℕ) (slba n : ℕ) →
    IsPart blocks first lent → LiesIn first lent slba n →
    blocks_at (shown blocks first lent) slba n ≡ take (512 * n) (drop (512 * (slba - first)) lent)
shown_part blocks first lent slba n part lies =
    let zeros : List ℕ = replicate (512 * blocks) 0 in
    let s : ℕ = 512 * (slba - first) in
    let front : length (take (512 * first) zeros) ≡ 512 * first = length-take-le (512 * first) zeros (omega (arith, part.inside, length-replicate {A = ℕ} (512 * blocks) 0)) in
    let inside : s ≤ length lent = omega (arith, lies.inside, lies.low) in
    let place : 512 * slba ≡ length (take (512 * first) zeros) + s = omega (arith, lies.low, front) in
    let few : 512 * n ≤ length (drop s lent) = omega (arith, lies.inside, lies.low, length-drop s lent) in
    ap (take (512 * n)) (drop-cut (take (512 * first) zeros) lent (drop (512 * first + length lent) zeros) s (512 * slba) inside place)
    ∙ take-append-le (512 * n) (drop s lent) (drop (512 * first + length lent) zeros) few

-- blocks that are put into the lent ones are put into those that are shown
pub put_shown : (blocks first : ℕ) (lent : List ℕ) (slba : ℕ) (new : List ℕ) →
    IsPart blocks first lent → length new % 512 ≡ 0 → LiesIn first lent slba (block_count new) →
    shown blocks first (take (512 * (slba - first)) lent ++ new ++ drop (512 * (slba - first) + length new) lent)
    ≡ with_blocks (shown blocks first lent) slba new
put_shown blocks first lent slba new part whole lies =
    let zeros : List ℕ = replicate (512 * blocks) 0 in
    let s : ℕ = 512 * (slba - first) in
    let e : ℕ = s + length new in
    let front : length (take (512 * first) zeros) ≡ 512 * first = length-take-le (512 * first) zeros (omega (arith, part.inside, length-replicate {A = ℕ} (512 * blocks) 0)) in
    let ends : e ≤ length lent = omega (arith, whole, part.whole, lies.inside, lies.low) in
    let begins : s ≤ length lent = omega (arith, ends) in
    let place : 512 * slba ≡ length (take (512 * first) zeros) + s = omega (arith, lies.low, front) in
    let place_end : 512 * slba + length new ≡ length (take (512 * first) zeros) + e = omega (arith, lies.low, front) in
    let long : length (take s lent ++ new ++ drop e lent) ≡ length lent =
    omega (arith, length-append (take s lent ++ new) (drop e lent), length-append (take s lent) new, length-take-le s lent begins, length-drop e lent, ends) in
    let back : List ℕ = drop (512 * first + length lent) zeros in
    rw (long, take-cut (take (512 * first) zeros) lent back s (512 * slba) begins place, drop-cut (take (512 * first) zeros) lent back e (512 * slba + length new) ends place_end)
    (simp append_assoc)
