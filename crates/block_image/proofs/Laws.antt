-- A put of blocks leaves the blocks below it and above it as they were.
use Rattle.std.proofs.Common.{◌≡◌, ℕ, ◌+◌, ◌*◌, ◌≤◌, List, ◌++◌, length, take, drop, sym, ◌∙◌, ap, arith, append_assoc, length-append, inl, inr}
use Rattle.std.proofs.lemmas.{List.{take-append-drop, take-append-le, drop-append-le, length-take-le, length-drop}, Slice.drop-append-drop}
use Rattle.block_image.specs.Blocks.{PutKeepsOthers}

-- what lies before a seam does not see what stands after it
slice-append :
    (front rest : List ℕ) (at n : ℕ) → at + n ≤ length front → take n (drop at (front ++ rest)) ≡ take n (drop at front)
slice-append front rest at n within =
    let front_long : at ≤ length front = omega arith in
    let tail_long : n ≤ length (drop at front) = omega (arith, length-drop at front) in
    rw (drop-append-le at front rest front_long) (take-append-le n (drop at front) rest tail_long)

-- below the bytes that were put, the bytes are the old ones
slice-put_below :
    (image rest : List ℕ) (from at n : ℕ) →
    from ≤ length image → at + n ≤ from → take n (drop at (take from image ++ rest)) ≡ take n (drop at image)
slice-put_below image rest from at n long below =
    let within : at + n ≤ length (take from image) = omega (arith, length-take-le from image long) in
    slice-append (take from image) rest at n within
    ∙ sym (slice-append (take from image) (drop from image) at n within)
    ∙ ap (λ (xs : List ℕ). take n (drop at xs)) (take-append-drop from image)

-- and above them too
drop-put_above :
    (image new : List ℕ) (from at : ℕ) →
    from ≤ length image →
    from + length new ≤ at →
    drop at (take from image ++ new ++ drop (from + length new) image) ≡ drop at image
drop-put_above image new from at long above =
    let front : length (take from image ++ new) ≡ from + length new =
    omega (arith, length-append (take from image) new, length-take-le from image long) in
    drop-append-drop (from + length new) image (take from image ++ new) at above front

pub put_keeps_others : PutKeepsOthers
put_keeps_others image slba new at n range (inl below) =
    rw append_assoc
    (slice-put_below
    image
    (new ++ drop (512 * slba + length new) image)
    (512 * slba)
    (512 * at)
    (512 * n)
    (omega (arith, range.inside))
    (omega arith))
put_keeps_others image slba new at n range (inr above) =
    ap (λ (xs : List ℕ). take (512 * n) xs)
    (drop-put_above
    image
    new
    (512 * slba)
    (512 * at)
    (omega (arith, range.inside))
    (omega (arith, range.whole)))
