-- Runs are laid into the start of a buffer, one after the other.
use Rattle.std.proofs.Common.{◌≡◌, ℕ, zero, suc, ◌+◌, ◌<◌, ◌≤◌, List, [], ◌∷◌, ◌++◌, length, take, drop, slice_set, refl, ap, ◌∙◌, arith, length-set}
use Rattle.host_core.specs.declared.rights.Run.{Run}
use Rattle.nvmesgl_c.specs.HostReach.{laid, run_of}
use Rattle.nvmesgl_c.specs.declared.host.reach.CRun.{CRun}

-- this many are at the start, and those that are left go after them
pub record LaysOn (runs left : List Run) (old into : List CRun) (count : ℕ) : Type 0 where
  pub lays : laid runs old ≡ take count into ++ laid left (drop count into)
  pub long : length into ≡ length old
  pub counted : count + length left ≡ length runs
  pub fits : count ≤ length into

one-more : (run : Run) (rest : List Run) (into : List CRun) (count : ℕ) → count < length into
    → take count into ++ laid (run ∷ rest) (drop count into)
    ≡ take (suc count) (slice_set into count (run_of run)) ++ laid rest (drop (suc count) (slice_set into count (run_of run)))
one-more run rest [] count l = absurd (omega arith)
one-more run rest (x ∷ into) zero l = refl
one-more run rest (x ∷ into) (suc count) l = ap (λ (cells : List CRun). x ∷ cells) (one-more run rest into count (omega arith))

pub laid-next : (runs rest : List Run) (run : Run) (old into : List CRun) (count : ℕ) → LaysOn runs (run ∷ rest) old into count → count < length into
    → LaysOn runs rest old (slice_set into count (run_of run)) (count + 1)
laid-next runs rest run old into count h l =
    let next : suc count ≡ count + 1 = omega arith in
    record {
      lays = h.lays ∙ (one-more run rest into count l ∙ ap (λ (n : ℕ). take n (slice_set into count (run_of run)) ++ laid rest (drop n (slice_set into count (run_of run)))) next);
      long = length-set into count (run_of run) ∙ h.long;
      counted = omega (arith, h.counted);
      fits = omega (arith, length-set into count (run_of run), l);
    }
