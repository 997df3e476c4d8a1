-- The bytes of a page among those of a command.
use Rattle.std.proofs.Common.{◌≡◌, ℕ, zero, suc, ◌<◌, ◌≤◌, Some, None, List, [], ◌∷◌, length, slice_get, option_map, refl, ap, sym, arith}
use Rattle.std.proofs.lemmas.Option.{slice_get_past}
use Rattle.io_commands.specs.{DataBytes.PagesOut, Lent.bytes_of}

pub bytes_there : (pages : PagesOut) (i : ℕ) → i < length pages → Some (bytes_of pages i) ≡ option_map (λ (page : ℕ × List ℕ). page.1) (slice_get pages i)
bytes_there [] i l = absurd (omega arith)
bytes_there (page ∷ pages) zero l = refl
bytes_there (page ∷ pages) (suc i) l = bytes_there pages i (omega arith)

pub bytes_gone : (pages : PagesOut) (i : ℕ) → length pages ≤ i → None ≡ option_map (λ (page : ℕ × List ℕ). page.1) (slice_get pages i)
bytes_gone pages i l = sym (ap (option_map (λ (page : ℕ × List ℕ). page.1)) (slice_get_past pages i l))
