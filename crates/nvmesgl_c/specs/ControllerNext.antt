-- What a look for something to do tells.
use Rattle.std.specs.Prelude.{◌≡◌, ◌⊎◌, ◌^◌, ◌<◌, ◌≤◌, ℕ, Option, Some, None, Ok, Err, List, [], ◌∷◌, length, slice_get}
use Rattle.controller_core.specs.{Contents.Contents, Looks.{refusal_by, IsAtRest}, declared.look.ControllerStep.ControllerStep}
use Rattle.controller_core.specs.declared.look.ControllerStep.TheVariants.{Fetch, Walk, Complete}
use Rattle.page_memory.specs.Memory.{Memory}
use Rattle.nvmesgl_c.specs.{ControllerCalls.LendsNone, ControllerKept.Kept, declared.controller.next.CStep.CStep}

abbrev pub step_with : ℕ → ℕ → ℕ → CStep
step_with kind q cid = record { kind = kind; q = q; cid = cid; reserved = 0 ∷ 0 ∷ 0 ∷ 0 ∷ [] }

abbrev pub step_of : Option ControllerStep → CStep
step_of None = step_with 0 0 0
step_of (Some (Fetch q)) = step_with 1 q 0
step_of (Some (Walk q cid)) = step_with 2 q cid
step_of (Some (Complete q cid)) = step_with 3 q cid

-- the step is refused for lack of memory at most; where there is none, each call is refused
abbrev pub Can : Contents → Memory → Option ControllerStep → Type 0
Can c m (Some step) = refusal_by c m step ≡ None
Can c m None = IsAtRest c m

-- So it is in a memory that has at each address of 64 bits the byte of this one, or nothing where this has nothing.
pub record Sees (c : Contents) (m : Memory) (step : Option ControllerStep) : Type 0 where
  pub seen : Memory
  pub same : (place : ℕ) → place < 2 ^ 64 → seen place ≡ m place
  pub can : Can c seen step

-- a look over the bytes of a pool: nothing changes
abbrev pub LooksOver : Kept → List ℕ → ℕ → CStep → Kept → List ℕ → Type 0
LooksOver (Err h) pool code new left pool' = ⊥
LooksOver (Ok c) pool code new left pool' =
    (length pool ≤ 268435456) × (code ≡ 0) × (left ≡ Ok c) × (slice_get pool' ≡ slice_get pool)
    × (step : Option ControllerStep) × Sees c (slice_get pool) step × (new ≡ step_of step)

abbrev pub TellsNext : Kept → List ℕ → ℕ → CStep → CStep → Kept → List ℕ → Type 0
TellsNext c pool code old new left pool' =
    LooksOver c pool code new left pool' ⊎ (LendsNone c (length pool) code left × (new ≡ old) × (pool' ≡ pool))
