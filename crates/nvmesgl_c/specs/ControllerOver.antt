-- What each call answers that is lent regions, and what it leaves of the controller that a handle keeps and of their bytes.
use Rattle.std.specs.Prelude.{◌≡◌, ℕ, Option, Ok, Err, List}
use Rattle.nvmesgl_c.specs.{Answers.nothing, ControllerKept.{Kept, code_in}, ControllerNext.{Sees, step_of}, Regions.{memory_of, pages_of}}
use Rattle.nvmesgl_c.specs.declared.{controller.next.CStep.CStep, words.{answer.Answer.Answer, region.CRegion.CRegion}}
use Rattle.controller_core.specs.{Contents.Contents, declared.look.ControllerStep.ControllerStep}
use Rattle.page_memory.specs.Memory.{Memory}

-- a call of the controller that is kept is made over the bytes of the regions; where none is kept, nothing changes
abbrev pub LentOver : (Contents → ℕ → Memory → ℕ → Answer → Contents → Memory → Type 0) → Kept → List CRegion → ℕ → Answer → Kept → List CRegion → Type 0
LentOver Calls (Err h) regions code answer new regions' = (code ≡ code_in h) × (new ≡ Err h) × (answer ≡ nothing) × (regions' ≡ regions)
LentOver Calls (Ok c) regions code answer (Err h) regions' = ⊥
LentOver Calls (Ok c) regions code answer (Ok c') regions' = Calls c (pages_of regions) (memory_of regions) code answer c' (memory_of regions')

-- a look over the bytes of the regions: nothing changes
abbrev pub TellsNextOver : Kept → List CRegion → ℕ → CStep → CStep → Kept → List CRegion → Type 0
TellsNextOver (Err h) regions code old new left regions' = (code ≡ code_in h) × (left ≡ Err h) × (new ≡ old) × (regions' ≡ regions)
TellsNextOver (Ok c) regions code old new left regions' =
    (code ≡ 0) × (left ≡ Ok c) × (memory_of regions' ≡ memory_of regions)
    × (step : Option ControllerStep) × Sees c (memory_of regions) step × (new ≡ step_of step)
