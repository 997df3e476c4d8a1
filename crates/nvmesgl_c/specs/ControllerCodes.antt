-- The codes. They are those of `c/nvmesgl.h`.
use Rattle.std.specs.Prelude.{ℕ}
use Rattle.controller_core.specs.declared.refusal.ControllerRefusal.{ControllerRefusal}
use Rattle.controller_core.specs.declared.refusal.ControllerRefusal.TheVariants as refusal

abbrev pub code_of_refusal : ControllerRefusal → ℕ
code_of_refusal refusal.Memory = 15
code_of_refusal refusal.Idle = 28
code_of_refusal refusal.SlotOut = 29
code_of_refusal refusal.Full = 30
code_of_refusal refusal.NoJob = 31
code_of_refusal refusal.Nothing = 32
code_of_refusal refusal.Walking = 33
code_of_refusal refusal.Waits = 34
