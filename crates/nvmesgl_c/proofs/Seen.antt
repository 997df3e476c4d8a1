-- What a look for a step sees, over a memory with a name.
use Rattle.std.proofs.Common.{◌≡◌, ℕ, Option, Some, None, IfSome, IfNone, arith}
use Rattle.controller_core.specs.{Contents.Contents, Looks.{refusal_by, IsAtRest}, declared.look.ControllerStep.ControllerStep}
use Rattle.nvmesgl_c.{proofs.Named.at_address, specs.{ControllerNext.Sees, Named.named_memory}}
use Rattle.page_memory.specs.Memory.{Memory}

pub sees_named : (k : Contents) (m : Memory) (name : ℕ) (step : Option ControllerStep) → IfSome step (λ s. refusal_by k (named_memory m name) s ≡ None) → IfNone step (IsAtRest k (named_memory m name)) → Sees k m step
sees_named k m name (Some s) possible rest =
    record { seen = named_memory m name; same = λ place low. at_address m name place (omega (arith, low)); can = possible }
sees_named k m name None possible rest =
    record { seen = named_memory m name; same = λ place low. at_address m name place (omega (arith, low)); can = rest }
