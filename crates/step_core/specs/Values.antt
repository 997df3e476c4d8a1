-- Steps and their replies, as contracts see them: requests with a list of pieces, and lists of bytes.
use Rattle.std.specs.Prelude.{ℕ, List}
use Rattle.io_commands.specs.Asked.{Request}
use Rattle.step_core.specs.declared.step.Step as declared_step
use Rattle.step_core.specs.declared.step.Reply as declared_reply

abbrev pub Step : Type 0
Step = declared_step.Step Request (List ℕ)

abbrev pub Reply : Type 0
Reply = declared_reply.Reply (List ℕ)
