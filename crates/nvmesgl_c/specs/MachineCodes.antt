-- The code of each answer.
use Rattle.std.specs.Prelude.{ℕ, Result, Ok, Err}
use Rattle.nvmesgl_c.specs.Codes.{code_of_refusal, code_of_fill_fault}
use Rattle.step_core.specs.Values.{Reply}
use Rattle.step_core.specs.declared.step.Reply.TheVariants as reply

abbrev pub code_of_answer : Reply → ℕ
code_of_answer (reply.Refused why touched) = code_of_refusal why
code_of_answer reply.NoValue = 3
code_of_answer (reply.NotFilled why) = code_of_fill_fault why
code_of_answer answer = 0

-- of a step on a handle that keeps nothing there is no reply, but its code
abbrev pub code_of_reply : Result Reply ℕ → ℕ
code_of_reply (Err code) = code
code_of_reply (Ok answer) = code_of_answer answer
