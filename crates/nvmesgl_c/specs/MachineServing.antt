-- What the controller does in one call: steps of its own, one after the other.
use Rattle.std.specs.List.{AllByRecursion}
use Rattle.std.specs.Prelude.{◌≡◌, ◌++◌, ℕ, Bool, true, false, IsTrue, Option, Some, None, Ok, Err, List, [], ◌∷◌, count_by, length}
use Rattle.machine_model.specs.{Script.Table, declared.words.Refusal.Refusal}
use Rattle.step_core.specs.{Bench.DoesAll, Looks.IsAtRest, Values.{Step, Reply}}
use Rattle.nvmesgl_c.specs.{Answers.nothing, Codes.code_of_refusal, MachineKept.{Kept, code_in}, declared.{machine.serve.{ServeEnd.ServeEnd, Served.Served}, words.answer.Answer.Answer}}
use Rattle.nvmesgl_c.specs.declared.machine.serve.ServeEnd.TheVariants as serve_end
use Rattle.step_core.specs.declared.step.Reply.TheVariants as reply
use Rattle.step_core.specs.declared.step.Step.TheVariants as step

-- a step of the controller
abbrev pub IsOwn : Step → Type 0
IsOwn (step.Fetch q) = Unit {0}
IsOwn (step.Walk q cid) = Unit {0}
IsOwn (step.Complete q cid) = Unit {0}
IsOwn what = ⊥

abbrev pub is_completed : Reply → Bool
is_completed (reply.Completed touched) = true
is_completed r = false

abbrev pub refusal_in : Reply → Option Refusal
refusal_in (reply.Refused why touched) = Some why
refusal_in r = None

-- the most steps of one call
abbrev pub most_steps : ℕ
most_steps = 65536

-- when it ended after these steps: at rest (where nothing was forged), with as many steps as a call makes, or with the first refusal
abbrev pub EndsBy : List Reply → Table → ServeEnd → Type 0
EndsBy replies new serve_end.Rest = IsTrue new.world.trusted → IsAtRest new.world
EndsBy replies new serve_end.More = length replies ≡ most_steps
EndsBy replies new (serve_end.Refused why) = (before : List Reply) × (last : Reply) × (replies ≡ before ++ last ∷ []) × (refusal_in last ≡ Some why)

-- steps of the controller lead from one table to another; how many of them completed a command, and how it ended
pub record Serves (t : Table) (served : Served) (new : Table) : Type 0 where
  pub steps : List Step
  pub replies : List Reply
  pub does : DoesAll t steps replies new
  pub own : AllByRecursion IsOwn steps
  pub completed : served.completed ≡ count_by is_completed replies
  pub ends : EndsBy replies new served.end

-- What C is told

abbrev pub code_of_end : ServeEnd → ℕ
code_of_end serve_end.Rest = 0
code_of_end serve_end.More = 0
code_of_end (serve_end.Refused why) = code_of_refusal why

abbrev pub state_of_end : ServeEnd → ℕ
state_of_end serve_end.More = 10
state_of_end end = 0

abbrev pub told_serving : Served → Answer
told_serving served = record nothing { state = state_of_end served.end; count = served.completed }

-- the call, of a handle that keeps a bench or none
abbrev pub ServesKept : Kept → ℕ → Answer → Kept → Type 0
ServesKept (Err h) code answer new = (code ≡ code_in h) × (answer ≡ nothing) × (new ≡ Err h)
ServesKept (Ok t) code answer (Err h) = ⊥
ServesKept (Ok t) code answer (Ok new) = (served : Served) × Serves t served new × (code ≡ code_of_end served.end) × (answer ≡ told_serving served)
