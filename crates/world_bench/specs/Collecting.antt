-- Under which names a bench collects.
use Rattle.std.specs.Prelude.{◌≡◌, ⊤, None}
use Rattle.machine_model.specs.Script.{Table, finished_at}
use Rattle.step_core.specs.Values.{Step, Reply}
use Rattle.step_core.specs.declared.step.Reply.TheVariants as reply
use Rattle.step_core.specs.declared.step.Step.TheVariants as step

-- a command is collected where none of its name was collected before and is still kept
abbrev pub CollectsOnce : Table → Step → Reply → Type 0
CollectsOnce t (step.Collect q cid) (reply.Collected status hints) = finished_at q cid t.finished ≡ None
CollectsOnce t what answer = ⊤
