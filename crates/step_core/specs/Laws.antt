-- What a bench does is a run of the machine.
use Rattle.std.specs.Prelude.{Option, Some, None, List, [], ◌∷◌}
use Rattle.machine_model.specs.{Events.Event, Image.Made, Script.Table, Trusted.Steps}
use Rattle.step_core.specs.{Bench.{DoesBy, DoesAll, event_at}, Values.{Reply, Step}}

-- the machine's steps starting at a step: one more where that is an event, with the reply that its answer reports
abbrev pub made_from : (event : Option Event) (t : Table) (what : Step) (answer : Reply) (new : Table) → DoesBy event t what answer new → List Made → List Made
made_from (Some e) t what answer new makes made = record { before = t.world; event = e; reply = makes.reply } ∷ made
made_from None t what answer new own made = made

-- the machine's steps that a bench's steps are, in their order
abbrev pub made_by : (t : Table) (steps : List Step) (answers : List Reply) (new : Table) → DoesAll t steps answers new → List Made
made_by t (what ∷ steps) (answer ∷ answers) new (mid, does, rest) = made_from (event_at t what) t what answer mid does (made_by mid steps answers new rest)
made_by t steps answers new does = []

abbrev pub benches_run_the_machine : Type 0
benches_run_the_machine =
    (t new : Table) (steps : List Step) (answers : List Reply) (does : DoesAll t steps answers new) → Steps t.world (made_by t steps answers new does) new.world
