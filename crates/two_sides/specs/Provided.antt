-- What each step keeps of the host whatever was forged: its positions in its rings, its halves, and what commands were reserved with.
use Rattle.std.specs.Prelude.{ℕ, List}
use Rattle.machine_model.specs.{Always.IsHostProvided, Claims.IsSound, Events.{Event, Reply}, Opening.{opening, Opens}, Positions.StandsInRings, Run.Run}
use Rattle.machine_model.specs.{State.State, Step.Step}

-- whatever was forged
abbrev pub each_step_provides : Type 0
each_step_provides =
    (old : State) (e : Event) (reply : Reply) (new : State) → Step old e reply new → IsSound old
    → IsHostProvided old.entries old.segment old.host → IsHostProvided new.entries new.segment new.host

abbrev pub every_run_provides : Type 0
every_run_provides =
    (pages queues n s : ℕ) (image : List ℕ) (es : List Event) (replies : List Reply) (new : State)
    → Opens pages queues n s → Run (opening pages queues n s image) es replies new → IsHostProvided new.entries new.segment new.host

-- whatever was forged
abbrev pub each_step_stays_in_rings : Type 0
each_step_stays_in_rings =
    (old : State) (e : Event) (reply : Reply) (new : State) → Step old e reply new → StandsInRings old → StandsInRings new

abbrev pub every_run_stays_in_rings : Type 0
every_run_stays_in_rings =
    (pages queues n s : ℕ) (image : List ℕ) (es : List Event) (replies : List Reply) (new : State)
    → Opens pages queues n s → Run (opening pages queues n s image) es replies new → StandsInRings new
