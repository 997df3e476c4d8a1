-- The machine that a configuration opens.
use Rattle.std.specs.Prelude.{ℕ, List}
use Rattle.host_core.specs.declared.config.Config.{Config}
use Rattle.machine_model.specs.{Opening.opening, State.State}

abbrev pub opening_of : Config → List ℕ → State
opening_of c image = opening c.pages c.queues c.entries c.segment image
