-- How many pages a list of steps of a bench touches.
use Rattle.std.specs.Prelude.{◌≡◌, List, [], ◌∷◌}
use Rattle.step_core.specs.Bench.{Does}
use Rattle.step_core.specs.Touching.{StepTouches}
use Rattle.step_core.specs.Values.{Reply, Step}
use Rattle.world_bench.specs.BenchTables.{BenchContents}

-- Steps and answers, each of which is what a step does from where the one before led, and touches as many pages as it reports.
abbrev pub TouchAll : BenchContents → List Step → List Reply → BenchContents → Type 0
TouchAll b [] [] new = new ≡ b
TouchAll b (what ∷ steps) (answer ∷ answers) new =
    (mid : BenchContents) × Does b.table what answer mid.table × StepTouches b.table.world.entries b.touches what answer mid.table mid.touches × TouchAll mid steps answers new
TouchAll b [] (answer ∷ answers) new = ⊥
TouchAll b (what ∷ steps) [] new = ⊥
