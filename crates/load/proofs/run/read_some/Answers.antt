-- The reads that were planned were run, noted and counted.
use Rattle.std.proofs.Common.{◌∙◌, Global, List, Vec, ap, ap₂, false, map, subst, ℕ}
use Rattle.load.{proofs.Rounds.{same_setting, stands_after}, specs.{Loaded.{setting_of, standing_of}, Rounds.{AreDone, Round, all_noted}}}
use Rattle.load.specs.{Tallies.{both, counted, no_tally, tallies_from}, declared.{plan.Planned.Planned, tally.Tally.Tally}}
use Rattle.load.proofs.run.read_some.Goals as goal

pub returns-clause-done : goal.returns-clause-done
returns-clause-done g c =
    let old = c.args.course.now in
    let ran = c.in_ok-left.ensures in
    let plans = map (λ plan. plan.items) c.in_ok-plans.plans.items in
    let ends = c.in_ok-left.left.ends in
    let round : Round = record { plans = plans; ends = ends; world = c.in_ok-left.left.world } in
    let same = ap (λ (ps : List (Vec Planned Global)). map (λ plan. plan.items) ps) c.deref.ensures.value in
    let noted =
    ap (λ (v : Vec ℕ Global). v.items) c.count.ensures.generations ∙ (ran.noted ∙ ap (λ (ps : List (List Planned)). all_noted old.generations.items ps ends) same) in
    let come = ran.told ∙ ap (λ (ps : List (List Planned)). tallies_from no_tally ps ends) same in
    let told = c.count.ensures.counted ∙ ap₂ (λ (before new : Tally). both before (counted false new)) ran.tally come in
    record {
      round = round;
      is_read = record { planned = c.in_ok-plans.ensures.reads; done = subst (λ (ps : List (List Planned)). AreDone (setting_of old) c.args.world.state ps ends c.in_ok-left.left.world) same ran.done };
      stands = stands_after (setting_of old) false (standing_of old c.args.world.state) round c.count.new.self noted told;
    }

pub returns-clause-setting : goal.returns-clause-setting
returns-clause-setting g c =
    let counted = c.count.ensures in
    same_setting c.count.new.self c.run_plans.new.course counted.layout counted.seed counted.queues counted.round counted.content ∙ c.in_ok-left.ensures.setting
