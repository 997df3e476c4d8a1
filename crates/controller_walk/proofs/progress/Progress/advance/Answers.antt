use Rattle.std.proofs.Common.{arith, sym, refl, subst, ◌≤◌, ◌<◌, ◌-◌, ◌+◌}
use Rattle.controller_walk.{proofs.Courses.{more_moving, none_moving, part_most}, specs.{Units.{Course, first_part}, Walks.{Leaves, course}}}
use Rattle.controller_walk.proofs.progress.Progress.advance.Goals as goal

pub returns-then-n-block-clause-leaves : goal.returns-then-n-block-clause-leaves
returns-then-n-block-clause-leaves c m =
    subst (λ (x : Course). Leaves x c.go.result.1 (course m c.go.result.0))
    (sym (none_moving m (c.args.block.place + c.args.n) (c.args.block.len - c.args.n) _ _ (omega arith))) (c.go.ensures.leaves m)

pub returns-clause-leaves : goal.returns-clause-leaves
returns-clause-leaves c m =
    let most : first_part c.args.block.place c.args.block.len ≤ c.args.block.len = (part_most c.args.block.place c.args.block.len).0 in
    let some : 0 < c.args.block.len - c.args.n = omega arith in
    (sym (more_moving m (c.args.block.place + c.args.n) (c.args.block.len - c.args.n) _ _ some), rw c.from.ensures refl)
