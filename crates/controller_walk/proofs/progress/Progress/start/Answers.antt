use Rattle.std.proofs.Common.{arith, ◌≡◌, ◌<◌, min, sym, refl, subst}
use Rattle.controller_walk.{proofs.Courses.{more_moving, none_moving, behind_front}, specs.{Units.Course, Walks.{Leaves, course}}}
use Rattle.controller_walk.proofs.progress.Progress.start.Goals as goal

pub returns-then-front-eq0-clause-leaves : goal.returns-then-front-eq0-clause-leaves
returns-then-front-eq0-clause-leaves c m =
    let none : min c.args.len c.args.self.wanted ≡ 0 = omega (arith, c.min-front.ensures) in
    subst (λ (x : Course). Leaves x c.go.result.1 (course m c.go.result.0)) (sym (none_moving m c.args.place (min c.args.len c.args.self.wanted) _ _ none))
    (rw (← behind_front c.args.len c.args.self.wanted, ← c.min-front.ensures) (c.go.ensures.leaves m))

pub returns-clause-leaves : goal.returns-clause-leaves
returns-clause-leaves c m =
    let some : 0 < min c.args.len c.args.self.wanted = omega (arith, c.min-front.ensures) in
    (sym (more_moving m c.args.place (min c.args.len c.args.self.wanted) _ _ some), rw (c.min-front.ensures, behind_front c.args.len c.args.self.wanted) refl)
