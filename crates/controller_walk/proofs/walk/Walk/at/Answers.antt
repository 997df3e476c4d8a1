use Rattle.std.proofs.Common.{◌≡◌, Some, None, ap, subst, inl, inr}
use Rattle.controller_walk.{proofs.Courses.{next_reads, others_read_none, within_takes_none, over_takes_none}, specs.{Faults.next_in, Progress.IsProgress}}
use Rattle.controller_walk.specs.declared.progress.Progress.{Progress}
use Rattle.controller_walk.proofs.walk.Walk.at.Goals as goal

pub returns-in-Next-clause-reads : goal.returns-in-Next-clause-reads
returns-in-Next-clause-reads c m place rest e =
    ap Some (next_reads m c.args.self.now c.args.self.now.state c.in-Next.cursor place rest (cc) e)

pub returns-in-Data-clause-reads : goal.returns-in-Data-clause-reads
returns-in-Data-clause-reads c m place rest e =
    let is : IsProgress c.args.self.now = subst (λ (p : Progress). IsProgress p) c.self.view_is c.self.invariant in
    let none : next_in c.args.self.now c.args.self.now.state ≡ None =
    elim c.in-Data.is [
      | inl x ↦ within_takes_none c.args.self.now c.args.self.now.state x.0 x.1 (cc x.2)
      | inr x ↦ over_takes_none c.args.self.now c.args.self.now.state x.0 (cc x.1)
    ] in
    absurd (others_read_none m c.args.self.now c.args.self.now.state place rest none is.state e)
