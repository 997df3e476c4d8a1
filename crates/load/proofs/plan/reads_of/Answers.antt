-- A slot that was written is read after those before it; another is left out.
use Rattle.std.proofs.Common.{[], ◌∷◌, ◌++◌, ◌∙◌, ◌+◌, arith, ap, subst, sym}
use Rattle.load.{proofs.{Loads.one_more, Rounds.{read_left, read_put}}, specs.{Planning.IsInside, declared.plan.Planned.Planned}}
use Rattle.load.proofs.plan.reads_of.Goals.{then-generations-slot-gt0+in_ok-push, else-generations-slot-gt0}
use Rattle.load.proofs.plan.reads_of.Goals as goal

pub loop-slot-preserved : goal.loop-slot-preserved
loop-slot-preserved c =
    let gs = c.args.generations.now in
    let at = c.loop-slot.slot in
    let end = c.args.first + c.args.many in
    let inv = c.loop-slot.invariant in
    elim c.if-generations-slot-gt0.branch [
      | then-generations-slot-gt0+in_ok-push w ↦
          let here : IsInside c.args.layout w.plan_one.result = subst (IsInside c.args.layout) (sym w.plan_one.ensures) (omega arith) in
          rw w.plan-is
          record {
            reads = read_put gs at end c.loop-slot.plan.items w.push.new.self.items _ (omega arith) w.if-generations-slot-gt0.true
                (w.in_ok-push.ensures.items ∙ ap (λ (p : Planned). c.loop-slot.plan.items ++ p ∷ []) w.plan_one.ensures) inv.reads;
            inside = one_more (IsInside c.args.layout) c.loop-slot.plan.items w.push.new.self.items w.plan_one.result w.in_ok-push.ensures.items inv.inside here;
          }
      | else-generations-slot-gt0 w ↦
          rw w.plan-is
          record {
            reads = read_left gs at end c.loop-slot.plan.items _ (omega arith) (omega (arith, w.if-generations-slot-gt0.false)) inv.reads;
            inside = inv.inside;
          }
    ]
