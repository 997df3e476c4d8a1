use Rattle.std.proofs.Common.{List, subst, arith}
use Rattle.host_core.specs.declared.rights.Run.{Run}
use Rattle.nvmesgl_c.proofs.Laying.{LaysOn, laid-next}
use Rattle.nvmesgl_c.proofs.host.reach.lay.Goals as goal

pub loop-run-preserved : goal.loop-run-preserved
loop-run-preserved c = record {
  can = tt;
  finite = tt;
  on =
      rw c.run_of.ensures
      (laid-next c.args.runs c.next.new.self c.in-Some.run' c.args.into.now c.loop-run.into c.loop-run.count
      (subst (λ (left : List Run). LaysOn c.args.runs left c.args.into.now c.loop-run.into c.loop-run.count) c.in-Some.ensures.steps c.loop-run.invariant.on)
      (omega (arith, c.if-count-into.false, c.loop-run.invariant.on.fits)));
}
