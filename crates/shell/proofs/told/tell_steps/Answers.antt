-- A run that was cut off says so; where there is no script, nothing was written.
use Rattle.std.{proofs.Common.{ℕ, Some, subst}, specs.Prelude.{IfErr, OnErr, Result}}
use Rattle.machine_model.specs.Script.{Table}
use Rattle.script_cli.specs.{Inputs.Gains, declared.fault.RunFault.RunFault}
use Rattle.shell.{proofs.ToldRuns.ends_told, specs.Told.{EndsTold, IsFrontOfTold}}
use Rattle.shell.proofs.told.tell_steps.Goals as goal

pub returns-in-Err-clause-failed : goal.returns-in-Err-clause-failed
returns-in-Err-clause-failed g c =
    subst (λ (r : Result ℕ RunFault). IfErr r (λ why. EndsTold c.args.telling (Some c.args.text.now) c.args.config c.args.image (g.W.Write.contents c.args.writer.now) (g.W.Write.contents c.tell.new.writer) why)) c.in-Err.is (
    ends_told c.args.telling c.tell.result c.args.text.now c.args.config c.args.image (g.W.Write.contents c.args.writer.now) (g.W.Write.contents c.tell.new.writer)
    c.in_ok-script.script c.in_ok-script.ensures.script c.in_ok-bench.ensures.fits
    (subst
    (λ (t : Table). OnErr c.tell.result (Gains (g.W.Write.contents c.args.writer.now) (g.W.Write.contents c.tell.new.writer) (IsFrontOfTold c.args.telling t c.in_ok-script.script)))
    c.in_ok-bench.ensures.opened c.tell.ensures.cut)
    c.tell.ensures.fault)
