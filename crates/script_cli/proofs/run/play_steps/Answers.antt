-- A run that was cut off says so.
use Rattle.std.{proofs.Common.{ℕ, subst}, specs.Prelude.{IfErr, OnErr, Result}}
use Rattle.machine_model.specs.Script.{Table}
use Rattle.script_cli.{proofs.Runs.run_ends, specs.{Inputs.Gains, Runs.{EndsWith, IsFrontOfFirst}, declared.fault.RunFault.RunFault}}
use Rattle.script_cli.proofs.run.play_steps.Goals as goal

pub returns-in-Err-clause-failed : goal.returns-in-Err-clause-failed
returns-in-Err-clause-failed g c =
    subst (λ (r : Result ℕ RunFault). IfErr r (λ why. EndsWith (g.R.Read.remaining c.args.reader.now) c.args.config c.args.image (g.W.Write.contents c.args.writer.now) (g.W.Write.contents c.play.new.writer) why)) c.in-Err.is (
    run_ends c.play.result (g.R.Read.remaining c.args.reader.now) c.args.config c.args.image (g.W.Write.contents c.args.writer.now) (g.W.Write.contents c.play.new.writer)
    c.in_ok-script.script c.in_ok-script.ensures.script c.in_ok-bench.ensures.fits c.open_bench.ensures.image
    (subst
    (λ (t : Table). OnErr c.play.result (Gains (g.W.Write.contents c.args.writer.now) (g.W.Write.contents c.play.new.writer) (IsFrontOfFirst t c.in_ok-script.script)))
    c.in_ok-bench.ensures.opened c.play.ensures.cut)
    c.play.ensures.fault)
