use Rattle.std.proofs.Common.{arith, refl, ◌∙◌}
use Rattle.nvmesgl_c.proofs.{Unshown.hidden_step, Runs.{all_put, put_step, same_table}}
use Rattle.nvmesgl_c.proofs.words.region.copy_to.Goals as goal

pub loop-run-preserved : goal.loop-run-preserved
loop-run-preserved c = record {
  few = omega (arith, c.in-Some.ensures.run.few, c.loop-run.invariant.few);
  table = same_table c.loop-run.regions c.in-Some.run'.place _ c.put_into.new.region _ refl c.put_into.ensures.addr c.put_into.ensures.len c.put_into.ensures.lies ∙ c.loop-run.invariant.table;
  hidden =
      hidden_step c.loop-run.regions c.args.addr c.loop-run.done _ c.in-Some.run' _ c.put_into.new.region _ c.args.bytes.now c.in-Some.ensures.run refl c.put_into.ensures.addr c.put_into.ensures.len c.put_into.ensures.bytes
      (omega arith) c.loop-run.invariant.few c.requires.low ∙ c.loop-run.invariant.hidden;
  written =
      put_step _ c.loop-run.regions c.args.addr c.loop-run.done _ c.in-Some.run' _ c.put_into.new.region _ c.args.bytes.now c.in-Some.ensures.run refl c.put_into.ensures.addr c.put_into.ensures.len
      c.put_into.ensures.bytes (omega arith) c.loop-run.invariant.few c.loop-run.invariant.written;
}

pub returns-clause-written : goal.returns-clause-written
returns-clause-written c = all_put _ c.loop-run.regions c.args.addr c.loop-run.done c.args.bytes.now c.loop-run.invariant.few c.loop-run.invariant.written c.in_default.ensures.none c.requires.there
