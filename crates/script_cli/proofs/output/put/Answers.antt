-- The bytes of a write go from the rest to what was written.
use Rattle.script_cli.proofs.Texts.{more_is_written}
use Rattle.script_cli.proofs.output.put.Goals as goal

pub loop-rest-preserved : goal.loop-rest-preserved
loop-rest-preserved g c =
    more_is_written c.args.bytes.now c.loop-rest.invariant.0 c.loop-rest.rest.now c.in-Ok.n _ _ _ c.loop-rest.invariant.1 c.loop-rest.invariant.2 c.in-Ok.ensures.bytes
