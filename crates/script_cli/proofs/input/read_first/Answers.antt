-- The reader ended, or it gave one byte more than the limit.
use Rattle.std.proofs.{Common.{arith, ◌≡◌, ◌+◌, length}, lemmas.Grind.common_steps}
use Rattle.script_cli.proofs.Texts.{limit_is_first}
use Rattle.script_cli.proofs.input.read_first.Goals as goal

pub returns : goal.returns
returns g c =
    let len : length c.loop-bytes.bytes.items ≡ c.args.limit + 1 = grind (arith, common_steps) in
    limit_is_first c.args.limit _ _ c.loop-bytes.bytes.items len c.loop-bytes.invariant.read
