-- The first line with a fault is where the reading ends.
use Rattle.std.proofs.Common.{rules, ◌≡◌, ◌<◌, ◌∷◌, [], length}
use Rattle.script_cli.{proofs.Texts.{lines_are_cut, fault_is_first}, specs.{Lines.lines, Scripts.script_from}}
use Rattle.script_cli.proofs.script.read_lines.Goals as goal

pub returns-in-Err : goal.returns-in-Err
returns-in-Err c =
    let some : 0 < length c.loop-rest.rest.now = search rules in
    let whole : lines c.loop-rest.rest.now ≡ c.split_line.result.0.now ∷ lines c.split_line.result.1.now = cc (lines_are_cut c.loop-rest.rest.now some) in
    let same : script_from c.loop-rest.lines.items c.loop-rest.number (c.split_line.result.0.now ∷ lines c.split_line.result.1.now) ≡ script_from [] 1 (lines c.args.text.now) = cc (c.loop-rest.invariant.same) in
    fault_is_first c.loop-rest.lines.items c.loop-rest.number c.split_line.result.0.now (lines c.split_line.result.1.now) c.args.text.now c.in-Err.fault c.in-Err.ensures same
