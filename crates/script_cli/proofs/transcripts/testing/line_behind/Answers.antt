-- No byte is left.
use Rattle.std.proofs.Common.{arith, rules, ◌≡◌, [], ap}
use Rattle.std.proofs.lemmas.List.{nil_from_length}
use Rattle.script_cli.specs.Outcomes.{feeds_in}
use Rattle.script_cli.proofs.transcripts.testing.line_behind.Goals as goal

pub returns : goal.returns
returns c =
    let none : c.loop-byte.rest.now ≡ [] = nil_from_length c.loop-byte.rest.now (search rules) in
    let last : feeds_in c.loop-byte.rest.now ≡ 0 = ap feeds_in none in
    omega (arith, last, c.loop-byte.invariant.most, c.loop-byte.invariant.same)
