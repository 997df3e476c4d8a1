use Rattle.std.proofs.Common.{◌<◌, ◌^◌, arith}
use Rattle.slot_table.proofs.Words.{lowest-none, lowest-first, one-inside}
use Rattle.slot_table.proofs.bits.lowest_one.Goals as goal

pub returns-then-rest-eq0-clause-one : goal.returns-then-rest-eq0-clause-one
returns-then-rest-eq0-clause-one c = lowest-none c.args.word c.args.place c.if-rest-eq0.true

pub returns-clause-one : goal.returns-clause-one
returns-clause-one c = lowest-first c.args.word c.args.place (omega (arith, c.ranges.word)) (omega (arith, c.if-rest-eq0.false))

pub returns-clause-inside : goal.returns-clause-inside
returns-clause-inside c =
    let fits : c.args.word < 2 ^ 64 = omega (arith, c.ranges.word) in
    one-inside c.args.word _ fits (lowest-first c.args.word c.args.place fits (omega (arith, c.if-rest-eq0.false))).passes
