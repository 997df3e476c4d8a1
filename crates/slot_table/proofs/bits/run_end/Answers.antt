use Rattle.std.proofs.Common.{◌/◌, arith}
use Rattle.slot_table.proofs.Sets.{run-whole_word, run-ends_in_word}
use Rattle.slot_table.proofs.bits.run_end.Goals as goal

pub returns-in-Some : goal.returns-in-Some
returns-in-Some c =
    run-ends_in_word c.args.words.now c.args.from c.args.limit c.loop-at.at c.in-Some.zero c.min.result (omega (arith, c.type_inv.words (c.loop-at.at / 64)))
    c.loop-at.invariant.after c.loop-at-test.true c.loop-at.invariant.passes c.in-Some.ensures.one c.in-Some.ensures.inside c.min.ensures

pub loop-at-preserved : goal.loop-at-preserved
loop-at-preserved c = record {
  after = omega (arith, c.loop-at.invariant.after);
  passes = run-whole_word c.args.words.now c.args.from c.loop-at.at (omega (arith, c.type_inv.words (c.loop-at.at / 64))) c.loop-at.invariant.passes c.in_default.ensures.one;
}
