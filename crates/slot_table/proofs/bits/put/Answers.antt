use Rattle.std.proofs.Common.{◌%◌, sym, ◌∙◌, arith}
use Rattle.slot_table.proofs.{Sets.put-word, Words.{one-set, others-set, one-cleared, others-cleared}}
use Rattle.slot_table.proofs.bits.put.Goals as goal

pub returns-then-inside : goal.returns-then-inside
returns-then-inside c =
    put-word c.args.words.now c.args.i c.args.inside _ c.requires (one-set _ (c.args.i % 64) (omega arith) ∙ sym c.if-inside.true)
    (λ place within other. others-set _ (c.args.i % 64) place (omega arith) other)

pub returns-else-inside : goal.returns-else-inside
returns-else-inside c =
    put-word c.args.words.now c.args.i c.args.inside _ c.requires (one-cleared _ (c.args.i % 64) (omega arith) ∙ sym c.if-inside.false)
    (λ place within other. others-cleared _ (c.args.i % 64) place (omega arith) within other)
