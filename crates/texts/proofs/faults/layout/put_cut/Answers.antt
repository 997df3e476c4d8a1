-- Dots, the part of the line that is shown, and dots.
use Rattle.std.proofs.Common.{arith}
use Rattle.std.proofs.lemmas.{Grind.common_steps}
use Rattle.texts.proofs.LayoutLemmas.{part_is}
use Rattle.texts.specs.Layout.{cut_text}
use Rattle.texts.proofs.faults.layout.put_cut.Goals as goal

pub returns : goal.returns
unfolding cut_text
returns c =
    let parts = part_is c.args.line.now c.split_at.result.1.now c.args.from c.min.result c.min-2.result c.min.ensures c.split_at.ensures.back c.min-2.ensures in
    rw (← parts.0, ← parts.1) (grind (arith, common_steps))
