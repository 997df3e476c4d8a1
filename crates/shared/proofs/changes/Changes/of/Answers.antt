use Rattle.std.proofs.Common.{ap, ◌∙◌, ◌==◌}
use Rattle.std.specs.Int.{bit_at}
use Rattle.shared.specs.Changes.{bit_of}
use Rattle.shared.proofs.Bits.{one_change}
use Rattle.shared.proofs.changes.Changes.of.Goals as goal

pub returns : goal.returns
returns c other = ap (λ bits. bit_at bits (bit_of other) == 1) c.bit.ensures ∙ one_change c.args.change other
