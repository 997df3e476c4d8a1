use Rattle.std.proofs.Common.{ap, ◌∙◌, ◌==◌, not, bit_and}
use Rattle.shared.specs.Changes.{bit_of}
use Rattle.shared.proofs.Bits.{tested_bit}
use Rattle.shared.proofs.changes.Changes.has.Goals as goal

pub returns : goal.returns
returns c = ap (λ bit. not (bit_and c.args.self.bits bit == 0)) c.bit.ensures ∙ tested_bit c.args.self.bits (bit_of c.args.change)
