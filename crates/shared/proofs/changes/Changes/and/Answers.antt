use Rattle.shared.specs.Changes.{bit_of}
use Rattle.shared.proofs.Bits.{either_bit}
use Rattle.shared.proofs.changes.Changes.and.Goals as goal

pub returns : goal.returns
returns c change = either_bit c.args.self.bits c.args.others.bits (bit_of change)
