use Rattle.std.proofs.Common.{arith}
use Rattle.shared.specs.Changes.{bit_of}
use Rattle.shared.proofs.Bits.{bit_of_below, bit_without, both_bits}
use Rattle.shared.proofs.changes.Changes.take.Goals as goal

pub returns-clause-taken : goal.returns-clause-taken
returns-clause-taken c change = both_bits c.args.self.now.bits c.args.others.bits (bit_of change)

pub returns-clause-left : goal.returns-clause-left
returns-clause-left c change =
    bit_without c.args.self.now.bits c.args.others.bits (bit_of change) (omega arith) (omega (arith, bit_of_below change))
