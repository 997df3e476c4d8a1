use Rattle.std.proofs.Common.{refl, ap, ◌%◌, ◌==◌, arith}
use Rattle.std.proofs.lemmas.Nat.Bits.{bit_at_ones}
use Rattle.shared.specs.declared.changes.Change.TheVariants.{Room, Posted, Rung, Ended}
use Rattle.shared.proofs.Bits.{one_change}
use Rattle.shared.proofs.laws.constants_name_their_changes.Goals as goal

pub returns-clause-ended : goal.returns-clause-ended
returns-clause-ended c Room = refl
returns-clause-ended c Posted = refl
returns-clause-ended c Rung = refl
returns-clause-ended c (Ended place) = ap (λ bit. bit == 1) (bit_at_ones 16 (place % 16) (omega arith))

pub returns-clause-room : goal.returns-clause-room
returns-clause-room c = one_change Room

pub returns-clause-posted : goal.returns-clause-posted
returns-clause-posted c = one_change Posted

pub returns-clause-rung : goal.returns-clause-rung
returns-clause-rung c = one_change Rung
