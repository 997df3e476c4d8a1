use Rattle.sgl_descriptor.proofs.{Bytes.sixteen_bytes, Spells.{spells_itself, reads_itself}}
use Rattle.sgl_descriptor.proofs.laws.round_trip.Goals as goal

pub returns : goal.returns
returns c = λ d fits. record { written = sixteen_bytes d; spelled = spells_itself d fits; read = reads_itself d fits }
