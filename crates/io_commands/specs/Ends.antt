-- How commands may end.
use Rattle.std.specs.Prelude.{◌<◌, ◌==◌, ◌&&◌, Bool, Option, IfSome}
use Rattle.entry_codec.specs.{Status.is_success, declared.{admin_opcode.TheConstants.DELETE_IO_SQ, status.Status.Status, submission.SubEntry.SubEntry}}

-- a status that a completion can carry
abbrev pub FitsVerdict : Option Status → Type 0
FitsVerdict verdict = IfSome verdict (λ st. st.sct < 8)

-- whether an admin command that ends so has deleted a submission queue
abbrev pub is_deletion : SubEntry → Status → Bool
is_deletion entry status = (entry.opcode == DELETE_IO_SQ) && is_success status
