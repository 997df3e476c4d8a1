-- Admin commands of the caller's own (NVM Express Base Specification 2.0, "Admin Command Set").
use Rattle.std.specs.Int.{w64, to_le_bytes}
use Rattle.std.specs.Prelude.{ℕ, ◌*◌, ◌%◌, ◌==◌, ◌&&◌, ◌||◌, ◌++◌, Bool, true, false, not, List, [], ◌∷◌, replicate}
use Rattle.entry_codec.specs.declared.{admin_opcode.TheConstants.{DELETE_IO_SQ, CREATE_IO_SQ, DELETE_IO_CQ, CREATE_IO_CQ, ABORT, DOORBELL_BUFFER_CONFIG, SET_FEATURES}, feature.TheConstants.HOST_MEMORY_BUFFER}
use Rattle.io_commands.specs.declared.admin.{AdminCommand.AdminCommand, PageUse.{PageUse, TheVariants.{Nothing, In, Out}}}
use Rattle.io_commands.specs.declared.request.Piece.{Piece, TheVariants.{Data, Bucket}}

abbrev pub has_page : PageUse → Bool
has_page Nothing = false
has_page In = true
has_page Out = true

-- whether data comes to the page
abbrev pub comes_in : PageUse → Bool
comes_in Nothing = false
comes_in In = true
comes_in Out = false

-- the commands that the host keeps to itself: those of queues and Abort, which it sends by calls of their own, and what hands a
-- device memory for longer than the command lasts, Doorbell Buffer Config and Set Features of the Host Memory Buffer
abbrev pub is_kept : AdminCommand → Bool
is_kept command =
    (command.opcode == DELETE_IO_SQ) || (command.opcode == CREATE_IO_SQ) || (command.opcode == DELETE_IO_CQ) || (command.opcode == CREATE_IO_CQ)
    || (command.opcode == ABORT) || (command.opcode == DOORBELL_BUFFER_CONFIG)
    || ((command.opcode == SET_FEATURES) && (command.cdw10 % 256 == HOST_MEMORY_BUFFER))

-- its pieces: one of data from the start of a page where it has a page, and else none
abbrev pub has_its_page : PageUse → List Piece → Bool
has_its_page page [] = not (has_page page)
has_its_page page (Data offset len ∷ []) = has_page page && (offset == 0)
has_its_page page (Data offset len ∷ piece ∷ pieces) = false
has_its_page page (Bucket len ∷ pieces) = false

-- the bytes of a data pointer that names one page: its address as PRP1, and a PRP2 of 0
abbrev pub page_pointer : ℕ → List ℕ
page_pointer page = to_le_bytes w64 (4096 * page) ++ replicate 8 0

-- whether two uses of a page are one, and two commands
abbrev pub same_use : PageUse → PageUse → Bool
same_use Nothing Nothing = true
same_use In In = true
same_use Out Out = true
same_use a b = false

abbrev pub same_command : AdminCommand → AdminCommand → Bool
same_command a b =
    (a.opcode == b.opcode) && same_use a.page b.page && (a.cdw10 == b.cdw10) && (a.cdw11 == b.cdw11) && (a.cdw12 == b.cdw12) && (a.cdw13 == b.cdw13) && (a.cdw14 == b.cdw14) && (a.cdw15 == b.cdw15)
