-- What C asks for by an admin command.
use Rattle.std.specs.Prelude.{◌≡◌, ◌⊎◌, ◌==◌, ℕ, zero, suc, nat_lt, Option, Some, None, Result, Ok, Err, List, [], ◌∷◌, if◌then◌else◌}
use Rattle.io_commands.specs.{Asked.Request, declared.{admin.{AdminCommand.AdminCommand, PageUse.PageUse}, request.{Piece.Piece, TheConstants.Flags.NONE}}}
use Rattle.io_commands.specs.declared.block_size.BlockSize.TheVariants.{Bytes512}
use Rattle.nvmesgl_c.specs.declared.words.admin.CAdmin.{CAdmin}
pub use Rattle.nvmesgl_c.specs.Requests.{IsMade}
use Rattle.io_commands.specs.declared.admin.PageUse.TheVariants as page_use
use Rattle.io_commands.specs.declared.request.Kind.TheVariants as kind
use Rattle.io_commands.specs.declared.request.Piece.TheVariants as piece

abbrev pub use_of : ℕ → Option PageUse
use_of zero = Some page_use.Nothing
use_of (suc zero) = Some page_use.In
use_of (suc (suc zero)) = Some page_use.Out
use_of n = None

-- one piece of this many bytes from the start of a page, and none of no bytes
abbrev pub pieces_of : ℕ → List Piece
pieces_of bytes = if bytes == 0 then [] else (piece.Data 0 bytes ∷ [])

-- pieces that were made, or memory was refused for them
abbrev pub AreMade : List Piece → Result (List Piece) ℕ → Type 0
AreMade pieces made = (made ≡ Ok pieces) ⊎ (made ≡ Err 15)

abbrev pub command_of : CAdmin → ℕ → PageUse → AdminCommand
command_of r opcode page = record { opcode = opcode; page = page; cdw10 = r.cdw10; cdw11 = r.cdw11; cdw12 = r.cdw12; cdw13 = r.cdw13; cdw14 = r.cdw14; cdw15 = r.cdw15 }

-- with a use of a page or none
abbrev pub admin_by : Option PageUse → CAdmin → Result Request ℕ
admin_by None r = Err 4
admin_by (Some page) r =
    Ok (record { kind = kind.Admin (command_of r r.opcode page); nsid = r.nsid; flags = NONE; slba = 0; block_size = Bytes512; blocks = 0; pieces = pieces_of r.bytes })

-- the request, or the code of the first obstacle
abbrev pub admin_of : CAdmin → Result Request ℕ
admin_of r =
    if r.size == 48
    then (if r.reserved == 0 then (if nat_lt r.opcode 256 then admin_by (use_of r.page) r else Err 4) else Err 8)
    else Err 7
