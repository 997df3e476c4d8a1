-- Admin commands of the caller's own and ranges, worked.
use Rattle.std.specs.Prelude.{ℕ, [], ◌∷◌}
use Rattle.io_commands.specs.Asked.{Request}
use Rattle.io_commands.specs.declared.block_size.BlockSize.TheVariants.{Bytes512}
use Rattle.io_commands.specs.declared.request.{Kind.TheVariants.Deallocate, Piece.TheVariants.Data, TheConstants.Flags.NONE}
use Rattle.io_commands.specs.declared.admin.{AdminCommand.AdminCommand, PageUse.PageUse}

-- a command with an opcode, a use of a page and a Command Dword 10
abbrev pub command : ℕ → PageUse → ℕ → AdminCommand
command opcode page cdw10 = record { opcode = opcode; page = page; cdw10 = cdw10; cdw11 = 0; cdw12 = 0; cdw13 = 0; cdw14 = 0; cdw15 = 0 }

-- a Deallocate of two ranges
abbrev pub deallocate : Request
deallocate = record { kind = Deallocate; nsid = 1; flags = NONE; slba = 0; block_size = Bytes512; blocks = 2; pieces = Data 0 32 ∷ [] }
