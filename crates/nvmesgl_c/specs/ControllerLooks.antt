-- What the looks at a controller tell.
use Rattle.std.specs.Prelude.{◌≡◌, ◌⊎◌, ℕ, true, false, List, Option, Some, None, Ok, Err, [], ◌∷◌, find}
use Rattle.block_image.specs.Blocks.{IsInRange, block_count, blocks_at}
use Rattle.controller_core.specs.Contents.{FetchedCommand, is_command, verdict_of_work}
use Rattle.entry_codec.specs.declared.status.Status.{Status}
use Rattle.nvmesgl_c.specs.{ControllerKept.{Kept, code_in}, declared.controller.looks.CCommand.CCommand}

-- this many units were done, and how the command ends, once that is known
abbrev pub command_with : ℕ → Option Status → CCommand
command_with units (Some status) = record { units = units; ended = true; sct = status.sct; sc = status.sc; reserved = 0 ∷ 0 ∷ 0 ∷ 0 ∷ [] }
command_with units None = record { units = units; ended = false; sct = 0; sc = 0; reserved = 0 ∷ 0 ∷ 0 ∷ 0 ∷ [] }

abbrev pub command_of : FetchedCommand → CCommand
command_of k = command_with k.units_done (verdict_of_work k.work)

abbrev pub Shows : Option FetchedCommand → ℕ → CCommand → CCommand → Type 0
Shows None code old new = (code ≡ 31) × (new ≡ old)
Shows (Some k) code old new = (code ≡ 0) × (new ≡ command_of k)

-- a command of a name, of a handle that is open
abbrev pub TellsCommand : Kept → ℕ → ℕ → ℕ → CCommand → CCommand → Kept → Type 0
TellsCommand (Err h) q cid code old new left = (code ≡ code_in h) × (new ≡ old) × (left ≡ Err h)
TellsCommand (Ok c) q cid code old new left = Shows (find (is_command q cid) c.commands) code old new × (left ≡ Ok c)

-- blocks of the image fill a buffer, where the buffer is whole blocks and the image has as many of them starting at slba
abbrev pub Copies : List ℕ → ℕ → ℕ → List ℕ → List ℕ → Type 0
Copies image slba code old new =
    (IsInRange image slba old × (code ≡ 0) × (new ≡ blocks_at image slba (block_count old)))
    ⊎ ((IsInRange image slba old → ⊥) × (code ≡ 52) × (new ≡ old))

abbrev pub TellsBlocks : Kept → ℕ → ℕ → List ℕ → List ℕ → Kept → Type 0
TellsBlocks (Err h) slba code old new left = (code ≡ code_in h) × (new ≡ old) × (left ≡ Err h)
TellsBlocks (Ok c) slba code old new left = Copies c.image slba code old new × (left ≡ Ok c)
