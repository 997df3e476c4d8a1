-- What a collected command brought, at the start of a buffer.
use Rattle.std.specs.Prelude.{◌≡◌, ◌<◌, ◌++◌, ⊤, ℕ, Option, None, Some, List, drop, length}
use Rattle.io_commands.specs.Values.{FinishedContents, gathered_from, gathered_length}

-- this many bytes were gathered there
pub record IsGathered (finished : Option FinishedContents) (count : ℕ) (old buffer : List ℕ) : Type 0 where
  pub command : FinishedContents
  pub there : finished ≡ Some command
  pub counted : count ≡ length (gathered_from command)
  pub laid : buffer ≡ gathered_from command ++ drop count old

-- none is gathered: there is no such command, or a buffer of this many bytes is too short for what it brought
abbrev pub IsUngathered : Option FinishedContents → ℕ → Type 0
IsUngathered None room = ⊤
IsUngathered (Some f) room = room < gathered_length f.request.kind f.request.pieces
