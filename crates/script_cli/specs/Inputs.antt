-- What is read of a reader and what goes to a writer, where these tell their bytes; of others nothing is known.
use Rattle.std.specs.{Io.KnownBytes.Appends, Prelude.{◌≡◌, ℕ, ◌+◌, Option, Some, None, List, take, ◌++◌}}
use Rattle.block_image.specs.Blocks.{IsImage}
use Rattle.script_cli.specs.declared.input.ImageFault.{ImageFault}
use Rattle.script_cli.specs.declared.input.ImageFault.TheVariants as image_fault

-- all bytes of a reader that tells them; of another they may be any
abbrev pub IsTold : Option (List ℕ) → List ℕ → Type 0
IsTold None bytes = Unit {0}
IsTold (Some told) bytes = bytes ≡ told

-- the first bytes of a reader: all that it has, or one more than a limit
abbrev pub AreFirstOf : ℕ → Option (List ℕ) → List ℕ → Type 0
AreFirstOf limit told bytes = (all : List ℕ) × IsTold told all × (bytes ≡ take (limit + 1) all)

-- a writer's bytes grow by bytes that meet a condition
abbrev pub Gains : Option (List ℕ) → Option (List ℕ) → (List ℕ → Type 0) → Type 0
Gains before after Holds = (bytes : List ℕ) × Holds bytes × Appends before after bytes

-- the bytes that another list begins with
abbrev pub IsFront : List ℕ → List ℕ → Type 0
IsFront bytes whole = (rest : List ℕ) × (whole ≡ bytes ++ rest)

-- why a reader gave no image: its bytes are none, or it could not be read, or memory was refused
abbrev pub GivesNoImage : Option (List ℕ) → ImageFault → Type 0
GivesNoImage told image_fault.BadLength = (all : List ℕ) × IsTold told all × (IsImage all → ⊥)
GivesNoImage told image_fault.Unreadable = Unit {0}
GivesNoImage told image_fault.Memory = Unit {0}
