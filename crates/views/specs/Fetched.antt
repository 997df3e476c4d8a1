-- The bytes that a command has fetched, by its list alone: those that a Write puts into blocks, and with which a Compare compares them.
use Rattle.std.specs.Prelude.{◌≡◌, ◌+◌, ◌++◌, ℕ, List, Option, Some, None, drop, replicate, take}
use Rattle.controller_walk.specs.{Units.{Closes, Course, Does, Moves, Reads, Stays}, Walks.{course, direction_of}, declared.walk.Walk.Walk}
use Rattle.entry_codec.specs.declared.submission.SubEntry.{SubEntry}
use Rattle.page_memory.specs.Memory.{Memory, bytes_at}
use Rattle.sgl_descriptor.specs.declared.Direction.{Direction, TheVariants.Source}
use Rattle.views.specs.{Ending.list_of, Stored.bytes_moved}
use Rattle.io_commands.specs.declared.block_size.BlockSize.{BlockSize}

-- bytes with this many that were found put over those starting at an offset
abbrev pub put_over : List ℕ → ℕ → ℕ → Option (List ℕ) → List ℕ
put_over bytes offset n None = bytes
put_over bytes offset n (Some found) = take offset bytes ++ (found ++ drop (offset + n) bytes)

-- what a course leaves of bytes, each of whose moves puts the bytes at an address in memory over some of them
abbrev pub fetched : Memory → Course → List ℕ → List ℕ
fetched m (Closes v) bytes = bytes
fetched m (Does Stays rest) bytes = fetched m rest bytes
fetched m (Does (Reads place) rest) bytes = fetched m rest bytes
fetched m (Does (Moves place n offset) rest) bytes = fetched m rest (put_over bytes offset n (bytes_at m place n))

-- THE BYTES of a command: zeros, over which its list puts what is in memory
abbrev pub bytes_fetched : BlockSize → Memory → SubEntry → List ℕ
bytes_fetched size m e = fetched m (list_of size m e) (replicate (bytes_moved size e) 0)

-- a walk that fetches has gone on: the memory is as it was, and what it then leaves of its bytes is what it left of those before
abbrev pub Fetches : Walk → Walk → Memory → Memory → List ℕ → List ℕ → Type 0
Fetches w w' m m' bytes bytes' = direction_of w ≡ Source → (m' ≡ m) × (fetched m (course m w') bytes' ≡ fetched m (course m w) bytes)
