-- What a device's reads and writes answer, and what they leave of the host that a handle keeps.
use Rattle.std.specs.Prelude.{◌≡◌, ◌&&◌, ℕ, nat_lt, nat_le, Bool, true, false, Option, Some, None, Ok, Err, List, length}
use Rattle.host_bench.specs.Pool.{IsWritten}
use Rattle.machine_model.specs.Script.{Table}
use Rattle.nvmesgl_c.specs.{HostKept.{Kept, code_in}}
use Rattle.page_memory.specs.{Memory.bytes_at, Pages.byte_at}

-- whether this many bytes are moved by one call
abbrev pub fits : ℕ → Bool
fits count = nat_lt 0 count && nat_le count 4096

-- the bytes of the pool starting at an address, or nothing where one is missing
abbrev pub bytes_from : Table → ℕ → ℕ → Option (List ℕ)
bytes_from t addr count = bytes_at (byte_at t.world.memory) addr count

-- they are in the buffer, or the buffer is as it was
abbrev pub Shows : Bool → Option (List ℕ) → ℕ → List ℕ → List ℕ → Type 0
Shows false found code old new = (code ≡ 53) × (new ≡ old)
Shows true (Some bytes) code old new = (code ≡ 0) × (new ≡ bytes)
Shows true None code old new = (code ≡ 54) × (new ≡ old)

abbrev pub ReadsFrom : Table → ℕ → ℕ → List ℕ → List ℕ → Table → Type 0
ReadsFrom t addr code old buffer new = Shows (fits (length old)) (bytes_from t addr (length old)) code old buffer × (new ≡ t)

abbrev pub Reads : Kept → ℕ → ℕ → List ℕ → List ℕ → Kept → Type 0
Reads (Err h) addr code old buffer new = (code ≡ code_in h) × (buffer ≡ old) × (new ≡ Err h)
Reads (Ok t) addr code old buffer (Ok new) = ReadsFrom t.bench addr code old buffer new.bench × (new.tags ≡ t.tags)
Reads (Ok t) addr code old buffer (Err h) = ⊥

-- bytes are written where bytes are, or nothing changes
abbrev pub Puts : Bool → Option (List ℕ) → Table → ℕ → List ℕ → ℕ → Table → Type 0
Puts false found t addr bytes code new = (code ≡ 53) × (new ≡ t)
Puts true (Some there) t addr bytes code new = (code ≡ 0) × IsWritten t addr bytes new
Puts true None t addr bytes code new = (code ≡ 54) × (new ≡ t)

abbrev pub WritesInto : Table → ℕ → List ℕ → ℕ → Table → Type 0
WritesInto t addr bytes code new = Puts (fits (length bytes)) (bytes_from t addr (length bytes)) t addr bytes code new

abbrev pub Writes : Kept → ℕ → List ℕ → ℕ → Kept → Type 0
Writes (Err h) addr bytes code new = (code ≡ code_in h) × (new ≡ Err h)
Writes (Ok t) addr bytes code (Ok new) = WritesInto t.bench addr bytes code new.bench × (new.tags ≡ t.tags)
Writes (Ok t) addr bytes code (Err h) = ⊥
