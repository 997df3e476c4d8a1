-- Bytes that lie in several buffers of C's.
use Rattle.std.specs.Borrow.{GName}
use Rattle.std.specs.Prelude.{◌≡◌, ◌<◌, ◌≤◌, ℕ, Bool, true, false, List, ◌++◌, drop, flat_map, length, map, take}
use Rattle.nvmesgl_c.specs.declared.words.buffers.{CBuffer.CBuffer, CBytes.CBytes}

-- the bytes, one buffer after the other
abbrev pub joined : List CBytes → List ℕ
joined sources = flat_map (λ s. s.bytes.now) sources

abbrev pub joined_buffers : List CBuffer → List ℕ
joined_buffers buffers = flat_map (λ b. b.bytes.now) buffers

-- the bytes in each buffer
abbrev pub contents_of : List CBuffer → List (List ℕ)
contents_of buffers = map (λ b. b.bytes.now) buffers

-- how many bytes each buffer has
abbrev pub lengths_of : List CBuffer → List ℕ
lengths_of buffers = map (λ (bytes : List ℕ). length bytes) (contents_of buffers)

-- where each buffer lies
abbrev pub places_of : List CBuffer → List GName
places_of buffers = map (λ b. b.bytes.ghost_name) buffers

-- bytes at the start of others, as many as fit
abbrev pub filled : List ℕ → List ℕ → List ℕ
filled bytes old = take (length old) bytes ++ drop (length bytes) old

-- bytes at the start of others, where all fit
abbrev pub LaidIn : List ℕ → Bool → List ℕ → List ℕ → Type 0
LaidIn bytes true old new = (length bytes ≤ length old) × (new ≡ bytes ++ drop (length bytes) old)
LaidIn bytes false old new = (length old < length bytes) × (new ≡ old)
