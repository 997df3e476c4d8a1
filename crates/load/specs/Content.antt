-- What blocks and slots hold.
use Rattle.std.specs.{Int.{w32, to_le_bytes}, Prelude.{ℕ, ◌+◌, ◌*◌, ◌^◌, ◌==◌, zero, suc, List, [], ◌∷◌, ◌++◌, if◌then◌else◌}}
use Rattle.block_image.specs.Blocks.{blocks_at}
use Rattle.rand_core.specs.{Steps.{steps_u64_low, stream_of}, Stream.fill_bytes}
use Rattle.rand_pcg.specs.{Lcg.{increment_of, started}, Pcg.{multiplier_128, pcg64}}
use Rattle.load.specs.declared.layout.Layout.{Layout}

-- this many bytes of the generator PCG64 at this state, on this stream
abbrev pub random_bytes : ℕ → ℕ → ℕ → List ℕ
random_bytes many state stream = (fill_bytes many (stream_of (steps_u64_low pcg64) (started 128 multiplier_128 state (increment_of 128 stream)))).0

-- this many rows: the same bytes in each, after the row's number
abbrev pub rows : List ℕ → ℕ → ℕ → List ℕ
rows row number zero = []
rows row number (suc many) = number ∷ row ++ rows row (number + 1) many

-- a block as it is after this many writes: its number, how often it was written, and seven rows of bytes made of both and of the seed
unfoldable pub block_bytes : ℕ → ℕ → ℕ → List ℕ
block_bytes seed block generation =
    to_le_bytes w32 block ++ to_le_bytes w32 generation ++ rows (random_bytes 71 (seed * 2 ^ 32 + generation) block) 0 7

-- this many blocks starting at one
abbrev pub blocks_bytes : ℕ → ℕ → ℕ → ℕ → List ℕ
blocks_bytes seed generation first zero = []
blocks_bytes seed generation first (suc many) = block_bytes seed first generation ++ blocks_bytes seed generation (first + 1) many

-- a slot that was written this often, once at least
abbrev pub written : Layout → ℕ → ℕ → ℕ → List ℕ
written layout seed slot generation = blocks_bytes seed generation (slot * layout.slot_blocks) layout.slot_blocks

-- a slot over an image of these bytes that was written this often; before, it is as the image
abbrev pub slot_content : Layout → ℕ → List ℕ → ℕ → ℕ → List ℕ
slot_content layout seed first slot generation =
    if generation == 0 then blocks_at first (slot * layout.slot_blocks) layout.slot_blocks else written layout seed slot generation
