-- The image of a namespace: the bytes of its blocks, 512 to a block, one block after another.
use Rattle.std.specs.Prelude.{◌≡◌, ℕ, ◌+◌, ◌*◌, ◌/◌, ◌%◌, ◌<◌, ◌≤◌, ◌⊎◌, ◌&&◌, Bool, not, nat_lt, List, ◌++◌, length, replicate, take, drop}

-- the most blocks that an image has
abbrev pub most_blocks : ℕ
most_blocks = 65536

-- one block or more, at most this many, and each of them whole
pub record IsImage (bytes : List ℕ) : Type 0 where
  pub whole : length bytes % 512 ≡ 0
  pub some : 0 < length bytes
  pub few : length bytes ≤ 512 * most_blocks

-- how many blocks an image or a buffer is
abbrev pub block_count : List ℕ → ℕ
block_count bytes = length bytes / 512

-- the buffer is whole blocks, and the image has as many of them from slba on
pub record IsInRange (image : List ℕ) (slba : ℕ) (buffer : List ℕ) : Type 0 where
  pub whole : length buffer % 512 ≡ 0
  pub inside : slba + block_count buffer ≤ block_count image

-- the bytes of n blocks of the image, from slba on
abbrev pub blocks_at : List ℕ → ℕ → ℕ → List ℕ
blocks_at image slba n = take (512 * n) (drop (512 * slba) image)

-- the image with new blocks in place of those from slba on
abbrev pub with_blocks : List ℕ → ℕ → List ℕ → List ℕ
with_blocks image slba new = take (512 * slba) image ++ new ++ drop (512 * slba + length new) image

-- each block of an image is 512 bytes
abbrev pub BlocksAreWhole : Type 0
BlocksAreWhole =
    (image : List ℕ) (slba n : ℕ) → slba + n ≤ block_count image → length (blocks_at image slba n) ≡ 512 * n

-- the blocks that were put are what is read there
abbrev pub PutIsRead : Type 0
PutIsRead =
    (image : List ℕ) (slba : ℕ) (new : List ℕ) →
    IsInRange image slba new → blocks_at (with_blocks image slba new) slba (block_count new) ≡ new

-- blocks below and above those that were put stay as they were
abbrev pub PutKeepsOthers : Type 0
PutKeepsOthers =
    (image : List ℕ) (slba : ℕ) (new : List ℕ) (at n : ℕ) →
    IsInRange image slba new →
    (at + n ≤ slba) ⊎ (slba + block_count new ≤ at) →
    blocks_at (with_blocks image slba new) at n ≡ blocks_at image at n

-- an image stays as long as it was
abbrev pub PutKeepsLength : Type 0
PutKeepsLength =
    (image : List ℕ) (slba : ℕ) (new : List ℕ) →
    IsInRange image slba new → length (with_blocks image slba new) ≡ length image

-- The bytes of a namespace of this many blocks, of which some are lent, from a first one on: zeros in place of those that are not.
abbrev pub shown : ℕ → ℕ → List ℕ → List ℕ
shown blocks first lent = with_blocks (replicate (512 * blocks) 0) first lent

-- whether this many blocks from slba on are all lent
abbrev pub is_lent : ℕ → List ℕ → ℕ → ℕ → Bool
is_lent first lent slba n = not (nat_lt slba first) && not (nat_lt (first + block_count lent) (slba + n))

-- what can be lent of a namespace of this many blocks: whole blocks, inside it
pub record IsPart (blocks first : ℕ) (lent : List ℕ) : Type 0 where
  pub some : 0 < blocks
  pub whole : length lent % 512 ≡ 0
  pub inside : first + block_count lent ≤ blocks
