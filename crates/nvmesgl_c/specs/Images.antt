-- The image that C gives.
use Rattle.std.specs.Prelude.{◌≡◌, ◌*◌, ◌<◌, ◌⊎◌, ℕ, List, [], ◌∷◌, replicate}
use Rattle.block_image.specs.{Blocks.{IsImage, most_blocks}, declared.ImageError.ImageError}
use Rattle.block_image.specs.declared.ImageError.TheVariants as image_error

-- the bytes that are given, or this many blocks of zeros where none are
abbrev pub image_of : ℕ → List ℕ → List ℕ
image_of blocks [] = replicate (512 * blocks) 0
image_of blocks (byte ∷ bytes) = byte ∷ bytes

-- they have a length that no image has
abbrev pub IsBadImage : ℕ → List ℕ → Type 0
IsBadImage blocks [] = (blocks ≡ 0) ⊎ (most_blocks < blocks)
IsBadImage blocks (byte ∷ bytes) = IsImage (byte ∷ bytes) → ⊥

-- they have a length that an image has
abbrev pub IsGoodImage : ℕ → List ℕ → Type 0
IsGoodImage blocks bytes = IsBadImage blocks bytes → ⊥

-- when no image is made for a cause: memory is refused only where the length is an image's
abbrev pub IsNoImage : ℕ → List ℕ → ImageError → Type 0
IsNoImage blocks bytes image_error.BadLength = IsBadImage blocks bytes
IsNoImage blocks bytes image_error.Memory = IsGoodImage blocks bytes
