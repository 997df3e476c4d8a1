-- The pieces that words stand for: `OFFSET+LEN` is data, `xLEN` is a bucket.
use Rattle.std.specs.Prelude.{ℕ, ◌^◌, ◌==◌, Bool, Option, Some, None, List, [], ◌∷◌, option_and_then, if◌then◌else◌}
use Rattle.io_commands.specs.declared.request.Piece.{Piece, TheVariants.{Data, Bucket}}
use Rattle.script_cli.specs.{Lines.{before, onward}, Numbers.number}

abbrev pub number32 : List ℕ → Option ℕ
number32 word = number (2 ^ 32) word

abbrev pub is_plus : ℕ → Bool
is_plus b = b == 43

abbrev pub data_of : Option ℕ → Option ℕ → Option Piece
data_of (Some offset) (Some len) = Some (Data offset len)
data_of (Some offset) None = None
data_of None len = None

-- an offset, a plus sign and a length
abbrev pub data_piece : List ℕ → List ℕ → Option Piece
data_piece offset [] = None
data_piece offset (plus ∷ len) = data_of (number32 offset) (number32 len)

abbrev pub bucket_piece : List ℕ → Option Piece
bucket_piece word = option_and_then (λ len. Some (Bucket len)) (number32 word)

abbrev pub piece : List ℕ → Option Piece
piece [] = None
piece (b ∷ bs) = if b == 120 then bucket_piece bs else data_piece (before is_plus (b ∷ bs)) (onward is_plus (b ∷ bs))
