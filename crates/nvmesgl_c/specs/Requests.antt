-- What C asks for: kinds by number, and pieces.
use Rattle.std.specs.List.{list_any}
use Rattle.std.specs.Prelude.{◌≡◌, ◌⊎◌, ◌++◌, ◌==◌, ◌/◌, ◌%◌, ℕ, zero, suc, nat_lt, bit_and, Bool, true, false, Option, Some, None, Result, Ok, Err, List, [], ◌∷◌, map, replicate, take, if◌then◌else◌}
use Rattle.io_commands.specs.{Asked.Request, BlockSizes.size_of, declared.request.{Flags.Flags, Kind.Kind, Piece.Piece, TheConstants.Flags.NONE}}
use Rattle.nvmesgl_c.specs.declared.words.{asked.CRequest.CRequest, piece.{CPiece.CPiece, NoPieces.{NoPieces, TheVariants.{BadPiece, Memory}}}}
use Rattle.io_commands.specs.declared.request.Kind.TheVariants as kind
use Rattle.io_commands.specs.declared.request.Piece.TheVariants as piece
use Rattle.io_commands.specs.declared.block_size.BlockSize.{BlockSize, TheVariants.{Bytes512}}

-- the kind of a piece is neither 0, data, nor 1, what a Read discards
abbrev pub is_no_piece : CPiece → Bool
is_no_piece p = nat_lt 1 p.kind

abbrev pub piece_of : CPiece → Piece
piece_of p = if p.kind == 0 then piece.Data p.offset p.len else piece.Bucket p.len

-- of more pieces than a command has, one more than that is read
abbrev pub looked_at : List CPiece → List CPiece
looked_at pieces = take 1025 pieces

-- why there are no pieces: the first of these
abbrev pub IsWhy : List CPiece → NoPieces → Type 0
IsWhy pieces BadPiece = list_any is_no_piece pieces ≡ true
IsWhy pieces Memory = list_any is_no_piece pieces ≡ false

abbrev pub kind_of : ℕ → Option Kind
kind_of zero = Some kind.Read
kind_of (suc zero) = Some kind.Write
kind_of (suc (suc zero)) = Some kind.Compare
kind_of (suc (suc (suc zero))) = Some kind.WriteZeroes
kind_of (suc (suc (suc (suc zero)))) = Some kind.Verify
kind_of (suc (suc (suc (suc (suc zero))))) = Some kind.Flush
kind_of (suc (suc (suc (suc (suc (suc zero)))))) = Some kind.Deallocate
kind_of n = None

-- a word that is not 0
abbrev pub is_set : ℕ → Bool
is_set word = nat_lt 0 word

-- The request that C asks for

-- what is asked for in namespace 1, with no flag, in blocks of 512 bytes
abbrev pub plain : ℕ → ℕ → ℕ → CRequest
plain kind slba blocks = record { size = 48; kind = kind; nsid = 1; flags = 0; slba = slba; blocks = blocks; block_bytes = 0; reserved = replicate 4 0 }

-- bit 0 is Force Unit Access, bit 1 is Limited Retry, and there is no other
abbrev pub flags_of : ℕ → Option Flags
flags_of n =
    if nat_lt 3 n
    then None
    else Some (record { force_unit_access = is_set (bit_and n 1); limited_retry = is_set (bit_and n 2) })

-- 0 bytes are 512
abbrev pub size_of_bytes : ℕ → Option BlockSize
size_of_bytes n = if n == 0 then Some Bytes512 else size_of n

-- 0 is namespace 1
abbrev pub namespace_of : ℕ → ℕ
namespace_of n = if n == 0 then 1 else n

-- by whether the size is its own, whether a reserved word is set, the flags, the block size, the kind, and whether some piece is of no kind
abbrev pub asked_by : Bool → Bool → Option Flags → Option BlockSize → Option Kind → Bool → CRequest → List CPiece → Result Request ℕ
asked_by false is_reserved f z k is_bad r pieces = Err 7
asked_by true true f z k is_bad r pieces = Err 8
asked_by true false None z k is_bad r pieces = Err 8
asked_by true false (Some f) None k is_bad r pieces = Err 8
asked_by true false (Some f) (Some z) None is_bad r pieces = Err 4
asked_by true false (Some f) (Some z) (Some k) true r pieces = Err 56
asked_by true false (Some f) (Some z) (Some k) false r pieces =
    Ok (record { kind = k; nsid = namespace_of r.nsid; flags = f; slba = r.slba; block_size = z; blocks = r.blocks; pieces = map piece_of pieces })

-- the request, or the code of the first obstacle
abbrev pub asked_of : CRequest → List CPiece → Result Request ℕ
asked_of r pieces = asked_by (r.size == 48) (list_any is_set r.reserved) (flags_of r.flags) (size_of_bytes r.block_bytes) (kind_of r.kind) (list_any is_no_piece pieces) r pieces

-- what is made of it: memory may be refused for the pieces
abbrev pub IsMade : Result Request ℕ → Result Request ℕ → Type 0
IsMade (Err code) made = made ≡ Err code
IsMade (Ok request) made = (made ≡ Ok request) ⊎ (made ≡ Err 15)

-- The request of this many bytes in a row

-- a piece for each page that they fill, and one for what is left
abbrev pub pieces_of_length : ℕ → List Piece
pieces_of_length n =
    replicate (n / 4096) (piece.Data 0 4096) ++ (if n % 4096 == 0 then [] else (piece.Data 0 (n % 4096) ∷ []))

abbrev pub request_of : Kind → ℕ → ℕ → Request
request_of kind slba n = record { kind = kind; nsid = 1; flags = NONE; slba = slba; block_size = Bytes512; blocks = n / 512; pieces = pieces_of_length n }
