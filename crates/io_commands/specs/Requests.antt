-- What a host asks for: which blocks, in which direction, and the pieces of memory that take part.
use Rattle.std.specs.{Bool.beq, List.list_any}
use Rattle.std.specs.Prelude.{ℕ, ◌+◌, ◌*◌, ◌^◌, ◌<◌, ◌==◌, nat_lt, Bool, true, false, ◌||◌, ◌&&◌, not, Option, List, [], ◌∷◌, codes, length, sum_by, count_by, All, if◌then◌else◌}
use Rattle.controller_walk.specs.Units.{first_passing}
use Rattle.sgl_descriptor.specs.declared.{Direction.{Direction, TheVariants.{Destination, Source}}, Part.Part}
use Rattle.sgl_chain.specs.Joining.{joined}
use Rattle.entry_codec.specs.declared.io_opcode.TheConstants.{READ, WRITE, COMPARE, WRITE_ZEROES, VERIFY, FLUSH, DATASET_MANAGEMENT}
use Rattle.io_commands.specs.{Admin.{comes_in, has_its_page, is_kept, same_command}, Asked.Request, BlockSizes.{block_bytes, most_blocks}, declared.block_size.BlockSize.BlockSize, declared.request.{Flags.Flags, Kind.{Kind, TheVariants.{Read, Write, Compare, WriteZeroes, Verify, Flush, Deallocate, Admin}}, Piece.{Piece, TheVariants.{Data, Bucket}}}}
use Rattle.io_commands.specs.declared.request.RequestFault.{RequestFault, TheVariants.{TooManyPieces, EmptyPiece, CrossesPage, BadCount, LengthMismatch, HostsOwn}}
use Rattle.sgl_descriptor.specs.declared.Part.TheVariants as part

-- a Read, a Write and a Compare move data between blocks and the host's pages, and the others do not
abbrev pub moves_data : Kind → Bool
moves_data Read = true
moves_data Write = true
moves_data Compare = true
moves_data WriteZeroes = false
moves_data Verify = false
moves_data Flush = false
moves_data Deallocate = false
moves_data (Admin command) = false

-- a Deallocate names its blocks by ranges, which are its data
abbrev pub names_ranges : Kind → Bool
names_ranges Deallocate = true
names_ranges kind = false

-- so the data pointer of these four leads to a list of parts
abbrev pub has_list : Kind → Bool
has_list kind = moves_data kind || names_ranges kind

-- all others but a Flush and an admin command name blocks in their entry
abbrev pub names_blocks : Kind → Bool
names_blocks Flush = false
names_blocks Deallocate = false
names_blocks (Admin command) = false
names_blocks kind = true

abbrev pub is_admin : Kind → Bool
is_admin (Admin command) = true
is_admin kind = false

-- data comes to the host's pages in a Read, and in an admin command that has it come
abbrev pub brings_data : Kind → Bool
brings_data Read = true
brings_data (Admin command) = comes_in command.page
brings_data kind = false

-- which way it goes; of a command that moves none it says nothing
abbrev pub direction_of : Kind → Direction
direction_of kind = if brings_data kind then Destination else Source

abbrev pub opcode_of : Kind → ℕ
opcode_of Read = READ
opcode_of Write = WRITE
opcode_of Compare = COMPARE
opcode_of WriteZeroes = WRITE_ZEROES
opcode_of Verify = VERIFY
opcode_of Flush = FLUSH
opcode_of Deallocate = DATASET_MANAGEMENT
opcode_of (Admin command) = command.opcode

-- a kind's name, as scripts have it
abbrev pub kind_name : Kind → List ℕ
kind_name Read = codes "read"
kind_name Write = codes "write"
kind_name Compare = codes "compare"
kind_name WriteZeroes = codes "write_zeroes"
kind_name Verify = codes "verify"
kind_name Flush = codes "flush"
kind_name Deallocate = codes "deallocate"
kind_name (Admin command) = codes "admin"

-- whether two kinds are one, and two commands' flags
abbrev pub same_kind : Kind → Kind → Bool
same_kind Read Read = true
same_kind Write Write = true
same_kind Compare Compare = true
same_kind WriteZeroes WriteZeroes = true
same_kind Verify Verify = true
same_kind Flush Flush = true
same_kind Deallocate Deallocate = true
same_kind (Admin a) (Admin b) = same_command a b
same_kind a b = false

abbrev pub same_flags : Flags → Flags → Bool
same_flags a b = beq a.force_unit_access b.force_unit_access && beq a.limited_retry b.limited_retry

-- the bits of a command's flags in CDW12: Force Unit Access is bit 30, Limited Retry bit 31
abbrev pub flag_bits : Flags → ℕ
flag_bits flags = (if flags.force_unit_access then 2 ^ 30 else 0) + (if flags.limited_retry then 2 ^ 31 else 0)

abbrev pub is_empty_piece : Piece → Bool
is_empty_piece (Data offset len) = len == 0
is_empty_piece (Bucket len) = len == 0

abbrev pub crosses_page : Piece → Bool
crosses_page (Data offset len) = nat_lt 4096 (offset + len)
crosses_page (Bucket len) = false

abbrev pub is_data : Piece → Bool
is_data (Data offset len) = true
is_data (Bucket len) = false

-- how many of a command's bytes a piece is: a bucket is passed over where data goes from the host
abbrev pub counted_length : Kind → Piece → ℕ
counted_length kind (Data offset len) = len
counted_length Write (Bucket len) = 0
counted_length Compare (Bucket len) = 0
counted_length Deallocate (Bucket len) = 0
counted_length kind (Bucket len) = len

abbrev pub counted_lengths : Kind → List Piece → ℕ
counted_lengths kind pieces = sum_by (counted_length kind) pieces

-- how many bytes this many ranges have, 16 each; what names none has no bytes of them
abbrev pub need_of_ranges : Kind → ℕ → ℕ
need_of_ranges kind ranges = if names_ranges kind then 16 * ranges else 0

-- how many bytes the pieces of a command of this many blocks of a size, or this many ranges, are together: one without a list has no piece
abbrev pub need_of : Kind → BlockSize → ℕ → ℕ
need_of kind size blocks = if moves_data kind then block_bytes size * blocks else need_of_ranges kind blocks

-- what its pieces are: the bytes of its blocks or ranges, and for an admin command its page
abbrev pub has_its_bytes : Kind → BlockSize → ℕ → List Piece → Bool
has_its_bytes (Admin command) size blocks pieces = has_its_page command.page pieces
has_its_bytes kind size blocks pieces = counted_lengths kind pieces == need_of kind size blocks

-- whether it is an admin command that the host keeps to itself
abbrev pub is_hosts_own : Kind → Bool
is_hosts_own (Admin command) = is_kept command
is_hosts_own kind = false

-- how many blocks it may have, or ranges
abbrev pub most_of : Kind → BlockSize → ℕ
most_of kind size = if names_ranges kind then 256 else most_blocks size

-- a command has 1 block to 1 MiB of them, or 1 to 256 ranges, and none where it names none
abbrev pub is_count : Kind → BlockSize → ℕ → Bool
is_count kind size blocks = if names_blocks kind || names_ranges kind then not ((blocks == 0) || nat_lt (most_of kind size) blocks) else blocks == 0

-- the data pages that pieces take, one for each data piece
abbrev pub data_count : List Piece → ℕ
data_count pieces = count_by is_data pieces

-- the parts of pieces, with each data piece in a page of its own
abbrev pub parts_of : List Piece → List ℕ → List Part
parts_of [] pages = []
parts_of (Bucket len ∷ pieces) pages = part.Bucket len ∷ parts_of pieces pages
parts_of (Data offset len ∷ pieces) [] = []
parts_of (Data offset len ∷ pieces) (page ∷ pages) = part.Data (4096 * page + offset) len ∷ parts_of pieces pages

-- the parts of pieces in their pages, neighbours that join as one
abbrev pub joined_parts : List Piece → List ℕ → List Part
joined_parts pieces pages = joined (parts_of pieces pages)

-- the first fault of a request, in the order of the checks
abbrev pub fault_of : Kind → BlockSize → ℕ → List Piece → Option RequestFault
fault_of kind size blocks pieces =
    first_passing (
    (nat_lt 1024 (length pieces), TooManyPieces)
    ∷ (list_any is_empty_piece pieces, EmptyPiece)
    ∷ (list_any crosses_page pieces, CrossesPage)
    ∷ (not (is_count kind size blocks), BadCount)
    ∷ (not (has_its_bytes kind size blocks pieces), LengthMismatch)
    ∷ (is_hosts_own kind, HostsOwn)
    ∷ [])

-- The numbers of a piece, and those of a request, fit their types.
abbrev pub FitsPiece : Piece → Type 0
FitsPiece (Data offset len) = (offset < 2 ^ 32) × (len < 2 ^ 32)
FitsPiece (Bucket len) = len < 2 ^ 32

pub record FitsRequest (request : Request) : Type 0 where
  pub nsid : request.nsid < 2 ^ 32
  pub slba : request.slba < 2 ^ 64
  pub blocks : request.blocks < 2 ^ 32
  pub pieces : All FitsPiece request.pieces
