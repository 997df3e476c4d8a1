-- The blocks of a namespace of which only some are given, and the field checks of an entry over it.
use Rattle.std.specs.Prelude.{◌==◌, ◌+◌, ◌*◌, ◌/◌, ◌||◌, ◌++◌, ℕ, zero, suc, not, nat_lt, is_none, List, [], ◌∷◌, Option, Some, None, replicate, take, find, if◌then◌else◌}
use Rattle.std.specs.Str.{bytes_eq}
use Rattle.controller_walk.specs.Units.{first_passing}
use Rattle.entry_codec.specs.declared.{status.Status.Status, submission.SubEntry.SubEntry}
use Rattle.entry_codec.specs.declared.status.TheConstants.Status.{SUCCESS, INVALID_OPCODE, INVALID_FIELD, INVALID_NAMESPACE, LBA_OUT_OF_RANGE, COMPARE_FAILURE}
use Rattle.io_commands.specs.{Jobs.{kind_of_opcode, first_block, block_number}, declared.request.Kind.{Kind, TheVariants.Compare}}
use Rattle.io_commands.specs.{BlockSizes.{block_bytes, most_blocks}, declared.block_size.BlockSize.{BlockSize}}
use Rattle.views.specs.declared.explain.namespace.GivenBlock.{GivenBlock}

-- how many bytes an entry's blocks have
abbrev pub bytes_moved : BlockSize → SubEntry → ℕ
bytes_moved size e = block_bytes size * block_number e

-- the first failed field check of an entry, for a namespace of this number with this many blocks of this size
abbrev pub field_fault : ℕ → BlockSize → ℕ → SubEntry → Option Status
field_fault namespace size blocks e =
    first_passing (
    (is_none (kind_of_opcode e.opcode), INVALID_OPCODE)
    ∷ (not (e.nsid == namespace), INVALID_NAMESPACE)
    ∷ (not (e.fuse == 0) || not (e.psdt == 1), INVALID_FIELD)
    ∷ (nat_lt (most_blocks size) (block_number e), INVALID_FIELD)
    ∷ (nat_lt blocks (first_block e + block_number e), LBA_OUT_OF_RANGE)
    ∷ [])

-- a block of this many zeros
unfoldable pub zero_block : ℕ → List ℕ
zero_block bytes = replicate bytes 0

abbrev pub bytes_by : ℕ → Option GivenBlock → List ℕ
bytes_by bytes None = zero_block bytes
bytes_by bytes (Some block) = take bytes block.bytes

-- this many bytes of a block: those that it was given, or zeros
abbrev pub bytes_of_block : ℕ → List GivenBlock → ℕ → List ℕ
bytes_of_block bytes given n = bytes_by bytes (find (λ block. block.number == n) given)

-- the bytes of this many blocks starting at a first one
abbrev pub blocks_from : ℕ → List GivenBlock → ℕ → ℕ → List ℕ
blocks_from bytes given first zero = []
blocks_from bytes given first (suc n) = blocks_from bytes given first n ++ bytes_of_block bytes given (first + n)

-- the bytes in the blocks of an entry
abbrev pub stored_of : BlockSize → List GivenBlock → SubEntry → List ℕ
stored_of size given e = blocks_from (block_bytes size) given (first_block e) (block_number e)

-- how a command ends whose list was accepted: a Compare fails where a byte differs from what is in its blocks
abbrev pub status_by : List ℕ → List ℕ → Option Kind → Status
status_by stored bytes (Some Compare) = if bytes_eq stored bytes then SUCCESS else COMPARE_FAILURE
status_by stored bytes kind = SUCCESS
