-- How many bytes a block has.
use Rattle.std.specs.Prelude.{◌/◌, ◌==◌, ℕ, Option, Some, None, if◌then◌else◌}
use Rattle.io_commands.specs.declared.block_size.BlockSize.{BlockSize, TheVariants.{Bytes512, Bytes1024, Bytes2048, Bytes4096}}

-- a block's size in bytes
abbrev pub block_bytes : BlockSize → ℕ
block_bytes Bytes512 = 512
block_bytes Bytes1024 = 1024
block_bytes Bytes2048 = 2048
block_bytes Bytes4096 = 4096

-- the size of this many bytes; none where no block has that many
abbrev pub size_of : ℕ → Option BlockSize
size_of bytes =
    if bytes == 512 then Some Bytes512
    else if bytes == 1024 then Some Bytes1024
    else if bytes == 2048 then Some Bytes2048
    else if bytes == 4096 then Some Bytes4096
    else None

-- how many blocks a command may have: those of 1 MiB
abbrev pub most_blocks : BlockSize → ℕ
most_blocks size = 1048576 / block_bytes size
