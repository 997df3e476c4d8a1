use Rattle.std.proofs.Common.{◌≡◌, length, take, min}
use Rattle.nvmesgl_c.specs.Buffers.{joined_buffers}
use Rattle.nvmesgl_c.proofs.words.buffers.room_up_to.Given as goal

-- those of the buffers so far
abbrev pub invariant-loop-buffer : goal.invariant-loop-buffer
invariant-loop-buffer l = l.room ≡ min (length (joined_buffers (take l.buffer-index l.buffers))) l.most
