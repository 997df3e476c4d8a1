use Rattle.std.proofs.Common.{◌≡◌, length, take, min}
use Rattle.nvmesgl_c.specs.Buffers.{joined}
use Rattle.nvmesgl_c.proofs.words.buffers.bytes_up_to.Given as goal

-- those of the buffers so far
abbrev pub invariant-loop-source : goal.invariant-loop-source
invariant-loop-source l = l.count ≡ min (length (joined (take l.source-index l.sources))) l.most
