use Rattle.std.proofs.Common.{◌≡◌, take}
use Rattle.nvmesgl_c.specs.Buffers.{joined}
use Rattle.nvmesgl_c.proofs.words.buffers.copy_of.Given as goal

-- the bytes of the buffers so far
abbrev pub invariant-loop-source : goal.invariant-loop-source
invariant-loop-source l = l.copied.items ≡ joined (take l.source-index l.sources)
