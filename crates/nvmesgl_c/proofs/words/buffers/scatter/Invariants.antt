use Rattle.std.proofs.Common.{◌≡◌}
use Rattle.nvmesgl_c.specs.Buffers.{contents_of, places_of}
use Rattle.nvmesgl_c.proofs.Scattering.{Scattered}
use Rattle.nvmesgl_c.proofs.words.buffers.scatter.Given as goal

abbrev pub invariant-loop-place : goal.invariant-loop-place
invariant-loop-place l = record {
  filled : Scattered l.bytes l.rest (contents_of l.fn.buffers) (contents_of l.buffers) l.place;
  places : places_of l.buffers ≡ places_of l.fn.buffers;
}
