use Rattle.std.proofs.Common.{refl, arith, ◌∙◌}
use Rattle.std.proofs.lemmas.List.{take_rest}
use Rattle.std.proofs.Math.Seq.{map-set_same}
use Rattle.nvmesgl_c.proofs.Scattering.{buffer_scattered, buffers_scattered}
use Rattle.nvmesgl_c.proofs.words.buffers.scatter.Goals as goal

pub loop-place-preserved : goal.loop-place-preserved
loop-place-preserved c = record {
  filled = rw (take_rest c.loop-place.rest.now c.fill_buffer-count.result) (buffer_scattered c.args.bytes.now c.loop-place.rest.now c.args.buffers.now c.loop-place.buffers c.loop-place.place c.fill_buffer-count.result _ c.fill_buffer-count.new.buffer _ c.loop-place.invariant.filled (omega arith) refl c.fill_buffer-count.ensures.count c.fill_buffer-count.ensures.filled);
  places = map-set_same _ c.loop-place.buffers c.loop-place.place c.fill_buffer-count.new.buffer _ c.fill_buffer-count.ensures.place ∙ c.loop-place.invariant.places;
}

pub returns-clause-lengths : goal.returns-clause-lengths
returns-clause-lengths c = (buffers_scattered c.args.bytes.now c.loop-place.rest.now c.args.buffers.now c.loop-place.buffers c.loop-place.place c.loop-place.invariant.filled (omega arith)).0

pub returns-clause-filled : goal.returns-clause-filled
returns-clause-filled c = (buffers_scattered c.args.bytes.now c.loop-place.rest.now c.args.buffers.now c.loop-place.buffers c.loop-place.place c.loop-place.invariant.filled (omega arith)).1
