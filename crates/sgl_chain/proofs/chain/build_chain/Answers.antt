use Rattle.sgl_chain.{proofs.Back.few_segments, specs.Chains.segments_from}
use Rattle.sgl_chain.proofs.chain.build_chain.Goals as goal

pub invariant_of-result-2 : goal.invariant_of-result-2
invariant_of-result-2 g c =
    few_segments c.args.segment_size c.args.pages.now c.args.parts.now (segments_from c.in_ok-build_segments.field-0) c.requires.has c.requires.most c.in_ok-build_segments.ensures.segments
