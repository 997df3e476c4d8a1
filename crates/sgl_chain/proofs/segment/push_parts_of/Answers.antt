use Rattle.std.proofs.{Common.arith, lemmas.{Grind.common_steps, List.Elements.filter_map-append}}
use Rattle.sgl_chain.proofs.segment.push_parts_of.Goals as goal

pub loop-descriptor-preserved : goal.loop-descriptor-preserved
loop-descriptor-preserved g c = grind (arith, common_steps, filter_map-append)
