use Rattle.std.proofs.Common.{arith, sym}
use Rattle.sgl_chain.proofs.Spelled.{needed_divided}
use Rattle.sgl_chain.proofs.chain.pages_needed.Goals as goal

pub returns-else-parts-le1-clause-count : goal.returns-else-parts-le1-clause-count
returns-else-parts-le1-clause-count c = sym (needed_divided c.args.parts c.args.segment_size c.requires (omega arith))
