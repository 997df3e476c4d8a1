use Rattle.std.{proofs.Common.{◌≡◌, ◌++◌, take}, specs.List.filter_map}
use Rattle.sgl_chain.specs.Chains.{part_of}
use Rattle.sgl_chain.proofs.segment.push_parts_of.Given as goal

abbrev pub invariant-loop-descriptor : goal.invariant-loop-descriptor
invariant-loop-descriptor g l = l.out.items ≡ l.initial.out.items ++ filter_map part_of (take l.descriptor-index l.descriptors)
