use Rattle.std.proofs.Common.{◌≡◌, ◌++◌, map, take, All}
use Rattle.sgl_descriptor.specs.{Spelling.Fits, Targets.descriptor_of_part}
use Rattle.sgl_chain.proofs.segment.Descs.push_parts.Given as goal

abbrev pub invariant-loop-part : goal.invariant-loop-part
invariant-loop-part g l = record {
  pushed : l.self ≡ l.initial.self ++ map descriptor_of_part (take l.part-index l.parts);
  fits : All Fits l.initial.self → All Fits l.self;
}
