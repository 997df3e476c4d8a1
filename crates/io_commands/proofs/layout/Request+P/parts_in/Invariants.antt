-- the parts that are done, and those that are still joined from the last one on, are all of them
use Rattle.std.{proofs.Common.{◌≡◌, ◌<◌, ◌+◌, ◌∷◌, ◌++◌, length, vec_len}, specs.Vec.vec_capacity}
use Rattle.sgl_chain.specs.Joining.{joined}
use Rattle.io_commands.specs.{Requests.{parts_of, joined_parts}, Values.numbers_of}
use Rattle.io_commands.proofs.layout.Request+P.parts_in.Given as goal

abbrev pub invariant-loop-part : goal.invariant-loop-part
invariant-loop-part g l = record {
  joined : l.parts.items ++ joined (l.last ∷ parts_of l.pieces (numbers_of l.pages)) ≡ joined_parts l.fn.self.pieces (numbers_of l.fn.pages);
  room : vec_len l.parts + length l.pieces < vec_capacity l.parts;
}

abbrev pub decreases-loop-part : goal.decreases-loop-part
decreases-loop-part g l = length l.pieces
