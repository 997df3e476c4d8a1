-- the parts before the last one, and those that are still counted from it on, are all of them
use Rattle.std.proofs.Common.{◌≡◌, ◌<◌, ◌+◌, ◌∷◌, length}
use Rattle.sgl_chain.specs.Joining.{joined}
use Rattle.io_commands.specs.Requests.{parts_of, joined_parts}
use Rattle.io_commands.proofs.least.count_from.Given as goal

abbrev pub invariant-loop-part : goal.invariant-loop-part
invariant-loop-part l = record {
  counted : l.before + length (joined (l.last ∷ parts_of l.pieces l.pages)) ≡ length (joined_parts l.fn.pieces l.fn.pages);
  few : l.before + length l.pieces < length l.fn.pieces;
}

abbrev pub decreases-loop-part : goal.decreases-loop-part
decreases-loop-part l = length l.pieces
