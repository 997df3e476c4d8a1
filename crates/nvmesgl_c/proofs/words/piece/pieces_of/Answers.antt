use Rattle.std.proofs.Common.{sym, arith}
use Rattle.std.proofs.lemmas.List.{length-take-le, take_all}
use Rattle.nvmesgl_c.proofs.words.piece.pieces_of.Goals as goal

pub slice_bounds-made_of-end : goal.slice_bounds-made_of-end
slice_bounds-made_of-end c = sym (length-take-le 1025 c.args.pieces.now (omega arith))

pub returns-else-pieces-gt-MOST_SEEN-clause-made : goal.returns-else-pieces-gt-MOST_SEEN-clause-made
returns-else-pieces-gt-MOST_SEEN-clause-made c = rw (take_all 1025 c.args.pieces.now (omega arith)) c.made_of-else-pieces-gt-MOST_SEEN.ensures.made

pub returns-else-pieces-gt-MOST_SEEN-clause-good : goal.returns-else-pieces-gt-MOST_SEEN-clause-good
returns-else-pieces-gt-MOST_SEEN-clause-good c = rw (take_all 1025 c.args.pieces.now (omega arith)) c.made_of-else-pieces-gt-MOST_SEEN.ensures.good

pub returns-else-pieces-gt-MOST_SEEN-clause-not_made : goal.returns-else-pieces-gt-MOST_SEEN-clause-not_made
returns-else-pieces-gt-MOST_SEEN-clause-not_made c = rw (take_all 1025 c.args.pieces.now (omega arith)) c.made_of-else-pieces-gt-MOST_SEEN.ensures.not_made
