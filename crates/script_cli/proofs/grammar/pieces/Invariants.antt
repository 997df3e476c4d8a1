-- the words left go on to the same pieces from those so far
use Rattle.std.proofs.Common.{◌≡◌, [], length}
use Rattle.script_cli.specs.Grammar.{pieces_from}
use Rattle.script_cli.proofs.grammar.pieces.Given as goal

abbrev pub invariant-loop-word : goal.invariant-loop-word
invariant-loop-word l = pieces_from l.pieces l.words ≡ pieces_from [] l.fn.words

abbrev pub decreases-loop-word : goal.decreases-loop-word
decreases-loop-word l = length l.words
