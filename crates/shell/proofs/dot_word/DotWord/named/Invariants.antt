use Rattle.std.proofs.Common.{◌≢◌, ℕ, ◌<◌}
use Rattle.std.specs.Prelude.{slice_index_or}
use Rattle.shell.specs.DotWords.{name_of_word}
use Rattle.shell.specs.declared.dot_word.{DotWord.TheVariants.Help, TheConstants.DOT_WORDS}
use Rattle.shell.proofs.dot_word.DotWord.named.Given as goal

abbrev pub invariant-loop-dot : goal.invariant-loop-dot
invariant-loop-dot l = (k : ℕ) → k < l.dot-index → name_of_word (slice_index_or DOT_WORDS k Help) ≢ l.word
