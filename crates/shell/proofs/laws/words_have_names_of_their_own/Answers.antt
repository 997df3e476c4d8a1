use Rattle.shell.proofs.Listed.{place_of}
use Rattle.shell.proofs.laws.words_have_names_of_their_own.Goals as goal

pub returns-clause-listed : goal.returns-clause-listed
returns-clause-listed c word = place_of word word
