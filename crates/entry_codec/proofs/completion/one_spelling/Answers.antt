use Rattle.entry_codec.proofs.CompletionLemmas.{one_spelling}
use Rattle.entry_codec.proofs.completion.one_spelling.Goals as goal

pub returns : goal.returns
returns c = one_spelling
