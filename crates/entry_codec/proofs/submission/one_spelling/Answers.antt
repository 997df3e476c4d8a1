use Rattle.entry_codec.proofs.SubmissionLemmas.{one_spelling}
use Rattle.entry_codec.proofs.submission.one_spelling.Goals as goal

pub returns : goal.returns
returns c = one_spelling
