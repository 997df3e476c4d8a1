use Rattle.run_laws.proofs.DraftsStand.{were_reserved, submits_filled}
use Rattle.run_laws.proofs.bench_laws.law_of_submitted_drafts.Goals as goal

pub returns-clause-reservation : goal.returns-clause-reservation
returns-clause-reservation c = were_reserved

pub returns-clause-contents : goal.returns-clause-contents
returns-clause-contents c = submits_filled
