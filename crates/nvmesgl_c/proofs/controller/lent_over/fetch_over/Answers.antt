use Rattle.nvmesgl_c.proofs.Marks.{same_mark}
use Rattle.nvmesgl_c.proofs.controller.lent_over.fetch_over.Goals as goal

pub returns-in-Ok-clause-same : goal.returns-in-Ok-clause-same
returns-in-Ok-clause-same c = (same_mark _ _ _ _ _ _ c.fetch_over-fetched.ensures.unlisted).0

pub returns-in-Ok-clause-table : goal.returns-in-Ok-clause-table
returns-in-Ok-clause-table c = (same_mark _ _ _ _ _ _ c.fetch_over-fetched.ensures.unlisted).1

pub returns-in-Ok-clause-hidden : goal.returns-in-Ok-clause-hidden
returns-in-Ok-clause-hidden c = (same_mark _ _ _ _ _ _ c.fetch_over-fetched.ensures.unlisted).2

pub returns-in-Err-clause-same : goal.returns-in-Err-clause-same
returns-in-Err-clause-same c = (same_mark _ _ _ _ _ _ c.fetch_over-fetched.ensures.unlisted).0

pub returns-in-Err-clause-table : goal.returns-in-Err-clause-table
returns-in-Err-clause-table c = (same_mark _ _ _ _ _ _ c.fetch_over-fetched.ensures.unlisted).1

pub returns-in-Err-clause-hidden : goal.returns-in-Err-clause-hidden
returns-in-Err-clause-hidden c = (same_mark _ _ _ _ _ _ c.fetch_over-fetched.ensures.unlisted).2
