use Rattle.run_laws.proofs.Images.{built_in_store}
use Rattle.run_laws.proofs.laws.law_of_built_drafts.Goals as goal

pub returns : goal.returns
returns c = built_in_store c.laws_of_built_drafts.ensures.spells
