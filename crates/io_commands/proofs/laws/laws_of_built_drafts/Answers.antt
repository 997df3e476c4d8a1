use Rattle.io_commands.proofs.Building.{carries_entry, built_drafts_spell}
use Rattle.io_commands.proofs.laws.laws_of_built_drafts.Goals as goal

pub returns-clause-entry : goal.returns-clause-entry
returns-clause-entry c = carries_entry

pub returns-clause-spells : goal.returns-clause-spells
returns-clause-spells c = built_drafts_spell c.laid_chains_spell.ensures
