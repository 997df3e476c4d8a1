use Rattle.run_laws.proofs.NamedRights.{others_stay, others_keep, rings_keep}
use Rattle.run_laws.proofs.Reachable.{data_of_commands, chains_of_commands, submission_rings, completion_rings, free_pages, outside_the_pool, lists}
use Rattle.run_laws.proofs.reach.law_of_rights.Goals as goal

pub returns-clause-data : goal.returns-clause-data
returns-clause-data c = data_of_commands

pub returns-clause-chains : goal.returns-clause-chains
returns-clause-chains c = chains_of_commands

pub returns-clause-submission_rings : goal.returns-clause-submission_rings
returns-clause-submission_rings c = submission_rings

pub returns-clause-completion_rings : goal.returns-clause-completion_rings
returns-clause-completion_rings c = completion_rings

pub returns-clause-free : goal.returns-clause-free
returns-clause-free c = free_pages

pub returns-clause-outside : goal.returns-clause-outside
returns-clause-outside c = outside_the_pool

pub returns-clause-lists : goal.returns-clause-lists
returns-clause-lists c = lists

pub returns-clause-others : goal.returns-clause-others
returns-clause-others c = others_keep

pub returns-clause-other_rings : goal.returns-clause-other_rings
returns-clause-other_rings c = rings_keep

pub returns-clause-records : goal.returns-clause-records
returns-clause-records c = others_stay
