use Rattle.two_sides.proofs.CompletionPosts.{forged_stepped, slots_are_in}
use Rattle.two_sides.proofs.forging.forged_entries_are_the_machines.Goals as goal

pub returns-clause-slots : goal.returns-clause-slots
returns-clause-slots c = slots_are_in

pub returns-clause-entries : goal.returns-clause-entries
returns-clause-entries c = forged_stepped
