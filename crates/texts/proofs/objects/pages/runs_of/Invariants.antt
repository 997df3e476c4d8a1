use Rattle.std.proofs.Common.{◌≡◌, ◌++◌, ◌+◌, length}
use Rattle.texts.specs.PageObjects.{runs_from, runs_of}
use Rattle.texts.proofs.objects.pages.runs_of.Given as goal

-- the runs so far, and those of the current run and of the owners that are left, are those of all
abbrev pub invariant-loop-next : goal.invariant-loop-next
invariant-loop-next l = (l.runs.items ++ runs_from l.first l.last l.owner l.rest ≡ runs_of l.owners) × (l.last + length l.rest + 1 ≡ length l.owners)

abbrev pub decreases-loop-next : goal.decreases-loop-next
decreases-loop-next l = length l.rest
