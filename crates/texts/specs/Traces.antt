-- What its trace tells of a step.
use Rattle.step_core.specs.Values.{Step}
use Rattle.step_core.specs.declared.step.Step.TheVariants as step
use Rattle.texts.specs.declared.traces.trace.Traced.{Traced, TheVariants.{Complete, Entry, Fetch, Other, Reap, Ring}}

-- the queue whose ring or doorbell a step changes, and how: an administrative command is in queue 0
abbrev pub traced_of : Step → Traced
traced_of (step.Submit q cid) = Entry q
traced_of (step.Ring q) = Ring q
traced_of (step.Fetch q) = Fetch q
traced_of (step.Complete q cid) = Complete q
traced_of (step.Reap q) = Reap q
traced_of (step.Abort q cid) = Entry 0
traced_of (step.DeleteSq q) = Entry 0
traced_of (step.DeleteCq q) = Entry 0
traced_of (step.CreateCq q vector) = Entry 0
traced_of (step.CreateSq q) = Entry 0
traced_of what = Other
