use Rattle.nvmesgl_c.proofs.Laying.{LaysOn}
use Rattle.nvmesgl_c.proofs.host.reach.lay.Given as goal

-- this many runs are at the start, and those that are left go after them
abbrev pub invariant-loop-run : goal.invariant-loop-run
invariant-loop-run l = record {
  can : (goal.iterator-loop-run).can_next l.left;
  finite : (goal.iterator-loop-run).is_finite l.left;
  on : LaysOn l.fn.runs l.left l.fn.into l.into l.count;
}
