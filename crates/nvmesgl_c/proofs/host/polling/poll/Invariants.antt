use Rattle.std.proofs.Common.{◌≡◌}
use Rattle.nvmesgl_c.proofs.Polling.{Polling}
use Rattle.nvmesgl_c.proofs.host.polling.poll.Given as goal

-- the completions so far
abbrev pub invariant-loop-count : goal.invariant-loop-count
invariant-loop-count l = record {
  taken : Polling l.initial.kept.bench l.initial.kept.tags l.q l.initial.into l.into l.count l.bell l.kept.bench;
  tags : l.kept.tags ≡ l.initial.kept.tags;
}
