use Rattle.std.proofs.Common.{arith, subst, ◌∙◌, List, ℕ}
use Rattle.slot_table.specs.Rows.{Row}
use Rattle.nvmesgl_c.specs.HostPolling.{Takes}
use Rattle.nvmesgl_c.proofs.Polling.{polled_more}
use Rattle.nvmesgl_c.proofs.host.polling.poll.Goals as goal

pub loop-count-preserved : goal.loop-count-preserved
loop-count-preserved c = record {
  taken =
      polled_more c.args.kept.now.bench c.loop-count.kept.bench c.take.new.kept.bench c.args.kept.now.tags c.args.q c.args.into.now c.loop-count.into c.loop-count.count c.loop-count.bell c.in-Ok.entry c.in-Ok.rung
      c.loop-count.invariant.taken
      (subst (λ (tags : List (Row ℕ)). Takes c.loop-count.kept.bench tags c.args.q c.in-Ok.entry c.in-Ok.rung c.take.new.kept.bench) c.loop-count.invariant.tags c.in-Ok.ensures.taken)
      (omega arith);
  tags = c.in-Ok.ensures.tags ∙ c.loop-count.invariant.tags;
}
