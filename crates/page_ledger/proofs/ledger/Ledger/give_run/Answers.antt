use Rattle.std.proofs.Common.{◌+◌, length, length-set, ap, ◌∙◌}
use Rattle.page_ledger.proofs.Tables.{with_owner-more}
use Rattle.page_ledger.proofs.ledger.Ledger.give_run.Goals as goal

pub loop-i-preserved : goal.loop-i-preserved
loop-i-preserved g c = record {
  owners = c.set.ensures ∙ with_owner-more c.args.self.now c.loop-i.self c.args.first c.loop-i.i c.args.owner c.loop-i.invariant.owners;
  size = ap length c.set.ensures ∙ (length-set c.loop-i.self (c.args.first + c.loop-i.i) c.args.owner ∙ c.loop-i.invariant.size);
}
