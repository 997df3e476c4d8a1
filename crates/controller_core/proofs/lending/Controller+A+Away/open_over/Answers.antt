use Rattle.std.proofs.Common.{sym, ap, subst, length, arith, ◌∙◌}
use Rattle.controller_core.{proofs.{Lists.few_stay, ResetQueues.many}, specs.{Contents.{AreAwaited, AreCommands}, Tables.Outstanding}}
use Rattle.controller_core.proofs.lending.Controller+A+Away.open_over.Goals as goal

pub invariant_of-result : goal.invariant_of-result
invariant_of-result g c =
    let is = c.in_ok-queues.ensures.commands in
    let none = sym (ap (λ (o : Outstanding). o.list) is) in (
      record {
        commands = subst (AreCommands _ (length c.in_ok-queues.queues.items)) none (record { each = tt; differ = λ q cid. omega arith });
        awaited = subst AreAwaited none tt;
      },
      ap (λ (o : Outstanding). o.queues) is,
      few_stay _ _ (ap length c.in_ok-queues.ensures.queues ∙ many c.args.entries 0 c.args.pages.now) c.requires.few,
    )
