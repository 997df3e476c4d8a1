use Rattle.controller_core.proofs.Awaited.{awaited_of}
use Rattle.std.{proofs.Common.{◌∙◌, ap}, specs.Option.option_copied}
use Rattle.controller_core.proofs.commands.Commands.is_awaited.Goals as goal

pub returns-in-Some : goal.returns-in-Some
returns-in-Some g c =
    c.is_abort.ensures
    ∙ awaited_of c.args.self.now.list c.args.entry.now _ _ _ _ c.queue_of.ensures c.command_of.ensures (ap option_copied c.in-Some.is) c.requires.there c.requires.awaited c.get.ensures.found c.get.ensures.alone

pub returns-in-None : goal.returns-in-None
returns-in-None g c =
    awaited_of c.args.self.now.list c.args.entry.now _ _ _ _ c.queue_of.ensures c.command_of.ensures (ap option_copied c.in-None.is) c.requires.there c.requires.awaited c.get.ensures.found c.get.ensures.alone
