use Rattle.std.proofs.Common.{ap, ◌∙◌, is_some}
use Rattle.driver_book.proofs.StandsInReceipts.{any_in_tail}
use Rattle.driver_book.proofs.seat.is_awaited.Goals as goal

pub returns : goal.returns
returns c = c.is_some.ensures ∙ ap is_some c.first_open.ensures ∙ any_in_tail c.args.q c.args.cid c.args.settled c.args.receipts.now c.requires
