use Rattle.std.proofs.Common.{Some, None, Option, ℕ, ap, sym}
use Rattle.driver_book.{proofs.StandsInReceipts.{found_in_tail, more_in_tail, settled_set}, specs.Calls.settled_at}
use Rattle.driver_book.proofs.seat.settle.Goals as goal

pub returns-in_default-clause-receipts : goal.returns-in_default-clause-receipts
returns-in_default-clause-receipts c =
    ap (λ (o : Option ℕ). settled_at o c.args.status c.args.receipts.now) (sym (found_in_tail c.args.q c.args.cid c.args.settled c.args.receipts.now None c.requires (c.in_default.ensures)))

pub returns-clause-receipts : goal.returns-clause-receipts
returns-clause-receipts c =
    ap (λ (o : Option ℕ). settled_at o c.args.status c.args.receipts.now) (sym (found_in_tail c.args.q c.args.cid c.args.settled c.args.receipts.now (Some c.in-Some.i) c.requires (c.in-Some.ensures)))

pub returns-clause-settled : goal.returns-clause-settled
returns-clause-settled c = more_in_tail c.args.settled c.settled_head.result _ (settled_set c.args.settled c.in-Some.i c.args.receipts.now _ c.requires) c.settled_head.ensures.settled
