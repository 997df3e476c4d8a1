use Rattle.std.proofs.Common.{sym, arith}
use Rattle.page_ledger.proofs.Pages.{lowest_run-within}
use Rattle.page_ledger.proofs.ledger.Ledger.grant_run.Goals as goal

pub give_run-requires : goal.give_run-requires
give_run-requires g c i l =
    omega (arith, lowest_run-within c.args.k c.in_ok-first.first c.args.self.now c.requires.some (sym c.in_ok-first.ensures.lowest))

pub lowest_run-requires : goal.lowest_run-requires
lowest_run-requires g c = record { some = c.requires.some }

pub returns-in_err-first-clause-owners : goal.returns-in_err-first-clause-owners
returns-in_err-first-clause-owners g c = cc

pub returns-clause-lowest : goal.returns-clause-lowest
returns-clause-lowest g c = c.in_ok-first.ensures.lowest

pub returns-clause-owners : goal.returns-clause-owners
returns-clause-owners g c = cc
