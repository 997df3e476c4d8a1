use Rattle.std.proofs.Common.{◌∙◌, arith}
use Rattle.page_ledger.{proofs.{Pages.{length-pages_from, get_or-pages_from}, Tables.given_back-listed}, specs.Owners.{is_half, pages_from}}
use Rattle.page_ledger.proofs.ledger.Ledger.give_back_run.Goals as goal

pub give_run-requires : goal.give_run-requires
give_run-requires g c i l =
    rw c.first.view_is (rw (← get_or-pages_from c.args.first c.args.k i 0 l) (c.requires.within i 0 (omega (arith, length-pages_from c.args.first c.args.k))))

pub returns : goal.returns
returns g c =
    c.give_run.ensures ∙ rw c.first.view_is (given_back-listed (is_half c.args.q c.args.half) c.args.self.now (pages_from c.args.first c.args.k) c.requires)
