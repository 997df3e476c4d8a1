use Rattle.std.proofs.Common.{sym, ◌∙◌}
use Rattle.slot_table.specs.Places.{is_true_at}
use Rattle.page_ledger.proofs.{Pages.{lowest_run-found, lowest_run-missing}, Tables.flags-agree}
use Rattle.page_ledger.proofs.ledger.Ledger.lowest_run.Goals as goal

pub returns-in_err-first : goal.returns-in_err-first
returns-in_err-first g c =
    let agree = flags-agree c.self.inside.free c.self.inside.owners.items c.self.invariant.3 in
    let missing = lowest_run-missing (is_true_at c.self.inside.free) c.args.count c.self.inside.owners.items agree c.in_err-first.ensures in
    rw (← c.self.view_is) (record { lowest = c.from_residual.ensures ∙ sym missing })

pub returns : goal.returns
returns g c =
    let agree = flags-agree c.self.inside.free c.self.inside.owners.items c.self.invariant.3 in
    let found = lowest_run-found (is_true_at c.self.inside.free) c.args.count c.in_ok-first.first c.self.inside.owners.items c.requires.some agree c.in_ok-first.ensures in
    rw (← c.self.view_is) (record { lowest = sym found })
