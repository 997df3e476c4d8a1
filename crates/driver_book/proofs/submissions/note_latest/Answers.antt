use Rattle.std.proofs.Common.{ℕ, Option, subst}
use Rattle.slot_table.specs.Table.{TableOf}
use Rattle.driver_book.proofs.Latest.{latest_behind}
use Rattle.driver_book.proofs.submissions.note_latest.Goals as goal
use Rattle.driver_book.specs.Latest.{IsLatestIfAny}

pub returns-in-Some-clause-latest : goal.returns-in-Some-clause-latest
returns-in-Some-clause-latest g c drafts d queue identifier count latest =
    latest_behind c.in-Some.table.rows c.put.new.table.rows drafts d c.args.q c.args.cid c.args.number queue identifier count
    (subst (λ (o : Option (TableOf ℕ)). IsLatestIfAny o drafts) c.in-Some.is latest) c.put.ensures.there c.put.ensures.others
