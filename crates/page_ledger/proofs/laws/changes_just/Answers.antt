use Rattle.page_ledger.proofs.Tables.{owner_changed, owner_kept, length-with_owner}
use Rattle.page_ledger.proofs.laws.changes_just.Goals as goal

pub returns : goal.returns
returns c = λ owners pages owner. record {
  changed = λ p within contained. owner_changed owners pages owner p within contained;
  others = λ p other. owner_kept owners pages owner p other;
  size = length-with_owner owners pages owner;
}
