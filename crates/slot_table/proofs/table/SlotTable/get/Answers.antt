use Rattle.std.{proofs.Common.{sym, ◌∙◌, ap}, specs.Option.option_copied}
use Rattle.slot_table.{proofs.{Rows.value_at-none, Slots.{holds, found_at, rows-distinct}}, specs.{Rows.IsDistinct, Table.IsPlace}}
use Rattle.slot_table.proofs.table.SlotTable.get.Goals as goal

pub returns-in_err-place-clause-value : goal.returns-in_err-place-clause-value
returns-in_err-place-clause-value g c = ap option_copied c.from_residual.ensures ∙ sym (value_at-none c.args.self.now.rows c.args.q c.args.cid c.in_err-place.ensures)

pub returns-clause-value : goal.returns-clause-value
returns-clause-value g c =
    let p = rw (← c.self.view_is) at c.in_ok-place.ensures in
    rw (← c.self.view_is) (c.as_ref.ensures.value ∙ found_at c.self.invariant p.0 p.1 _ c.index-2.ensures)

pub returns-clause-place : goal.returns-clause-place
returns-clause-place g c = holds (IsPlace c.args.self.now c.args.q c.args.cid) c.as_ref.result c.in_ok-place.ensures.0

pub returns-clause-distinct : goal.returns-clause-distinct
returns-clause-distinct g c = holds (IsDistinct c.args.self.now.rows) c.as_ref.result (rw (← c.self.view_is) (rows-distinct c.self.invariant))
