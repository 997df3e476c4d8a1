use Rattle.std.proofs.Common.{not, ap, sym, ◌∙◌}
use Rattle.slot_table.proofs.{Rows.{some_is, none_is, place_behind-none}, Slots.{none_left, behind_after}}
use Rattle.slot_table.proofs.table.SlotTable.next.Goals as goal

pub returns-in_err-place : goal.returns-in_err-place
returns-in_err-place g c = c.from_residual.ensures ∙ sym (place_behind-none c.args.self.now.rows c.args.q c.args.cid c.in_err-place.ensures)

pub returns-then-is_none : goal.returns-then-is_none
returns-then-is_none g c =
    let p = rw (← c.self.view_is) at c.in_ok-place.ensures in
    rw (← c.self.view_is) (sym (place_behind-none _ c.args.q c.args.cid
    (none_left c.self.invariant p.0 p.1 _ c.index-2.ensures (none_is _ (c.is_none.ensures ∙ ap not c.if-is_none.true))).1))

pub place_of-requires : goal.place_of-requires
place_of-requires g c =
    let p = rw (← c.self.view_is) at c.in_ok-place.ensures in
    let (value, has) = some_is _ (c.is_none.ensures ∙ ap not c.if-is_none.false) in
    rw (← c.self.view_is) (behind_after c.self.invariant p.0 p.1 _ value c.index-2.ensures has _ c.index-3.ensures).0

pub returns : goal.returns
returns g c =
    let p = rw (← c.self.view_is) at c.in_ok-place.ensures in
    let (value, has) = some_is _ (c.is_none.ensures ∙ ap not c.if-is_none.false) in
    rw (← c.self.view_is) (rw (← c.self.view_is) at c.place_of.ensures ∙ (behind_after c.self.invariant p.0 p.1 _ value c.index-2.ensures has _ c.index-3.ensures).1)
