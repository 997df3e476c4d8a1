use Rattle.std.proofs.Common.{sym, ◌∙◌, ap, arith, set}
use Rattle.slot_table.proofs.{Rows.{value_at-none, without-none}, Slots.{none_left, found_at, take_left, link_in, rows_in, rows-distinct}}
use Rattle.slot_table.proofs.table.SlotTable.take.Goals as goal

pub returns-in_err-place-clause-value : goal.returns-in_err-place-clause-value
returns-in_err-place-clause-value g c = c.from_residual.ensures ∙ sym (value_at-none c.args.self.now.rows c.args.q c.args.cid c.in_err-place.ensures)

pub returns-in_err-place-clause-rest : goal.returns-in_err-place-clause-rest
returns-in_err-place-clause-rest g c =
    let t = c.args.self.now in
    ap (λ rows. record { queues = t.queues; places = t.places; rows = rows }) (sym (without-none t.rows c.args.q c.args.cid c.in_err-place.ensures))

pub returns-in_err-value-clause-value : goal.returns-in_err-value-clause-value
returns-in_err-value-clause-value g c =
    let p = rw (← c.self.view_is) at c.in_ok-place.ensures in
    rw (← c.self.view_is) (c.from_residual-in_err-value.ensures ∙ sym c.in_err-value.was ∙ c.take.ensures.value ∙ found_at c.self.invariant p.0 p.1 _ c.index_mut.ensures.value)

pub returns-in_err-value-clause-rest : goal.returns-in_err-value-clause-rest
returns-in_err-value-clause-rest g c =
    let i = c.self.inside in
    let p = rw (← c.self.view_is) at c.in_ok-place.ensures in
    let none = none_left c.self.invariant p.0 p.1 _ c.index_mut.ensures.value (sym c.take.ensures.value ∙ c.in_err-value.was) in
    rw (← c.self.view_is) (ap (λ rs. record { queues = i.queues; places = i.places; rows = rows_in i.places rs i.links.items })
    (ap (λ r. set i.records.items c.in_ok-place.place r) c.take.ensures.after ∙ none.0)
    ∙ ap (λ rows. record { queues = i.queues; places = i.places; rows = rows }) (sym (without-none (rows_in i.places i.records.items i.links.items) c.args.q c.args.cid none.1)))

pub join-requires : goal.join-requires
join-requires g c =
    let p = rw (← c.self.view_is) at c.in_ok-place.ensures in
    let within = link_in c.self.invariant p.0 p.1 _ c.in_ok-value.value c.index_mut.ensures.value (sym c.take.ensures.value ∙ c.in_ok-value.was) _ c.index-link.ensures in
    record { before_in = omega (arith, c.self.inside.links.ok, within.0); after_in = omega (arith, c.self.inside.links.ok, within.1) }

pub invariant_of-self-2 : goal.invariant_of-self-2
invariant_of-self-2 g c =
    let p = rw (← c.self.view_is) at c.in_ok-place.ensures in
    (take_left c.self.invariant p.0 p.1 _ c.in_ok-value.value c.index_mut.ensures.value
    (sym c.take.ensures.value ∙ c.in_ok-value.was) _ c.index-link.ensures _ _ c.take.ensures.after c.join.ensures).threaded

pub returns : goal.returns
returns g c =
    let i = c.self.inside in
    let p = rw (← c.self.view_is) at c.in_ok-place.ensures in
    let has = sym c.take.ensures.value ∙ c.in_ok-value.was in
    let left = take_left c.self.invariant p.0 p.1 _ c.in_ok-value.value c.index_mut.ensures.value has _ c.index-link.ensures _ _ c.take.ensures.after c.join.ensures in
    rw (← c.self.view_is) (record {
      value = sym c.in_ok-value.was ∙ c.take.ensures.value ∙ found_at c.self.invariant p.0 p.1 _ c.index_mut.ensures.value;
      rest = ap (λ rows. record { queues = i.queues; places = i.places; rows = rows }) left.rows_are;
      none = tt;
      distinct = rows-distinct c.self.invariant;
    })
