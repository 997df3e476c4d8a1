use Rattle.std.proofs.{Common.{◌≡◌, ◌+◌, ◌*◌, ap, sym, ◌∙◌, arith}, lemmas.Option.none-some}
use Rattle.slot_table.proofs.Slots.{last_in, put_left, found_at}
use Rattle.slot_table.proofs.table.SlotTable.put.Goals as goal

pub join-requires-clause-before_in : goal.join-requires-clause-before_in
join-requires-clause-before_in g c = omega (arith, c.self.inside.links.ok, last_in c.self.invariant _ c.index.ensures)

pub unreachable-requires : goal.unreachable-requires
unreachable-requires g c =
    let r = rw (← c.self.view_is) at c.requires in
    let at : c.from.result * c.self.inside.places + c.from-2.result ≡ c.args.q * c.self.inside.places + c.args.cid = rw (c.from.ensures, c.from-2.ensures) in
    none-some c.in-Some.field-0 (sym r.empty ∙ sym (found_at c.self.invariant r.place at _ c.index_mut.ensures.value) ∙ sym c.replace.ensures.value ∙ c.in-Some.is)

pub invariant_of-self : goal.invariant_of-self
invariant_of-self g c =
    let r = rw (← c.self.view_is) at c.requires in
    let at : c.from.result * c.self.inside.places + c.from-2.result ≡ c.args.q * c.self.inside.places + c.args.cid = rw (c.from.ensures, c.from-2.ensures) in
    (put_left c.self.invariant r.place at _ c.args.value _ _ _ c.replace.ensures.after r.empty c.index.ensures c.join.ensures c.join-2.ensures).threaded

pub returns : goal.returns
returns g c =
    let i = c.self.inside in
    let r = rw (← c.self.view_is) at c.requires in
    let at : c.from.result * i.places + c.from-2.result ≡ c.args.q * i.places + c.args.cid = rw (c.from.ensures, c.from-2.ensures) in
    rw (← c.self.view_is) (ap (λ rows. record { queues = i.queues; places = i.places; rows = rows })
    (put_left c.self.invariant r.place at _ c.args.value _ _ _ c.replace.ensures.after r.empty c.index.ensures c.join.ensures c.join-2.ensures).rows_are)
