use Rattle.std.proofs.Common.{◌≡◌, ◌+◌, ◌*◌, sym, ◌∙◌, ap, subst, refl, IsSome}
use Rattle.slot_table.proofs.Slots.{found_at, write_left}
use Rattle.slot_table.proofs.table.SlotTable.record_mut.Goals as goal

pub content_mut-requires : goal.content_mut-requires
content_mut-requires g c =
    let r = rw (← c.self.view_is) at c.requires in
    let at : c.from.result * c.self.inside.places + c.from-2.result ≡ c.args.q * c.self.inside.places + c.args.cid = rw (c.from.ensures, c.from-2.ensures) in
    subst IsSome (sym (found_at c.self.invariant r.place at _ c.index_mut.ensures.value)) r.there

pub invariant_of-self-lent : goal.invariant_of-self-lent
invariant_of-self-lent g c w =
    let r = rw (← c.self.view_is) at c.requires in
    let at : c.from.result * c.self.inside.places + c.from-2.result ≡ c.args.q * c.self.inside.places + c.args.cid = rw (c.from.ensures, c.from-2.ensures) in
    (write_left c.self.invariant r.place at _ _ c.index_mut.ensures.value c.content_mut.ensures.value w).threaded

pub returns : goal.returns
returns g c =
    let i = c.self.inside in
    let r = rw (← c.self.view_is) at c.requires in
    let at : c.from.result * i.places + c.from-2.result ≡ c.args.q * i.places + c.args.cid = rw (c.from.ensures, c.from-2.ensures) in (
      (
        refl,
        λ w. rw (← c.self.view_is) (ap (λ rows. record { queues = i.queues; places = i.places; rows = rows })
            (write_left c.self.invariant r.place at _ _ c.index_mut.ensures.value c.content_mut.ensures.value w).rows_are),
      ),
      record { writes_back = tt; value = rw (← c.self.view_is) (sym (found_at c.self.invariant r.place at _ c.index_mut.ensures.value) ∙ c.content_mut.ensures.value) },
    )
