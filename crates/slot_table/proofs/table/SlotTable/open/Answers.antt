use Rattle.std.proofs.Common.{◌≡◌, ◌*◌, ◌-◌, ◌∙◌, ap, replicate, None, arith, refl}
use Rattle.slot_table.proofs.Opened.{IsThreaded-open}
use Rattle.slot_table.proofs.table.SlotTable.open.Goals as goal

pub invariant_of-result : goal.invariant_of-result
invariant_of-result g c =
    let e = c.in_ok-links.ensures in
    let inv = c.loop.invariant in
    let auto = c.loop.auto in
    let all : c.loop.counter ≡ c.args.queues * (c.args.entries - 1) = omega (arith, auto.counter-end, c.loop-test.false) in
    IsThreaded-open c.args.queues _ (c.args.queues * (c.args.entries - 1)) c.loop.records.items c.in_ok-links.links.items c.requires.queues (omega (arith, c.requires.least, c.requires.most)) refl (inv.0 ∙ ap (λ n. replicate n None) all) (e.items_if_clones_equal (λ y is. is))
