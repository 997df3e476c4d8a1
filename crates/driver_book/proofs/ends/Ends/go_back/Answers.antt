use Rattle.std.proofs.Common.{refl, sym, subst, ◌+◌}
use Rattle.driver_book.proofs.Tables.{tells_same, tells_one, tells_queue, tells_all}
use Rattle.driver_book.specs.Table.{EndTable, Tells}
use Rattle.driver_book.specs.declared.ends.End.{End}
use Rattle.driver_book.proofs.ends.Ends.go_back.Goals as goal

pub returns-in-Nothing-clause-tells : goal.returns-in-Nothing-clause-tells
returns-in-Nothing-clause-tells g c = tells_same c.args.self.now c.args.log.now.entries c.args.place c.in-Nothing.ensures c.requires.tells

pub returns-in-One-clause-tells : goal.returns-in-One-clause-tells
returns-in-One-clause-tells g c =
    let one = c.end_one.ensures in
    tells_one c.args.self.now c.end_one.new.self c.args.log.now.entries c.args.place c.in-One.q c.in-One.cid c.in-One.status c.in-One.ensures c.requires.tells one.size one.single one.retired one.reset one.identifiers

pub returns-in-Queue-clause-tells : goal.returns-in-Queue-clause-tells
returns-in-Queue-clause-tells g c =
    let e : End = record { place = c.args.place; status = record { sct = 0; sc = 8 } } in
    let all = c.end_queue.ensures in
    tells_queue c.args.self.now c.end_queue.new.self c.args.log.now.entries c.args.place c.in-Queue.q e c.in-Queue.ensures c.requires.tells refl all.single all.retired all.reset all.identifiers

pub returns-in-All-clause-tells : goal.returns-in-All-clause-tells
returns-in-All-clause-tells g c =
    let e : End = record { place = c.args.place; status = record { sct = 0; sc = 8 } } in
    tells_all _ _ c.args.log.now.entries c.args.place e c.in-All.ensures
    (subst (λ (t : EndTable). Tells t c.args.log.now.entries (c.args.place + 1)) (sym c.self.view_is) c.requires.tells) refl refl refl refl refl
