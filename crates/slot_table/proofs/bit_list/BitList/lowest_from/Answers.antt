use Rattle.std.proofs.Common.{length, ap, arith}
use Rattle.slot_table.{proofs.Places.{length-bools, first-inside, none-behind_words, none-of, found-here, found-above, none-left}, specs.Places.bools_of}
use Rattle.slot_table.proofs.bit_list.BitList.lowest_from.Goals as goal

pub returns-then-word-len-clause-lowest : goal.returns-then-word-len-clause-lowest
returns-then-word-len-clause-lowest g c =
    rw (← c.self.view_is) (none-of c.self.invariant (none-behind_words c.self.inside.words.items c.args.from (omega (arith, c.self.inside.words.ok.0))))

pub returns-in-Some-clause-lowest : goal.returns-in-Some-clause-lowest
returns-in-Some-clause-lowest g c =
    rw (← c.self.view_is)
    (found-here c.args.from c.index.result.now c.self.invariant (omega (arith, c.self.inside.words.ok.0)) c.index.ensures c.in-Some.ensures.one c.in-Some.ensures.inside)

pub returns-in_err-next-clause-lowest : goal.returns-in_err-next-clause-lowest
returns-in_err-next-clause-lowest g c =
    rw (← c.self.view_is, c.from_residual.ensures)
    (none-left c.args.from c.index.result.now c.self.invariant (omega (arith, c.self.inside.words.ok.0)) c.index.ensures c.in_default.ensures.one (rw c.deref.ensures.value at c.in_err-next.ensures))

pub overflow_add-result-2 : goal.overflow_add-result-2
overflow_add-result-2 g c =
    let found =
    found-above c.args.from c.index.result.now c.index-2.result.now c.self.invariant (omega (arith, c.self.inside.words.ok.0)) c.index.ensures c.in_default.ensures.one
    (rw c.deref.ensures.value at c.in_ok-next.ensures) c.index-2.ensures (omega arith) in
    omega (arith, first-inside (bools_of c.self.inside.words.items c.self.inside.len) found, length-bools c.self.inside.words.items c.self.inside.len, c.self.invariant.most)

pub returns-clause-lowest : goal.returns-clause-lowest
returns-clause-lowest g c =
    rw (← c.self.view_is)
    (found-above c.args.from c.index.result.now c.index-2.result.now c.self.invariant (omega (arith, c.self.inside.words.ok.0)) c.index.ensures c.in_default.ensures.one
    (rw c.deref.ensures.value at c.in_ok-next.ensures) c.index-2.ensures (omega arith))

pub returns-clause-inside : goal.returns-clause-inside
returns-clause-inside g c =
    omega (arith, first-inside c.args.self.now (returns-clause-lowest g c), ap length c.self.view_is, length-bools c.self.inside.words.items c.self.inside.len, c.self.invariant.most)
