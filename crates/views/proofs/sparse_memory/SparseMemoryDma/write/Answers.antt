use Rattle.std.proofs.Common.{arith, sym, ◌≡◌, ◌<◌, ◌≤◌, ◌+◌, length, true}
use Rattle.views.specs.Sparse.{is_there}
use Rattle.views.proofs.{SparseGiven.{AreWhole}, SparseBytes.{wrote_both}}
use Rattle.views.proofs.SparsePools.{first_is_missing, second_is_missing, first_is_there, both_are_there, whole-put, wrote}
use Rattle.views.proofs.sparse_memory.SparseMemoryDma.write.Goals as goal

pub returns-then-not-is_there-clause-missing : goal.returns-then-not-is_there-clause-missing
returns-then-not-is_there-clause-missing c =
    first_is_missing c.args.self.now.pool _ _ c.new-range.result.page c.new-range.result.at c.new-range.ensures.place c.new-range.ensures.offset c.requires.some (sym c.if-not-is_there.ensures)

pub returns-then-not-is_there-2-clause-missing : goal.returns-then-not-is_there-2-clause-missing
returns-then-not-is_there-2-clause-missing c =
    let crossed : 0 < c.new-range.result.back = omega (arith, c.if-range-eq0.false) in
    second_is_missing c.args.self.now.pool _ _ c.new-range.result.page c.new-range.result.at c.new-range.result.front c.new-range.result.back
    c.new-range.ensures.place (c.new-range.ensures.crosses crossed) c.new-range.ensures.count crossed (sym c.if-not-is_there-2.ensures)

pub invariant_of-self : goal.invariant_of-self
invariant_of-self c =
    let fits : c.new-range.result.at + length c.args.bytes.now ≤ 4096 = omega (arith, c.new-range.ensures.fits, c.new-range.ensures.count, c.if-range-eq0.true) in
    record {
      whole = whole-put c.self.inside.given.items _ c.new-range.result.page c.new-range.result.at c.args.bytes.now c.put_in.ensures.items c.self.invariant.whole fits;
      few = c.self.invariant.few;
      room = omega (arith, c.put_in.ensures.len, c.put_in.ensures.capacity, c.push.ensures.len, c.self.invariant.room);
    }

pub invariant_of-self-2 : goal.invariant_of-self-2
invariant_of-self-2 c =
    let fits : c.new-range.result.at + length c.split_at.result.0.now ≤ 4096 = omega (arith, c.new-range.ensures.fits, c.split_at.ensures.front_len) in
    let fits' : 0 + length c.split_at.result.1.now ≤ 4096 = omega (arith, c.requires.few, c.split_at.ensures.back_len) in
    record {
      whole = whole-put c.put_in-2.new.given.items _ (c.new-range.result.page + 1) 0 c.split_at.result.1.now c.put_in-3.ensures.items
          (whole-put c.self.inside.given.items _ c.new-range.result.page c.new-range.result.at c.split_at.result.0.now c.put_in-2.ensures.items c.self.invariant.whole fits) fits';
      few = c.self.invariant.few;
      room = omega (arith, c.put_in-2.ensures.len, c.put_in-2.ensures.capacity, c.put_in-3.ensures.len, c.put_in-3.ensures.capacity, c.push-2.ensures.len, c.push-3.ensures.len, c.self.invariant.room);
    }

pub returns-then-range-eq0-clause-there : goal.returns-then-range-eq0-clause-there
returns-then-range-eq0-clause-there c =
    let whole : AreWhole c.args.self.now.pool.given = rw (← c.self.view_is) c.self.invariant.whole in
    first_is_there c.args.self.now.pool _ _ c.new-range.result.page c.new-range.result.at c.new-range.result.front c.new-range.result.back whole
    c.new-range.ensures.place c.new-range.ensures.fits c.new-range.ensures.count c.if-range-eq0.true (sym c.if-not-is_there.ensures)

pub returns-clause-there : goal.returns-clause-there
returns-clause-there c =
    let whole : AreWhole c.args.self.now.pool.given = rw (← c.self.view_is) c.self.invariant.whole in
    let crossed : 0 < c.new-range.result.back = omega (arith, c.if-range-eq0.false) in
    both_are_there c.args.self.now.pool _ _ c.new-range.result.page c.new-range.result.at c.new-range.result.front c.new-range.result.back whole
    c.new-range.ensures.place (c.new-range.ensures.crosses crossed) c.new-range.ensures.count (omega (arith, c.new-range.ensures.count, c.requires.few))
    (sym c.if-not-is_there.ensures) (sym c.if-not-is_there-2.ensures)

pub returns-then-range-eq0-clause-written : goal.returns-then-range-eq0-clause-written
returns-then-range-eq0-clause-written c =
    let is : is_there (record { first = c.self.inside.first; count = c.self.inside.count; given = c.self.inside.given.items; out = c.self.inside.out.items }) c.new-range.result.page ≡ true =
    rw (← c.self.view_is) at (sym c.if-not-is_there.ensures) in
    let fits : c.new-range.result.at + length c.args.bytes.now ≤ 4096 = omega (arith, c.new-range.ensures.fits, c.new-range.ensures.count, c.if-range-eq0.true) in
    rw (← c.self.view_is, ← c.new-range.ensures.place)
    (wrote c.self.inside.first c.self.inside.count c.self.inside.given.items c.put_in.new.given.items c.self.inside.out.items c.new-range.result.page c.new-range.result.at c.args.bytes.now
    c.put_in.ensures.items c.self.invariant.whole is fits)

pub returns-clause-written : goal.returns-clause-written
returns-clause-written c =
    let is : is_there (record { first = c.self.inside.first; count = c.self.inside.count; given = c.self.inside.given.items; out = c.self.inside.out.items }) c.new-range.result.page ≡ true =
    rw (← c.self.view_is) at (sym c.if-not-is_there.ensures) in
    let is' : is_there (record { first = c.self.inside.first; count = c.self.inside.count; given = c.self.inside.given.items; out = c.self.inside.out.items }) (c.new-range.result.page + 1) ≡ true =
    rw (← c.self.view_is) at (sym c.if-not-is_there-2.ensures) in
    let crossed : 0 < c.new-range.result.back = omega (arith, c.if-range-eq0.false) in
    let fits : c.new-range.result.at + length c.split_at.result.0.now ≤ 4096 = omega (arith, c.new-range.ensures.fits, c.split_at.ensures.front_len) in
    let fits' : 0 + length c.split_at.result.1.now ≤ 4096 = omega (arith, c.requires.few, c.split_at.ensures.back_len) in
    let whole : AreWhole c.put_in-2.new.given.items =
    whole-put c.self.inside.given.items _ c.new-range.result.page c.new-range.result.at c.split_at.result.0.now c.put_in-2.ensures.items c.self.invariant.whole fits in
    rw (← c.self.view_is)
    (wrote_both _ _ _ c.args.addr c.new-range.result.page c.new-range.result.at c.new-range.result.front c.args.bytes.now c.split_at.result.0.now c.split_at.result.1.now
    c.new-range.ensures.place (c.new-range.ensures.crosses crossed) c.split_at.ensures.front c.split_at.ensures.back c.split_at.ensures.front_len
    (wrote c.self.inside.first c.self.inside.count c.self.inside.given.items c.put_in-2.new.given.items c.self.inside.out.items c.new-range.result.page c.new-range.result.at c.split_at.result.0.now
    c.put_in-2.ensures.items c.self.invariant.whole is fits)
    (wrote c.self.inside.first c.self.inside.count c.put_in-2.new.given.items c.put_in-3.new.given.items c.self.inside.out.items (c.new-range.result.page + 1) 0 c.split_at.result.1.now
    c.put_in-3.ensures.items whole is' fits'))
