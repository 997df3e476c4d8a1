use Rattle.std.proofs.Common.{arith, sym, ◌≡◌, ◌<◌, ◌+◌, length, take, drop}
use Rattle.views.specs.Sparse.{bytes_of_page}
use Rattle.views.proofs.SparseGiven.{AreWhole}
use Rattle.views.proofs.SparsePools.{first_is_missing, second_is_missing, first_is_read, both_are_read}
use Rattle.views.proofs.sparse_memory.SparseMemoryDma.read.Goals as goal

pub returns-then-not-is_there-clause-missing : goal.returns-then-not-is_there-clause-missing
returns-then-not-is_there-clause-missing c =
    first_is_missing c.args.self.now.pool _ _ c.new-range.result.page c.new-range.result.at c.new-range.ensures.place c.new-range.ensures.offset c.requires.some (sym c.if-not-is_there.ensures)

pub returns-then-range-eq0-clause-read : goal.returns-then-range-eq0-clause-read
returns-then-range-eq0-clause-read c =
    let whole : AreWhole c.args.self.now.pool.given = rw (← c.self.view_is) c.self.invariant.whole in
    let copied : c.copy_out.new.into ≡ take c.new-range.result.front (drop c.new-range.result.at (bytes_of_page c.args.self.now.pool.given c.new-range.result.page)) =
    rw (← c.self.view_is, ← c.deref.ensures.value, ← c.split_at_mut-front.ensures.front_len) c.copy_out.ensures in
    first_is_read c.args.self.now.pool _ _ c.new-range.result.page c.new-range.result.at c.new-range.result.front c.new-range.result.back _ _ whole
    c.new-range.ensures.place c.new-range.ensures.fits c.new-range.ensures.count c.if-range-eq0.true (sym c.if-not-is_there.ensures) copied
    (omega (arith, c.split_at_mut-front.ensures.back_len, c.new-range.ensures.count, c.if-range-eq0.true))

pub returns-then-not-is_there-2-clause-missing : goal.returns-then-not-is_there-2-clause-missing
returns-then-not-is_there-2-clause-missing c =
    let crossed : 0 < c.new-range.result.back = omega (arith, c.if-range-eq0.false) in
    second_is_missing c.args.self.now.pool _ _ c.new-range.result.page c.new-range.result.at c.new-range.result.front c.new-range.result.back
    c.new-range.ensures.place (c.new-range.ensures.crosses crossed) c.new-range.ensures.count crossed (sym c.if-not-is_there-2.ensures)

pub returns-clause-read : goal.returns-clause-read
returns-clause-read c =
    let whole : AreWhole c.args.self.now.pool.given = rw (← c.self.view_is) c.self.invariant.whole in
    let crossed : 0 < c.new-range.result.back = omega (arith, c.if-range-eq0.false) in
    let copied : c.copy_out-2.new.into ≡ take c.new-range.result.front (drop c.new-range.result.at (bytes_of_page c.args.self.now.pool.given c.new-range.result.page)) =
    rw (← c.self.view_is, ← c.deref-2.ensures.value, ← c.split_at_mut-front.ensures.front_len) c.copy_out-2.ensures in
    let len : length c.split_at_mut-front.result.1.now ≡ c.new-range.result.back = omega (arith, c.split_at_mut-front.ensures.back_len, c.new-range.ensures.count) in
    let copied' : c.copy_out-3.new.into ≡ take c.new-range.result.back (drop 0 (bytes_of_page c.args.self.now.pool.given (c.new-range.result.page + 1))) =
    rw (← c.self.view_is, ← c.deref-3.ensures.value, ← len) c.copy_out-3.ensures in
    both_are_read c.args.self.now.pool _ _ c.new-range.result.page c.new-range.result.at c.new-range.result.front c.new-range.result.back _ _ whole
    c.new-range.ensures.place (c.new-range.ensures.crosses crossed) c.new-range.ensures.count (omega (arith, c.new-range.ensures.count, c.requires.few))
    (sym c.if-not-is_there.ensures) (sym c.if-not-is_there-2.ensures) copied copied'
