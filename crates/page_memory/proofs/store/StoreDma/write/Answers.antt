use Rattle.std.proofs.Common.{arith, sym, ◌<◌}
use Rattle.page_memory.{proofs.Bytes.{missing_first, missing_second, there_first, there_both, none_of, wrote_first, wrote_both}, specs.Pages.byte_at}
use Rattle.page_memory.proofs.store.StoreDma.write.Goals as goal

pub returns-then-not-has-clause-missing : goal.returns-then-not-has-clause-missing
returns-then-not-has-clause-missing g c =
    missing_first _ _ _ c.new-range.result.page c.new-range.result.at c.new-range.ensures.place c.new-range.ensures.offset c.requires.some (none_of _ (sym c.if-not-has.ensures.there))

pub returns-then-not-has-2-clause-missing : goal.returns-then-not-has-2-clause-missing
returns-then-not-has-2-clause-missing g c =
    let crossed : 0 < c.new-range.result.back = omega (arith, c.if-range-eq0.false) in
    missing_second _ _ _ c.new-range.result.page c.new-range.result.at c.new-range.result.front c.new-range.result.back
    c.new-range.ensures.place (c.new-range.ensures.crosses crossed) c.new-range.ensures.count crossed (none_of _ (sym c.if-not-has-2.ensures.there))

pub returns-then-range-eq0-clause-there : goal.returns-then-range-eq0-clause-there
returns-then-range-eq0-clause-there g c =
    there_first _ _ _ c.new-range.result.page c.new-range.result.at c.new-range.result.front c.new-range.result.back
    c.new-range.ensures.place c.new-range.ensures.fits c.new-range.ensures.count c.if-range-eq0.true (sym c.if-not-has.ensures.there) c.if-not-has.ensures.whole

pub returns-clause-there : goal.returns-clause-there
returns-clause-there g c =
    let crossed : 0 < c.new-range.result.back = omega (arith, c.if-range-eq0.false) in
    there_both _ _ _ c.new-range.result.page c.new-range.result.at c.new-range.result.front c.new-range.result.back
    c.new-range.ensures.place (c.new-range.ensures.crosses crossed) c.new-range.ensures.count (omega (arith, c.new-range.ensures.count, c.requires.few))
    (sym c.if-not-has.ensures.there) c.if-not-has.ensures.whole (sym c.if-not-has-2.ensures.there) c.if-not-has-2.ensures.whole

pub returns-then-range-eq0-clause-written : goal.returns-then-range-eq0-clause-written
returns-then-range-eq0-clause-written g c =
    wrote_first _ _ _ c.new-range.result.page c.new-range.result.at _ c.new-range.ensures.place (rw c.touch.ensures at c.set.ensures.memory)

pub returns-clause-written : goal.returns-clause-written
returns-clause-written g c =
    let crossed : 0 < c.new-range.result.back = omega (arith, c.if-range-eq0.false) in
    wrote_both _ (byte_at c.set-2.new.self.pages) _ _ c.new-range.result.page c.new-range.result.at c.new-range.result.front _ _ _
    c.new-range.ensures.place (c.new-range.ensures.crosses crossed) c.split_at.ensures.front c.split_at.ensures.back c.split_at.ensures.front_len
    (rw (c.touch-3.ensures, c.touch-2.ensures) at c.set-2.ensures.memory) c.set-3.ensures.memory
