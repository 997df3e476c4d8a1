use Rattle.std.proofs.Common.{arith, sym, ◌≡◌, ◌<◌, length}
use Rattle.page_memory.proofs.Bytes.{missing_first, missing_second, found_first, found_both}
use Rattle.page_memory.proofs.store.StoreDma.read.Goals as goal

pub returns-in_default-clause-missing : goal.returns-in_default-clause-missing
returns-in_default-clause-missing g c =
    missing_first _ _ _ c.new-range.result.page c.new-range.result.at c.new-range.ensures.place c.new-range.ensures.offset c.requires.some (sym (rw c.in_default.is at c.page.ensures))

pub returns-then-range-eq0-clause-read : goal.returns-then-range-eq0-clause-read
returns-then-range-eq0-clause-read g c =
    found_first _ _ _ c.new-range.result.page c.new-range.result.at c.new-range.result.front c.new-range.result.back c.in-Some.first.now _ _
    c.new-range.ensures.place c.new-range.ensures.fits c.new-range.ensures.count c.if-range-eq0.true (sym (rw c.in-Some.is at c.page.ensures))
    (let len : length c.in-Some.first.now ≡ 4096 = rw (← c.bytes.ensures.value) c.bytes.ensures.len in len)
    (rw c.bytes.ensures.value at c.copy_from_slice.ensures.after)
    (omega (arith, c.split_at_mut-front.ensures.back_len, c.new-range.ensures.count, c.if-range-eq0.true))

pub returns-in_default-page-clause-missing : goal.returns-in_default-page-clause-missing
returns-in_default-page-clause-missing g c =
    let crossed : 0 < c.new-range.result.back = omega (arith, c.if-range-eq0.false) in
    missing_second _ _ _ c.new-range.result.page c.new-range.result.at c.new-range.result.front c.new-range.result.back
    c.new-range.ensures.place (c.new-range.ensures.crosses crossed) c.new-range.ensures.count crossed (sym (rw c.in_default-page.is at c.page-2.ensures))

pub returns-clause-read : goal.returns-clause-read
returns-clause-read g c =
    let crossed : 0 < c.new-range.result.back = omega (arith, c.if-range-eq0.false) in
    found_both _ _ _ c.new-range.result.page c.new-range.result.at c.new-range.result.front c.new-range.result.back c.in-Some.first.now c.in-Some-page.second.now _ _
    c.new-range.ensures.place (c.new-range.ensures.crosses crossed) c.new-range.ensures.count (omega (arith, c.new-range.ensures.count, c.requires.few))
    (sym (rw c.in-Some.is at c.page.ensures)) (rw (← c.bytes-2.ensures.value) c.bytes-2.ensures.len)
    (sym (rw c.in-Some-page.is at c.page-2.ensures)) (rw (← c.bytes-3.ensures.value) c.bytes-3.ensures.len)
    (rw c.bytes-2.ensures.value at c.copy_from_slice-2.ensures.after) (rw c.bytes-3.ensures.value at c.copy_from_slice-3.ensures.after)
