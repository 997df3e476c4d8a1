use Rattle.std.{proofs.{Common.{ap, sym, arith, ◌∙◌, ◌<◌, ◌≤◌, ◌+◌, ◌-◌, length}, lemmas.Option.slice_get_past}, specs.Option.option_and_then}
use Rattle.page_memory.{proofs.Bytes.{none_at, missing_at, none_of, slot_within}, specs.{Flat.FlatContents, Pages.slot_at}}
use Rattle.page_memory.proofs.flat.FlatMemory.is_there.Goals as goal

pub returns-then-addr-len-clause-missing : goal.returns-then-addr-len-clause-missing
returns-then-addr-len-clause-missing g c = λ _.
    let seen = ap (λ (m : FlatContents). length m.bytes) c.self.view_is in
    let past : length c.args.self.now.bytes ≤ c.args.addr = omega (arith, seen, c.if-addr-len.true, c.len.ensures) in
    none_at (slot_at c.args.self.now.bytes) c.args.addr c.args.count
    (ap (λ o. option_and_then (λ slot. slot) o) (slice_get_past c.args.self.now.bytes c.args.addr past)) c.requires.some

pub returns-then-is_none-clause-missing : goal.returns-then-is_none-clause-missing
returns-then-is_none-clause-missing g c = λ _.
    missing_at (slot_at c.args.self.now.bytes) c.args.addr c.args.count c.loop-k.k c.loop-k-test.true (sym c.byte-byte.ensures ∙ none_of _ c.if-is_none.ensures)

pub returns-clause-inside : goal.returns-clause-inside
returns-clause-inside g c = λ _.
    let last : c.args.addr + (c.loop-k.k - 1) < length c.args.self.now.bytes = slot_within _ _ (c.loop-k.invariant (c.loop-k.k - 1) (omega (arith, c.requires.some, c.loop-k-test.false))) in
    omega (arith, last, c.loop-k-test.false, c.requires.some, c.loop-k.auto.k-end)
