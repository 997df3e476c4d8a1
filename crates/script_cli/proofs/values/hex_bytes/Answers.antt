-- One more byte is the next pair of digits.
use Rattle.std.proofs.Common.{rules, ◌≡◌, Some}
use Rattle.script_cli.{proofs.Texts.next_byte, specs.Numbers.hex_byte}
use Rattle.script_cli.proofs.values.hex_bytes.Goals as goal

pub loop-high-preserved : goal.loop-high-preserved
loop-high-preserved c =
    let found : hex_byte c.in-Some.high.now c.in-Some-split_first.low.now ≡ Some c.in-Some-hex_byte.byte = search rules in
    cc (next_byte c.loop-high.bytes.items c.in-Some.high.now c.in-Some-split_first.low.now c.in-Some-hex_byte.byte c.in-Some-split_first.others.now found, c.in-Some.ensures.cases.0, c.in-Some-split_first.ensures.cases.0, c.in_ok-push.ensures.items, c.loop-high.invariant)
