-- The number where no digit is left, and none where a digit makes it too large.
use Rattle.std.proofs.{Common.{arith, ◌≡◌, ◌≤◌, ◌+◌, ◌-◌, ◌*◌, ◌^◌, [], true, nat_lt, Some, None, refl}, lemmas.Bool.{lt-ltb, le-leb, and_from}}
use Rattle.std.proofs.lemmas.List.{nil_from_length}
use Rattle.script_cli.{proofs.Texts.digit_overflows, specs.Numbers.{is_digit, if_below, digits_from}}
use Rattle.script_cli.proofs.values.digits.Goals as goal

pub returns-in_err-value : goal.returns-in_err-value
returns-in_err-value c =
    let low : 48 ≤ c.in-Some.byte.now = omega arith in
    let high : c.in-Some.byte.now ≤ 57 = omega arith in
    let digit : is_digit c.in-Some.byte.now ≡ true = and_from _ _ (le-leb 48 c.in-Some.byte.now low) (le-leb c.in-Some.byte.now 57 high) in
    let none : if_below (2 ^ 64) (Some (c.loop-byte.value * 10 + (c.in-Some.byte.now - 48))) ≡ None = cc (c.with_digit.ensures.value, c.in_err-value.was) in
    cc (digit_overflows (2 ^ 64) c.loop-byte.value c.in-Some.byte.now c.in-Some.others.now digit none, c.loop-byte.invariant.same, c.in-Some.ensures.cases.0)

pub returns : goal.returns
returns c =
    let end : c.loop-byte.rest.now ≡ [] = nil_from_length c.loop-byte.rest.now c.in_default.ensures.cases in
    let fits : nat_lt c.loop-byte.value (2 ^ 64) ≡ true = lt-ltb c.loop-byte.value (2 ^ 64) c.loop-byte.invariant.small in
    let whole : if_below (2 ^ 64) (Some c.loop-byte.value) ≡ Some c.loop-byte.value = rw fits refl in
    let last : if_below (2 ^ 64) (digits_from c.loop-byte.value c.loop-byte.rest.now) ≡ if_below (2 ^ 64) (Some c.loop-byte.value) = rw end refl in
    cc (c.loop-byte.invariant.same)
