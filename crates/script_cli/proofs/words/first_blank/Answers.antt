-- Both returns of the search: the first position that passes, or the length.
use Rattle.std.{proofs.{Common.{rules, arith, length, ◌≡◌, get_or, true}, lemmas.List.Sums.position_or_len_is}, specs.List.position_or_len}
use Rattle.script_cli.specs.Lines.{is_blank}
use Rattle.script_cli.proofs.words.first_blank.Goals as goal

pub returns-then-is_blank-clause-place : goal.returns-then-is_blank-clause-place
returns-then-is_blank-clause-place c =
    let found : is_blank (get_or c.args.text.now c.loop-i.i 0) ≡ true = search rules in
    let first : position_or_len is_blank c.args.text.now ≡ c.loop-i.i = position_or_len_is is_blank c.args.text.now c.loop-i.i 0 (omega arith) c.loop-i.invariant (λ h. found) in
    cc

pub returns-clause-place : goal.returns-clause-place
returns-clause-place c =
    let end : c.loop-i.i ≡ length c.args.text.now = omega arith in
    let first : position_or_len is_blank c.args.text.now ≡ c.loop-i.i = position_or_len_is is_blank c.args.text.now c.loop-i.i 0 (omega arith) c.loop-i.invariant (λ h. absurd (omega arith)) in
    cc
