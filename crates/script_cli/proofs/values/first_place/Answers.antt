-- Both returns of the search: the first position that passes, or the length.
use Rattle.std.{proofs.{Common.{rules, arith, length, ◌≡◌, ◌==◌, get_or, true}, lemmas.List.Sums.position_or_len_is}, specs.List.position_or_len}
use Rattle.script_cli.proofs.values.first_place.Goals as goal

pub returns-then-other-byte-clause-place : goal.returns-then-other-byte-clause-place
returns-then-other-byte-clause-place c =
    let found : (get_or c.args.text.now c.loop-i.i 0 == c.args.byte) ≡ true = search rules in
    let first : position_or_len (λ b. b == c.args.byte) c.args.text.now ≡ c.loop-i.i = position_or_len_is (λ b. b == c.args.byte) c.args.text.now c.loop-i.i 0 (omega arith) c.loop-i.invariant (λ h. found) in
    cc

pub returns-clause-place : goal.returns-clause-place
returns-clause-place c =
    let end : c.loop-i.i ≡ length c.args.text.now = omega arith in
    let first : position_or_len (λ b. b == c.args.byte) c.args.text.now ≡ c.loop-i.i = position_or_len_is (λ b. b == c.args.byte) c.args.text.now c.loop-i.i 0 (omega arith) c.loop-i.invariant (λ h. absurd (omega arith)) in
    cc
