-- Both returns of the search: the first position that passes, or the length.
use Rattle.std.{proofs.{Common.{rules, arith, length, ◌≡◌, get_or, true}, lemmas.List.Sums.position_or_len_is}, specs.List.position_or_len}
use Rattle.script_cli.specs.Lines.{is_feed}
use Rattle.script_cli.proofs.lines.first_feed.Goals as goal

pub returns-then-byte-eq10-clause-place : goal.returns-then-byte-eq10-clause-place
returns-then-byte-eq10-clause-place c =
    let found : is_feed (get_or c.args.text.now c.loop-i.i 0) ≡ true = search rules in
    let first : position_or_len is_feed c.args.text.now ≡ c.loop-i.i = position_or_len_is is_feed c.args.text.now c.loop-i.i 0 (omega arith) c.loop-i.invariant (λ h. found) in
    cc

pub returns-clause-place : goal.returns-clause-place
returns-clause-place c =
    let end : c.loop-i.i ≡ length c.args.text.now = omega arith in
    let first : position_or_len is_feed c.args.text.now ≡ c.loop-i.i = position_or_len_is is_feed c.args.text.now c.loop-i.i 0 (omega arith) c.loop-i.invariant (λ h. absurd (omega arith)) in
    cc
