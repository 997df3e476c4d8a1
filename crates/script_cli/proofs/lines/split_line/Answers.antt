-- The text up to its first line feed and what follows it, or the whole text where there is none.
use Rattle.std.proofs.{Common.{◌≡◌, ◌∷◌, []}, lemmas.List.nil_from_length}
use Rattle.script_cli.{proofs.Texts.{cut_before, cut_onward, feed_found, feed_missing}, specs.Lines.{is_feed, onward}}
use Rattle.script_cli.proofs.lines.split_line.Goals as goal

pub returns-in-Some-clause-line : goal.returns-in-Some-clause-line
returns-in-Some-clause-line c =
    let found : onward is_feed c.args.text.now ≡ c.in-Some.field-0-0.now ∷ c.in-Some.after.now = cc (cut_onward is_feed c.args.text.now, c.in-Some.ensures.cases.0) in
    cc (cut_before is_feed c.args.text.now, (feed_found c.args.text.now _ _ found).0)

pub returns-in-Some-clause-rest : goal.returns-in-Some-clause-rest
returns-in-Some-clause-rest c =
    let found : onward is_feed c.args.text.now ≡ c.in-Some.field-0-0.now ∷ c.in-Some.after.now = cc (cut_onward is_feed c.args.text.now, c.in-Some.ensures.cases.0) in
    cc ((feed_found c.args.text.now _ _ found).1)

pub returns-in-None-clause-line : goal.returns-in-None-clause-line
returns-in-None-clause-line c =
    let none : c.split_at.result.1.now ≡ [] = nil_from_length c.split_at.result.1.now (c.in-None.ensures.cases) in
    let missing : onward is_feed c.args.text.now ≡ [] = cc (cut_onward is_feed c.args.text.now) in
    cc ((feed_missing c.args.text.now missing).0)

pub returns-in-None-clause-rest : goal.returns-in-None-clause-rest
returns-in-None-clause-rest c =
    let none : c.split_at.result.1.now ≡ [] = nil_from_length c.split_at.result.1.now (c.in-None.ensures.cases) in
    let missing : onward is_feed c.args.text.now ≡ [] = cc (cut_onward is_feed c.args.text.now) in
    cc ((feed_missing c.args.text.now missing).1)
