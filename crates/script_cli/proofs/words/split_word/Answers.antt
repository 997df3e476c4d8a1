-- No word is left, or the first one and what follows it.
use Rattle.std.proofs.Common.{rules, length, ◌≡◌, ◌<◌}
use Rattle.script_cli.{proofs.Texts.{begun, cut_before, cut_onward, no_part, part_is_first}, specs.Lines.{is_blank, is_solid}}
use Rattle.script_cli.proofs.words.split_word.Goals as goal

pub returns-then-is_empty : goal.returns-then-is_empty
returns-then-is_empty c =
    let text : c.split_at.result.1.now ≡ begun is_blank c.args.line.now = cc (cut_onward is_solid c.args.line.now) in
    no_part is_blank c.args.line.now (rw (← text) (search rules))

pub returns : goal.returns
returns c =
    let text : c.split_at.result.1.now ≡ begun is_blank c.args.line.now = cc (cut_onward is_solid c.args.line.now) in
    let some : 0 < length (begun is_blank c.args.line.now) = rw (← text) (search rules) in
    search (rules, part_is_first is_blank c.args.line.now some, cut_before is_blank c.split_at.result.1.now, cut_onward is_blank c.split_at.result.1.now)
