-- What words say, by the option that is taken and by the words after it.
use Rattle.std.proofs.Common.{◌≡◌, ◌∷◌}
use Rattle.script_cli.proofs.Options.{joined_said, rest_said}
use Rattle.script_cli.proofs.transcripts.options.take_option.Goals as goal

pub returns-in-Some-clause-said : goal.returns-in-Some-clause-said
returns-in-Some-clause-said c kind said =
    let cut : c.args.words.now ≡ c.in_ok-word.word.now ∷ c.take_first.new.self = c.in_ok-word.ensures in
    rw (cut, c.unhyphened.ensures, c.in-Some.ensures.0) (joined_said c.in_ok-word.word.now c.in-Some.number.now c.take_first.new.self c.in-Some.ensures.1 kind said c.in-Some.ensures.2)

pub returns-clause-said : goal.returns-clause-said
returns-clause-said c kind said =
    let cut : c.args.words.now ≡ c.in_ok-word.word.now ∷ c.take_first.new.self = c.in_ok-word.ensures in
    rw (cut, c.unhyphened-2.ensures) (rest_said c.in_ok-word.word.now c.take_first.new.self c.take_first-2.new.self c.take_first-2.result kind said c.in_default.ensures c.take_first-2.ensures)
