use Rattle.std.proofs.Common.{ap, ◌∙◌, arith}
use Rattle.shell.proofs.Listed.{place_of}
use Rattle.shell.specs.DotWords.{name_of_word}
use Rattle.shell.specs.declared.dot_word.DotWord.TheVariants.{Help}
use Rattle.shell.proofs.dot_word.DotWord.named.Goals as goal

pub returns : goal.returns
returns c dot same =
    let place = place_of dot Help in
    c.loop-dot.invariant place.0 (omega (arith, place.1, c.loop-dot-test.false)) (ap name_of_word place.2 ∙ same)
