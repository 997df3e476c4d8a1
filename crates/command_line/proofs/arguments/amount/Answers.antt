use Rattle.std.{proofs.Common.{◌∙◌, ap}, specs.{Prelude.option_and_then, Str.Parse.{ParsesUnsigned, ExplainsUnsignedError, HasUnsignedDigitsIfOk}}}
use Rattle.clap.{proofs.WalkLemmas.one_text-rows, specs.Words.found_of}
use Rattle.command_line.{proofs.Asking.number_is, specs.Units.number}
use Rattle.command_line.proofs.arguments.amount.Goals as goal

pub returns : goal.returns
returns c =
    let read = number_is _ (λ bs r. ParsesUnsigned 32 10 bs r × ExplainsUnsignedError 10 bs r × HasUnsignedDigitsIfOk bs r) (λ u x g. g.0)
    _ c.get_one.result c.get_one.ensures.none c.get_one.ensures.value in
    read ∙ ap (option_and_then number) (one_text-rows (found_of c.args.given.now) c.args.name.now)
