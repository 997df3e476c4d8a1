use Rattle.std.{proofs.Common.{◌∙◌, ap, ℕ, Option}, specs.Prelude.{option_and_then, unwrap_or}}
use Rattle.std.specs.Str.Parse.{ParsesUnsigned, ExplainsUnsignedError, HasUnsignedDigitsIfOk}
use Rattle.clap.{proofs.WalkLemmas.one_text-rows, specs.Words.found_of}
use Rattle.command_line.{proofs.Asking.number_is, specs.Units.number}
use Rattle.command_line.proofs.commands.Number.value.Goals as goal

pub returns : goal.returns
returns c =
    let read = number_is _ (λ bs r. ParsesUnsigned 32 10 bs r × ExplainsUnsignedError 10 bs r × HasUnsignedDigitsIfOk bs r) (λ u x g. g.0)
    _ c.get_one.result c.get_one.ensures.none c.get_one.ensures.value in
    c.unwrap_or.ensures ∙ ap (λ (o : Option ℕ). unwrap_or o c.args.self.now.usual)
    (read ∙ ap (option_and_then number) (one_text-rows (found_of c.args.given.now) c.args.self.now.name.now))
