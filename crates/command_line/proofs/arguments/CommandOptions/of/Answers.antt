use Rattle.std.proofs.Common.{◌∙◌, refl, codes}
use Rattle.clap.{proofs.WalkLemmas.first_value-rows, specs.Words.found_of}
use Rattle.command_line.proofs.arguments.CommandOptions.of.Goals as goal

pub returns : goal.returns
returns c =
    rw (
      c.value.ensures,
      c.value-2.ensures,
      c.value-3.ensures,
      c.value-4.ensures,
      c.value-5.ensures,
      c.get_str.ensures ∙ first_value-rows (found_of c.args.given.now) (codes "image"),
      c.script.ensures,
      c.get_str-2.ensures ∙ first_value-rows (found_of c.args.given.now) (codes "save"),
      c.flag.ensures,
    ) refl
