use Rattle.std.{proofs.Common.{◌∙◌, ap, false, List, ℕ, Option, codes}, specs.{Option.option_map_or, Str.bytes_eq}}
use Rattle.clap.{proofs.WalkLemmas.first_value-rows, specs.Words.found_of}
use Rattle.command_line.proofs.arguments.flag.Goals as goal

pub returns-in-Some : goal.returns-in-Some
returns-in-Some c =
    c.eq.ensures
    ∙ ap (λ (o : Option (List ℕ)). option_map_or (λ text. bytes_eq text (codes "true")) o false)
    (c.in-Some.ensures ∙ first_value-rows (found_of c.args.given.now) c.args.name.now)

pub returns-in-None : goal.returns-in-None
returns-in-None c =
    ap (λ (o : Option (List ℕ)). option_map_or (λ text. bytes_eq text (codes "true")) o false)
    (c.in-None.ensures ∙ first_value-rows (found_of c.args.given.now) c.args.name.now)
