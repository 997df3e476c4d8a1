use Rattle.std.{proofs.Common.{◌∙◌, ap, List, Option, ℕ, codes}, specs.Prelude.option_and_then}
use Rattle.clap.{proofs.WalkLemmas.first_value-rows, specs.Words.found_of}
use Rattle.command_line.specs.Asked.{serving_named}
use Rattle.command_line.proofs.serving.who_serves.Goals as goal

pub returns-in-Some : goal.returns-in-Some
returns-in-Some c =
    c.named.ensures
    ∙ ap (λ (o : Option (List ℕ)). option_and_then serving_named o) (c.in-Some.ensures ∙ first_value-rows (found_of c.args.given.now) (codes "serve"))

pub returns-in-None : goal.returns-in-None
returns-in-None c =
    ap (λ (o : Option (List ℕ)). option_and_then serving_named o) (c.in-None.ensures ∙ first_value-rows (found_of c.args.given.now) (codes "serve"))
