use Rattle.std.{proofs.{Common.{◌∙◌, ap, List, [], ℕ, Option, map}, lemmas.Result.IfOk-weaker}, specs.{Borrow.Bor, Prelude.unwrap_or}}
use Rattle.clap.{proofs.WalkLemmas.raw_values-rows, specs.Words.found_of}
use Rattle.command_line.proofs.arguments.words_under.Goals as goal

pub returns-in-Some : goal.returns-in-Some
returns-in-Some c =
    let found = c.in-Some.ensures ∙ raw_values-rows (found_of c.args.given.now) c.args.name.now in
    IfOk-weaker c.from_slice.result _ _ (λ v same. ap (map (λ f. f.now)) same ∙ ap (λ (o : Option (List (List ℕ))). unwrap_or o []) found) c.from_slice.ensures.items

pub returns-in-None : goal.returns-in-None
returns-in-None c =
    ap (map (λ (f : Bor (List ℕ)). f.now)) c.new.ensures.items ∙ ap (λ (o : Option (List (List ℕ))). unwrap_or o []) (c.in-None.ensures ∙ raw_values-rows (found_of c.args.given.now) c.args.name.now)
