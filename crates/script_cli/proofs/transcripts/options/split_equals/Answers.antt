-- What is before and after the equals sign, or that there is none.
use Rattle.std.proofs.{Common.{ℕ, ◌≡◌, [], ◌∙◌, ap, drop, sym, take}, lemmas.List.nil_from_length}
use Rattle.script_cli.{proofs.Texts.{cut_before, cut_onward}, specs.{Lines.{before, onward}, Options.is_equals}}
use Rattle.script_cli.proofs.transcripts.options.split_equals.Goals as goal

pub returns-in_err-number : goal.returns-in_err-number
returns-in_err-number c =
    let none : c.split_at.result.1.now ≡ [] = nil_from_length c.split_at.result.1.now c.in_err-number.ensures.cases in
    let back : c.split_at.result.1.now ≡ onward is_equals c.args.word.now =
    c.split_at.ensures.back ∙ ap (λ (n : ℕ). drop n c.args.word.now) c.first_place.ensures.place ∙ cut_onward is_equals c.args.word.now in
    rw c.from_residual.ensures (sym back ∙ none)

pub returns : goal.returns
returns c =
    let front : c.split_at.result.0.now ≡ before is_equals c.args.word.now =
    c.split_at.ensures.front ∙ ap (λ (n : ℕ). take n c.args.word.now) c.first_place.ensures.place ∙ cut_before is_equals c.args.word.now in
    let back : c.split_at.result.1.now ≡ onward is_equals c.args.word.now =
    c.split_at.ensures.back ∙ ap (λ (n : ℕ). drop n c.args.word.now) c.first_place.ensures.place ∙ cut_onward is_equals c.args.word.now in
    (front, c.in_ok-number.field-0-0.now, sym back ∙ c.in_ok-number.ensures.cases.0)
