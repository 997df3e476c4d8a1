-- Data where there is a plus sign, and none where there is none.
use Rattle.std.proofs.{Common.{ℕ, ◌≡◌, ◌∷◌, [], ◌∙◌, ap, drop, sym, take}, lemmas.List.nil_from_length}
use Rattle.script_cli.{proofs.Texts.{cut_before, cut_onward, data_cut, data_uncut}, specs.{Lines.{before, onward}, Pieces.is_plus}}
use Rattle.script_cli.proofs.values.data.Goals as goal

pub returns-in_err-len : goal.returns-in_err-len
returns-in_err-len c =
    let none : c.split_at.result.1.now ≡ [] = nil_from_length c.split_at.result.1.now c.in_err-len.ensures.cases in
    let back : c.split_at.result.1.now ≡ onward is_plus c.args.word.now =
    c.split_at.ensures.back ∙ ap (λ (n : ℕ). drop n c.args.word.now) c.first_place.ensures.place ∙ cut_onward is_plus c.args.word.now in
    cc (data_uncut c.args.word.now (sym back ∙ none))

pub returns : goal.returns
returns c =
    let front : before is_plus c.args.word.now ≡ c.split_at.result.0.now =
    sym (c.split_at.ensures.front ∙ ap (λ (n : ℕ). take n c.args.word.now) c.first_place.ensures.place ∙ cut_before is_plus c.args.word.now) in
    let back : onward is_plus c.args.word.now ≡ c.in_ok-len.field-0-0.now ∷ c.in_ok-len.len.now =
    sym (c.split_at.ensures.back ∙ ap (λ (n : ℕ). drop n c.args.word.now) c.first_place.ensures.place ∙ cut_onward is_plus c.args.word.now) ∙ c.in_ok-len.ensures.cases.0 in
    cc (data_cut c.args.word.now c.split_at.result.0.now c.in_ok-len.len.now c.in_ok-len.field-0-0.now front back)
