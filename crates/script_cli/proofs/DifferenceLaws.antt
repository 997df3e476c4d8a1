-- Where answers and printed lines differ, and that there is no difference exactly where they are the same.
use Rattle.std.proofs.Common.{◌≡◌, ◌↔◌, ℕ, Bool, true, false, not, IsNone, Option, Some, None, List, [], ◌∷◌, map, refl, sym, ◌∙◌, if◌then◌else◌}
use Rattle.std.proofs.lemmas.{Bool.{true≢false}, Slice.Eq.{bytes_eq-Decides}}
use Rattle.std.specs.Str.{bytes_eq}
use Rattle.script_cli.specs.Differences.{difference_below, differs, DifferenceText, NoneIfSame}
use Rattle.script_cli.specs.Transcripts.{AnswerText}

-- The first line that is left

pub not_true : (v : Bool) → not v ≡ true → v ≡ false
not_true true e = absurd (true≢false (sym e))
not_true false e = refl

pub not_false : (v : Bool) → not v ≡ false → v ≡ true
not_false true e = refl
not_false false e = absurd (true≢false e)

module _ (number : ℕ) (answers : List AnswerText) (came : List ℕ) (left more : List (List ℕ)) (all : Option DifferenceText) (cut : left ≡ came ∷ more) (before : difference_below number answers left ≡ all) where
  -- no answer is left
  pub too_many : answers ≡ [] → differs number None (Some came) ≡ all
  too_many none = (λ i. difference_below number (sym none i) (sym cut i)) ∙ before

  pub another : (a : AnswerText) (rest : List AnswerText) → answers ≡ a ∷ rest → bytes_eq a.text came ≡ false → differs a.number (Some a.text) (Some came) ≡ all
  another a rest first other =
      (λ i. if sym other i then difference_below a.number rest more else differs a.number (Some a.text) (Some came))
      ∙ (λ i. difference_below number (sym first i) (sym cut i)) ∙ before

  pub as_told : (a : AnswerText) (rest : List AnswerText) → answers ≡ a ∷ rest → bytes_eq a.text came ≡ true → difference_below a.number rest more ≡ all
  as_told a rest first same =
      (λ i. if sym same i then difference_below a.number rest more else differs a.number (Some a.text) (Some came))
      ∙ (λ i. difference_below number (sym first i) (sym cut i)) ∙ before

-- The law

abbrev texts : List AnswerText → List (List ℕ)
texts answers = map (λ (a : AnswerText). a.text) answers

none_below : (above : ℕ) (answers : List AnswerText) (printed : List (List ℕ)) → IsNone (difference_below above answers printed) ↔ (texts answers ≡ printed)
none_below above [] [] = (λ h. refl, λ e. refl)
none_below above [] (came ∷ more) = (λ h. absurd (true≢false h), λ e. cc)
none_below above (a ∷ rest) [] = (λ h. absurd (true≢false h), λ e. cc)
none_below above (a ∷ rest) (came ∷ more) = by_text (bytes_eq a.text came) refl (none_below a.number rest more)
  where
    by_text : (v : Bool) → bytes_eq a.text came ≡ v → (IsNone (difference_below a.number rest more) ↔ (texts rest ≡ more))
        → IsNone (difference_below above (a ∷ rest) (came ∷ more)) ↔ (texts (a ∷ rest) ≡ came ∷ more)
    by_text true e ih =
        let here : a.text ≡ came = (bytes_eq-Decides a.text came).0 e in
        rw e (λ h. let later : texts rest ≡ more = ih.0 h in cc, λ both. ih.1 (let later : texts rest ≡ more = cc in later))
    by_text false e ih =
        rw e (λ h. absurd (true≢false h), λ both. let here : a.text ≡ came = cc in absurd (true≢false (sym ((bytes_eq-Decides a.text came).1 here) ∙ e)))

pub none_if_same : NoneIfSame
none_if_same told printed = none_below told.number told.answers printed
