use Rattle.std.proofs.Common.{◌≡◌, ◌∷◌, ◌++◌, [], rules, refl}
use Rattle.driver_book.proofs.Runs.{kept_last, stands_last}
use Rattle.driver_book.proofs.log.Log.answer_last.Goals as goal

pub invariant_of-self : goal.invariant_of-self
invariant_of-self g c =
    let l = c.self.inside in
    let is : l.kept.items ≡ c.pop.new.self.items ++ c.in-Some.last ∷ [] = search rules in
    (rw c.push_reserved.ensures.items (stands_last l.pieces.items l.pages.items l.drafts.items l.kept.items c.pop.new.self.items c.in-Some.last _ is c.self.invariant.0 (λ fits. fits)), search rules, c.self.invariant.2)

pub returns-in-Some-clause-entries : goal.returns-in-Some-clause-entries
returns-in-Some-clause-entries g c =
    let l = c.self.inside in
    let is : l.kept.items ≡ c.pop.new.self.items ++ c.in-Some.last ∷ [] = search rules in
    rw (c.push_reserved.ensures.items, ← c.self.view_is)
    (kept_last l.pieces.items l.pages.items l.drafts.items l.kept.items c.pop.new.self.items c.in-Some.last _ c.args.answer is refl)
