use Rattle.std.proofs.Common.{[], ◌∷◌, ◌++◌, ap, subst, ◌∙◌}
use Rattle.slot_table.{proofs.Walks.without_row, specs.Rows.{IsDistinct, without}}
use Rattle.slot_table.proofs.laws.taken_comes_back.Goals as goal

pub returns-clause-again : goal.returns-clause-again
returns-clause-again g c table front back row d is =
    ap (λ rows. without rows row.q row.cid ++ row ∷ []) is ∙ ap (λ rows. rows ++ row ∷ []) (without_row front back row (subst IsDistinct is d))
