use Rattle.views.proofs.SparseGiven.{copied, zeros}
use Rattle.std.proofs.Common.{sym, ◌∙◌}
use Rattle.views.proofs.sparse_memory.copy_out.Goals as goal

pub returns-in-Some : goal.returns-in-Some
returns-in-Some c = copied c.args.number c.in-Some.i c.args.at _ c.args.given.now _ c.whole.result.now _ (sym c.index_of.ensures ∙ c.in-Some.is) c.whole.ensures.value c.copy_from_slice.ensures.after

pub returns-in-None : goal.returns-in-None
returns-in-None c = zeros c.args.number c.args.at _ c.args.given.now _ (sym c.index_of.ensures ∙ c.in-None.is) c.requires (c.fill.ensures.after (λ y e. e))
