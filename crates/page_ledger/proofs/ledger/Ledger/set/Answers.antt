use Rattle.std.proofs.{Common.{◌<◌, arith, length, length-set, slice_set, ap, sym, ◌∙◌}, lemmas.List.map-set}
use Rattle.page_ledger.{proofs.Tables.{counted-some, counted-few, counts-set}, specs.Owners.is_free}
use Rattle.page_ledger.proofs.ledger.Ledger.set.Goals as goal

pub one_less-requires : goal.one_less-requires
one_less-requires g c =
    let within : c.p.inside.0 < length c.self.inside.owners.items = rw (c.p.view_is, c.self.view_is) c.requires in
    rw c.self.invariant.2 (counted-some c.self.inside.owners.items c.p.inside.0 c.index-before.result.now within c.index-before.ensures)

pub one_more-self-inside-requires : goal.one_more-self-inside-requires
one_more-self-inside-requires g c =
    let within : c.p.inside.0 < length c.self.inside.owners.items = rw (c.p.view_is, c.self.view_is) c.requires in
    rw (c.one_less.ensures, c.self.invariant.2) (omega (
      arith,
      c.self.invariant.1,
      counted-few c.self.inside.owners.items c.p.inside.0 c.args.owner c.index-before.result.now within c.index-before.ensures,
    ))

pub invariant_of-self : goal.invariant_of-self
invariant_of-self g c =
    let within : c.p.inside.0 < length c.self.inside.owners.items = rw (c.p.view_is, c.self.view_is) c.requires in
    let size = length-set c.self.inside.owners.items c.p.inside.0 c.args.owner in (
      omega (arith, size, c.self.invariant.0),
      omega (arith, size, c.self.invariant.1),
      c.one_more-self-inside.ensures ∙ (rw (c.one_less.ensures, c.self.invariant.2)
          (sym (counts-set c.self.inside.owners.items c.p.inside.0 c.args.owner c.index-before.result.now within c.index-before.ensures))),
      c.set.ensures ∙ (ap (λ b. slice_set c.self.inside.free c.p.inside.0 b) c.is_free.ensures
          ∙ (ap (λ l. slice_set l c.p.inside.0 (is_free c.args.owner)) c.self.invariant.3 ∙ sym (map-set is_free c.self.inside.owners.items c.p.inside.0 c.args.owner))),
    )
