use Rattle.std.proofs.{Common.{◌≡◌, arith, ap, sym, ◌∙◌, length, map, replicate}, lemmas.List.length-replicate}
use Rattle.page_ledger.{proofs.Tables.{flags-free, counts-free}, specs.{Counting.counts_of, Owners.is_free, declared.owner.Owner.TheVariants.Free}}
use Rattle.page_ledger.proofs.ledger.Ledger.open.Goals as goal

pub invariant_of-result : goal.invariant_of-result
invariant_of-result g c =
    let free : c.in_ok-owners.owners.items ≡ replicate c.args.pages Free = c.in_ok-owners.ensures.items_if_clones_equal (λ _ same. same) in
    let size : length c.in_ok-owners.owners.items ≡ c.args.pages = ap length free ∙ length-replicate c.args.pages Free in (
      rw size (omega (arith, c.if-pages-lt8.false)),
      rw size (omega arith),
      sym (ap counts_of free ∙ counts-free c.args.pages),
      c.in_ok-open.ensures ∙ (sym (flags-free c.args.pages) ∙ ap (map is_free) (sym free)),
    )

pub returns-clause-free : goal.returns-clause-free
returns-clause-free g c = c.in_ok-owners.ensures.items_if_clones_equal (λ _ same. same)

pub overflow_cast-pages : goal.overflow_cast-pages
overflow_cast-pages g c = omega arith

pub open-requires : goal.open-requires
open-requires g c = omega arith
