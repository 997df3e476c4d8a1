-- One more page is of another.
use Rattle.std.proofs.{Common.{rules, arith, ◌≡◌, ◌≢◌, ℕ, Bool, true, false, refl, subst, nat_lt}, lemmas.Bool.Decides.nat_tests}
use Rattle.page_ledger.specs.declared.owner.Owner.TheVariants.{Queue}
use Rattle.texts.specs.Slots.{IsOfAnother}
use Rattle.texts.proofs.traces.slots.first_page.Goals as goal

pub loop-p-preserved : goal.loop-p-preserved
loop-p-preserved c k lt = by (nat_lt k c.loop-p.p) refl
  where
    other : c.owner.result ≢ Queue c.args.q c.args.half
    other = search rules

    by : (b : Bool) → nat_lt k c.loop-p.p ≡ b → IsOfAnother c.args.bench.now.table.world c.args.q c.args.half k
    by true e = c.loop-p.invariant k (grind (arith, nat_tests, e))
    by false e =
        let same : c.loop-p.p ≡ k = grind (arith, nat_tests, e, lt) in
        subst (λ (p : ℕ). IsOfAnother c.args.bench.now.table.world c.args.q c.args.half p) same (c.owner.result, c.owner.ensures, other)
