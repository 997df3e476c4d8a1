use Rattle.std.proofs.{Common.{arith, ◌≡◌, ◌+◌, ◌<◌, length, length-set, ap, sym, ◌∙◌}, Math.Seq.take-length}
use Rattle.page_ledger.proofs.Tables.{given_below-yes, given_below-none, given_below-all, number-yes, number-none, length-pages_owned}
use Rattle.page_ledger.{proofs.ledger.Ledger.free_group.Goals.{then-has, else-has}, specs.{Groups.is_member, declared.owner.Owner.TheVariants.Free}}
use Rattle.page_ledger.proofs.ledger.Ledger.free_group.Goals as goal

pub loop-p-preserved : goal.loop-p-preserved
loop-p-preserved g c =
    let within : c.loop-p.p < length c.args.self.now = omega (arith, c.pages-p-end.ensures.pages) in
    elim c.if-has.branch [
      | then-has w ↦
          let holds = sym c.has.ensures ∙ w.if-has.true in
          let number = number-yes (is_member c.args.group) c.loop-p.p c.args.self.now c.loop-p.self c.owner.result c.loop-p.invariant.owners within c.owner.ensures holds in
          record {
            owners = w.self-is ∙ (w.set.ensures ∙ given_below-yes (is_member c.args.group) c.loop-p.p c.args.self.now c.loop-p.self c.owner.result c.loop-p.invariant.owners c.owner.ensures holds);
            size = ap length (w.self-is ∙ w.set.ensures) ∙ (length-set c.loop-p.self c.loop-p.p Free ∙ c.loop-p.invariant.size);
            number = w.freed-is ∙ (ap (λ n. n + 1) c.loop-p.invariant.number ∙ sym number);
            few = omega (arith, w.freed-is, c.loop-p.invariant.few);
          }
      | else-has w ↦
          let fails = sym c.has.ensures ∙ w.if-has.false in
          let number = number-none (is_member c.args.group) c.loop-p.p c.args.self.now c.loop-p.self c.owner.result c.loop-p.invariant.owners within c.owner.ensures fails in
          record {
            owners = w.self-is ∙ given_below-none (is_member c.args.group) c.loop-p.p c.args.self.now c.loop-p.self c.owner.result c.loop-p.invariant.owners c.owner.ensures fails;
            size = ap length w.self-is ∙ c.loop-p.invariant.size;
            number = w.freed-is ∙ (c.loop-p.invariant.number ∙ sym number);
            few = omega (arith, w.freed-is, c.loop-p.invariant.few);
          }
    ]

pub returns-clause-freed : goal.returns-clause-freed
returns-clause-freed g c =
    c.loop-p.invariant.owners ∙ given_below-all (is_member c.args.group) c.loop-p.p c.args.self.now (omega (arith, c.pages-p-end.ensures.pages))

pub returns-clause-number : goal.returns-clause-number
returns-clause-number g c =
    let p : c.loop-p.p ≡ length c.args.self.now = omega (arith, c.pages-p-end.ensures.pages) in
    c.loop-p.invariant.number ∙ (rw (p, take-length) (sym (length-pages_owned (is_member c.args.group) c.args.self.now)))
