use Rattle.std.{proofs.Common.{ap, sym, ◌∙◌}, specs.Option.{option_map, option_copied}}
use Rattle.slot_table.proofs.Linked.{behind-none, behind-rows}
use Rattle.slot_table.proofs.linked_table.LinkedTable.next.Goals as goal

pub returns-in_err-get : goal.returns-in_err-get
returns-in_err-get g c =
    let none = sym c.get.ensures.value ∙ ap option_copied c.in_err-get.was in
    c.from_residual.ensures ∙ rw (← c.self.view_is) (behind-none _ _ c.self.invariant (c.args.q, c.args.cid) (ap (option_map (λ n. n.value)) none))

pub returns : goal.returns
returns g c =
    rw (← c.self.view_is) (behind-rows _ _ c.self.invariant (c.args.q, c.args.cid) c.in_ok-get.field-0.now (sym c.get.ensures.value ∙ ap option_copied c.in_ok-get.was))
