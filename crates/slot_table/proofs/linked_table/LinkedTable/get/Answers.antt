use Rattle.std.{proofs.Common.{ap, sym, ◌∙◌}, specs.Option.{option_map, option_copied}}
use Rattle.slot_table.proofs.Linked.{rows-distinct, value_at-rows}
use Rattle.slot_table.proofs.linked_table.LinkedTable.get.Goals as goal

pub returns-in-Some-clause-value : goal.returns-in-Some-clause-value
returns-in-Some-clause-value g c =
    let has = sym c.get.ensures.value ∙ ap option_copied c.in-Some.is in
    rw (← c.self.view_is) (sym (value_at-rows _ _ c.self.invariant (c.args.q, c.args.cid) ∙ ap (option_map (λ n. n.value)) has))

pub returns-in-Some-clause-distinct : goal.returns-in-Some-clause-distinct
returns-in-Some-clause-distinct g c = rw (← c.self.view_is) (rows-distinct _ _ c.self.invariant)

pub returns-in-None-clause-value : goal.returns-in-None-clause-value
returns-in-None-clause-value g c =
    let none = sym c.get.ensures.value ∙ ap option_copied c.in-None.is in
    rw (← c.self.view_is) (sym (value_at-rows _ _ c.self.invariant (c.args.q, c.args.cid) ∙ ap (option_map (λ n. n.value)) none))
