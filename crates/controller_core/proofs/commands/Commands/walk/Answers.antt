use Rattle.controller_core.proofs.{Counting.{walked_alike, walked_among, refused_same, refusal_one, few_one, changed_kept}, Rows.{value_found, found_rows}}
use Rattle.std.{proofs.Common.{None, Some, length, ap, sym, ◌∙◌}, specs.Option.option_copied_mut}
use Rattle.controller_core.proofs.commands.Commands.walk.Goals as goal

pub walk-requires-clause-few : goal.walk-requires-clause-few
walk-requires-clause-few g c =
    let t = c.self.inside.table in
    let has = sym c.get_mut.ensures.value ∙ ap option_copied_mut c.in-Some.is in
    few_one _ c.args.q c.args.cid _ (value_found t c.args.q c.args.cid _ c.self.invariant.0 has) (rw (← c.self.view_is) at c.requires.few)

pub returns-in_default-clause-refusal : goal.returns-in_default-clause-refusal
returns-in_default-clause-refusal g c =
    let t = c.self.inside.table in
    let none = sym c.get_mut.ensures.value ∙ ap option_copied_mut c.in_default.is in
    rw (← c.self.view_is) (sym (refusal_one _ c.args.q c.args.cid None (found_rows t c.args.q c.args.cid c.self.invariant.0 ∙ none)))

pub invariant_of-self-2 : goal.invariant_of-self-2
invariant_of-self-2 g c =
    let t = c.self.inside.table in
    let has = sym c.get_mut.ensures.value ∙ ap option_copied_mut c.in-Some.is in
    changed_kept c.self.inside.counts.items t c.args.q c.args.cid _ c.walk.new.self c.self.invariant has
    (walked_alike t c.args.q c.args.cid _ c.walk.new.self _ _ _ _ c.self.invariant.0 has c.walk.result (c.walk.ensures.refused, c.walk.ensures.walks))

pub returns-clause-refusal : goal.returns-clause-refusal
returns-clause-refusal g c =
    let t = c.self.inside.table in
    let has = sym c.get_mut.ensures.value ∙ ap option_copied_mut c.in-Some.is in
    rw (← c.self.view_is) (c.walk.ensures.refusal ∙ sym (refusal_one _ c.args.q c.args.cid (Some c.in-Some.command.now) (value_found t c.args.q c.args.cid _ c.self.invariant.0 has)))

pub returns-clause-refused : goal.returns-clause-refused
returns-clause-refused g c =
    let t = c.self.inside.table in
    let has = sym c.get_mut.ensures.value ∙ ap option_copied_mut c.in-Some.is in
    rw (← c.self.view_is) (refused_same t c.args.q c.args.cid _ c.walk.new.self _ _ _ _ c.self.invariant.0 has (length c.self.inside.counts.items) c.walk.result (c.walk.ensures.refused, c.walk.ensures.walks))

pub returns-clause-among : goal.returns-clause-among
returns-clause-among g c =
    let t = c.self.inside.table in
    let has = sym c.get_mut.ensures.value ∙ ap option_copied_mut c.in-Some.is in
    rw (← c.self.view_is) (walked_among t c.args.q c.args.cid _ c.walk.new.self _ _ _ _ c.self.invariant.0 has c.walk.result (c.walk.ensures.refused, c.walk.ensures.walks))
