use Rattle.controller_core.proofs.{Counting.{IsKept, changed_kept, outstanding, stopped_alike}, Rows.{commands_of, commands_changed, stands_named}}
use Rattle.controller_core.specs.{Contents.FetchedCommand, Managing.stopped_with_queue}
use Rattle.std.{proofs.{Common.{length, ap, sym, subst, ◌∙◌}, lemmas.Option.none-some}, specs.Option.option_copied_mut}
use Rattle.slot_table.specs.Rows.{with_value}
use Rattle.controller_core.proofs.commands.Commands.stop.Goals as goal

pub returns-in_default : goal.returns-in_default
returns-in_default g c n =
    let t = c.self.inside.table in
    let none = sym c.get_mut.ensures.value ∙ ap option_copied_mut c.in_default.is in
    rw (← c.self.view_is) (λ at.
    let s = stands_named t c.args.q c.args.cid n c.self.invariant.0 c.self.invariant.1 at in
    absurd (none-some s.here (sym none ∙ s.value)))

pub invariant_of-self-2 : goal.invariant_of-self-2
invariant_of-self-2 g c =
    let t = c.self.inside.table in
    let k = c.in-Some.command.now in
    let has = sym c.get_mut.ensures.value ∙ ap option_copied_mut c.in-Some.is in
    subst (λ (x : FetchedCommand). IsKept c.self.inside.counts.items (with_value t c.args.q c.args.cid x)) (sym c.stop_with_queue.ensures)
    (changed_kept c.self.inside.counts.items t c.args.q c.args.cid k _ c.self.invariant has (stopped_alike c.args.deleted k))

pub returns : goal.returns
returns g c n =
    let t = c.self.inside.table in
    let k = c.in-Some.command.now in
    let has = sym c.get_mut.ensures.value ∙ ap option_copied_mut c.in-Some.is in
    rw (← c.self.view_is) (λ at.
    ap (outstanding (length c.self.inside.counts.items)) (
    ap (λ (x : FetchedCommand). commands_of (with_value t c.args.q c.args.cid x)) c.stop_with_queue.ensures
    ∙ commands_changed t c.args.q c.args.cid n (stopped_with_queue c.args.deleted) k (stands_named t c.args.q c.args.cid n c.self.invariant.0 c.self.invariant.1 at) has))
