use Rattle.controller_core.proofs.{Counting.{IsKept, changed_kept, outstanding, aborted_alike, spared, stopped_one}}
use Rattle.page_memory.proofs.Lists.{found_is}
use Rattle.controller_core.{proofs.{Rows.{commands_of, none_mapped, value_found, one_mapped}}, specs.{Contents.{FetchedWork, is_command}, Managing.aborted}}
use Rattle.std.{proofs.Common.{Some, length, ap, sym, subst, ◌∙◌}, specs.Option.option_copied_mut}
use Rattle.slot_table.specs.Rows.{with_value}
use Rattle.controller_core.proofs.commands.Commands.abort.Goals as goal

pub returns-in_default : goal.returns-in_default
returns-in_default g c =
    let t = c.self.inside.table in
    let none = sym c.get_mut.ensures.value ∙ ap option_copied_mut c.in_default.is in
    rw (← c.self.view_is)
    (ap (outstanding (length c.self.inside.counts.items)) (none_mapped (aborted c.args.q c.args.cid c.args.abort) c.args.q c.args.cid (spared c.args.q c.args.cid c.args.abort) t c.self.invariant.0 none))

pub invariant_of-self-2 : goal.invariant_of-self-2
invariant_of-self-2 g c =
    let t = c.self.inside.table in
    let k = c.in-Some.command.now in
    let has = sym c.get_mut.ensures.value ∙ ap option_copied_mut c.in-Some.is in
    let next = λ (work : FetchedWork). record k { work = work; waiting_abort = Some c.args.abort } in
    subst (λ (work : FetchedWork). IsKept c.self.inside.counts.items (with_value t c.args.q c.args.cid (next work))) (sym c.stop.ensures)
    (changed_kept c.self.inside.counts.items t c.args.q c.args.cid k _ c.self.invariant has (aborted_alike c.args.abort k))

pub returns : goal.returns
returns g c =
    let t = c.self.inside.table in
    let k = c.in-Some.command.now in
    let has = sym c.get_mut.ensures.value ∙ ap option_copied_mut c.in-Some.is in
    let next = λ (work : FetchedWork). record k { work = work; waiting_abort = Some c.args.abort } in
    let own = found_is (is_command c.args.q c.args.cid) (commands_of t) k (value_found t c.args.q c.args.cid k c.self.invariant.0 has) in
    rw (← c.self.view_is) (ap (outstanding (length c.self.inside.counts.items)) (
    ap (λ (work : FetchedWork). commands_of (with_value t c.args.q c.args.cid (next work))) c.stop.ensures
    ∙ ap (λ x. commands_of (with_value t c.args.q c.args.cid x)) (stopped_one c.args.q c.args.cid c.args.abort k own)
    ∙ one_mapped (aborted c.args.q c.args.cid c.args.abort) c.args.q c.args.cid (spared c.args.q c.args.cid c.args.abort) t k c.self.invariant.0 c.self.invariant.1 has))
