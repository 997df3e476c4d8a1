use Rattle.controller_core.proofs.Counting.{count_read, counted_without, one_counted, outstanding, place_counted}
use Rattle.controller_core.proofs.Rows.{commands_of, found_rows, named_without, distinct_without, commands_without}
use Rattle.std.proofs.{Common.{length, ◌-◌, arith, ap, ap₂, sym, ◌∙◌}, lemmas.List.length-set}
use Rattle.controller_core.proofs.commands.Commands.take.Goals as goal

pub returns-in_err-command-clause-value : goal.returns-in_err-command-clause-value
returns-in_err-command-clause-value g c =
    rw (← c.self.view_is) (c.from_residual.ensures ∙ sym c.in_err-command.was ∙ c.take.ensures.value ∙ sym (found_rows _ c.args.q c.args.cid c.self.invariant.0))

pub returns-in_err-command-clause-rest : goal.returns-in_err-command-clause-rest
returns-in_err-command-clause-rest g c =
    let i = c.self.inside in
    rw (← c.self.view_is)
    (ap (outstanding (length i.counts.items)) (ap commands_of c.take.ensures.rest ∙ commands_without i.table c.args.q c.args.cid c.self.invariant.0 c.self.invariant.1))

pub index_mut-requires : goal.index_mut-requires
index_mut-requires g c =
    let i = c.self.inside in
    let inside = place_counted i.counts.items i.table c.args.q c.args.cid c.in_ok-command.command c.self.invariant.0 c.self.invariant.2 (sym c.take.ensures.value ∙ c.in_ok-command.was) in
    omega (arith, inside, c.from.ensures)

pub overflow_sub-index_mut : goal.overflow_sub-index_mut
overflow_sub-index_mut g c =
    let i = c.self.inside in
    let has = sym c.take.ensures.value ∙ c.in_ok-command.was in
    let inside = place_counted i.counts.items i.table c.args.q c.args.cid c.in_ok-command.command c.self.invariant.0 c.self.invariant.2 has in
    let counted = one_counted i.counts.items i.table c.args.q c.args.cid c.in_ok-command.command c.self.invariant.0 c.self.invariant.2 has in
    let read = count_read i.counts.items c.args.q c.from.result c.index_mut.result.now c.from.ensures inside c.index_mut.ensures.value in
    omega (arith, counted, read)

pub invariant_of-self-2 : goal.invariant_of-self-2
invariant_of-self-2 g c =
    let i = c.self.inside in
    let has = sym c.take.ensures.value ∙ c.in_ok-command.was in
    rw c.take.ensures.rest (
      named_without i.table c.args.q c.args.cid c.self.invariant.0,
      distinct_without i.table c.args.q c.args.cid c.self.invariant.1,
      counted_without i.counts.items i.table c.args.q c.args.cid c.from.result _ c.in_ok-command.command c.self.invariant.0 c.self.invariant.2 has c.from.ensures c.index_mut.ensures.value,
    )

pub returns-clause-value : goal.returns-clause-value
returns-clause-value g c = rw (← c.self.view_is) (sym c.in_ok-command.was ∙ c.take.ensures.value ∙ sym (found_rows _ c.args.q c.args.cid c.self.invariant.0))

pub returns-clause-rest : goal.returns-clause-rest
returns-clause-rest g c =
    let i = c.self.inside in
    rw (← c.self.view_is)
    (ap₂ outstanding (length-set i.counts.items c.from.result (c.index_mut.result.now - 1)) (ap commands_of c.take.ensures.rest ∙ commands_without i.table c.args.q c.args.cid c.self.invariant.0 c.self.invariant.1))
