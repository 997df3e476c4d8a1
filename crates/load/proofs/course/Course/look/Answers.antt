-- One more submitter is counted and noted after those that came.
use Rattle.std.proofs.{Common.{◌∙◌, List, ap, ap₂, arith, length, sym, ℕ}, lemmas.Slice.Zip.either_empty_from_Zip}
use Rattle.load.{proofs.{Loads.{all_lists_counted, one_list_counted}, Rounds.{no_lists_noted, one_list_noted, written_back}}, specs.{Rounds.noted, Tallies.{TaskEnd, both, no_tally, tally_from}}}
use Rattle.load.specs.declared.{plan.Planned.Planned, tally.Tally.Tally}
use Rattle.load.proofs.course.Course.look.Goals as goal

pub loop-plan-preserved : goal.loop-plan-preserved
loop-plan-preserved c =
    let inv = c.loop-plan.invariant in
    let told =
    c.look_at-looked.ensures
    ∙ ap₂ (λ (plan : List Planned) (ends : List TaskEnd). tally_from no_tally plan ends) c.deref.ensures.value c.deref-in-loop-plan.ensures.value in
    let steps = c.in-Some.ensures.steps in
    let slots = c.loop-plan.self.generations in
    let back =
    written_back slots.len slots.items c.note_writes.new.generations (sym c.deref_mut.ensures.len ∙ ap length c.deref_mut.ensures.value)
    (omega (arith, c.note_writes.auto.generations, ap length c.deref_mut.ensures.value)) in
    record {
      next = inv.next;
      finite = inv.finite;
      layout = inv.layout;
      seed = inv.seed;
      queues = inv.queues;
      round = inv.round;
      content = inv.content;
      tally = inv.tally;
      noted =
          one_list_noted (λ plan. plan.items) (λ list. list.items) slots.items _ _ _ _ _ c.in-Some.plan.now c.in-Some.list.now steps.0 steps.1
          (back ∙ (c.note_writes.ensures ∙ (ap (λ (gs : List ℕ). noted gs c.deref-in-loop-plan-2.result.now c.deref-in-loop-plan-3.result.now) c.deref_mut.ensures.value
          ∙ ap₂ (λ (plan : List Planned) (ends : List TaskEnd). noted slots.items plan ends) c.deref-in-loop-plan-2.ensures.value c.deref-in-loop-plan-3.ensures.value)))
          ∙ inv.noted;
      told =
          one_list_counted (λ plan. plan.items) (λ list. list.items) c.loop-plan.tally c.and-tally.result _ _ _ _ c.in-Some.plan.now c.in-Some.list.now steps.0 steps.1
          (c.and-tally.ensures ∙ ap (λ (looked : Tally). both c.loop-plan.tally looked) told)
          ∙ inv.told;
    }

pub returns-clause-told : goal.returns-clause-told
returns-clause-told c =
    sym (all_lists_counted (λ plan. plan.items) (λ list. list.items) c.loop-plan.tally _ _
    (either_empty_from_Zip c.loop-plan.plan-iterator c.next.new.self c.next.result c.in-None.is c.next.ensures.steps))
    ∙ c.loop-plan.invariant.told

pub returns-clause-noted : goal.returns-clause-noted
returns-clause-noted c =
    sym (no_lists_noted (λ plan. plan.items) (λ list. list.items) c.loop-plan.self.generations.items _ _
    (either_empty_from_Zip c.loop-plan.plan-iterator c.next.new.self c.next.result c.in-None.is c.next.ensures.steps))
    ∙ c.loop-plan.invariant.noted
