use Rattle.std.proofs.Common.{ℕ, ◌<◌, ◌^◌, List, length, arith, ap, ap₂, subst, sym, ◌∙◌}
use Rattle.admin_commands.specs.{Verdicts.decision, declared.DeviceView.DeviceView}
use Rattle.entry_codec.specs.declared.status.Status.{Status}
use Rattle.controller_core.proofs.{Lists.{few_stay, length-change}, Managing.{length-after, decision_names, managed_is, managed_sound}}
use Rattle.controller_core.specs.{Contents.{Contents, FetchedCommand}, Managing.{NamesPages, command_of, view_for, with_taken}, Tables.Outstanding}
use Rattle.controller_core.specs.declared.{command.FetchedWork.TheVariants.Admin, queue.ControllerQueue.ControllerQueue}
use Rattle.controller_core.proofs.controller.Controller.manage_entry.Goals as goal

pub put-requires : goal.put-requires
put-requires g c =
    let own = c.fetched.ensures in
    let there : 0 < length c.self.inside.queues.items = rw (← c.self.view_is) at c.requires.there in
    let zeroth = ap (λ (k : FetchedCommand). k.q) own in
    record { there = omega (arith, zeroth, c.self.invariant.1, there); unknown = rw (own) (rw (← c.self.view_is) at c.requires.unknown) }

pub view_of-requires-clause-few : goal.view_of-requires-clause-few
view_of-requires-clause-few g c = few_stay _ _ (ap length c.deref.ensures.value) c.self.invariant.2

pub act-requires : goal.act-requires
act-requires g c =
    let few : c.view_of.result.pages < 2 ^ 32 = omega (arith, ap (λ (view : DeviceView). view.pages) c.view_of.ensures) in
    record { pages = subst NamesPages (sym c.decide-verdict.ensures) (decision_names c.args.entry c.view_of.result few) }

pub invariant_of-self-2 : goal.invariant_of-self-2
invariant_of-self-2 g c =
    let i = c.self.inside in
    let old : Contents = record { queues = i.queues.items; commands = i.commands.list; image = g.I.Blocks.bytes i.image } in
    let r = rw (← c.self.view_is) at c.requires in (
      managed_sound c.args.pages old _ c.args.entry c.self.invariant.0 r.there r.unknown
          (managed_is c.args.pages old c.args.entry c.decide-verdict.result c.take_entry.new.queues.items c.act.new.queues.items c.put.new.self.list c.act.new.commands.list c.fetched.result
          (c.decide-verdict.ensures ∙ ap (decision c.args.entry) (c.view_of.ensures ∙ ap (λ (qs : List ControllerQueue). view_for c.args.pages qs i.commands.list c.args.entry) c.deref.ensures.value))
          c.take_entry.ensures c.act.ensures.queues
          (c.fetched.ensures ∙ ap₂ (λ (st : Status) (d : ℕ). command_of 0 (Admin c.args.entry st d)) c.end_of-dw0.ensures.status c.end_of-dw0.ensures.dw0)
          (ap (λ (o : Outstanding). o.list) c.in_ok-put.ensures.put) (ap (λ (o : Outstanding). o.list) c.act.ensures.commands)),
      ap (λ (o : Outstanding). o.queues) c.act.ensures.commands ∙ ap (λ (o : Outstanding). o.queues) c.in_ok-put.ensures.put ∙ c.self.invariant.1
          ∙ sym (ap length c.act.ensures.queues ∙ length-after c.decide-verdict.result c.take_entry.new.queues.items ∙ ap length c.take_entry.ensures ∙ length-change 0 with_taken i.queues.items),
      few_stay _ _ (ap length c.act.ensures.queues ∙ length-after c.decide-verdict.result c.take_entry.new.queues.items ∙ ap length c.take_entry.ensures ∙ length-change 0 with_taken i.queues.items) c.self.invariant.2,
    )

pub returns-clause-managed : goal.returns-clause-managed
returns-clause-managed g c =
    let i = c.self.inside in
    let old : Contents = record { queues = i.queues.items; commands = i.commands.list; image = g.I.Blocks.bytes i.image } in
    rw (← c.self.view_is) (managed_is c.args.pages old c.args.entry c.decide-verdict.result c.take_entry.new.queues.items c.act.new.queues.items c.put.new.self.list c.act.new.commands.list c.fetched.result
    (c.decide-verdict.ensures ∙ ap (decision c.args.entry) (c.view_of.ensures ∙ ap (λ (qs : List ControllerQueue). view_for c.args.pages qs i.commands.list c.args.entry) c.deref.ensures.value))
    c.take_entry.ensures c.act.ensures.queues
    (c.fetched.ensures ∙ ap₂ (λ (st : Status) (d : ℕ). command_of 0 (Admin c.args.entry st d)) c.end_of-dw0.ensures.status c.end_of-dw0.ensures.dw0)
    (ap (λ (o : Outstanding). o.list) c.in_ok-put.ensures.put) (ap (λ (o : Outstanding). o.list) c.act.ensures.commands))

pub returns-clause-sound : goal.returns-clause-sound
returns-clause-sound g c = (invariant_of-self-2 g c).0
