use Rattle.controller_core.{proofs.{Lists.{few_stay, length-change}, Awaited.{begun_in, begun_is, begun_unknown, on_err}}, specs.Contents.FetchedCommand}
use Rattle.controller_core.specs.{Managing.with_taken, Tables.Outstanding}
use Rattle.std.proofs.Common.{◌<◌, length, arith, ap, refl, sym, ◌∙◌}
use Rattle.controller_core.proofs.controller.Controller.keep_job.Goals as goal

pub put-requires : goal.put-requires
put-requires g c =
    let there : c.args.q < length c.self.inside.queues.items = rw (← c.self.view_is) at c.requires.there in
    let own = ap (λ (k : FetchedCommand). k.q) c.fetched.ensures in
    record {
      there = omega (arith, own, c.self.invariant.1, there);
      unknown = begun_unknown c.self.inside.commands.list c.args.q c.args.job.entry c.args.job c.fetched.result refl c.fetched.ensures (rw (← c.self.view_is) at c.requires.unknown);
    }

pub invariant_of-self-2 : goal.invariant_of-self-2
invariant_of-self-2 g c =
    let put = c.in_ok-put.ensures.put in (
      begun_in _ _ c.args.q c.args.job c.fetched.result _ c.self.inside.commands.list _ c.self.view_is c.self.invariant.0 c.requires.there c.requires.unknown
          c.requires.fits c.take_entry.ensures refl c.fetched.ensures (ap (λ (o : Outstanding). o.list) put),
      ap (λ (o : Outstanding). o.queues) put ∙ c.self.invariant.1 ∙ sym (ap length c.take_entry.ensures ∙ length-change c.args.q with_taken c.self.inside.queues.items),
      few_stay _ _ (ap length c.take_entry.ensures ∙ length-change c.args.q with_taken c.self.inside.queues.items) c.self.invariant.2,
    )

pub returns-clause-begun : goal.returns-clause-begun
returns-clause-begun g c =
    begun_is _ _ _ c.args.q c.args.job c.fetched.result _ c.self.inside.commands.list _ c.self.view_is
    c.take_entry.ensures refl c.fetched.ensures (ap (λ (o : Outstanding). o.list) c.in_ok-put.ensures.put) refl

pub returns-clause-sound : goal.returns-clause-sound
returns-clause-sound g c = (invariant_of-self-2 g c).0

pub returns-in_err-put-clause-refused : goal.returns-in_err-put-clause-refused
returns-in_err-put-clause-refused g c =
    let i = c.self.inside in
    rw (← c.self.view_is) (on_err c.from_residual.result (ap (λ (o : Outstanding). record { queues = i.queues.items; commands = o.list; image = g.I.Blocks.bytes i.image }) c.in_err-put.ensures.refused))
