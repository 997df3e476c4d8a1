use Rattle.std.{proofs.Common.{◌≡◌, ◌∙◌, subst, sym}, specs.Option.{option_copied}}
use Rattle.machine_model.specs.Script.{finished_at}
use Rattle.host_bench.proofs.Benches.{finished_there}
use Rattle.world_bench.specs.BenchTables.{BenchContents}
use Rattle.world_bench.proofs.bench.Bench.finished.Goals as goal

pub returns : goal.returns
returns g c =
    let kept = c.self.inside.kept in
    subst (λ (b : BenchContents). option_copied c.finished_in.result ≡ finished_at c.args.q c.args.cid b.table.finished) c.self.view_is
    (c.finished_in.ensures ∙ sym (finished_there kept.world.state kept.values c.args.q c.args.cid c.self.invariant))
