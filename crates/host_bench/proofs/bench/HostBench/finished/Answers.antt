use Rattle.std.{proofs.Common.{◌≡◌, ◌∙◌, subst, sym}, specs.Option.{option_copied}}
use Rattle.machine_model.specs.Script.{Table, finished_at}
use Rattle.host_bench.{proofs.Benches.finished_there, specs.BenchTables.state_of}
use Rattle.host_bench.proofs.bench.HostBench.finished.Goals as goal

pub returns : goal.returns
returns g c =
    let kept = c.self.inside.kept in
    subst (λ (t : Table). option_copied c.finished_in.result ≡ finished_at c.args.q c.args.cid t.finished) c.self.view_is
    (c.finished_in.ensures ∙ sym (finished_there (state_of kept) kept.values c.args.q c.args.cid c.self.invariant.bench))
