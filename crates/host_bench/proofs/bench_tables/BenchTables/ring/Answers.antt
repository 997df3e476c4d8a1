use Rattle.std.{proofs.Common.{Some, ap, sym, refl, ◌∙◌}, specs.Option.option_map}
use Rattle.host_core.specs.{Doorbells.tail_bell, declared.doorbell.Doorbell.Doorbell}
use Rattle.host_bench.proofs.bench_tables.BenchTables.ring.Goals as goal

pub returns-in-Ok-clause-does : goal.returns-in-Ok-clause-does
returns-in-Ok-clause-does g c =
    ((c.in-Ok.ensures.step c.args.self.now.store.pages, refl), ap (option_map (tail_bell c.args.q)) c.in-Ok.ensures.tail ∙ ap (λ (b : Doorbell). Some b) (sym c.tail.ensures))
