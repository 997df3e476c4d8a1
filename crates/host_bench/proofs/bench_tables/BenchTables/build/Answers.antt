use Rattle.std.proofs.Common.{refl, sym, ap, ◌∙◌}
use Rattle.std.specs.Option.{option_copied_mut, option_and_then}
use Rattle.host_bench.proofs.Benches.{builds_there, draft_at}
use Rattle.host_bench.specs.{BenchTables.state_of, CommandValues.as_draft}
use Rattle.host_bench.proofs.bench_tables.BenchTables.build.Goals as goal

pub returns-in-None-clause-does : goal.returns-in-None-clause-does
returns-in-None-clause-does g c =
    rw (draft_at (state_of c.args.self.now) c.args.self.now.values c.args.q c.args.cid c.requires.bench
    ∙ ap (option_and_then as_draft) (sym c.get_mut.ensures.value ∙ ap option_copied_mut c.in-None.is)) (refl, refl)

pub returns-in-Some-clause-does : goal.returns-in-Some-clause-does
returns-in-Some-clause-does g c =
    (builds_there (state_of c.args.self.now) c.args.self.now.values c.args.q c.args.cid c.in-Some.row.now c.build_row.new.row c.build_row.result c.requires.bench
    (sym c.get_mut.ensures.value ∙ ap option_copied_mut c.in-Some.is) c.build_row.ensures).0

pub returns-in-Some-clause-kept : goal.returns-in-Some-clause-kept
returns-in-Some-clause-kept g c =
    (builds_there (state_of c.args.self.now) c.args.self.now.values c.args.q c.args.cid c.in-Some.row.now c.build_row.new.row c.build_row.result c.requires.bench
    (sym c.get_mut.ensures.value ∙ ap option_copied_mut c.in-Some.is) c.build_row.ensures).1
