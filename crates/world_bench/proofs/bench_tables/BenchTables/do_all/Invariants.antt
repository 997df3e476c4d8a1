use Rattle.std.proofs.Common.{◌+◌, ◌-◌, ◌≤◌, length, vec_len, vec_capacity}
use Rattle.step_core.specs.Bench.{DoesAll}
use Rattle.world_bench.specs.BenchTables.{contents_of, table_of}
use Rattle.world_bench.specs.TouchingAll.{TouchAll}
use Rattle.host_bench.specs.CommandValues.{IsBench}
use Rattle.world_bench.proofs.bench_tables.BenchTables.do_all.Given as goal

abbrev pub invariant-loop-step : goal.invariant-loop-step
invariant-loop-step g l = record {
  bench : IsBench l.self.world.state l.self.values;
  done : DoesAll (table_of l.initial.self) l.yielded l.replies.items (table_of l.self);
  touched : TouchAll (contents_of l.initial.self) l.yielded l.replies.items (contents_of l.self);
  answers : vec_len l.replies + (length l.fn.steps.items - length l.yielded) ≤ vec_capacity l.replies;
}
