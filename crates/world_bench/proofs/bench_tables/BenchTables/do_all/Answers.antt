use Rattle.std.proofs.{Common.{rules, List, [], ◌∷◌, ◌++◌, subst, sym, arith}, lemmas.Iterator.{Adapters.YieldsList-from_vec, Consumers.YieldsList-turn}}
use Rattle.std.proofs.lemmas.List.{length_push}
use Rattle.step_core.specs.Bench.{DoesAll}
use Rattle.step_core.specs.Values.{Reply}
use Rattle.world_bench.proofs.Benches.{does_more, touch_more}
use Rattle.world_bench.specs.BenchTables.{contents_of, table_of}
use Rattle.world_bench.specs.TouchingAll.{TouchAll}
use Rattle.world_bench.proofs.bench_tables.BenchTables.do_all.Goals as goal

pub loop-step-preserved : goal.loop-step-preserved
loop-step-preserved g c =
    let turn = YieldsList-turn (YieldsList-from_vec c.args.steps.items (search rules) (search rules)) c.loop-step.yielded c.loop-step.step-iterator c.loop-step.yielded_by c.next.result c.next.new.self c.in-Some.step c.in-Some.is c.next.ensures.steps in
    let more = length_push c.loop-step.yielded c.in-Some.step in
    record {
      bench = c.step-reply.ensures.kept;
      done =
          subst (λ (answers : List Reply). DoesAll (table_of c.args.self.now) (c.loop-step.yielded ++ c.in-Some.step ∷ []) answers (table_of c.step-reply.new.self))
          (sym {A = List Reply} c.push_reserved.ensures.items)
          (does_more (table_of c.args.self.now) (table_of c.loop-step.self) (table_of c.step-reply.new.self) c.loop-step.yielded c.loop-step.replies.items c.in-Some.step c.step-reply.result
          c.loop-step.invariant.done c.step-reply.ensures.does);
      touched =
          subst (λ (answers : List Reply). TouchAll (contents_of c.args.self.now) (c.loop-step.yielded ++ c.in-Some.step ∷ []) answers (contents_of c.step-reply.new.self))
          (sym {A = List Reply} c.push_reserved.ensures.items)
          (touch_more (contents_of c.args.self.now) (contents_of c.loop-step.self) (contents_of c.step-reply.new.self) c.loop-step.yielded c.loop-step.replies.items c.in-Some.step c.step-reply.result
          c.loop-step.invariant.touched c.step-reply.ensures.does c.step-reply.ensures.touches);
      answers = omega arith;
    }
