-- What was written is what is told of the lines done; a write that fails leaves a prefix of it.
use Rattle.std.proofs.{Common.{arith, sym, ◌≡◌, [], ◌∷◌, ◌++◌}, lemmas.Grind.common_steps}
use Rattle.script_cli.{proofs.Runs.{kept_gains, on_err}}
use Rattle.shell.{proofs.ToldRuns.{cut_at_the_end, cut_between, cut_inside, told_more, whole, whole_is_cut}, specs.Told.{IsToldTo}}
use Rattle.shell.proofs.told.Teller.tell.Goals as goal

pub returns-in_err-put-clause-cut : goal.returns-in_err-put-clause-cut
returns-in_err-put-clause-cut g c =
    let split : c.loop-numbered.yielded ++ c.in-Some.numbered ∷ c.next.new.self.rest.items ≡ c.args.script = rw (sym c.in-Some.ensures.steps.0) c.loop-numbered.invariant.lines in
    on_err c.from_residual-in_err-put.result
    (cut_inside c.args.self.telling c.args.bench.now.table c.args.script c.loop-numbered.yielded c.next.new.self.rest.items c.loop-numbered.bench.table c.loop-numbered.unwell c.in-Some.numbered c.as_bytes.result.now c.in_ok-more.more
    c.tell_line.new.bench.table _ _ _ split c.loop-numbered.invariant.told (rw c.as_bytes.ensures.value c.in_ok-more.ensures) c.in_err-put.ensures.front)

pub loop-numbered-preserved : goal.loop-numbered-preserved
loop-numbered-preserved g c =
    let split : c.loop-numbered.yielded ++ c.in-Some.numbered ∷ c.next.new.self.rest.items ≡ c.args.script = rw (sym c.in-Some.ensures.steps.0) c.loop-numbered.invariant.lines in
    record {
      lines = grind (arith, common_steps);
      told =
          told_more c.args.self.telling c.args.bench.now.table c.loop-numbered.yielded c.loop-numbered.bench.table c.loop-numbered.unwell c.in-Some.numbered c.as_bytes.result.now c.in_ok-more.more c.tell_line.new.bench.table _ _ _ _
          c.loop-numbered.invariant.told (rw c.as_bytes.ensures.value c.in_ok-more.ensures) c.saturating_add-unwell.ensures c.in_ok-put.ensures.written;
    }

pub returns-in_err-tell_counts-clause-cut : goal.returns-in_err-tell_counts-clause-cut
returns-in_err-tell_counts-clause-cut g c =
    on_err c.from_residual-in_err-tell_counts.result
    (cut_between c.args.self.telling c.args.bench.now.table c.args.script c.loop-numbered.yielded c.loop-numbered.numbered-iterator.rest.items c.loop-numbered.bench.table c.loop-numbered.unwell _ _ c.loop-numbered.invariant.lines
    c.loop-numbered.invariant.told)

pub returns-in_err-put-2-clause-cut : goal.returns-in_err-put-2-clause-cut
returns-in_err-put-2-clause-cut g c =
    let none : c.loop-numbered.numbered-iterator.rest.items ≡ [] = grind (arith, common_steps) in
    let all : c.loop-numbered.yielded ≡ c.args.script = grind (arith, common_steps) in
    on_err c.from_residual-in_err-put-2.result
    (cut_at_the_end c.args.self.telling c.args.bench.now.table c.args.script c.loop-numbered.bench.table c.loop-numbered.unwell c.as_bytes-2.result.now (g.W.Write.contents c.args.writer.now) (g.W.Write.contents c.loop-numbered.writer)
    (g.W.Write.contents c.put-2.new.writer) (rw (sym all) c.loop-numbered.invariant.told) (rw c.as_bytes-2.ensures.value c.in_ok-tell_counts.ensures) c.in_err-put-2.ensures.front)

pub returns-clause-ran : goal.returns-clause-ran
returns-clause-ran g c =
    let none : c.loop-numbered.numbered-iterator.rest.items ≡ [] = grind (arith, common_steps) in
    let all : c.loop-numbered.yielded ≡ c.args.script = grind (arith, common_steps) in
    (kept_gains _ _ _ (IsToldTo c.args.self.telling c.loop-numbered.bench.table c.loop-numbered.unwell c.args.bench.now.table c.args.script)
    (whole c.args.self.telling c.args.bench.now.table c.args.script c.loop-numbered.bench.table c.loop-numbered.unwell c.as_bytes-2.result.now (g.W.Write.contents c.args.writer.now) (g.W.Write.contents c.loop-numbered.writer)
    (g.W.Write.contents c.put-2.new.writer) (rw (sym all) c.loop-numbered.invariant.told) (rw c.as_bytes-2.ensures.value c.in_ok-tell_counts.ensures) c.in_ok-put-2.ensures.written)
    c.flush.ensures.kept)

pub returns-in_err-flush-clause-cut : goal.returns-in_err-flush-clause-cut
returns-in_err-flush-clause-cut g c =
    let none : c.loop-numbered.numbered-iterator.rest.items ≡ [] = grind (arith, common_steps) in
    let all : c.loop-numbered.yielded ≡ c.args.script = grind (arith, common_steps) in
    on_err c.from_residual-in_err-flush.result
    (whole_is_cut c.args.self.telling c.args.bench.now.table c.args.script c.loop-numbered.bench.table c.loop-numbered.unwell _ _
    (kept_gains _ _ _ (IsToldTo c.args.self.telling c.loop-numbered.bench.table c.loop-numbered.unwell c.args.bench.now.table c.args.script)
    (whole c.args.self.telling c.args.bench.now.table c.args.script c.loop-numbered.bench.table c.loop-numbered.unwell c.as_bytes-2.result.now (g.W.Write.contents c.args.writer.now) (g.W.Write.contents c.loop-numbered.writer)
    (g.W.Write.contents c.put-2.new.writer) (rw (sym all) c.loop-numbered.invariant.told) (rw c.as_bytes-2.ensures.value c.in_ok-tell_counts.ensures) c.in_ok-put-2.ensures.written)
    c.flush.ensures.kept))
