-- What was written is what the lines done print; a write that fails leaves a prefix of it.
use Rattle.std.proofs.{Common.{arith, sym, ◌≡◌, [], ◌∷◌, ◌++◌}, lemmas.Grind.common_steps}
use Rattle.script_cli.proofs.Runs.{on_err, printed_more, cut_between, cut_inside, cut_in_counts, whole_run, whole_text, kept_gains, whole_is_cut}
use Rattle.script_cli.specs.Runs.{last_line, IsRunText, IsRunTo}
use Rattle.script_cli.proofs.run.play.Goals as goal

pub returns-in_err-put-clause-cut : goal.returns-in_err-put-clause-cut
returns-in_err-put-clause-cut g c =
    let split : c.loop-numbered.yielded ++ c.in-Some.numbered ∷ c.next.new.self.rest.items ≡ c.args.script = rw (sym c.in-Some.ensures.steps.0) c.loop-numbered.invariant.lines in
    on_err c.from_residual-in_err-put.result
    (cut_inside c.args.bench.now.table c.args.script c.loop-numbered.yielded c.next.new.self.rest.items c.loop-numbered.bench.table c.loop-numbered.unwell c.in-Some.numbered c.as_bytes.result.now c.in_ok-more.more c.play_line.new.bench.table _ _ _ split
    c.loop-numbered.invariant.printed (rw c.as_bytes.ensures.value c.in_ok-more.ensures) c.in_err-put.ensures.front)

pub loop-numbered-preserved : goal.loop-numbered-preserved
loop-numbered-preserved g c =
    let split : c.loop-numbered.yielded ++ c.in-Some.numbered ∷ c.next.new.self.rest.items ≡ c.args.script = rw (sym c.in-Some.ensures.steps.0) c.loop-numbered.invariant.lines in
    record {
      lines = grind (arith, common_steps);
      printed =
          printed_more c.args.bench.now.table c.loop-numbered.yielded c.loop-numbered.bench.table c.loop-numbered.unwell c.in-Some.numbered c.as_bytes.result.now c.in_ok-more.more c.play_line.new.bench.table _ _ _ _ c.loop-numbered.invariant.printed
          (rw c.as_bytes.ensures.value c.in_ok-more.ensures) c.saturating_add-unwell.ensures c.in_ok-put.ensures.written;
    }

pub returns-in_err-append_counts-clause-cut : goal.returns-in_err-append_counts-clause-cut
returns-in_err-append_counts-clause-cut g c =
    on_err c.from_residual-in_err-append_counts.result
    (cut_between c.args.bench.now.table c.args.script c.loop-numbered.yielded c.loop-numbered.numbered-iterator.rest.items c.loop-numbered.bench.table c.loop-numbered.unwell _ _ c.loop-numbered.invariant.lines c.loop-numbered.invariant.printed)

pub returns-in_err-put-2-clause-cut : goal.returns-in_err-put-2-clause-cut
returns-in_err-put-2-clause-cut g c =
    let none : c.loop-numbered.numbered-iterator.rest.items ≡ [] = grind (arith, common_steps) in
    let all : c.loop-numbered.yielded ≡ c.args.script = grind (arith, common_steps) in
    let counts : c.as_bytes-2.result.now ≡ last_line [] c.loop-numbered.bench.table = grind (arith, common_steps) in
    on_err c.from_residual-in_err-put-2.result
    (cut_in_counts c.args.bench.now.table c.args.script c.loop-numbered.bench.table c.loop-numbered.unwell (g.W.Write.contents c.args.writer.now) (g.W.Write.contents c.loop-numbered.writer) (g.W.Write.contents c.put-2.new.writer)
    (rw (sym all) c.loop-numbered.invariant.printed) (rw (sym counts) c.in_err-put-2.ensures.front))

pub returns-clause-ran : goal.returns-clause-ran
returns-clause-ran g c =
    let none : c.loop-numbered.numbered-iterator.rest.items ≡ [] = grind (arith, common_steps) in
    let all : c.loop-numbered.yielded ≡ c.args.script = grind (arith, common_steps) in
    let counts : c.as_bytes-2.result.now ≡ last_line [] c.loop-numbered.bench.table = grind (arith, common_steps) in
    (kept_gains _ _ _ (IsRunTo c.loop-numbered.bench.table c.loop-numbered.unwell c.args.bench.now.table c.args.script)
    (whole_run c.args.bench.now.table c.args.script c.loop-numbered.bench.table c.loop-numbered.unwell (g.W.Write.contents c.args.writer.now) (g.W.Write.contents c.loop-numbered.writer) (g.W.Write.contents c.put-2.new.writer)
    (rw (sym all) c.loop-numbered.invariant.printed) (rw (sym counts) c.in_ok-put-2.ensures.written))
    c.flush.ensures.kept)

pub returns-in_err-flush-clause-cut : goal.returns-in_err-flush-clause-cut
returns-in_err-flush-clause-cut g c =
    let none : c.loop-numbered.numbered-iterator.rest.items ≡ [] = grind (arith, common_steps) in
    let all : c.loop-numbered.yielded ≡ c.args.script = grind (arith, common_steps) in
    let counts : c.as_bytes-2.result.now ≡ last_line [] c.loop-numbered.bench.table = grind (arith, common_steps) in
    on_err c.from_residual-in_err-flush.result
    (whole_is_cut c.args.bench.now.table c.args.script _ _
    (kept_gains _ _ _ (IsRunText c.args.bench.now.table c.args.script)
    (whole_text c.args.bench.now.table c.args.script c.loop-numbered.bench.table c.loop-numbered.unwell (g.W.Write.contents c.args.writer.now) (g.W.Write.contents c.loop-numbered.writer) (g.W.Write.contents c.put-2.new.writer)
    (rw (sym all) c.loop-numbered.invariant.printed) (rw (sym counts) c.in_ok-put-2.ensures.written))
    c.flush.ensures.kept))
