-- The rounds of the commands and of the reads after them, and what was written.
use Rattle.std.proofs.Common.{subst}
use Rattle.script_cli.proofs.Runs.{on_err}
use Rattle.load.{proofs.Loads.front_written, specs.{Loaded.{IsReadAgain, setting_of, standing_of}, Rounds.{HasGoneOn, Setting, Standing}}}
use Rattle.load.proofs.run.run_load.Goals as goal

pub returns-in_err-tell_end-clause-cut : goal.returns-in_err-tell_end-clause-cut
returns-in_err-tell_end-clause-cut g c =
    on_err c.from_residual-in_err-tell_end.result
    (front_written c.args.load.now.pattern c.tally-tally.result (g.W.Write.contents c.args.writer.now) (g.W.Write.contents c.tell_end.new.writer) c.in_err-tell_end.ensures.cut)

pub returns-clause-ran : goal.returns-clause-ran
returns-clause-ran g c =
    let course = c.in_ok-world.course in
    let middle = standing_of c.run_commands.new.course c.in_ok-world-2.world.state in
    let end = standing_of c.read_if_verified.new.course c.in_ok-world-3.world.state in
    record {
      setting = setting_of course;
      is_setting = c.in_ok-world.ensures.setting;
      middle = middle;
      end = end;
      gone_on = subst (λ (x : Standing). HasGoneOn c.args.load.now (setting_of course) x middle) c.in_ok-world.ensures.start c.in_ok-world-2.ensures.gone_on;
      read_again = subst (λ (x : Setting). IsReadAgain c.args.load.now.verify x middle end) c.in_ok-world-2.ensures.setting c.in_ok-world-3.ensures;
      counts = c.tally-tally.ensures;
    }

pub invariant_of-course-in_err-tell_end : goal.invariant_of-course-in_err-tell_end
invariant_of-course-in_err-tell_end g c =
    let course = c.read_if_verified.new.course in
    record { some_queues = course.some_queues; all_picks = course.all_picks; all_slots = course.all_slots; whole = course.whole }
