-- The rounds go on by one; where no command is left, they have gone on.
use Rattle.std.proofs.Common.{◌∙◌, arith, rules, sym}
use Rattle.load.{proofs.Rounds.gone_on_by, specs.Loaded.{setting_of, standing_of}}
use Rattle.load.proofs.run.run_commands.Goals.{in-None, in-Some+then-more-eq0}
use Rattle.load.proofs.run.run_commands.Goals as goal

pub loop-preserved : goal.loop-preserved
loop-preserved g c =
    let inv = c.loop.invariant in
    let ran = c.in_ok-after.ensures in
    record {
      next = inv.next;
      finite = inv.finite;
      gone_on =
          gone_on_by c.args.load.now (setting_of c.args.course.now) (setting_of c.loop.course) 0 (standing_of c.args.course.now c.args.world.state) inv.gone_on.0 c.loop.begun
          (standing_of c.loop.course c.loop.world.state) c.nanos-nanos.result c.commands_left-more.result c.in_ok-after.many c.saturating_add-begun.result
          (standing_of c.run_some.new.course c.in_ok-after.after.state) inv.gone_on.1 inv.setting c.commands_left-more.ensures (omega (arith, c.if-more-eq0.false)) ran.done c.saturating_add-begun.ensures;
      setting = ran.setting ∙ inv.setting;
    }

pub returns-clause-gone_on : goal.returns-clause-gone_on
returns-clause-gone_on g c =
    let gone = c.loop.invariant.gone_on in
    elim c.match-next.branch [
      | in-None w ↦ absurd (search rules)
      | in-Some+then-more-eq0 w ↦
          record { rounds = gone.0; begun = c.loop.begun; nanos = w.nanos-nanos.result; go_on = gone.1; none_left = sym w.commands_left-more.ensures ∙ w.if-more-eq0.true }
    ]
