-- The rounds of reads go on by one; where no slot is left, each was read.
use Rattle.std.proofs.Common.{◌∙◌, ◌+◌, arith, ap, ℕ}
use Rattle.load.{proofs.Rounds.read_on_by, specs.{Loaded.{setting_of, standing_of}, Rounds.{Setting, reads_of}}}
use Rattle.load.proofs.run.read_again.Goals as goal

pub loop-from-preserved : goal.loop-from-preserved
loop-from-preserved g c =
    let inv = c.loop-from.invariant in
    let from = c.loop-from.from in
    let ran = c.in_ok-world.ensures in
    let same = ran.setting ∙ inv.setting in
    let slots = ap (λ (s : Setting). s.layout.slots) inv.setting in
    record {
      read_on =
          read_on_by (setting_of c.args.course.now) (setting_of c.loop-from.course) 0 (standing_of c.args.course.now c.args.world.state) inv.read_on.0 from
          (standing_of c.loop-from.course c.loop-from.world.state) (from + c.round_slots-from.result) (standing_of c.read_some.new.course c.in_ok-world.world.state) inv.read_on.1 inv.setting
          (omega (arith, c.loop-from-test.true, c.slots.ensures, slots)) ran.done (ap (λ (n : ℕ). from + n) (c.round_slots-from.ensures ∙ ap reads_of same));
      setting = same;
    }

pub returns : goal.returns
returns g c =
    let inv = c.loop-from.invariant in
    let slots = ap (λ (s : Setting). s.layout.slots) inv.setting in
    record { rounds = inv.read_on.0; at = c.loop-from.from; read_on = inv.read_on.1; all = omega (arith, c.loop-from-test.false, c.slots.ensures, slots) }
