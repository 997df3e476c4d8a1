-- What the calls of an opening gave.
use Rattle.std.proofs.Common.{◌∙◌, ◌*◌, Option, ap, replicate, subst, sym, ℕ}
use Rattle.block_image.specs.Blocks.{block_count, blocks_at}
use Rattle.load.{proofs.Rounds.at_start, specs.{Course.commands_for, Layouts.IsLayoutFor, Loaded.IsFirst, declared.{content.Content.Content, layout.Layout.Layout}}}
use Rattle.step_core.specs.Opening.{opening_of}
use Rattle.load.proofs.run.open.Goals as goal

pub returns-clause-setting : goal.returns-clause-setting
returns-clause-setting c =
    let what = c.args.load.now in
    let image = c.args.image in
    let layout = c.in_ok-layout.layout in
    let course = c.in_ok-course.course in
    let made = c.in_ok-course.ensures in
    let shared = subst (λ (n : ℕ). IsLayoutFor what n layout) c.blocks-2.ensures.count c.in_ok-layout.ensures.shared in
    record {
      layout = subst (λ (x : Layout). IsLayoutFor what (block_count image) x) (sym made.layout) shared;
      seed = made.seed;
      queues_are = made.queues;
      round = made.round ∙ ap (λ (n : ℕ). commands_for what.command_blocks n what.log_limit) shared.submitters;
      first =
          subst (λ (x : Option Content). IsFirst what.verify what.seed (blocks_at image 0 course.layout.blocks) x) (sym made.content)
          (subst (λ (x : Layout). IsFirst what.verify what.seed (blocks_at image 0 x.blocks) c.in_ok-content.content) (sym made.layout) c.in_ok-content.ensures.first);
    }

pub returns-clause-start : goal.returns-clause-start
returns-clause-start c =
    let made = c.in_ok-course.ensures in
    at_start c.in_ok-course.course c.in-Ok.world.state (opening_of c.args.config c.args.image)
    (made.generations ∙ ap (λ (x : Layout). replicate (x.submitters * x.slots) 0) (sym made.layout)) c.in-Ok.ensures.opened made.tally
