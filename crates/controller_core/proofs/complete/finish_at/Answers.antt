use Rattle.controller_core.proofs.{Ended.found_lacks, Managing.{finished_kept, length_finished}, Rows.{is_found, end_fits, over_fits, finishes_in}}
use Rattle.controller_core.specs.{Tables.Outstanding}
use Rattle.std.{proofs.Common.{◌<◌, refl, sym, ◌∙◌, ap, subst}, specs.Option.option_copied}
use Rattle.entry_codec.specs.declared.status.Status.{Status}
use Rattle.controller_core.proofs.complete.finish_at.Goals as goal

pub end-dw0-requires-clause-over : goal.end-dw0-requires-clause-over
end-dw0-requires-clause-over g c =
    let f = is_found _ c.args.q c.args.cid _ c.requires.sound (sym c.get.ensures.found ∙ ap option_copied c.unwrap.ensures) in
    over_fits _ _ _ _ f.fits

pub end-dw0-requires-clause-at_hand : goal.end-dw0-requires-clause-at_hand
end-dw0-requires-clause-at_hand g c =
    sym (found_lacks (g.I.Blocks.at_hand c.args.image.now) c.args.commands.now.list c.args.q c.args.cid _ (sym c.get.ensures.found ∙ ap option_copied c.unwrap.ensures)) ∙ c.requires.at_hand

pub post_at-requires-clause-there : goal.post_at-requires-clause-there
post_at-requires-clause-there g c =
    (is_found _ c.args.q c.args.cid _ c.requires.sound (sym c.get.ensures.found ∙ ap option_copied c.unwrap.ensures)).there

pub post_at-requires-clause-fits : goal.post_at-requires-clause-fits
post_at-requires-clause-fits g c =
    let f = is_found _ c.args.q c.args.cid _ c.requires.sound (sym c.get.ensures.found ∙ ap option_copied c.unwrap.ensures) in
    subst (λ (st : Status). st.sct < 8) (sym c.end-dw0.ensures.status) (end_fits (g.I.Blocks.bytes c.args.image.now) _ _ _ _ f.fits)

pub settle-requires-clause-over : goal.settle-requires-clause-over
settle-requires-clause-over g c =
    let f = is_found _ c.args.q c.args.cid _ c.requires.sound (sym c.take.ensures.value ∙ c.unwrap-command.ensures) in
    over_fits _ _ _ _ f.fits

pub settle-requires-clause-at_hand : goal.settle-requires-clause-at_hand
settle-requires-clause-at_hand g c =
    sym (found_lacks (g.I.Blocks.at_hand c.args.image.now) c.args.commands.now.list c.args.q c.args.cid _ (sym c.take.ensures.value ∙ c.unwrap-command.ensures)) ∙ c.requires.at_hand

pub returns-clause-completes : goal.returns-clause-completes
returns-clause-completes g c =
    let f = is_found _ c.args.q c.args.cid _ c.requires.sound (sym c.get.ensures.found ∙ ap option_copied c.unwrap.ensures) in
    let f' = is_found _ c.args.q c.args.cid _ c.requires.sound (sym c.take.ensures.value ∙ c.unwrap-command.ensures) in
    finishes_in _ _ _ _ _ c.args.q c.args.cid _ _ _ _ _ _ _ _ _ _ refl f f' c.end-dw0.ensures.status c.end-dw0.ensures.dw0 c.in_ok-post_at.ensures.posts (ap (λ (o : Outstanding). o.list) c.take.ensures.rest) c.settle.ensures.queues c.settle.ensures.image c.settle.ensures.as_long refl

pub returns-clause-sound : goal.returns-clause-sound
returns-clause-sound g c =
    let m = g.D.Dma.memory c.args.dma.now in
    finished_kept _ _ _ c.args.q c.args.cid c.unwrap-command.result _ _ _ _ _ _ _ _ c.requires.sound (c.requires.ready m ∙ sym c.in_ok-post_at.ensures.refusal) c.in_ok-post_at.ensures.posts (ap (λ (o : Outstanding). o.list) c.take.ensures.rest) c.settle.ensures.queues c.settle.ensures.as_long

pub returns-clause-count : goal.returns-clause-count
returns-clause-count g c = length_finished _ _ _ c.unwrap-command.result.work _ _ _ _ _ _ _ _ c.in_ok-post_at.ensures.posts c.settle.ensures.queues
