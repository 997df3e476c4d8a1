use Rattle.std.proofs.{Common.{◌∙◌, sym}, lemmas.Slice.Zip.either_empty_from_Zip}
use Rattle.load.proofs.Loads.{all_counted}
use Rattle.load.proofs.look.look_at.Goals as goal

pub returns : goal.returns
returns c =
    sym (all_counted c.loop-planned.looked.tally _ _ (either_empty_from_Zip c.loop-planned.planned-iterator c.next.new.self c.next.result c.in-None.is c.next.ensures.steps))
    ∙ c.loop-planned.invariant
