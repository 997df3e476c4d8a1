-- Where no command is left, or none has an end, all are noted.
use Rattle.std.proofs.{Common.{◌∙◌, sym}, lemmas.Slice.Zip.either_empty_from_Zip}
use Rattle.load.proofs.Rounds.{none_noted}
use Rattle.load.proofs.look.note_writes.Goals as goal

pub returns : goal.returns
returns c =
    sym (none_noted c.loop-planned.generations _ _ (either_empty_from_Zip c.loop-planned.planned-iterator c.next.new.self c.next.result c.in-None.is c.next.ensures.steps))
    ∙ c.loop-planned.invariant
