-- The owners whose pages one give-back frees.
use Rattle.std.specs.Prelude.{Bool}
use Rattle.page_ledger.specs.{Owners.{is_command, is_half, is_queue}, declared.owner.{Group.Group, Owner.Owner}}
use Rattle.page_ledger.specs.declared.owner.Group.TheVariants as group

-- whether one of these owners owns the page
abbrev pub is_member : Group → Owner → Bool
is_member (group.Command q cid) = is_command q cid
is_member (group.Half q half) = is_half q half
is_member (group.Queue q) = is_queue q
