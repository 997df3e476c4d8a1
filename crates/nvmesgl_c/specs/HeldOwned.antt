-- What a box by its pointer owns, where there is one.
use Rattle.std.specs.{Box.Ownership.box_owns, Prelude.{Option, Some, None}}
use mir.Syntax.{Ty}
use base.Fml.{Fml, ftrue}
use denote.{RattleType.RattleType, RawPtr.Ptr}

-- a value is owned with the right to free its block
abbrev pub held_owns : (Ty → Ptr → Fml) → (R : RattleType) → Ptr → Option R.Denot → Fml
held_owns holds R at (Some x) = box_owns holds R at x
held_owns holds R at None = ftrue
