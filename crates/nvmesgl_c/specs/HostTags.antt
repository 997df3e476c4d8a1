-- The tags of a host's commands, each in the place of its queue and its identifier.
use Rattle.std.specs.Prelude.{◌≡◌, ℕ, None, List, unwrap_or}
use Rattle.slot_table.specs.Rows.{Row, value_at, without}

-- the tag of an identifier: 0 where none was given
abbrev pub tag_at : List (Row ℕ) → ℕ → ℕ → ℕ
tag_at tags q cid = unwrap_or (value_at tags q cid) 0

-- an identifier has this tag now, and all others have theirs
pub record IsTagged (old : List (Row ℕ)) (q cid tag : ℕ) (new : List (Row ℕ)) : Type 0 where
  pub told : tag_at new q cid ≡ tag
  pub others : without new q cid ≡ without old q cid

-- none was given
abbrev pub HasNone : List (Row ℕ) → ℕ → ℕ → Type 0
HasNone tags q cid = value_at tags q cid ≡ None
