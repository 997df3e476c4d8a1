-- What a call finds in a handle: the value that it keeps, or, where it keeps none, the handle as it is.
use Rattle.std.specs.Prelude.{◌≡◌, ◌==◌, ℕ, Option, Some, None, Result, Ok, Err, is_some, if◌then◌else◌}

abbrev pub keeps : {T H : Type 0} → Option T → H → Result T H
keeps (Some t) h = Ok t
keeps None h = Err h

-- a handle has the mark of its kind exactly where it keeps a value
abbrev pub IsMarked : {T : Type 0} → ℕ → ℕ → Option T → Type 0
IsMarked own mark value = is_some value ≡ (mark == own)

-- what a handle that keeps nothing is refused with, by its mark: it is closed, or no handle of this kind
abbrev pub code_of_mark : ℕ → ℕ
code_of_mark mark = if mark == 0 then 1 else 57

-- what an opening of it is refused with
abbrev pub cause_of_mark : ℕ → Option ℕ
cause_of_mark mark = if mark == 0 then None else Some 57

-- what an opening of any handle is refused with, by the mark of its kind and its own: it is open, or no handle of this kind
abbrev pub cause_by : ℕ → ℕ → Option ℕ
cause_by own mark = if mark == own then Some 2 else cause_of_mark mark
