-- What a handle of a controller keeps, as a call finds it.
use Rattle.std.specs.Option.{option_map_or}
use Rattle.std.specs.Prelude.{◌≡◌, ℕ, Bool, false, Option, Some, None, Result, Ok, Err, if◌then◌else◌}
use Rattle.controller_core.specs.Contents.{Contents}
use Rattle.nvmesgl_c.specs.{AnyControllers.AnyContents, ControllerOwned.code_by_mark, Keeping.cause_of_mark, declared.controller.handle.Handle.Handle}

abbrev pub Kept : Type 0
Kept = Result Contents Handle

-- a controller of either kind
abbrev pub kept_of : Handle → Option AnyContents → Kept
kept_of h (Some d) = Ok d.contents
kept_of h None = Err h

abbrev pub kept_in : Handle → Kept
kept_in h = kept_of h h.kept.controller

-- a controller with an image, and one whose blocks are lent: for a call that takes no other, a handle that keeps another keeps none
abbrev pub own_of : Handle → Option AnyContents → Kept
own_of h (Some d) = if d.lends then Err h else Ok d.contents
own_of h None = Err h

abbrev pub own_in : Handle → Kept
own_in h = own_of h h.kept.controller

abbrev pub lent_of : Handle → Option AnyContents → Kept
lent_of h (Some d) = if d.lends then Ok d.contents else Err h
lent_of h None = Err h

abbrev pub lent_in : Handle → Kept
lent_in h = lent_of h h.kept.controller

-- whether a controller is kept whose blocks are lent
abbrev pub lends_in : Handle → Bool
lends_in h = option_map_or (λ d. d.lends) h.kept.controller false

-- what a call is refused with, of a handle that keeps nothing, or no controller of the kind that the call takes
abbrev pub code_in : Handle → ℕ
code_in h = code_by_mark h.mark

abbrev pub IsClosed : Handle → Type 0
IsClosed h = h.mark ≡ 0

-- what an opening is refused with, before what is wrong with what it is given
abbrev pub cause_in : Kept → Option ℕ
cause_in (Ok t) = Some 2
cause_in (Err h) = cause_of_mark h.mark

-- a closing: what was kept is let go, and the handle is closed; one that keeps nothing stays as it is
abbrev pub Closes : Kept → Kept → Type 0
Closes (Err h) new = new ≡ Err h
Closes (Ok t) (Err h) = IsClosed h
Closes (Ok t) (Ok new) = ⊥
