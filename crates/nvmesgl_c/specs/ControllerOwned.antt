-- What a handle owns: what the controller that is held by its pointer owns.
use Rattle.std.specs.{Coded.coded_option, Global.Global, Option.option_map, Prelude.{◌≡◌, ◌==◌, ℕ, Bool, true, false, Option, Some, None, if◌then◌else◌}, contracts.impls.GlobalAllocator.TheImpl.ghosts}
use base.{Fml.Fml, Stored.Coded}
use denote.{RattleType.RattleType, RawPtr.Ptr}
use Rattle.nvmesgl_c.specs.{AnyControllers.AnyContents, HeldOwned.held_owns, Keeping.code_of_mark}
use Rattle.nvmesgl_c.specs.contracts.controller.any_controller.AnyController as any

abbrev pub Row : RattleType
Row = any.the_row

abbrev pub any_coded : Coded (Option AnyContents)
any_coded = coded_option Row.coded

abbrev pub kept_owns : Global → Ptr → Option AnyContents → Fml
kept_owns alloc at controller = held_owns (ghosts.dealloc_token alloc) Row at controller

-- the mark of a handle that keeps a controller with an image, and of one that keeps a controller whose blocks are lent
abbrev pub own_mark : ℕ
own_mark = 0x6C74_6363

abbrev pub lent_mark : ℕ
lent_mark = 0x6C74_636C

-- the kind that a mark tells
abbrev pub kind_of_mark : ℕ → Option Bool
kind_of_mark mark = if mark == own_mark then Some false else if mark == lent_mark then Some true else None

-- a handle has the mark of the kind that it keeps, exactly where it keeps one
abbrev pub IsMarkedKind : ℕ → Option AnyContents → Type 0
IsMarkedKind mark controller = option_map (λ d. d.lends) controller ≡ kind_of_mark mark

-- what a call is refused with that takes no handle of a mark
abbrev pub code_by_mark : ℕ → ℕ
code_by_mark mark = if mark == own_mark then 59 else if mark == lent_mark then 59 else code_of_mark mark
