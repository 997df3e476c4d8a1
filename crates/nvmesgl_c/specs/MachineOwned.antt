-- What a handle owns: what the bench that is held by its pointer owns.
use Rattle.std.specs.{Coded.coded_option, Global.Global, Prelude.{ℕ, Option}, contracts.impls.GlobalAllocator.TheImpl.ghosts}
use base.{Fml.Fml, Stored.Coded}
use denote.{RattleType.RattleType, RawPtr.Ptr}
use Rattle.machine_model.specs.Script.{Table}
use Rattle.nvmesgl_c.specs.HeldOwned.{held_owns}
use Rattle.nvmesgl_c.specs.contracts.machine.desk.Desk as desk

abbrev pub Row : RattleType
Row = desk.the_row

abbrev pub bench_coded : Coded (Option Table)
bench_coded = coded_option Row.coded

abbrev pub kept_owns : Global → Ptr → Option Table → Fml
kept_owns alloc at bench = held_owns (ghosts.dealloc_token alloc) Row at bench

-- the mark of a handle that keeps one
abbrev pub own_mark : ℕ
own_mark = 0x6863_616D
