-- What a handle owns: what the host that is held by its pointer owns.
use Rattle.std.specs.{Coded.coded_option, Global.Global, Prelude.{ℕ, Option}, contracts.impls.GlobalAllocator.TheImpl.ghosts}
use base.{Fml.Fml, Stored.Coded}
use denote.{RattleType.RattleType, RawPtr.Ptr}
use Rattle.nvmesgl_c.specs.declared.host.tagged.Tagged.{Tagged}
use Rattle.nvmesgl_c.specs.HeldOwned.{held_owns}
use Rattle.nvmesgl_c.specs.contracts.host.tagged.Tagged as tagged

abbrev pub Row : RattleType
Row = tagged.the_row

abbrev pub bench_coded : Coded (Option Tagged)
bench_coded = coded_option Row.coded

abbrev pub kept_owns : Global → Ptr → Option Tagged → Fml
kept_owns alloc at bench = held_owns (ghosts.dealloc_token alloc) Row at bench

-- the mark of a handle that keeps one
abbrev pub own_mark : ℕ
own_mark = 0x7473_6F68
