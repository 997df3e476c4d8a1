-- A box by its pointer may cross threads where its value may: what frees its block names no thread.
use Rattle.std.specs.Prelude.{Option, Some, None}
use Rattle.std.specs.Global.{Global}
use Rattle.std.specs.contracts.impls.GlobalAllocator.TheImpl.{ghosts}
use Rattle.std.proofs.Crossing.{frees}
use mir.Raw.{raw}
use base.Shift.{Keyless}
use denote.{Builtin.RawPtr, Memory.lone, Param.Send.{IsSend, sendable}, RattleType.RattleType, RawPtr.Ptr}
use Rattle.std_alloc.proofs.SendSync.{lies}
use Rattle.nvmesgl_c.specs.HeldOwned.{held_owns}

pub held_keyless : (R : RattleType) → IsSend R → (alloc : Global) (at : Ptr) (x : Option R.Denot) → Keyless (held_owns (ghosts.dealloc_token alloc) R at x)
held_keyless R s alloc at (Some x) = (lies R s at x, frees.frees alloc (raw (lone R.mir)) at)
held_keyless R s alloc at None = tt

pub pointer_send : IsSend RawPtr
pointer_send = search sendable
