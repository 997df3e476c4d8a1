-- What a list and a beginning own names no thread.
use Prim.Native.Nat.{ℕ}
use mathlib.Core.List.{List}
use base.Stored.{Gv}
use base.Growing.{latest, at_least}
use base.Shift.{Keyless}
use Rattle.driver_book.specs.KnownLists.{grows, reached}

pub grows_keyless : {E : Type 0} (code : E → Gv) (name : ℕ) (entries : List E) → Keyless (grows code name entries)
unfolding grows latest
grows_keyless code name entries = tt

pub reached_keyless : {E : Type 0} (code : E → Gv) (name : ℕ) (entries : List E) → Keyless (reached code name entries)
unfolding reached at_least
reached_keyless code name entries = tt
