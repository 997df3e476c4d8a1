-- Cases of a look-up, with their equation; nothing is no value.
use Rattle.std.proofs.Common.{◌≡◌, ◌⊎◌, inl, inr, Option, Some, None, refl}
use Rattle.slot_table.proofs.Rows.{option_is}

pub none_some : {A : Type 0} {x : A} → None ≡ Some x → ⊥
none_some e = cc
