-- What an unwrap of a result requires.
use Rattle.std.specs.Prelude.{Result, Ok, Err, IsOk, IsErr, OnErr}
use Rattle.std.proofs.Common.{refl}

pub not-err : {T E : Type 0} (r : Result T E) → (IsErr r → ⊥) → IsOk r
not-err (Ok x) none = refl
not-err (Err e) none = absurd (none refl)

pub ok-from : {T E P : Type 0} (r : Result T E) → OnErr r P → (P → ⊥) → IsOk r
ok-from (Ok x) told none = refl
ok-from (Err e) told none = absurd (none told)
