-- What is written, one after the other.
use Rattle.std.proofs.Common.{◌∙◌, ap, subst, List, [], ◌∷◌, ◌++◌, append_assoc, Some, None, OnOk, Result, Ok, Err}
use Rattle.serde.specs.Event.{Event, Log, Logs}
use Rattle.load.specs.Objects.{Adds, AddsTo}

pub one : {e : Event} {old new : Log} → Logs old new e → Adds (e ∷ []) old new
one {e} {old} {new} = to old
  where
    to : (old : Log) → Logs old new e → Adds (e ∷ []) old new
    to None logs = record { added = tt }
    to (Some before) logs = record { added = logs }

pub then : {es fs : List Event} {old mid new : Log} → Adds es old mid → Adds fs mid new → Adds (es ++ fs) old new
then {es} {fs} {old} {mid} {new} first second = record { added = to old first.added }
  where
    to : (old : Log) → AddsTo es old mid → AddsTo (es ++ fs) old new
    to None is = tt
    to (Some before) is =
        let behind : AddsTo fs (Some (before ++ es)) new = subst (λ log. AddsTo fs log new) is second.added in
        behind ∙ ap (λ (events : List Event). Some events) (append_assoc before es fs)

-- so where the last of it ended well
pub ended : {T E : Type 0} (result : Result T E) (last : Event) {es : List Event} {old mid : Log} (new : Log) → Adds es old mid
    → OnOk result (Logs mid new last) → OnOk result (Adds (es ++ last ∷ []) old new)
ended (Ok _) last new first logs = then first (one logs)
ended (Err _) last new first logs = logs
