-- What a list and a beginning of one own: the right to lengthen it, and that it was once this long. The entries are kept as their ghost values, in an algebra that
-- names no type parameter.
use Rattle.std.specs.Prelude.{ℕ, List, map}
use base.Fraction.{full_share}
use base.Stored.{Gv, Coded}
use base.Growing.{Order, prefixes, latest, at_least}
use base.Fml.{Fml}

abbrev pub itself : Coded Gv
itself = record { code = λ g. g; inj = λ x y p. p }

abbrev pub lists : Order (List Gv)
lists = prefixes itself

unfoldable pub grows : {E : Type 0} → (E → Gv) → ℕ → List E → Fml
grows code name entries = latest lists full_share name (map code entries)

unfoldable pub reached : {E : Type 0} → (E → Gv) → ℕ → List E → Fml
reached code name entries = at_least lists name (map code entries)
