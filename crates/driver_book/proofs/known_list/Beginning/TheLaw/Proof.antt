-- A `&` to a beginning holds what it knows, which can be had twice. Assumes `Logic`.
use mathlib.Core.List.{[], ◌∷◌}
use base.Logic.{snd∗}
use base.Before.{before}
use types.Logic.{sem}
use denote.RattleType.{RattleType}
use denote.Param.Laws.{Laws}
use denote.Param.Shared.{copy_shared}
use denote.Struct.Tuple.{Tuple}
use denote.Struct.Laws.{field_copy}
use denote.Struct.Lending.{of_Lends}
use Rattle.core.specs.contracts.marker.PhantomData as marker
use Rattle.driver_book.specs.KnownLists.{reached}
use Rattle.driver_book.specs.declared.known_list.Naming.{Ghosts}
use Rattle.driver_book.specs.contracts.known_list.Beginning as C
use Rattle.driver_book.proofs.Growth.{twice}
use Rattle.logbook.proofs.Fields.{lends_twice}
use Rattle.driver_book.proofs.known_list.Beginning.TheLaw.Statement.{statement}

pub shares : (E N : RattleType) (g : Ghosts N.Denot) (L : Laws E) (L' : Laws N) → statement E N g L L'
shares E N g L L' = let All = Tuple (E ∷ N ∷ []) in
    of_Lends (C.struct E N g) (C.the_codes E.Denot N.Denot E.coded N.coded (marker.the_row All).coded) (C.the_heap E N g) (C.the_lent E N g)
    (λ d p. record { contraction = λ M 𝓤 𝓛 κ. twice E.coded 𝓛 g.list d.entries; mono = λ M 𝓤 𝓛 κ' κ. snd∗ 𝓤 (sem 𝓛 (before κ' κ)) (sem 𝓛 (reached E.coded.code g.list d.entries)) })
    (copy_shared (marker.the_field All) (field_copy (marker.the_type All) tt), tt)
    (λ M 𝓤 𝓛 d p. lends_twice 𝓛 (reached E.coded.code g.list d.entries) (twice E.coded 𝓛 g.list d.entries) (C.the_row E N g).lives)
