use denote.RattleType.{RattleType}
use denote.Param.Send.{IsSync, sendable}
use denote.Struct.{Struct.Struct, Owning.shape}
use Rattle.driver_book.specs.declared.known_list.Naming.{Ghosts}
use Rattle.driver_book.specs.contracts.known_list.Beginning.{the_row, the_type}
use Rattle.driver_book.proofs.Keyless.{reached_keyless}

pub sync : (E N : RattleType) (g : Ghosts N.Denot) → IsSync (the_row E N g)
sync E N g = let fields : IsSync (Struct (shape (the_type E N g))) = search sendable depth 20 in
    record { shared = λ d b o ν. (fields.shared (tt, tt) b o ν, reached_keyless E.coded.code g.list d.entries) }
