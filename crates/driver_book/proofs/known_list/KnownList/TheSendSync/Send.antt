use denote.RattleType.{RattleType}
use denote.Param.Send.{IsSend}
use Rattle.driver_book.specs.declared.known_list.Naming.{Ghosts}
use Rattle.driver_book.specs.contracts.known_list.KnownList.{the_row}
use Rattle.driver_book.proofs.Keyless.{grows_keyless}

pub send : (E N : RattleType) (g : Ghosts N.Denot) → IsSend (the_row E N g)
send E N g = record { owned = λ d vs. ((λ vss. (tt, ((λ uss. (tt, tt)), tt))), grows_keyless E.coded.code g.list d.entries); leaving = λ k f vs. tt }
