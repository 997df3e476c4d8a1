-- What captures six values, with the mark of a closure, may go to another thread where each of the seven may.
use mathlib.Core.List.{[], ◌∷◌}
use mir.Syntax.{Sym}
use denote.RattleType.{RattleType}
use denote.Param.Send.{IsSend}
use denote.Param.SendFields.{as_row_send, declared_send}
use denote.Struct.Field.{row_field}
use denote.Struct.Tuple.{TupleAt, type_at}

pub seven_send : (ν : Sym) (a b c d e f h : RattleType) → IsSend a → IsSend b → IsSend c → IsSend d → IsSend e → IsSend f → IsSend h → IsSend (TupleAt ν (a ∷ b ∷ c ∷ d ∷ e ∷ f ∷ h ∷ []))
seven_send ν a b c d e f h sa sb sc sd se sf sh =
    declared_send (type_at ν (a ∷ b ∷ c ∷ d ∷ e ∷ f ∷ h ∷ []))
    (as_row_send (row_field a) sa, (as_row_send (row_field b) sb, (as_row_send (row_field c) sc, (as_row_send (row_field d) sd, (as_row_send (row_field e) se, (as_row_send (row_field f) sf, (as_row_send (row_field h) sh, tt)))))))
