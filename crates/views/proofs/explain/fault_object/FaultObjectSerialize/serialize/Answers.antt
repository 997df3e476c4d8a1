-- The members of the fault, between the marks of an object.
use Rattle.std.proofs.Common.{None}
use Rattle.std.proofs.lemmas.Result.{on_ok_weaker}
use Rattle.serde.specs.Event.{map_begins, map_ends}
use Rattle.texts.proofs.ObjectTexts.{sends_both, sends_last, sends_one}
use Rattle.views.proofs.explain.fault_object.FaultObjectSerialize.serialize.Goals as goal

pub returns : goal.returns
returns g c =
    let fault = sends_both (sends_one (map_begins None) c.in_ok-begin_map.ensures) c.in_ok-put_fault.ensures in
    rw (← c.as_str.ensures.value)
    (on_ok_weaker c.end_map.result (λ ends. sends_last map_ends fault ends) c.end_map.ensures)
