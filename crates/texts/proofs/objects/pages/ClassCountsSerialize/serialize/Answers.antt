-- The members one after the other, between the marks of an object.
use Rattle.std.proofs.Common.{None}
use Rattle.std.proofs.lemmas.Result.{on_ok_weaker}
use Rattle.serde.specs.Event.{map_begins, map_ends}
use Rattle.texts.proofs.ObjectTexts.{sends_both, sends_last, sends_one}
use Rattle.texts.proofs.objects.pages.ClassCountsSerialize.serialize.Goals as goal

pub returns : goal.returns
returns g c =
    let free = sends_both (sends_one (map_begins None) c.in_ok-begin_map.ensures) c.in_ok-put_number.ensures in
    let chain = sends_both (sends_both free c.in_ok-put_number-2.ensures) c.in_ok-put_number-3.ensures in
    rw (← c.from.ensures, ← c.from-2.ensures, ← c.from-3.ensures, ← c.from-4.ensures)
    (on_ok_weaker c.end_map.result (λ ends. sends_last map_ends (sends_both chain c.in_ok-put_number-4.ensures) ends) c.end_map.ensures)
