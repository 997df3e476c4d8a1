-- The pages and their owner, between the marks of an object.
use Rattle.std.proofs.Common.{None}
use Rattle.std.proofs.lemmas.Result.{on_ok_weaker}
use Rattle.serde.specs.Event.{map_begins, map_ends}
use Rattle.texts.proofs.ObjectTexts.{sends_both, sends_last, sends_one}
use Rattle.texts.proofs.objects.pages.RunSerialize.serialize.Goals as goal

pub returns : goal.returns
returns g c =
    let first = sends_both (sends_one (map_begins None) c.in_ok-begin_map.ensures) c.in_ok-put_number.ensures in
    let owner = sends_both (sends_both first c.in_ok-put_number-2.ensures) c.in_ok-put_owner.ensures in
    on_ok_weaker c.end_map.result (λ ends. sends_last map_ends owner ends) c.end_map.ensures
