-- The counts after their name, between the marks of an object.
use Rattle.std.proofs.Common.{None, codes}
use Rattle.std.proofs.lemmas.Result.{on_ok_weaker}
use Rattle.serde.specs.Event.{field_key, map_begins, map_ends}
use Rattle.serde.specs.declared.name.Case.TheVariants.{AsIs}
use Rattle.texts.proofs.ObjectTexts.{sends_both, sends_last, sends_one}
use Rattle.texts.proofs.objects.pages.LastObjectSerialize.serialize.Goals as goal

pub returns : goal.returns
returns g c =
    let named = sends_last (field_key (codes "counts") AsIs) (sends_one (map_begins None) c.in_ok-begin_map.ensures) c.in_ok-key.ensures in
    on_ok_weaker c.end_map.result (λ ends. sends_last map_ends (sends_both named c.in_ok-serialize.ensures) ends) c.end_map.ensures
