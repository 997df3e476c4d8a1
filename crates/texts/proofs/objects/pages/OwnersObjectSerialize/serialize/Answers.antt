-- The number, the verb and the runs, between the marks of an object.
use Rattle.std.proofs.Common.{None, codes}
use Rattle.std.proofs.lemmas.Result.{on_ok_weaker}
use Rattle.serde.specs.Event.{map_begins, map_ends}
use Rattle.serde_json.specs.Data.{array}
use Rattle.texts.proofs.ObjectTexts.{sends_both, sends_last, sends_list, sends_member, sends_one}
use Rattle.texts.specs.{Objects.{Sends, events_of, items_of}, PageObjects.run_object}
use Rattle.texts.proofs.objects.pages.OwnersObjectSerialize.serialize.Goals as goal

pub returns : goal.returns
returns g c =
    let runs = c.args.self.now.runs.items in
    let line = sends_both (sends_one (map_begins None) c.in_ok-begin_map.ensures) c.in_ok-put_number.ensures in
    let list = sends_list (λ run. Sends (events_of (run_object run))) run_object (λ run old new sent. sent) runs _ _ c.in_ok-serialize.ensures in
    let owners = sends_member (codes "owners") (array (items_of run_object runs)) c.in_ok-key.ensures list in
    rw (← c.from.ensures)
    (on_ok_weaker c.end_map.result (λ ends. sends_last map_ends (sends_both (sends_both line c.in_ok-put_text.ensures) owners) ends) c.end_map.ensures)
