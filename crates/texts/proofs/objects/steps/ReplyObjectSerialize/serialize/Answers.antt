-- The members one after the other, between the marks of an object.
use Rattle.std.proofs.Common.{ℕ, List, None, codes, subst}
use Rattle.std.proofs.lemmas.Result.{on_ok_weaker}
use Rattle.serde.specs.Event as event
use Rattle.serde_json.specs.Data.{boolean}
use Rattle.texts.proofs.{ObjectTexts.{sends_both, sends_member, sends_one}, ReplyObjects.{named_both, named_then}}
use Rattle.texts.specs.{Objects.members_events, ReplyObjects.{SendsNamed, answer_members}}
use Rattle.texts.proofs.objects.steps.ReplyObjectSerialize.serialize.Goals as goal

pub returns : goal.returns
returns g c =
    let line = sends_both (sends_one (event.map_begins None) c.in_ok-begin_map.ensures) c.in_ok-put_number.ensures in
    let well = sends_member (codes "well") (boolean c.is_well.result) c.in_ok-key.ensures (sends_one (event.boolean c.is_well.result) c.in_ok-bool.ensures) in
    let before = sends_both (sends_both line c.in_ok-put_text.ensures) well in
    let answer = subst (λ (text : List ℕ). SendsNamed (λ name. members_events (answer_members text name c.args.self.now.reply.now)) (g.S.Serializer.written c.bool.new.self) (g.S.Serializer.written c.put_answer.new.out)) c.as_str.ensures.value c.in_ok-put_answer.ensures in
    rw (← c.from.ensures, ← c.name.ensures, ← c.is_well.ensures)
    (on_ok_weaker c.end_map.result (λ ends. named_then (named_both before answer) (sends_one event.map_ends ends)) c.end_map.ensures)
