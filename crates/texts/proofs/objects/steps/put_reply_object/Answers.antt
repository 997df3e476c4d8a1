-- What is put of the object is the line of the answer.
use Rattle.std.proofs.Common.{string_bytes}
use Rattle.std.proofs.lemmas.Result.{on_ok_weaker}
use Rattle.texts.proofs.ReplyObjects.{puts_reply}
use Rattle.texts.proofs.objects.steps.put_reply_object.Goals as goal

pub returns : goal.returns
returns c =
    on_ok_weaker c.put_object.result (λ puts.
    puts_reply c.args.number c.args.verb (string_bytes c.in_ok-text_of.field-0) c.args.reply.now _ _ c.in_ok-text_of.ensures (λ log sent. sent) puts) c.put_object.ensures
