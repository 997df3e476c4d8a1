-- The answer's name, and after it the status.
use Rattle.std.proofs.lemmas.Result.{on_ok_weaker}
use Rattle.texts.proofs.ReplyObjects.{named_both}
use Rattle.texts.proofs.objects.steps.put_walked.Goals as goal

pub returns-in_ok-put_text-in-Fault : goal.returns-in_ok-put_text-in-Fault
returns-in_ok-put_text-in-Fault g c =
    rw c.in-Fault.is (on_ok_weaker c.put_status.result (λ status. named_both c.in_ok-put_text-in-Fault.ensures status) c.put_status.ensures)
