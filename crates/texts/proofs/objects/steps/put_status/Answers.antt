-- The text, and after it the name that the status has.
use Rattle.std.proofs.Common.{Some}
use Rattle.std.proofs.lemmas.Result.{on_ok_weaker}
use Rattle.texts.proofs.ObjectTexts.{sends_both}
use Rattle.texts.proofs.objects.steps.put_status.Goals as goal

pub returns-in-Some : goal.returns-in-Some
returns-in-Some g c =
    on_ok_weaker c.put_text-in-Some.result (λ named. record { name = Some c.in-Some.name.now; sent = sends_both c.in_ok-put_text.ensures named }) c.put_text-in-Some.ensures
