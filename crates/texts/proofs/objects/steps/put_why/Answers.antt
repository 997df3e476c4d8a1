-- The two members one after the other.
use Rattle.std.proofs.lemmas.Result.{on_ok_weaker}
use Rattle.texts.proofs.ObjectTexts.{sends_both}
use Rattle.texts.proofs.objects.steps.put_why.Goals as goal

pub returns : goal.returns
returns g c = on_ok_weaker c.put_text-2.result (λ why. sends_both c.in_ok-put_text.ensures why) c.put_text-2.ensures
