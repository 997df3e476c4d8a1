-- The members one after the other.
use Rattle.std.proofs.lemmas.Result.{on_ok_weaker}
use Rattle.texts.proofs.ObjectTexts.{sends_both}
use Rattle.texts.proofs.objects.steps.put_reserved.Goals as goal

pub returns : goal.returns
returns g c =
    let cid = sends_both (sends_both c.in_ok-put_text.ensures c.in_ok-put_number.ensures) c.in_ok-put_number-2.ensures in
    rw (← c.from.ensures, ← c.from-2.ensures, ← c.from-3.ensures, ← c.from-4.ensures)
    (on_ok_weaker c.put_number-4.result (λ chain. sends_both (sends_both cid c.in_ok-put_number-3.ensures) chain) c.put_number-4.ensures)
