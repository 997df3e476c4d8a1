-- What more is said, one after the other.
use Rattle.std.proofs.lemmas.Result.{on_ok_weaker}
use Rattle.texts.proofs.ObjectTexts.{sends_both}
use Rattle.texts.proofs.objects.steps.put_detail.Goals as goal

pub returns-in_ok-put_number-in-NoPages : goal.returns-in_ok-put_number-in-NoPages
returns-in_ok-put_number-in-NoPages g c =
    rw (c.in-NoPages.is, ← c.from.ensures, ← c.from-in-NoPages.ensures)
    (on_ok_weaker c.put_number-in-NoPages.result (λ free. sends_both c.in_ok-put_number-in-NoPages.ensures free) c.put_number-in-NoPages.ensures)
