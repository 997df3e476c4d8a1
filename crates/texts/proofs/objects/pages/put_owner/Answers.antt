-- The members one after the other.
use Rattle.std.proofs.lemmas.Result.{on_ok_weaker}
use Rattle.texts.proofs.ObjectTexts.{sends_both}
use Rattle.texts.proofs.objects.pages.put_owner.Goals as goal

pub returns-in_ok-put_number-in-Queue : goal.returns-in_ok-put_number-in-Queue
returns-in_ok-put_number-in-Queue g c =
    let queue = sends_both c.in_ok-put_text-in-Queue.ensures c.in_ok-put_number-in-Queue.ensures in
    rw (c.in-Queue.is, ← c.from.ensures, ← c.half_name.ensures)
    (on_ok_weaker c.put_text-in-Queue-2.result (λ role. sends_both queue role) c.put_text-in-Queue-2.ensures)

pub returns-in_ok-put_number-in-Command-2 : goal.returns-in_ok-put_number-in-Command-2
returns-in_ok-put_number-in-Command-2 g c =
    let queue = sends_both c.in_ok-put_text-in-Command.ensures c.in_ok-put_number-in-Command.ensures in
    let command = sends_both queue c.in_ok-put_number-in-Command-2.ensures in
    rw (c.in-Command.is, ← c.from-in-Command.ensures, ← c.from-in-Command-2.ensures, ← c.role_name.ensures)
    (on_ok_weaker c.put_text-in-Command-2.result (λ role. sends_both command role) c.put_text-in-Command-2.ensures)
