-- The members one after the other.
use Rattle.std.proofs.lemmas.Result.{on_ok_weaker}
use Rattle.texts.proofs.ObjectTexts.{sends_both}
use Rattle.views.proofs.explain.fault_object.put_fault.Goals as goal

pub returns-in_ok-put_number-in-Line-2 : goal.returns-in_ok-put_number-in-Line-2
returns-in_ok-put_number-in-Line-2 g c =
    let line = sends_both c.in_ok-put_text-in-Line.ensures c.in_ok-put_number-in-Line.ensures in
    let column = sends_both line c.in_ok-put_number-in-Line-2.ensures in
    rw (c.in-Line.is, ← c.name.ensures, ← c.from.ensures, ← c.saturating_add.ensures)
    (on_ok_weaker c.put_text-in-Line.result (λ sentence. sends_both column sentence) c.put_text-in-Line.ensures)

pub returns-in_ok-put_text-in-TooLong : goal.returns-in_ok-put_text-in-TooLong
returns-in_ok-put_text-in-TooLong g c =
    rw c.in-TooLong.is
    (on_ok_weaker c.put_text-in-TooLong-2.result (λ sentence. sends_both c.in_ok-put_text-in-TooLong.ensures sentence) c.put_text-in-TooLong-2.ensures)

pub returns-in_ok-put_text-in-NoEntry : goal.returns-in_ok-put_text-in-NoEntry
returns-in_ok-put_text-in-NoEntry g c =
    rw c.in-NoEntry.is
    (on_ok_weaker c.put_text-in-NoEntry-2.result (λ sentence. sends_both c.in_ok-put_text-in-NoEntry.ensures sentence) c.put_text-in-NoEntry-2.ensures)
