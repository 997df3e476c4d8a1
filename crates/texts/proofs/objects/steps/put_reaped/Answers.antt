-- The members one after the other.
use Rattle.std.proofs.Common.{codes}
use Rattle.std.proofs.lemmas.Result.{on_ok_weaker}
use Rattle.serde_json.specs.Data.{number, unsigned}
use Rattle.texts.proofs.{ObjectTexts.sends_both, ReplyObjects.{named_as, named_both, named_none, named_then, status_then}}
use Rattle.texts.specs.Objects.{lone, members_events}
use Rattle.texts.proofs.objects.steps.put_reaped.Goals as goal

pub returns-in_ok-put_number-in-Done : goal.returns-in_ok-put_number-in-Done
returns-in_ok-put_number-in-Done g c =
    let cid = sends_both c.in_ok-put_text-in-Done.ensures c.in_ok-put_number-in-Done.ensures in
    rw (c.in-Done.is, ← c.from.ensures) (on_ok_weaker c.put_status.result (λ status. named_both cid status) c.put_status.ensures)

pub returns-in_ok-put_status-in-AdminDone : goal.returns-in_ok-put_status-in-AdminDone
returns-in_ok-put_status-in-AdminDone g c =
    let cid = sends_both c.in_ok-put_text-in-AdminDone.ensures c.in_ok-put_number-in-AdminDone.ensures in
    let dw0 = lone (codes "dw0") (number (unsigned c.from-in-AdminDone-2.result)) in
    rw (c.in-AdminDone.is, ← c.from-in-AdminDone.ensures, ← c.from-in-AdminDone-2.ensures)
    (on_ok_weaker c.put_number-in-AdminDone-2.result (λ last.
    named_both cid (named_as (λ name. status_then c.args.text.now name dw0) (named_then c.in_ok-put_status-in-AdminDone.ensures last))) c.put_number-in-AdminDone-2.ensures)

pub returns-in_ok-put_text-in-Rejected : goal.returns-in_ok-put_text-in-Rejected
returns-in_ok-put_text-in-Rejected g c =
    rw (c.in-Rejected.is, ← c.rejected_name.ensures)
    (on_ok_weaker c.put_text-in-Rejected-2.result (λ why. named_none (sends_both c.in_ok-put_text-in-Rejected.ensures why)) c.put_text-in-Rejected-2.ensures)
