-- The members of each answer, one after the other.
use Rattle.std.proofs.lemmas.Result.{on_ok_weaker}
use Rattle.texts.proofs.{ObjectTexts.sends_both, ReplyObjects.{named_as, named_both, named_none, named_then, walked_then}}
use Rattle.texts.specs.ReplyObjects.{touched_members}
use Rattle.texts.proofs.objects.steps.put_answer.Goals as goal

pub returns-in-Reserved : goal.returns-in-Reserved
returns-in-Reserved g c = rw c.in-Reserved.is (on_ok_weaker c.put_reserved.result (λ all. named_none all) c.put_reserved.ensures)

pub returns-in_ok-put_number-in-Fetched : goal.returns-in_ok-put_number-in-Fetched
returns-in_ok-put_number-in-Fetched g c =
    let cid = sends_both c.in_ok-put_text-in-Fetched.ensures c.in_ok-put_number-in-Fetched.ensures in
    rw (c.in-Fetched.is, ← c.from.ensures) (on_ok_weaker c.put_touched.result (λ touched. named_none (sends_both cid touched)) c.put_touched.ensures)

pub returns-in_ok-put_walked-in-Walked : goal.returns-in_ok-put_walked-in-Walked
returns-in_ok-put_walked-in-Walked g c =
    let touched = touched_members c.in-Walked.touched in
    rw c.in-Walked.is
    (on_ok_weaker c.put_touched-in-Walked.result (λ last.
    named_as (λ name. walked_then c.args.text.now name c.in-Walked.state touched) (named_then c.in_ok-put_walked-in-Walked.ensures last)) c.put_touched-in-Walked.ensures)

pub returns-in_ok-put_text-in-Completed : goal.returns-in_ok-put_text-in-Completed
returns-in_ok-put_text-in-Completed g c =
    rw c.in-Completed.is
    (on_ok_weaker c.put_touched-in-Completed.result (λ touched. named_none (sends_both c.in_ok-put_text-in-Completed.ensures touched)) c.put_touched-in-Completed.ensures)

pub returns-in_ok-put_text-in-Collected : goal.returns-in_ok-put_text-in-Collected
returns-in_ok-put_text-in-Collected g c =
    rw c.in-Collected.is (on_ok_weaker c.put_status.result (λ status. named_both c.in_ok-put_text-in-Collected.ensures status) c.put_status.ensures)

pub returns-in_ok-put_text-in-Gathered : goal.returns-in_ok-put_text-in-Gathered
returns-in_ok-put_text-in-Gathered g c =
    rw c.in-Gathered.is
    (on_ok_weaker c.put_text-in-Gathered-2.result (λ bytes. named_none (sends_both c.in_ok-put_text-in-Gathered.ensures bytes)) c.put_text-in-Gathered-2.ensures)

pub returns-in_ok-put_text-in-Sent : goal.returns-in_ok-put_text-in-Sent
returns-in_ok-put_text-in-Sent g c =
    rw (c.in-Sent.is, ← c.from-in-Sent.ensures)
    (on_ok_weaker c.put_number-in-Sent.result (λ cid. named_none (sends_both c.in_ok-put_text-in-Sent.ensures cid)) c.put_number-in-Sent.ensures)

pub returns-in-NoValue : goal.returns-in-NoValue
returns-in-NoValue g c = rw c.in-NoValue.is (on_ok_weaker c.put_why.result (λ all. named_none all) c.put_why.ensures)

pub returns-in_ok-put_why-in-Refused : goal.returns-in_ok-put_why-in-Refused
returns-in_ok-put_why-in-Refused g c =
    rw (c.in-Refused.is, ← c.refusal_name.ensures)
    (on_ok_weaker c.put_detail.result (λ detail. named_none (sends_both c.in_ok-put_why-in-Refused.ensures detail)) c.put_detail.ensures)
