-- What is put of the object is the line of the owners' longest runs.
use Rattle.std.proofs.lemmas.Result.{on_ok_weaker}
use Rattle.texts.{proofs.{ObjectTexts.puts_line, PageObjects.runs_whole}, specs.PageObjects.runs_object}
use Rattle.texts.proofs.objects.pages.put_owners_object.Goals as goal

pub returns : goal.returns
returns c =
    let runs = c.in_ok-runs_of.field-0.items in
    rw (← c.in_ok-runs_of.ensures)
    (on_ok_weaker c.put_object.result (puts_line (runs_object c.args.number runs) _ _ (λ log sent. sent) (runs_whole c.args.number runs)) c.put_object.ensures)
