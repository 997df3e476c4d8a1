-- What is put of the object is the line of the counts.
use Rattle.std.proofs.Common.{refl}
use Rattle.std.proofs.lemmas.Result.{on_ok_weaker}
use Rattle.texts.{proofs.ObjectTexts.puts_line, specs.PageObjects.counts_object}
use Rattle.texts.proofs.objects.pages.put_counts_object.Goals as goal

pub returns : goal.returns
returns c =
    on_ok_weaker c.put_object.result (puts_line (counts_object c.args.counts) _ _ (λ log sent. sent) refl) c.put_object.ensures
