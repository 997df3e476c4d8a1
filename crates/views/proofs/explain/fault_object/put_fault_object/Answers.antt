-- What is put of the object is the line of the fault, with the sentence that it has.
use Rattle.std.proofs.Common.{string_bytes}
use Rattle.std.proofs.lemmas.Result.{on_ok_weaker}
use Rattle.texts.proofs.ObjectTexts.{puts_line}
use Rattle.views.{proofs.FaultObjects.fault_whole, specs.FaultObjects.fault_object}
use Rattle.views.proofs.explain.fault_object.put_fault_object.Goals as goal

pub returns : goal.returns
returns c =
    let sentence = string_bytes c.in_ok-sentence.sentence in
    on_ok_weaker c.put_object.result (λ puts. record {
      sentence = sentence;
      put = puts_line (fault_object c.args.fault sentence) _ _ (λ log sent. sent) (fault_whole c.args.fault sentence) puts;
    }) c.put_object.ensures
