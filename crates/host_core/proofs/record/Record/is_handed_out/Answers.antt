use Rattle.std.proofs.Common.{◌≡◌, Bool, true, false, not, refl, ap, sym, ◌∙◌}
use Rattle.machine_model.specs.declared.words.Phase.TheVariants.{Drafted, Collected}
use Rattle.host_core.specs.{Commands.phase_of_end, Rows.RecordRow}
use Rattle.host_core.proofs.record.Record.is_handed_out.Goals as goal

drafted : (ended : Bool) → not ended ≡ phase_of_end ended Drafted
drafted true = refl
drafted false = refl

collected : (ended : Bool) → ended ≡ phase_of_end ended Collected
collected true = refl
collected false = refl

pub returns-in-Drafted : goal.returns-in-Drafted
returns-in-Drafted g c = drafted c.args.ended ∙ sym (ap (λ (k : RecordRow). phase_of_end c.args.ended k.phase) (sym c.self.view_is) ∙ ap (phase_of_end c.args.ended) c.in-Drafted.is)

pub returns-in-Collected : goal.returns-in-Collected
returns-in-Collected g c = collected c.args.ended ∙ sym (ap (λ (k : RecordRow). phase_of_end c.args.ended k.phase) (sym c.self.view_is) ∙ ap (phase_of_end c.args.ended) c.in-Collected.is)
