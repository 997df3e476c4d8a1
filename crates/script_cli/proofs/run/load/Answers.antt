-- What was read of the reader has the same script as all that it had.
use Rattle.std.proofs.Common.{ℕ, List, Err, sym, ap, subst, ◌∙◌}
use Rattle.script_cli.{proofs.Runs.{script_is_told, no_script_is_told}, specs.Scripts.{script_of, IsReading}}
use Rattle.script_cli.proofs.run.load.Goals as goal

pub returns-in-Ok-read_script-clause-script : goal.returns-in-Ok-read_script-clause-script
returns-in-Ok-read_script-clause-script g c =
    script_is_told _ c.in-Ok.text.items c.in-Ok-read_script.script c.in-Ok.ensures (ap script_of (sym c.deref.ensures.value) ∙ c.in-Ok-read_script.ensures)

pub returns-clause-fault : goal.returns-clause-fault
returns-clause-fault g c =
    rw c.script_at_fault.ensures (no_script_is_told _ c.in-Ok.text.items c.in-Err.why c.in-Ok.ensures
    (subst (λ (text : List ℕ). IsReading text (Err c.in-Err.why)) c.deref.ensures.value c.in-Err.ensures))
