use Rattle.std.proofs.Common.{◌∙◌, sym}
use Rattle.program.proofs.inputs.script_text.Goals as goal

pub returns-in-None-clause-text : goal.returns-in-None-clause-text
returns-in-None-clause-text g c = rw c.in-None.is c.reader_script.ensures.text

pub returns-then-eq-clause-text : goal.returns-then-eq-clause-text
returns-then-eq-clause-text g c = rw (c.in-Some.is, sym c.eq.ensures ∙ c.if-eq.true) c.reader_script-then-eq.ensures.text

pub returns-else-eq-clause-text : goal.returns-else-eq-clause-text
returns-else-eq-clause-text g c = rw (c.in-Some.is, sym c.eq.ensures ∙ c.if-eq.false) c.file_script.ensures.text
