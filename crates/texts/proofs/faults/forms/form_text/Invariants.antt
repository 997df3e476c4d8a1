-- what is put so far, and the names left, go on to the same text
use Rattle.std.proofs.Common.{◌≡◌, ◌++◌, drop, string_bytes}
use Rattle.script_cli.specs.Verbs.{verb_text}
use Rattle.texts.specs.Forms.{names_text, slots_after}
use Rattle.texts.proofs.faults.forms.form_text.Given as goal

abbrev pub invariant-loop-slot : goal.invariant-loop-slot
invariant-loop-slot l = string_bytes l.out ++ names_text (drop l.slot-index l.slot-items) ≡ verb_text l.fn.verb ++ names_text (slots_after l.fn.verb)
