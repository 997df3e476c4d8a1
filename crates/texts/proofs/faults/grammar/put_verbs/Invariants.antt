-- what is put so far, and the lines left, go on to the same text
use Rattle.std.proofs.Common.{◌≡◌, ◌++◌, drop, string_bytes}
use Rattle.texts.specs.Grammars.{verb_lines}
use Rattle.texts.proofs.faults.grammar.put_verbs.Given as goal

abbrev pub invariant-loop-verb : goal.invariant-loop-verb
invariant-loop-verb l = string_bytes l.out ++ verb_lines (drop l.verb-index l.verbs) ≡ string_bytes l.fn.out ++ verb_lines l.fn.verbs
