-- what is put so far, and the lines left, go on to the same text
use Rattle.std.proofs.Common.{◌≡◌, ◌++◌, drop, map, string_bytes}
use Rattle.texts.specs.Grammars.{status_lines}
use Rattle.texts.proofs.faults.grammar.put_statuses.Given as goal

abbrev pub invariant-loop-status : goal.invariant-loop-status
invariant-loop-status l = string_bytes l.out ++ status_lines (map (λ named. (named.0, named.1.now)) (drop l.status-index l.names)) ≡ string_bytes l.fn.out ++ status_lines (map (λ named. (named.0, named.1.now)) l.fn.names)
