-- no verb so far was named
use Rattle.std.proofs.Common.{◌≡◌, length}
use Rattle.script_cli.specs.Verbs.{first_named}
use Rattle.script_cli.proofs.verb.find_named.Given as goal

abbrev pub invariant-loop-verb : goal.invariant-loop-verb
invariant-loop-verb l = first_named l.word l.rest ≡ first_named l.word l.fn.verbs

abbrev pub decreases-loop-verb : goal.decreases-loop-verb
decreases-loop-verb l = length l.rest
