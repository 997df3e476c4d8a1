-- what is said of the queues before the next one
use Rattle.std.proofs.Common.{◌≡◌, ◌≤◌, ◌⊎◌, ◌+◌, ◌-◌, string_bytes}
use Rattle.shell.specs.Rings.{SaysAllRings}
use Rattle.shell.proofs.looks.say_rings.Given as goal

abbrev pub invariant-loop-q : goal.invariant-loop-q
invariant-loop-q l = record {
  from : l.first ≤ l.q;
  until : (l.q ≡ l.first) ⊎ (l.q ≤ l.last + 1);
  said : SaysAllRings l.bench.table.world (l.q - l.first) l.first (string_bytes l.fn.out) (string_bytes l.out);
}
