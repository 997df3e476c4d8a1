-- the pages before the next one are of others
use Rattle.std.proofs.Common.{◌<◌, ℕ}
use Rattle.texts.specs.Slots.{IsOfAnother}
use Rattle.texts.proofs.traces.slots.first_page.Given as goal

abbrev pub invariant-loop-p : goal.invariant-loop-p
invariant-loop-p l = (k : ℕ) → k < l.p → IsOfAnother l.bench.table.world l.fn.q l.fn.half k
