use Rattle.std.proofs.Common.{sym}
use Rattle.host_bench.proofs.KeptRows.{none_taken}
use Rattle.host_bench.proofs.values.take_value.Goals as goal

pub returns-clause-kept : goal.returns-clause-kept
returns-clause-kept g c = none_taken c.args.values.now c.args.q c.args.cid c.in_ok-row.row.now c.take.new.self c.take.result (sym c.in_ok-row.ensures.value) c.take.ensures.value c.take.ensures.after
