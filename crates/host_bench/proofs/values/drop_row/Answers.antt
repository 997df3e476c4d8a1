use Rattle.host_bench.proofs.KeptRows.{row_gone}
use Rattle.host_bench.proofs.values.drop_row.Goals as goal

pub returns-clause-gone : goal.returns-clause-gone
returns-clause-gone g c = rw c.take.ensures.rest (row_gone c.args.values.now.rows c.args.q c.args.cid c.take.result c.take.ensures.value c.take.ensures.distinct)
