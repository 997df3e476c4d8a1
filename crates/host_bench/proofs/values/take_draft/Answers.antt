use Rattle.host_bench.proofs.KeptRows.{is_empty, put_same}
use Rattle.host_bench.proofs.values.take_draft.Goals as goal

pub put_back-requires : goal.put_back-requires
put_back-requires g c = is_empty c.args.values.now c.take_value.new.values c.args.q c.args.cid c.in_ok-take_value.field-0 c.in_ok-take_value.ensures.out

pub returns-in-Err-clause-kept : goal.returns-in-Err-clause-kept
returns-in-Err-clause-kept g c = put_same c.args.values.now c.take_value.new.values c.args.q c.args.cid c.in_ok-take_value.field-0 c.in_ok-take_value.ensures.out c.in-Err.other c.put_back.new.values c.in-Err.ensures.0 c.put_back.ensures
