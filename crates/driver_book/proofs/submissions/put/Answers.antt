use Rattle.driver_book.proofs.Latest.{put_others, put_there}
use Rattle.driver_book.proofs.submissions.put.Goals as goal

pub returns-clause-there : goal.returns-clause-there
returns-clause-there g c =
    put_there c.args.table.now c.take.new.self c.try_put.new.self c.args.q c.args.cid c.args.number c.take.result c.try_put.result c.take.ensures.rest c.take.ensures.value c.take.ensures.distinct c.try_put.ensures.put c.try_put.ensures.handed_back

pub returns-clause-others : goal.returns-clause-others
returns-clause-others g c =
    put_others c.args.table.now c.take.new.self c.try_put.new.self c.args.q c.args.cid c.args.number c.try_put.result c.take.ensures.rest c.try_put.ensures.put c.try_put.ensures.handed_back
