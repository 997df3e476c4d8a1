use Rattle.controller_core.proofs.Ended.{image_lacks}
use Rattle.controller_core.proofs.complete.Controller+A.complete.Goals as goal

pub finish_at-requires-clause-at_hand : goal.finish_at-requires-clause-at_hand
finish_at-requires-clause-at_hand g c = image_lacks c.self.inside.commands.list c.args.q c.args.cid
