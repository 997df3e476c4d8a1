use Rattle.controller_core.proofs.Managing.{walked_sound, few_walked}
use Rattle.std.proofs.Common.{refl, ◌∙◌}
use Rattle.controller_core.proofs.controller.Controller.walk.Goals as goal

pub walk-requires-clause-few : goal.walk-requires-clause-few
walk-requires-clause-few g c accepted = few_walked _ c.args.q c.args.cid c.self.invariant.0 accepted

pub invariant_of-self : goal.invariant_of-self
invariant_of-self g c = (
  walked_sound _ c.args.q c.args.cid _ _ _ _ c.self.inside.commands c.walk.new.self c.walk.result refl c.self.invariant.0 c.walk.ensures.refused c.walk.ensures.among,
  c.walk.ensures.queues ∙ c.self.invariant.1,
  c.self.invariant.2,
)

pub returns-clause-sound : goal.returns-clause-sound
returns-clause-sound g c = (invariant_of-self g c).0
