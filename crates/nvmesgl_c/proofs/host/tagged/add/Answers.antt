use Rattle.nvmesgl_c.proofs.Tags.{tagged_first}
use Rattle.nvmesgl_c.proofs.host.tagged.add.Goals as goal

pub returns-in-Ok-clause-added : goal.returns-in-Ok-clause-added
returns-in-Ok-clause-added c = λ _. rw c.in-Ok.ensures.put (tagged_first c.args.tags.now c.args.q c.args.cid c.args.tag c.requires)
