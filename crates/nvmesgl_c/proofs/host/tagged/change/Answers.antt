use Rattle.std.proofs.Common.{sym}
use Rattle.nvmesgl_c.proofs.Tags.{tagged_again}
use Rattle.nvmesgl_c.proofs.host.tagged.change.Goals as goal

pub returns-in-Some-clause-changed : goal.returns-in-Some-clause-changed
returns-in-Some-clause-changed c = λ _. tagged_again c.args.tags.now c.args.q c.args.cid c.args.tag c.in-Some.old.now (sym c.in-Some.ensures.value)
