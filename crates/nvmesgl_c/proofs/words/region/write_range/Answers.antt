use Rattle.std.proofs.Common.{refl}
use Rattle.nvmesgl_c.proofs.Runs.{missing_in, missing_past, there_in, wrote_in}
use Rattle.nvmesgl_c.proofs.words.region.write_range.Goals as goal

pub returns-then-not-is_inside-clause-missing : goal.returns-then-not-is_inside-clause-missing
returns-then-not-is_inside-clause-missing c = missing_past c.args.regions.now c.args.addr _ c.requires (c.if-not-is_inside.ensures.outside refl)

pub returns-then-not-is_there-clause-missing : goal.returns-then-not-is_there-clause-missing
returns-then-not-is_there-clause-missing c = missing_in c.args.regions.now c.args.addr _ (c.if-not-is_inside.ensures.inside refl) (c.if-not-is_there.ensures.missing refl)

pub returns-clause-there : goal.returns-clause-there
returns-clause-there c = there_in c.args.regions.now c.args.addr _ (c.if-not-is_inside.ensures.inside refl) (c.if-not-is_there.ensures.there refl)

pub returns-clause-written : goal.returns-clause-written
returns-clause-written c = wrote_in c.args.regions.now c.copy_to.new.regions c.args.addr c.args.bytes.now (c.if-not-is_inside.ensures.inside refl) c.copy_to.ensures.written
