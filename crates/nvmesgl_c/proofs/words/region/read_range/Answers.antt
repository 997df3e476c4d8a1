use Rattle.std.proofs.Common.{refl}
use Rattle.nvmesgl_c.proofs.Runs.{missing_in, missing_past, read_in}
use Rattle.nvmesgl_c.proofs.words.region.read_range.Goals as goal

pub returns-then-not-is_inside-clause-missing : goal.returns-then-not-is_inside-clause-missing
returns-then-not-is_inside-clause-missing c = missing_past c.args.regions.now c.args.addr _ c.requires (c.if-not-is_inside.ensures.outside refl)

pub returns-then-not-is_there-clause-missing : goal.returns-then-not-is_there-clause-missing
returns-then-not-is_there-clause-missing c = missing_in c.args.regions.now c.args.addr _ (c.if-not-is_inside.ensures.inside refl) (c.if-not-is_there.ensures.missing refl)

pub returns-clause-read : goal.returns-clause-read
returns-clause-read c =
    rw (← c.copy_from.ensures.len) (read_in c.args.regions.now c.args.addr c.copy_from.new.into (rw c.copy_from.ensures.len (c.if-not-is_inside.ensures.inside refl)) c.copy_from.ensures.copied)
