use Rattle.controller_core.proofs.{Awaited.looked_there, Fetched.{begun_fetch, can_keep, err_fetch, memory_refused, refused_fetch}}
use Rattle.controller_core.specs.{Contents.Contents}
use Rattle.controller_core.specs.declared.refusal.ControllerRefusal.TheVariants as refusal
use Rattle.std.proofs.Common.{ap, sym, ◌∙◌}
use Rattle.block_image.specs.Blocks.{block_count}
use Rattle.controller_core.proofs.fetch.Controller+A.fetch.Goals as goal

pub take_at_once-requires-clause-there : goal.take_at_once-requires-clause-there
take_at_once-requires-clause-there g c = looked_there _ _ _ _ _ _ c.in_ok-entry.ensures.looks

pub returns-in_err-job-clause-fetches : goal.returns-in_err-job-clause-fetches
returns-in_err-job-clause-fetches g c =
    let none = sym c.in_ok-take_at_once.ensures.taken ∙ c.if-branch.false in
    let left = c.in_ok-take_at_once.ensures.leaves c.if-branch.false in
    err_fetch c.from_residual-in_err-job.result _ _ _ _ _ c.args.q _ _ refusal.Memory c.from_residual-in_err-job.ensures.0 c.from_residual-in_err-job.ensures.1
    (refused_fetch _ _ _ _ _ c.args.q c.in_ok-entry.entry _ _ _ refusal.Memory c.in_ok-entry.ensures.refusal c.in_ok-entry.ensures.looks c.look.ensures.memory
    (memory_refused c.args.self.now (g.D.Dma.memory c.look.new.dma) c.args.q c.in_ok-entry.entry none) left.0 left.1 left.2)

pub keep_job-requires : goal.keep_job-requires
keep_job-requires g c =
    let none = sym c.in_ok-take_at_once.ensures.taken ∙ c.if-branch.false in
    let b = c.in_ok-job.ensures in
    let can =
    can_keep _ _ _ _ c.args.q c.in_ok-entry.entry _ c.in_ok-job.job c.self.inside.image c.in_ok-entry.ensures.looks none (c.in_ok-take_at_once.ensures.leaves c.if-branch.false).0
    (record { entry = b.entry; blocks = b.blocks; verdict = b.verdict; bytes = b.bytes; walk = b.walk; left = b.left }) (ap (λ (x : Contents). block_count x.image) c.self.view_is) in
    record { there = can.there; rung = can.rung; unknown = can.unknown; fits = can.fits }

pub returns-in_err-keep_job-clause-fetches : goal.returns-in_err-keep_job-clause-fetches
returns-in_err-keep_job-clause-fetches g c =
    let none = sym c.in_ok-take_at_once.ensures.taken ∙ c.if-branch.false in
    let left = c.in_ok-take_at_once.ensures.leaves c.if-branch.false in
    err_fetch c.from_residual-in_err-keep_job.result _ _ _ _ _ c.args.q _ _ refusal.Memory c.from_residual-in_err-keep_job.ensures.0 c.from_residual-in_err-keep_job.ensures.1
    (refused_fetch _ _ _ _ _ c.args.q c.in_ok-entry.entry _ _ _ refusal.Memory c.in_ok-entry.ensures.refusal c.in_ok-entry.ensures.looks c.look.ensures.memory
    (memory_refused c.args.self.now (g.D.Dma.memory c.look.new.dma) c.args.q c.in_ok-entry.entry none) (c.in_err-keep_job.ensures.refused ∙ left.0) left.1 left.2)

pub returns-clause-fetches : goal.returns-clause-fetches
returns-clause-fetches g c =
    let none = sym c.in_ok-take_at_once.ensures.taken ∙ c.if-branch.false in
    let left = c.in_ok-take_at_once.ensures.leaves c.if-branch.false in
    let b = c.in_ok-job.ensures in
    begun_fetch _ _ _ _ _ _ _ c.args.q c.in_ok-entry.entry _ _ _ c.in_ok-job.job c.self.inside.image c.in_ok-entry.ensures.looks c.look.ensures.memory none left.0 left.1 left.2
    (record { entry = b.entry; blocks = b.blocks; verdict = b.verdict; bytes = b.bytes; walk = b.walk; left = b.left }) (ap (λ (x : Contents). x.image) c.self.view_is) c.in_ok-keep_job.ensures.begun
