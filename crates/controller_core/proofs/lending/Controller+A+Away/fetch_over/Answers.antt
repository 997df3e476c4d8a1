use Rattle.controller_core.proofs.Fetched.{begun_fetch, can_keep, job_lacks, lent_count, looks_over, taken_fetch, takes_over}
use Rattle.controller_core.specs.{Contents.Contents, Lending.{bytes_lent, is_in, lacked, with_image}}
use Rattle.controller_core.specs.declared.lending.LentRefusal.{LentRefusal}
use Rattle.std.proofs.Common.{ℕ, Err, refl, ap, sym, ◌∙◌}
use Rattle.block_image.specs.Blocks.{block_count}
use Rattle.controller_core.proofs.lending.Controller+A+Away.fetch_over.Goals as goal

pub returns-then-branch-clause-fetches : goal.returns-then-branch-clause-fetches
returns-then-branch-clause-fetches g c =
    let image = bytes_lent c.args.lent.now in
    let took = c.in_ok-take_at_once.ensures in
    taken_fetch _ _ _ _ _ _ _ c.args.q c.in_ok-entry.entry _ _ _ (looks_over c.args.self.now image _ _ c.args.q c.in_ok-entry.entry _ c.in_ok-entry.ensures.looks) c.look.ensures.memory c.look.ensures.pool took.room
    (takes_over _ c.args.self.now c.take_at_once.new.self image _ c.args.q c.in_ok-entry.entry _ _ _ _ (sym took.taken ∙ c.if-branch.true) (took.takes c.if-branch.true))

pub returns-then-lacks_read-clause-lacks : goal.returns-then-lacks_read-clause-lacks
returns-then-lacks_read-clause-lacks g c =
    let lent = c.args.lent.now in
    let none = sym c.in_ok-take_at_once.ensures.taken ∙ c.if-branch.false in
    ap (λ (why : LentRefusal). lacked {X = ℕ} (Err why)) c.wants.ensures
    ∙ job_lacks (is_in lent) c.args.self.now _ _ c.args.q c.in_ok-entry.entry _ _ _ c.in_ok-entry.ensures.refusal c.in_ok-entry.ensures.looks none
    (lent_count lent.blocks lent.first lent.bytes.now lent.part ∙ c.requires.as_many) (sym c.if-lacks_read.true ∙ c.lacks_read.ensures)

pub keep_job-requires : goal.keep_job-requires
keep_job-requires g c =
    let lent = c.args.lent.now in
    let none = sym c.in_ok-take_at_once.ensures.taken ∙ c.if-branch.false in
    let left = c.in_ok-take_at_once.ensures.leaves c.if-branch.false in
    let b = c.in_ok-job.ensures in
    let can =
    can_keep _ _ _ _ c.args.q c.in_ok-entry.entry _ c.in_ok-job.job (bytes_lent lent) c.in_ok-entry.ensures.looks none left.0
    (record { entry = b.entry; blocks = b.blocks; verdict = b.verdict; bytes = b.bytes; walk = b.walk; left = b.left })
    (lent_count lent.blocks lent.first lent.bytes.now lent.part ∙ c.requires.as_many ∙ sym (ap (λ (x : Contents). block_count x.image) left.0)) in
    record { there = can.there; rung = can.rung; unknown = can.unknown; fits = can.fits }

pub returns-clause-fetches : goal.returns-clause-fetches
returns-clause-fetches g c =
    let image = bytes_lent c.args.lent.now in
    let none = sym c.in_ok-take_at_once.ensures.taken ∙ c.if-branch.false in
    let left = c.in_ok-take_at_once.ensures.leaves c.if-branch.false in
    let b = c.in_ok-job.ensures in
    begun_fetch _ _ _ _ _ _ _ c.args.q c.in_ok-entry.entry _ _ _ c.in_ok-job.job image (looks_over c.args.self.now image _ _ c.args.q c.in_ok-entry.entry _ c.in_ok-entry.ensures.looks) c.look.ensures.memory none
    (ap (λ (x : Contents). with_image x image) left.0) left.1 left.2
    (record { entry = b.entry; blocks = b.blocks; verdict = b.verdict; bytes = b.bytes; walk = b.walk; left = b.left }) refl (ap (λ (x : Contents). with_image x image) c.in_ok-keep_job.ensures.begun)
