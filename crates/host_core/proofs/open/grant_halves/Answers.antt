use Rattle.std.proofs.Common.{ℕ, ◌<◌, ◌≤◌, arith, ap, is_some}
use Rattle.page_memory.specs.declared.page.Half.TheVariants.{Submission, Completion}
use Rattle.queue_pair.specs.Memory.{half_pages}
use Rattle.host_core.proofs.Openings.{first_run, second_run, both_granted}
use Rattle.host_core.proofs.open.grant_halves.Goals as goal

some_pages : (n : ℕ) → 2 ≤ n → (0 < half_pages n Submission) × (0 < half_pages n Completion)
some_pages n l = (omega arith, omega arith)

pub grant_half-sq-requires-clause-run : goal.grant_half-sq-requires-clause-run
grant_half-sq-requires-clause-run g c =
    ap is_some (first_run (half_pages c.args.entries Submission) (half_pages c.args.entries Completion) c.args.q c.half_pages.result c.args.ledger.now (some_pages c.args.entries c.requires.least).0 c.half_pages.ensures c.requires.fits c.requires.granted)

pub grant_half-cq-requires-clause-run : goal.grant_half-cq-requires-clause-run
grant_half-cq-requires-clause-run g c =
    ap is_some (second_run (half_pages c.args.entries Submission) (half_pages c.args.entries Completion) c.args.q c.half_pages.result c.half_pages-2.result c.grant_half-sq.result c.args.ledger.now c.grant_half-sq.new.ledger
    (some_pages c.args.entries c.requires.least).0 (some_pages c.args.entries c.requires.least).1 c.half_pages.ensures c.half_pages-2.ensures c.requires.fits c.requires.granted c.grant_half-sq.ensures.first c.grant_half-sq.ensures.granted)

pub returns : goal.returns
returns g c =
    let all = both_granted (half_pages c.args.entries Submission) (half_pages c.args.entries Completion) c.args.q c.half_pages.result c.half_pages-2.result c.grant_half-sq.result c.grant_half-cq.result c.args.ledger.now c.grant_half-sq.new.ledger c.grant_half-cq.new.ledger
    (some_pages c.args.entries c.requires.least).0 (some_pages c.args.entries c.requires.least).1 c.half_pages.ensures c.half_pages-2.ensures c.requires.fits c.requires.granted c.grant_half-sq.ensures.first c.grant_half-sq.ensures.granted c.grant_half-cq.ensures.first c.grant_half-cq.ensures.granted in
    record { submission = all.0; completion = all.1; granted = all.2; size = all.3 }
