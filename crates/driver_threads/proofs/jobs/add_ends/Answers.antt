-- The list of the submitter grew, or there is one more list.
use Rattle.std.proofs.Common.{arith, ap, map, ◌∙◌}
use Rattle.driver_threads.proofs.UnderWay.{added_there, added_last}
use Rattle.driver_threads.proofs.jobs.add_ends.Goals as goal

pub returns-in_ok-append : goal.returns-in_ok-append
returns-in_ok-append g c =
    added_there (λ list. list.items) c.args.lists.now.items c.args.submitter c.index_mut.result.now c.append.new.self c.args.later.items (omega (arith, c.if-submitter-len.true, c.len.ensures, c.args.lists.now.ok.0))
    c.index_mut.ensures.value c.in_ok-append.ensures.items

pub returns-in_ok-push : goal.returns-in_ok-push
returns-in_ok-push g c =
    ap (map (λ list. list.items)) c.in_ok-push.ensures.items
    ∙ added_last (λ list. list.items) c.args.lists.now.items c.args.submitter c.args.later (omega (arith, c.requires, c.if-submitter-len.false, c.len.ensures, c.args.lists.now.ok.0))
