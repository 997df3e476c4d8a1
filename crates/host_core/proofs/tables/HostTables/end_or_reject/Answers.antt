use Rattle.std.proofs.Common.{[], Some, length, ap, ◌∙◌}
use Rattle.host_core.{proofs.{Lists.length-change, Reaps.{looks, reaps-rejected}}, specs.{Parts.tables_of, Reaping.with_completion_taken, Tables.Tables}}
use Rattle.host_core.proofs.tables.HostTables.end_or_reject.Goals as goal

pub returns-in-Err-clause-reaps : goal.returns-in-Err-clause-reaps
returns-in-Err-clause-reaps g c = λ pages w seen.
    let t : Tables = tables_of c.args.self.now pages in
    reaps-rejected t (tables_of c.reject.new.self pages) w c.args.q c.args.entry c.in-Err.why (looks t c.args.q (Some c.args.entry) c.requires.there seen) (c.in-Err.ensures.rejected pages w) (c.reject.ensures pages)

pub returns-in-Err-clause-many : goal.returns-in-Err-clause-many
returns-in-Err-clause-many g c = ap (λ (u : Tables). length u.queues) (c.reject.ensures []) ∙ length-change c.args.q with_completion_taken (tables_of c.args.self.now []).queues
