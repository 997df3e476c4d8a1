use Rattle.std.proofs.Common.{[], length, arith, ap, ◌∙◌}
use Rattle.host_core.{proofs.{Lists.length-change, Reaps.{over-claims, over-tables}}, specs.{Parts.tables_of, Reaping.with_completion_heard, Tables.Tables}}
use Rattle.host_core.proofs.tables.HostTables.end_command.Goals as goal

pub unclaim-requires-clause-there : goal.unclaim-requires-clause-there
unclaim-requires-clause-there g c =
    let queues = ap (λ (u : Tables). u.queues) (c.forget.ensures []) ∙ ap (λ (u : Tables). u.queues) (c.accept.ensures []) in
    omega (arith, ap length queues, length-change c.args.q (with_completion_heard c.args.entry.sqhd) c.args.self.now.queues.items, c.requires.there)

pub unclaim-requires-clause-claimed : goal.unclaim-requires-clause-claimed
unclaim-requires-clause-claimed g c =
    let queues = ap (λ (u : Tables). u.queues) (c.forget.ensures []) ∙ ap (λ (u : Tables). u.queues) (c.accept.ensures []) in
    over-claims c.args.q c.args.entry c.args.self.now.queues.items c.forget.new.self.queues.items c.requires.claimed queues

pub returns : goal.returns
returns g c = λ pages.
    over-tables (tables_of c.args.self.now pages) (tables_of c.accept.new.self pages) (tables_of c.forget.new.self pages) c.args.q c.args.entry c.unclaim.new.queues.items
    (c.accept.ensures pages) (c.forget.ensures pages) c.unclaim.ensures
