use Rattle.std.proofs.Common.{List, [], length, ap, subst, sym, ◌∙◌, arith}
use Rattle.host_core.{proofs.ResetRecords.own-gone, specs.{Commands.Claims, Parts.tables_of, Rows.Queue, Tables.Tables}}
use Rattle.host_core.proofs.tables.HostTables.forget_own.Goals as goal

pub unclaim-requires-clause-there : goal.unclaim-requires-clause-there
unclaim-requires-clause-there g c = omega (arith, ap (λ (u : Tables). length u.queues) (c.forget.ensures []), c.requires.there)

pub unclaim-requires-clause-claimed : goal.unclaim-requires-clause-claimed
unclaim-requires-clause-claimed g c =
    subst (λ (queues : List Queue). Claims queues 0 c.args.cid) (sym (ap (λ (u : Tables). u.queues) (c.forget.ensures [])))
    (c.requires.claimed (sym c.has_own.ensures ∙ c.if-has_own.true))

pub returns-then-has_own : goal.returns-then-has_own
returns-then-has_own g c = λ pages.
    own-gone (tables_of c.args.self.now pages) (tables_of c.forget.new.self pages) c.args.cid c.unclaim.new.queues.items (sym c.has_own.ensures ∙ c.if-has_own.true)
    (c.forget.ensures pages) c.unclaim.ensures
