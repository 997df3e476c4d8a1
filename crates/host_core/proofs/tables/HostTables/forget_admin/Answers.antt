use Rattle.std.proofs.Common.{◌≡◌, ◌+◌, ℕ, [], length, true, suc, ap, subst, sym, ◌∙◌, arith}
use Rattle.host_core.proofs.{Lists.length-change, ResetRecords.{all-over, none-over, one-over, own-claimed, own_over_below}}
use Rattle.host_core.specs.{Commands.{Claims, claims_changed}, Parts.tables_of, Resetting.{has_own, own_freed, with_own_over}, Tables.Tables}
use Rattle.host_core.proofs.tables.HostTables.forget_admin.Goals as goal

pub loop-cid-init : goal.loop-cid-init
loop-cid-init g c = record { over = λ pages. none-over (tables_of c.args.self.now pages) }

pub forget_own-requires-clause-there : goal.forget_own-requires-clause-there
forget_own-requires-clause-there g c =
    let t : Tables = tables_of c.args.self.now [] in
    omega (arith, c.requires.claims.some_queues, ap (λ (u : Tables). length u.queues) (c.loop-cid.invariant.over []), length-change 0 (claims_changed (own_freed t.records c.loop-cid.cid)) t.queues)

pub forget_own-requires-clause-claimed : goal.forget_own-requires-clause-claimed
forget_own-requires-clause-claimed g c =
    subst (λ (u : Tables). has_own u.records c.loop-cid.cid ≡ true → Claims u.queues 0 c.loop-cid.cid) (sym (c.loop-cid.invariant.over []))
    (own-claimed (tables_of c.args.self.now []) c.requires.claims c.loop-cid.cid)

pub loop-cid-preserved : goal.loop-cid-preserved
loop-cid-preserved g c = record {
  over = λ pages.
      let t : Tables = tables_of c.args.self.now pages in
      let next : suc c.loop-cid.cid ≡ c.loop-cid.cid + 1 = omega arith in
      c.forget_own.ensures pages
      ∙ (ap (with_own_over c.loop-cid.cid) (c.loop-cid.invariant.over pages)
      ∙ (one-over t c.requires.claims.differ c.loop-cid.cid ∙ ap (λ (n : ℕ). own_over_below n t) next));
}

pub returns : goal.returns
returns g c = λ pages.
    c.loop-cid.invariant.over pages
    ∙ all-over (tables_of c.args.self.now pages) c.requires.places.commands c.loop-cid.cid (omega (arith, c.loop-cid-test.false, c.loop-cid.auto.cid-end, c.requires.places.some_entries))
