use Rattle.std.proofs.Common.{◌≤◌, ◌∙◌, ℕ, [], length, ap, ap₂, arith, subst, sym}
use Rattle.host_core.proofs.Resets.{all-below, all-gone, gone_below, half-stays, is_io_below, none-below, none-gone, not-gone, one-below, one-gone, queues-apart, with_owners}
use Rattle.host_core.specs.{Parts.tables_of, Resetting.{with_queue_gone, ListsHalf}, Tables.Tables}
use Rattle.host_core.proofs.tables.HostTables.lose_queues.Goals as goal

pub loop-q-init : goal.loop-q-init
loop-q-init g c = record {
  gone = λ pages. let t : Tables = tables_of c.args.self.now pages in ap₂ (with_owners t) (none-below t.owners) (none-gone t.queues);
}

pub lose_queue-requires : goal.lose_queue-requires
lose_queue-requires g c = λ half.
    let t : Tables = tables_of c.args.self.now [] in
    let q : ℕ = c.loop-q.q in
    subst (λ (u : Tables). ListsHalf u q half) (sym (c.loop-q.invariant.gone []))
    (half-stays t q half (is_io_below q) (gone_below q t.queues) (queues-apart q half) (not-gone q t.queues)
    (c.requires.each q (omega (arith, c.loop-q-test.true, c.len-q-end.ensures)) half))

pub loop-q-preserved : goal.loop-q-preserved
loop-q-preserved g c = record {
  gone = λ pages.
      let t : Tables = tables_of c.args.self.now pages in
      c.lose_queue.ensures pages
      ∙ (ap (with_queue_gone c.loop-q.q) (c.loop-q.invariant.gone pages)
      ∙ ap₂ (with_owners t) (one-below c.loop-q.q c.loop-q.auto.q t.owners) (one-gone c.loop-q.q c.loop-q.auto.q t.queues));
}

pub returns : goal.returns
returns g c = λ pages.
    let t : Tables = tables_of c.args.self.now pages in
    let size : length t.queues ≤ c.loop-q.q = omega (arith, c.loop-q-test.false, c.len-q-end.ensures) in
    c.loop-q.invariant.gone pages
    ∙ ap₂ (with_owners t) (all-below c.loop-q.q t.owners (λ p q half at. let inside = c.requires.inside p q half at in omega (arith, inside, size)))
    (all-gone c.loop-q.q c.loop-q.auto.q t.queues size)
