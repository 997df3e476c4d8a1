use Rattle.std.proofs.{Common.{◌≡◌, ◌+◌, ◌≤◌, Bool, drop, if◌then◌else◌, sym, ap, ◌∙◌, arith}, lemmas.Bool.{eq-eqb, ne_eqb}}
use Rattle.slot_table.proofs.Walks.{step_behind}
use Rattle.host_core.{proofs.{Lists.{all_counted, none_counted, row_counted}, tables.HostTables.count_records.Goals.{then-p-q, else-p-q}}, specs.Rows.rows_on}
use Rattle.host_core.proofs.tables.HostTables.count_records.Goals as goal

pub returns-in_default : goal.returns-in_default
returns-in_default g c =
    let none = none_counted c.args.q (drop c.loop.counter c.args.self.now.records.rows) (sym c.loop.invariant.0 ∙ c.in_default.is) in
    omega (arith, none, c.loop.invariant.1)

pub returns : goal.returns
returns g c =
    let none = all_counted c.args.q c.loop.counter c.args.self.now.records.rows (omega (arith, c.len-end.ensures.count, c.loop-test.false)) in
    omega (arith, none, c.loop.invariant.1)

pub loop-preserved : goal.loop-preserved
loop-preserved g c =
    let rows = c.args.self.now.records.rows in
    let n = c.loop.counter in
    let at = sym c.loop.invariant.0 ∙ c.in-Some.is in
    let counted = row_counted c.args.q n c.in-Some.p c.in-Some.cid rows at in
    let kept : (c.if-p-q.found + rows_on c.args.q (drop (n + 1) rows) ≡ rows_on c.args.q rows) × (c.if-p-q.found ≤ n + 1) =
    elim c.if-p-q.branch [
      | then-p-q w ↦
          (let own = counted ∙ ap (λ (b : Bool). if b then rows_on c.args.q (drop (n + 1) rows) + 1 else rows_on c.args.q (drop (n + 1) rows)) (eq-eqb c.in-Some.p c.args.q w.if-p-q.true) in
          (omega (arith, w.found-is, own, c.loop.invariant.1), omega (arith, w.found-is, c.loop.invariant.2)))
      | else-p-q w ↦
          (let other = counted ∙ ap (λ (b : Bool). if b then rows_on c.args.q (drop (n + 1) rows) + 1 else rows_on c.args.q (drop (n + 1) rows)) (ne_eqb c.in-Some.p c.args.q w.if-p-q.false) in
          (omega (arith, w.found-is, other, c.loop.invariant.1), omega (arith, w.found-is, c.loop.invariant.2)))
    ] in
    (c.next-place.ensures ∙ step_behind rows n c.in-Some.p c.in-Some.cid c.len-end.ensures.distinct at, kept.0, kept.1)
