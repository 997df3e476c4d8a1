use Rattle.controller_core.proofs.Counting.{outstanding, past_names, left_next, named_here, swept_length, swept_more, swept_named, swept_rest, swept_skip}
use Rattle.controller_core.proofs.{Lists.{one, swept, swept-all}, commands.Commands.stop_queue.Goals.{then-q-deleted, else-q-deleted}}
use Rattle.controller_core.specs.{Managing.stopped_with_queue, Tables.{Outstanding, count_of}}
use Rattle.std.proofs.{Common.{◌≡◌, ◌==◌, ◌≤◌, ◌+◌, ◌∙◌, ℕ, ap, ap₂, drop, sym, length, arith}, lemmas.Bool.{eq-eqb, ne_eqb}}
use Rattle.controller_core.proofs.commands.Commands.stop_queue.Goals as goal

pub returns-then-left-eq0 : goal.returns-then-left-eq0
returns-then-left-eq0 g c =
    let old = c.args.self.now in
    c.loop.invariant.0 ∙ ap (outstanding old.queues) (swept_rest c.args.deleted c.loop.counter old.list (sym c.loop.invariant.2 ∙ c.if-left-eq0.true))

pub returns-in_default : goal.returns-in_default
returns-in_default g c =
    let old = c.args.self.now in
    let past = past_names old.list c.loop.counter (sym c.loop.invariant.1 ∙ c.in_default.is) in
    let list = ap (λ (o : Outstanding). o.list) c.loop.invariant.0 in
    let long = swept_length c.args.deleted c.loop.counter old.list c.loop.self.list list in
    ap₂ outstanding (ap (λ (o : Outstanding). o.queues) c.loop.invariant.0) (swept-all (stopped_with_queue c.args.deleted) c.loop.counter old.list c.loop.self.list list (omega (arith, long, past)))

pub loop-preserved : goal.loop-preserved
loop-preserved g c =
    let old = c.args.self.now in
    let n = c.loop.counter in
    let list = ap (λ (o : Outstanding). o.list) c.loop.invariant.0 in
    let name = sym c.loop.invariant.1 ∙ c.in-Some.is in
    let is = named_here old.list n c.in-Some.q c.in-Some.cid name in
    let rest = left_next c.args.deleted n old.list is.command is.at in
    let kept : (c.if-q-deleted.self ≡ outstanding old.queues (swept (stopped_with_queue c.args.deleted) (n + 1) old.list)) × (c.if-q-deleted.left ≡ count_of (drop (n + 1) old.list) c.args.deleted) =
    elim c.if-q-deleted.branch [
      | then-q-deleted w ↦
          (let own = ap (λ (q : ℕ). q == c.args.deleted) is.queue ∙ eq-eqb c.in-Some.q c.args.deleted w.if-q-deleted.true in
          let stopped = w.stop.ensures n (swept_named c.args.deleted n n old.list c.loop.self.list list ∙ name) in
          (w.self-is ∙ stopped ∙ ap₂ outstanding (ap (λ (o : Outstanding). o.queues) c.loop.invariant.0) (swept_more c.args.deleted n old.list c.loop.self.list list), omega (arith, w.left-is, c.loop.invariant.2, rest, ap one own)))
      | else-q-deleted w ↦
          (let other = ap (λ (q : ℕ). q == c.args.deleted) is.queue ∙ ne_eqb c.in-Some.q c.args.deleted w.if-q-deleted.false in
          (w.self-is ∙ c.loop.invariant.0 ∙ ap (outstanding old.queues) (swept_skip c.args.deleted n old.list is.command is.at other), omega (arith, w.left-is, c.loop.invariant.2, rest, ap one other)))
    ] in
    let after = ap (λ (o : Outstanding). o.list) kept.0 in
    (kept.0, c.next-place.ensures n (swept_named c.args.deleted (n + 1) n old.list c.if-q-deleted.self.list after ∙ name) ∙ swept_named c.args.deleted (n + 1) (n + 1) old.list c.if-q-deleted.self.list after, kept.1)

pub returns : goal.returns
returns g c =
    let old = c.args.self.now in
    let list = ap (λ (o : Outstanding). o.list) c.loop.invariant.0 in
    let long = swept_length c.args.deleted c.loop.counter old.list c.loop.self.list list in
    let past : length c.loop.self.list ≤ c.loop.counter = omega (arith, long, c.len-end.ensures, c.loop-test.false) in
    ap₂ outstanding (ap (λ (o : Outstanding). o.queues) c.loop.invariant.0) (swept-all (stopped_with_queue c.args.deleted) c.loop.counter old.list c.loop.self.list list past)
