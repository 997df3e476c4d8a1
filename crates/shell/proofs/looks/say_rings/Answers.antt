use Rattle.std.proofs.Common.{rules, arith, ◌≡◌, ◌≤◌, ◌⊎◌, ◌+◌, ◌-◌, ℕ, suc, sym, subst, string_bytes}
use Rattle.machine_model.specs.State.{State}
use Rattle.shell.{proofs.Shown.said_behind, specs.Rings.{SaysAllRings, SaysRings}}
use Rattle.shell.proofs.looks.say_rings.Goals as goal

pub loop-q-preserved : goal.loop-q-preserved
loop-q-preserved c = record {
  from = search rules;
  until = search rules;
  said = said_behind c.args.bench.now.table.world c.args.first c.loop-q.q _ _ _ c.loop-q.invariant.from c.loop-q.invariant.said c.in_ok-say_queue.ensures;
}

pub returns : goal.returns
returns c = subst (λ (n : ℕ). SaysAllRings c.args.bench.now.table.world n c.args.first (string_bytes c.args.out.now) (string_bytes c.loop-q.out)) all c.loop-q.invariant.said
  where
    all : c.loop-q.q - c.args.first ≡ c.args.last + 1 - c.args.first
    all = search rules

pub returns-in_ok-say_queue : goal.returns-in_ok-say_queue
returns-in_ok-say_queue c = subst (λ (n : ℕ). SaysAllRings c.args.bench.now.table.world n c.args.first (string_bytes c.args.out.now) (string_bytes c.say_queue.new.out)) all
    (said_behind c.args.bench.now.table.world c.args.first c.loop-q.q _ _ _ c.loop-q.invariant.from c.loop-q.invariant.said c.in_ok-say_queue.ensures)
  where
    all : c.loop-q.q + 1 - c.args.first ≡ c.args.last + 1 - c.args.first
    all = search rules
