use Rattle.std.proofs.Common.{◌+◌, length, ap, arith}
use Rattle.slot_table.proofs.{Places.{length-bools, end-of, none-past, first-inside}, Runs.{run-behind, run-none, run-stuck, run-found, run-short, run-some}}
use Rattle.slot_table.specs.{Places.is_true_at, Searches.IsRunEnd}
use Rattle.slot_table.proofs.bit_list.BitList.lowest_run.Goals as goal

pub overflow_sub-self-inside : goal.overflow_sub-self-inside
overflow_sub-self-inside g c =
    omega (arith, ap length c.self.view_is, length-bools c.self.inside.words.items c.self.inside.len, first-inside c.args.self.now c.in-Some.ensures.lowest)

pub returns-then-self-first : goal.returns-then-self-first
returns-then-self-first g c =
    let size = length-bools c.self.inside.words.items c.self.inside.len in
    let inside = first-inside c.args.self.now c.in-Some.ensures.lowest in
    run-stuck (is_true_at c.args.self.now) c.args.k c.in-Some.first (length c.args.self.now)
    (run-behind (is_true_at c.args.self.now) c.args.k c.loop-first.from c.in-Some.first c.requires c.loop-first.invariant.none c.in-Some.ensures.lowest.before)
    (none-past c.args.self.now) (omega (arith, inside)) (omega (arith, inside, size, ap length c.self.view_is))

pub returns-then-end-first : goal.returns-then-end-first
returns-then-end-first g c =
    let run : IsRunEnd (is_true_at c.args.self.now) c.in-Some.first (c.in-Some.first + c.args.k) c.run_end-end.result =
    rw (← c.self.view_is) (end-of c.self.invariant (rw c.deref.ensures.value at c.run_end-end.ensures)) in
    run-found (is_true_at c.args.self.now) c.args.k c.in-Some.first c.run_end-end.result
    (run-behind (is_true_at c.args.self.now) c.args.k c.loop-first.from c.in-Some.first c.requires c.loop-first.invariant.none c.in-Some.ensures.lowest.before)
    run (omega (arith, run.after))

pub loop-first-smaller : goal.loop-first-smaller
loop-first-smaller g c =
    let run : IsRunEnd (is_true_at c.args.self.now) c.in-Some.first (c.in-Some.first + c.args.k) c.run_end-end.result =
    rw (← c.self.view_is) (end-of c.self.invariant (rw c.deref.ensures.value at c.run_end-end.ensures)) in
    let more = run-some (is_true_at c.args.self.now) c.args.k c.in-Some.first c.run_end-end.result c.requires c.in-Some.ensures.lowest.passes run in
    omega (arith, more, run.inside, c.in-Some.ensures.lowest.after, first-inside c.args.self.now c.in-Some.ensures.lowest, ap length c.self.view_is, length-bools c.self.inside.words.items c.self.inside.len)

pub loop-first-preserved : goal.loop-first-preserved
loop-first-preserved g c =
    let run : IsRunEnd (is_true_at c.args.self.now) c.in-Some.first (c.in-Some.first + c.args.k) c.run_end-end.result =
    rw (← c.self.view_is) (end-of c.self.invariant (rw c.deref.ensures.value at c.run_end-end.ensures)) in
    record {
      inside = omega (arith, run.inside, first-inside c.args.self.now c.in-Some.ensures.lowest, ap length c.self.view_is, length-bools c.self.inside.words.items c.self.inside.len);
      none = run-short (is_true_at c.args.self.now) c.args.k c.in-Some.first c.run_end-end.result
          (run-behind (is_true_at c.args.self.now) c.args.k c.loop-first.from c.in-Some.first c.requires c.loop-first.invariant.none c.in-Some.ensures.lowest.before)
          run (omega (arith, run.after, run.inside));
    }

pub returns : goal.returns
returns g c = run-none (is_true_at c.args.self.now) c.args.k c.loop-first.from c.requires c.loop-first.invariant.none c.in_default.ensures.lowest
