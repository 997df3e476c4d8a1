-- The rounds go on by one, and those whose turn came are told; where no jobs are left, those that were done are all.
use Rattle.std.{proofs.{Common.{not, ◌==◌, ◌≡◌, List, arith, rules, ap, length, map, refl, subst, sym, ◌∙◌, []}, lemmas.Simd.map-map}, specs.List.list_any}
use Rattle.driver_threads.specs.{Behind.behind, Values.Job}
use Rattle.script_cli.specs.declared.fault.RunFault.TheVariants as run
use Rattle.job_cli.proofs.Told.{begun_left, begun_on, begun_told, round_cut, round_left, round_told, wanting_failed, within_failed}
use Rattle.job_cli.{proofs.JobRuns.{all_done, lengths_behind, more_done, one_gone_on}, specs.GoneOn.{HasBegun, HasGoneOn, Round}}
use Rattle.job_cli.proofs.rounds.tell_rounds.Goals.{in-None, in-Some+in_ok-round+in_ok-round-2+in_ok-append+in_ok-untold+then-not-some_has_jobs}
use Rattle.job_cli.proofs.rounds.tell_rounds.Goals as goal

pub returns-clause-gone_on : goal.returns-clause-gone_on
returns-clause-gone_on g c = elim c.match-next.branch [
  | in-None w ↦ absurd (search rules)
  | in-Some+in_ok-round+in_ok-round-2+in_ok-append+in_ok-untold+then-not-some_has_jobs w ↦
      let done = c.loop.invariant.jobs in
      let taken = map (λ list. list.items) w.in_ok-round.round.items in
      let round : Round =
      record { lists = taken; log = w.in_ok-round-2.round.log; report = w.in_ok-round-2.round.report; ends = w.in_ok-round-2.round.jobs; world = w.in_ok-round-2.round.world } in
      let none = ap (list_any (λ queue. not (length queue.items == 0))) (sym w.deref.ensures.value) ∙ (sym w.some_has_jobs.ensures ∙ w.if-not-some_has_jobs.true) in
      let all =
      all_done (λ list. list.items) (λ queue. queue.items) c.args.orders.lists.items c.loop.left.items w.next_round.new.left.items w.in_ok-round.round.items done.0 done.2 w.in_ok-round.ensures.next
      (omega (arith, w.in_ok-round.ensures.count, w.in_ok-round.ensures.left, w.in_ok-round.round.ok.0, w.next_round.new.left.ok.0)) none in
      rw (w.ends-is, w.world-is, w.in_ok-append.ensures)
      (subst (λ (lists : List (List Job)). HasGoneOn c.args.world.state lists (behind c.loop.ends w.in_ok-round-2.round.jobs) w.in_ok-round-2.round.world.state) all
      (one_gone_on c.args.world.state c.loop.world.state done.0 c.loop.ends round done.3 w.in_ok-round-2.ensures.ended w.in_ok-round-2.ensures.went w.in_ok-round-2.ensures.agree w.in_ok-round-2.ensures.jobs))
]

pub returns-clause-ended : goal.returns-clause-ended
returns-clause-ended g c = elim c.match-next.branch [
  | in-None w ↦ absurd (search rules)
  | in-Some+in_ok-round+in_ok-round-2+in_ok-append+in_ok-untold+then-not-some_has_jobs w ↦
      let done = c.loop.invariant.jobs in
      let taken = map (λ list. list.items) w.in_ok-round.round.items in
      let long = w.in_ok-round-2.ensures.all_jobs ∙ sym (map-map length (λ list. list.items) w.in_ok-round.round.items) in
      let none = ap (list_any (λ queue. not (length queue.items == 0))) (sym w.deref.ensures.value) ∙ (sym w.some_has_jobs.ensures ∙ w.if-not-some_has_jobs.true) in
      let all =
      all_done (λ list. list.items) (λ queue. queue.items) c.args.orders.lists.items c.loop.left.items w.next_round.new.left.items w.in_ok-round.round.items done.0 done.2 w.in_ok-round.ensures.next
      (omega (arith, w.in_ok-round.ensures.count, w.in_ok-round.ensures.left, w.in_ok-round.round.ok.0, w.next_round.new.left.ok.0)) none in
      rw (w.ends-is, w.in_ok-append.ensures)
      (lengths_behind c.loop.ends w.in_ok-round-2.round.jobs done.0 taken done.1 long ∙ (ap (map length) all ∙ map-map length (λ queue. queue.items) c.args.orders.lists.items))
]

pub loop-init : goal.loop-init
loop-init g c = record {
  count = refl;
  jobs = ([], rw c.none-ends.ensures refl, refl, begun_on c.args.world.state c.none-ends.result c.none-ends.ensures);
  untold = begun_left c.none-ends.result c.args.orders.headings.items c.as_slice-untold.result.now c.none-ends.ensures c.as_slice-untold.ensures.value;
  told = λ lines. begun_told c.none-ends.result c.args.orders.headings.items _ c.none-ends.ensures;
}

pub returns-in_err-round-clause-failed : goal.returns-in_err-round-clause-failed
returns-in_err-round-clause-failed g c lines =
    let done = c.loop.invariant.jobs in
    let all = map (λ queue. queue.items) c.args.orders.lists.items in
    let begun : HasBegun c.args.world.state all c.loop.ends c.loop.world.state = record { done = done.0; left = map (λ queue. queue.items) c.loop.left.items; all_are = done.2; gone_on = done.3 } in
    wanting_failed c.from_residual.result run.Memory _ c.loop.world.state all c.loop.ends _ _ _ c.from_residual.ensures.1 begun tt (c.loop.invariant.told lines)

pub returns-in_err-append-clause-failed : goal.returns-in_err-append-clause-failed
returns-in_err-append-clause-failed g c lines =
    let done = c.loop.invariant.jobs in
    let all = map (λ queue. queue.items) c.args.orders.lists.items in
    let begun : HasBegun c.args.world.state all c.loop.ends c.loop.world.state = record { done = done.0; left = map (λ queue. queue.items) c.loop.left.items; all_are = done.2; gone_on = done.3 } in
    wanting_failed c.from_residual-in_err-append.result run.Memory _ c.loop.world.state all c.loop.ends _ _ _ c.from_residual-in_err-append.ensures.1 begun tt (c.loop.invariant.told lines)

pub returns-in_err-untold-clause-failed : goal.returns-in_err-untold-clause-failed
returns-in_err-untold-clause-failed g c lines =
    let done = c.loop.invariant.jobs in
    let all = map (λ queue. queue.items) c.args.orders.lists.items in
    let taken = map (λ list. list.items) c.in_ok-round.round.items in
    let round : Round = record { lists = taken; log = c.in_ok-round-2.round.log; report = c.in_ok-round-2.round.report; ends = c.in_ok-round-2.round.jobs; world = c.in_ok-round-2.round.world } in
    let begun : HasBegun c.args.world.state all (behind c.loop.ends round.ends) round.world.state =
    record {
      done = behind done.0 taken;
      left = map (λ queue. queue.items) c.next_round.new.left.items;
      all_are = more_done (λ list. list.items) (λ queue. queue.items) c.args.orders.lists.items c.loop.left.items c.next_round.new.left.items c.in_ok-round.round.items done.0 done.2 c.in_ok-round.ensures.next;
      gone_on = one_gone_on c.args.world.state c.loop.world.state done.0 c.loop.ends round done.3 c.in_ok-round-2.ensures.ended c.in_ok-round-2.ensures.went c.in_ok-round-2.ensures.agree c.in_ok-round-2.ensures.jobs;
    } in
    within_failed c.from_residual-in_err-untold.result c.in_err-untold.field-0.0 _ round.world.state all c.append.new.self _ _ _ c.from_residual-in_err-untold.ensures.1
    (rw c.in_ok-append.ensures begun) c.in_err-untold.ensures.fault
    (round_cut c.loop.ends c.in_ok-round-2.round.jobs c.append.new.self c.args.orders.headings.items c.loop.untold.now _ _ _ c.in_ok-append.ensures c.loop.invariant.untold (c.loop.invariant.told lines)
    (c.in_err-untold.ensures.cut lines))

pub returns-in_err-tell-clause-failed : goal.returns-in_err-tell-clause-failed
returns-in_err-tell-clause-failed g c lines =
    let done = c.loop.invariant.jobs in
    let all = map (λ queue. queue.items) c.args.orders.lists.items in
    let taken = map (λ list. list.items) c.in_ok-round.round.items in
    let round : Round = record { lists = taken; log = c.in_ok-round-2.round.log; report = c.in_ok-round-2.round.report; ends = c.in_ok-round-2.round.jobs; world = c.in_ok-round-2.round.world } in
    let begun : HasBegun c.args.world.state all (behind c.loop.ends round.ends) round.world.state =
    record {
      done = behind done.0 taken;
      left = map (λ queue. queue.items) c.next_round.new.left.items;
      all_are = more_done (λ list. list.items) (λ queue. queue.items) c.args.orders.lists.items c.loop.left.items c.next_round.new.left.items c.in_ok-round.round.items done.0 done.2 c.in_ok-round.ensures.next;
      gone_on = one_gone_on c.args.world.state c.loop.world.state done.0 c.loop.ends round done.3 c.in_ok-round-2.ensures.ended c.in_ok-round-2.ensures.went c.in_ok-round-2.ensures.agree c.in_ok-round-2.ensures.jobs;
    } in
    wanting_failed c.from_residual-in_err-tell.result run.Memory _ round.world.state all c.append.new.self _ _ _ c.from_residual-in_err-tell.ensures.1 (rw c.in_ok-append.ensures begun) tt
    (round_told c.loop.ends c.in_ok-round-2.round.jobs c.append.new.self c.args.orders.headings.items c.loop.untold.now _ _ _ c.in_ok-append.ensures c.loop.invariant.untold (c.loop.invariant.told lines)
    (c.in_ok-untold.ensures.written lines))

pub returns-clause-written : goal.returns-clause-written
returns-clause-written g c lines = elim c.match-next.branch [
  | in-None w ↦ absurd (search rules)
  | in-Some+in_ok-round+in_ok-round-2+in_ok-append+in_ok-untold+then-not-some_has_jobs w ↦
      rw (w.writer-is, w.ends-is)
      (round_told c.loop.ends w.in_ok-round-2.round.jobs w.append.new.self c.args.orders.headings.items c.loop.untold.now _ _ _ w.in_ok-append.ensures c.loop.invariant.untold (c.loop.invariant.told lines)
      (w.in_ok-untold.ensures.written lines))
]

pub loop-preserved : goal.loop-preserved
loop-preserved g c =
    let done = c.loop.invariant.jobs in
    let taken = map (λ list. list.items) c.in_ok-round.round.items in
    let round : Round = record { lists = taken; log = c.in_ok-round-2.round.log; report = c.in_ok-round-2.round.report; ends = c.in_ok-round-2.round.jobs; world = c.in_ok-round-2.round.world } in
    let long = c.in_ok-round-2.ensures.all_jobs ∙ sym (map-map length (λ list. list.items) c.in_ok-round.round.items) in
    record {
      count = c.in_ok-round.ensures.left ∙ c.loop.invariant.count;
      jobs = (
        behind done.0 taken,
        ap (map length) c.in_ok-append.ensures ∙ lengths_behind c.loop.ends c.in_ok-round-2.round.jobs done.0 taken done.1 long,
        more_done (λ list. list.items) (λ queue. queue.items) c.args.orders.lists.items c.loop.left.items c.next_round.new.left.items c.in_ok-round.round.items done.0 done.2 c.in_ok-round.ensures.next,
        rw c.in_ok-append.ensures
            (one_gone_on c.args.world.state c.loop.world.state done.0 c.loop.ends round done.3 c.in_ok-round-2.ensures.ended c.in_ok-round-2.ensures.went c.in_ok-round-2.ensures.agree c.in_ok-round-2.ensures.jobs),
      );
      untold =
          round_left c.loop.ends c.in_ok-round-2.round.jobs c.append.new.self c.args.orders.headings.items c.loop.untold.now c.in_ok-untold.untold.now c.in_ok-append.ensures c.loop.invariant.untold
          c.in_ok-untold.ensures.left;
      told = λ lines.
          round_told c.loop.ends c.in_ok-round-2.round.jobs c.append.new.self c.args.orders.headings.items c.loop.untold.now _ _ _ c.in_ok-append.ensures c.loop.invariant.untold (c.loop.invariant.told lines)
          (c.in_ok-untold.ensures.written lines);
    }
