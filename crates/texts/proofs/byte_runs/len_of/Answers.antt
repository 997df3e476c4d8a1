-- The next run is counted, or ends the count; and all runs were counted.
use Rattle.std.proofs.Common.{rules, arith, ◌≡◌, ◌≤◌, ◌+◌, ◌^◌, ◌∷◌, [], None, Some, drop, length}
use Rattle.std.proofs.lemmas.Iterator.{Consumers.{YieldsList-turn, YieldsList-end}, Splits.YieldsList-from_slice_split}
use Rattle.std.proofs.lemmas.List.{drop_all, length_push}
use borrow.Author.Tests.{tests}
use Rattle.texts.proofs.RunLemmas.{Counts, all_counted, next_run, one_counted, too_many_counted, uncounted}
use Rattle.texts.specs.Runs.{IsUncounted, is_comma, run_len, runs_of}
use Rattle.texts.proofs.byte_runs.len_of.Goals as goal

pub loop-run-preserved : goal.loop-run-preserved
loop-run-preserved c =
    let all = runs_of c.args.word.now in
    let turn = YieldsList-turn (YieldsList-from_slice_split _ is_comma c.args.word.now (search rules) (search rules) (search rules) (λ x b q k. search (rules, tests))) c.loop-run.yielded _ c.loop-run.yielded_by _ _ c.in-Some.run' c.in-Some.is c.next.ensures.steps in
    let so_far : Counts all (c.in-Some.run'.now ∷ drop (length c.loop-run.yielded + 1) all) c.loop-run.len = rw (next_run all (length c.loop-run.yielded) c.in-Some.run'.now turn) at c.loop-run.invariant in
    let said : run_len c.in-Some.run'.now ≡ Some c.in_ok-run_len.field-0 = search rules in
    let sum : c.in_ok-len.len ≡ c.loop-run.len + c.in_ok-run_len.field-0 = search rules in
    rw (length_push c.loop-run.yielded c.in-Some.run', sum) (one_counted all _ c.in-Some.run'.now c.loop-run.len c.in_ok-run_len.field-0 so_far said)

pub returns-in_err-run_len : goal.returns-in_err-run_len
returns-in_err-run_len c =
    let all = runs_of c.args.word.now in
    let turn = YieldsList-turn (YieldsList-from_slice_split _ is_comma c.args.word.now (search rules) (search rules) (search rules) (λ x b q k. search (rules, tests))) c.loop-run.yielded _ c.loop-run.yielded_by _ _ c.in-Some.run' c.in-Some.is c.next.ensures.steps in
    let so_far : Counts all (c.in-Some.run'.now ∷ drop (length c.loop-run.yielded + 1) all) c.loop-run.len = rw (next_run all (length c.loop-run.yielded) c.in-Some.run'.now turn) at c.loop-run.invariant in
    let none : c.from_residual.result ≡ None = search rules in
    let not_said : IsUncounted (run_len c.in-Some.run'.now) = search rules in
    rw none (uncounted all _ c.in-Some.run'.now c.loop-run.len so_far not_said)

pub returns-in_err-len : goal.returns-in_err-len
returns-in_err-len c =
    let all = runs_of c.args.word.now in
    let turn = YieldsList-turn (YieldsList-from_slice_split _ is_comma c.args.word.now (search rules) (search rules) (search rules) (λ x b q k. search (rules, tests))) c.loop-run.yielded _ c.loop-run.yielded_by _ _ c.in-Some.run' c.in-Some.is c.next.ensures.steps in
    let so_far : Counts all (c.in-Some.run'.now ∷ drop (length c.loop-run.yielded + 1) all) c.loop-run.len = rw (next_run all (length c.loop-run.yielded) c.in-Some.run'.now turn) at c.loop-run.invariant in
    let none : c.from_residual-in_err-len.result ≡ None = search rules in
    let said : run_len c.in-Some.run'.now ≡ Some c.in_ok-run_len.field-0 = search rules in
    let many : 2 ^ 64 ≤ c.loop-run.len + c.in_ok-run_len.field-0 = search rules in
    rw none (too_many_counted all _ c.in-Some.run'.now c.loop-run.len c.in_ok-run_len.field-0 so_far said many)

pub returns : goal.returns
returns c =
    let all = runs_of c.args.word.now in
    let end = YieldsList-end (YieldsList-from_slice_split _ is_comma c.args.word.now (search rules) (search rules) (search rules) (λ x b q k. search (rules, tests))) c.loop-run.yielded _ c.loop-run.yielded_by _ _ c.in-None.is c.next.ensures.steps in
    let none : drop (length c.loop-run.yielded) all ≡ [] = drop_all (length c.loop-run.yielded) all (omega (arith, end.1)) in
    all_counted all c.loop-run.len (rw none at c.loop-run.invariant)
