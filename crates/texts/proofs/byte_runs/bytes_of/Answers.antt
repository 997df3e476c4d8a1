-- The next run is put after those before it, or ends the bytes; and all runs were put.
use Rattle.std.proofs.Common.{rules, arith, ◌≡◌, ◌+◌, ◌∷◌, [], Err, drop, length, refl}
use Rattle.std.proofs.lemmas.Iterator.{Consumers.{YieldsList-turn, YieldsList-end}, Splits.YieldsList-from_slice_split}
use Rattle.std.proofs.lemmas.List.{drop_all, length_push}
use borrow.Author.Tests.{tests}
use Rattle.texts.{proofs.RunLemmas.{GoesOn, one_put, all_put, next_run, why_no_run}, specs.Runs.{is_comma, runs_of}}
use Rattle.texts.proofs.byte_runs.bytes_of.Goals as goal

pub loop-run-preserved : goal.loop-run-preserved
loop-run-preserved c =
    let all = runs_of c.args.word.now in
    let turn = YieldsList-turn (YieldsList-from_slice_split _ is_comma c.args.word.now (search rules) (search rules) (search rules) (λ x b q k. search (rules, tests))) c.loop-run.yielded _ c.loop-run.yielded_by _ _ c.in-Some.run' c.in-Some.is c.next.ensures.steps in
    let so_far : GoesOn all (c.in-Some.run'.now ∷ drop (length c.loop-run.yielded + 1) all) c.loop-run.out.items = rw (next_run all (length c.loop-run.yielded) c.in-Some.run'.now turn) at c.loop-run.invariant.so_far in
    let put = c.in_ok-put_run.ensures.put in
    record {
      few = search rules;
      so_far = rw (length_push c.loop-run.yielded c.in-Some.run', put.2) (one_put all _ _ _ put.0 so_far put.1);
    }

pub returns-in_err-put_run-clause-refused : goal.returns-in_err-put_run-clause-refused
returns-in_err-put_run-clause-refused c =
    let all = runs_of c.args.word.now in
    let turn = YieldsList-turn (YieldsList-from_slice_split _ is_comma c.args.word.now (search rules) (search rules) (search rules) (λ x b q k. search (rules, tests))) c.loop-run.yielded _ c.loop-run.yielded_by _ _ c.in-Some.run' c.in-Some.is c.next.ensures.steps in
    let so_far : GoesOn all (c.in-Some.run'.now ∷ drop (length c.loop-run.yielded + 1) all) c.loop-run.out.items = rw (next_run all (length c.loop-run.yielded) c.in-Some.run'.now turn) at c.loop-run.invariant.so_far in
    let err : c.from_residual.result ≡ Err c.in_err-put_run.field-0.0 = search rules in
    let len : c.loop-run.out.len ≡ length c.loop-run.out.items = cc in
    rw err (why_no_run all _ c.in-Some.run'.now c.loop-run.out.items c.args.most c.in_err-put_run.field-0.0 so_far (omega arith) (rw len at c.in_err-put_run.ensures.not_put) c.args.word.now refl)

pub returns-clause-bytes : goal.returns-clause-bytes
returns-clause-bytes c =
    let all = runs_of c.args.word.now in
    let end = YieldsList-end (YieldsList-from_slice_split _ is_comma c.args.word.now (search rules) (search rules) (search rules) (λ x b q k. search (rules, tests))) c.loop-run.yielded _ c.loop-run.yielded_by _ _ c.in-None.is c.next.ensures.steps in
    let none : drop (length c.loop-run.yielded) all ≡ [] = drop_all (length c.loop-run.yielded) all (omega (arith, end.1)) in
    all_put all c.loop-run.out.items (rw none at c.loop-run.invariant.so_far)
