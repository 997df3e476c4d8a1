-- Each further submitter gave back what it promised.
use Rattle.std.proofs.{Common.{◌≡◌, ◌∙◌, IfOk, arith, rules, sym, subst}, lemmas.{Grind.common_steps, Iterator.{Adapters.YieldsList-from_vec, Consumers.YieldsList-end}}}
use Rattle.std.specs.List.{AllZip}
use Rattle.driver_threads.{proofs.Carried.{fits_push, same_items}, specs.Jobs.WentBy}
use Rattle.driver_threads.proofs.run.join_all.Goals as goal

pub loop-handle-init : goal.loop-handle-init
loop-handle-init g c = record {
  room = grind (arith, common_steps);
  kept = rw c.requires.empty tt;
}

pub loop-handle-preserved : goal.loop-handle-preserved
loop-handle-preserved g c = record {
  room = grind (arith, common_steps);
  kept =
      rw c.push_reserved.ensures.items
      (fits_push (λ handle returned. IfOk returned.carried (λ carried. WentBy g.D.Data.bytes g.D.Data.keeps g.L.LogBrand.opening carried.seat.number handle.promise.0.value.items carried.seat.receipts carried.ends.items)) c.loop-handle.yielded
      c.loop-handle.workers.items c.in-Some.handle c.join.result c.loop-handle.invariant.kept c.join.ensures);
}

pub returns : goal.returns
returns g c =
    let ended = YieldsList-end (YieldsList-from_vec c.args.submitters.items (search rules) (search rules)) c.loop-handle.yielded c.loop-handle.handle-iterator c.loop-handle.yielded_by c.next.result c.next.new.self c.in-None.is c.next.ensures.steps in
    let all : c.loop-handle.yielded ≡ c.args.submitters.items = sym (same_items c.loop-handle.yielded) ∙ ended.0 in
    subst (λ handles. AllZip (λ handle returned. IfOk returned.carried (λ carried. WentBy g.D.Data.bytes g.D.Data.keeps g.L.LogBrand.opening carried.seat.number handle.promise.0.value.items carried.seat.receipts carried.ends.items)) handles c.loop-handle.workers.items) all
    c.loop-handle.invariant.kept
