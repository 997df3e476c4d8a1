-- Each further submitter hands in how its jobs went.
use Rattle.std.proofs.{Common.{[], ◌∷◌, ◌≡◌, ◌∙◌, IfOk, ap, arith, length, refl, rules, sym}, lemmas.{Iterator.{Adapters.YieldsList-from_vec, Consumers.YieldsList-end}, List.{length-append, length-map}}}
use Rattle.driver_threads.{proofs.Carried.{handed_all, handed_more, last_fits, none_went, ok_is, same_items, same_push}, specs.{Ends.{ends_of, statuses_of}, Jobs.WentBy}}
use Rattle.driver_threads.proofs.run.handed_in.Goals as goal

pub loop-returned-init : goal.loop-returned-init
loop-returned-init g c = record {
  agree = rw (c.new-seats.ensures.items, c.new-lists.ensures.items) refl;
  many = c.new-lists.ensures.len;
  went = λ lists all. rw (c.new-seats.ensures.items, c.new-lists.ensures.items) (none_went g.D.Data.bytes g.D.Data.keeps g.L.LogBrand.opening _ lists all);
}

pub loop-returned-preserved : goal.loop-returned-preserved
loop-returned-preserved g c =
    let seats = c.in-Ok-Ok.ensures.items in
    let lists_are = c.in-Ok-Ok.ensures'.items in
    record {
      agree =
          rw (seats, lists_are)
          (same_push (λ seat. statuses_of seat.receipts) (λ list. ends_of list.items) c.loop-returned.seats.items c.loop-returned.lists.items c.in_ok-seat.field-0.seat c.in_ok-seat.field-0.ends c.loop-returned.invariant.agree
          c.in_ok-seat.field-0.agree);
      many = omega (arith, c.in-Ok-Ok.ensures'.len, c.loop-returned.invariant.many, length-append c.loop-returned.yielded (c.in-Some.returned ∷ []));
      went = λ lists all.
          let last = last_fits (λ list returned. IfOk returned.carried (λ carried. WentBy g.D.Data.bytes g.D.Data.keeps g.L.LogBrand.opening carried.seat.number list carried.seat.receipts carried.ends.items)) lists c.loop-returned.yielded c.in-Some.returned all in
          let fits = ok_is c.in-Some.returned.carried c.in_ok-seat.field-0 (λ carried. WentBy g.D.Data.bytes g.D.Data.keeps g.L.LogBrand.opening carried.seat.number last.last carried.seat.receipts carried.ends.items) c.in_ok-seat.was last.fits in
          rw (seats, lists_are)
          (handed_more g.D.Data.bytes g.D.Data.keeps g.L.LogBrand.opening (λ seat. seat.receipts) (λ list. list.items) lists last.before c.loop-returned.seats.items c.loop-returned.lists.items c.in_ok-seat.field-0.seat c.in_ok-seat.field-0.ends last.last
          c.in_ok-seat.field-0.seat.number last.are (c.loop-returned.invariant.went last.before last.all) fits);
    }

pub returns-in-Some-as_long_as-clause-agree : goal.returns-in-Some-as_long_as-clause-agree
returns-in-Some-as_long_as-clause-agree g c = rw c.in-Some-as_long_as.ensures.same c.loop-returned.invariant.agree

pub returns-in-Some-as_long_as-clause-went : goal.returns-in-Some-as_long_as-clause-went
returns-in-Some-as_long_as-clause-went g c lists first many =
    let ended = YieldsList-end (YieldsList-from_vec c.args.workers.items (search rules) (search rules)) c.loop-returned.yielded c.loop-returned.returned-iterator c.loop-returned.yielded_by c.next.result c.next.new.self c.in-None.is c.next.ensures.steps in
    let all : c.loop-returned.yielded ≡ c.args.workers.items = sym (same_items c.loop-returned.yielded) ∙ ended.0 in
    let told : length c.in-Some-as_long_as.lists.items ≡ length c.args.jobs.now = sym (length-map c.in-Some-as_long_as.lists.items (λ list. length list.items)) ∙ ap length c.in-Some-as_long_as.ensures.long in
    let same : length c.in-Some-as_long_as.lists.items ≡ length c.loop-returned.lists.items = ap (λ lists. length lists.items) c.in-Some-as_long_as.ensures.same in
    let long : length c.loop-returned.yielded ≡ length lists = omega (arith, many, told, same, c.loop-returned.invariant.many, c.loop-returned.lists.ok.0) in
    rw c.in-Some-as_long_as.ensures.same
    (handed_all g.D.Data.bytes g.D.Data.keeps g.L.LogBrand.opening (λ list returned. IfOk returned.carried (λ carried. WentBy g.D.Data.bytes g.D.Data.keeps g.L.LogBrand.opening carried.seat.number list carried.seat.receipts carried.ends.items)) lists c.args.workers.items
    c.loop-returned.yielded _ _ all long first c.loop-returned.invariant.went)
