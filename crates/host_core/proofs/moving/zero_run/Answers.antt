use Rattle.std.proofs.Common.{◌≡◌, ◌+◌, Some, ap, arith, length, slice_set}
use Rattle.page_memory.specs.Pages.{Contents, zero_page}
use Rattle.host_core.proofs.PageOwners.{can-next, first-there, put-zeroed, taken-out, zeroed-next}
use Rattle.host_core.proofs.moving.zero_run.Goals as goal

pub put-requires : goal.put-requires
put-requires g c =
    rw c.take_zeroed-page.ensures.page
    (taken-out c.loop-p.store.pages c.take_zeroed-page.new.store.pages c.loop-p.p
    (first-there c.loop-p.p (c.args.first + c.args.count) c.loop-p.store.pages (omega arith) c.loop-p.invariant.can)
    c.take_zeroed-page.ensures.out)

pub loop-p-preserved : goal.loop-p-preserved
loop-p-preserved g c =
    let end = c.args.first + c.args.count in
    let set : c.put.new.self.pages ≡ slice_set c.loop-p.store.pages c.loop-p.p (Some zero_page) =
    put-zeroed c.loop-p.store.pages c.take_zeroed-page.new.store.pages c.put.new.self.pages c.loop-p.p c.take_zeroed-page.result c.take_zeroed-page.ensures.out c.take_zeroed-page.ensures.page
    (ap (λ (m : Contents). m.pages) c.put.ensures) in
    record {
      rest = zeroed-next c.loop-p.p end c.loop-p.store.pages c.put.new.self.pages _ (omega arith) set c.loop-p.invariant.rest;
      can = can-next c.loop-p.p end c.loop-p.store.pages c.put.new.self.pages (omega arith) set c.loop-p.invariant.can;
      touches = omega (arith, c.loop-p.invariant.touches, c.take_zeroed-page.ensures.touches, ap (λ (m : Contents). m.unlisted) c.put.ensures, ap (λ (m : Contents). length m.touched) c.put.ensures);
    }
