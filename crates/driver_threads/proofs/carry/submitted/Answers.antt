use Rattle.std.proofs.Common.{ap, sym, subst}
use Rattle.driver_book.specs.State.{BookContents, IsBookOf}
use Rattle.shared.specs.declared.lock.Locked.{Locked}
use Rattle.driver_threads.proofs.carry.submitted.Goals as goal

pub returns-clause-submitted : goal.returns-clause-submitted
returns-clause-submitted g c = record {
  old = c.deref_mut.result.now.machine;
  new = c.submit.new.self;
  of = subst (λ (b : BookContents). IsBookOf g.L.LogBrand.opening b) (sym (ap (λ (l : Locked BookContents). l.machine) c.deref_mut.ensures.value)) c.lock-locked.ensures;
  does = c.in-Ok.ensures.step;
  receives = c.in-Ok.ensures.receipt;
  learns = c.in-Ok.ensures.known;
}
