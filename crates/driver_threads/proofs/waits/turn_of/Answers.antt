-- The book that was looked at refuses the request.
use Rattle.std.proofs.Common.{◌-◌, ℕ, ap, length, subst, ◌∙◌}
use Rattle.driver_book.specs.History.{LeadsBy, LeadsTo}
use Rattle.machine_model.specs.State.{State}
use Rattle.page_ledger.specs.declared.owner.Counts.{Counts}
use Rattle.driver_threads.proofs.waits.turn_of.Goals as goal

pub returns-else-need-pool : goal.returns-else-need-pool
returns-else-need-pool g c =
    let book = c.args.book.now in
    record {
      refused =
          record {
            book = book;
            of =
                record {
                  opens = c.check.ensures.opening;
                  legal = subst (λ (opening : State). LeadsTo opening book.log book.world) c.check.ensures.opening c.check.ensures.legal;
                  submitted = subst (λ (opening : State). LeadsBy opening book.log book.drafts book.world) c.check.ensures.opening c.check.ensures.submitted;
                  sound = c.check.ensures.sound;
                };
            refuses =
                record {
                  wanted = c.in-Some-NoPages.field-0-0;
                  free = c.in-Some-NoPages.field-0-1;
                  refuses = cc (c.reserve_refusal.ensures, c.in-Some-NoPages.is, c.in-Some-NoPages.field-0-is);
                  need_is = c.in-Ok.ensures.least;
                  pool_is = ap (λ (n : ℕ). n - c.counts.result.queue_pages) c.pages.ensures.pages ∙ ap (λ (k : Counts). length book.world.memory - k.queue_pages) c.counts.ensures.counts;
                  few = c.if-need-pool.false;
                };
          };
    }
