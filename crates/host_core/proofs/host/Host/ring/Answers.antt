use Rattle.std.proofs.Common.{◌≡◌, [], List, true, false, slice_get, subst, sym}
use Rattle.host_core.{proofs.{Openings.stays_at, Refusing.{ring-made, ring-refused}}, specs.{Parts.tables_of, Ringing.lacks_submission, Rows.Queue}}
use Rattle.machine_model.specs.Events as events
use Rattle.machine_model.specs.declared.words.Refusal.TheVariants as refusal
use Rattle.host_core.proofs.host.Host.ring.Goals as goal

pub returns-then-has_no_submission-clause-step : goal.returns-then-has_no_submission-clause-step
returns-then-has_no_submission-clause-step g c = λ pages.
    stays_at (tables_of c.self.inside.parts pages) c.args.self.now (events.Ring c.args.q) (events.Refused refusal.NoQueue []) c.self.view_is
    (ring-refused (tables_of c.self.inside.parts pages) c.args.q (subst (λ (queues : List Queue). lacks_submission (slice_get queues c.args.q) ≡ true) c.deref.ensures.value (sym c.if-has_no_submission.ensures)))

pub returns-clause-step : goal.returns-clause-step
returns-clause-step g c = λ pages.
    stays_at (tables_of c.self.inside.parts pages) c.args.self.now (events.Ring c.args.q) events.Accepted c.self.view_is
    (ring-made (tables_of c.self.inside.parts pages) c.args.q (subst (λ (queues : List Queue). lacks_submission (slice_get queues c.args.q) ≡ false) c.deref.ensures.value (sym c.if-has_no_submission.ensures)))
