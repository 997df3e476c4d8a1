use Rattle.std.proofs.Common.{arith, None, ◌≡◌, ◌∙◌, ℕ, true, false, [], List, slice_get, ap, subst, sym, Some}
use Rattle.machine_model.specs.Refusals.{is_reaped, in_state}
use Rattle.host_core.{proofs.QueueLists.{base-is, base-there, base-gone, completion-inside}, specs.Alone.{HostView, alone}}
use Rattle.host_core.specs.{Looks.completion_base as spec_completion_base, Parts.tables_of, Reaping.lacks_completion, Rows.Queue}
use Rattle.host_core.proofs.host.Host.completion_base.Goals as goal

pub returns-clause-base : goal.returns-clause-base
returns-clause-base g c =
    subst (λ (v : HostView). Some c.completion_address.result ≡ spec_completion_base v c.args.q) c.self.view_is
    (ap (λ (n : ℕ). Some n) c.completion_address.ensures
    ∙ base-is (tables_of c.self.inside.parts []) c.args.q c.from.result c.index.result.now c.self.invariant.rings (subst (λ (queues : List Queue). lacks_completion (slice_get queues c.args.q) ≡ false) c.deref.ensures.value (sym c.if-has_no_completion.ensures)) c.from.ensures c.index.ensures)

pub returns-clause-there : goal.returns-clause-there
returns-clause-there g c =
    subst (λ (v : HostView). true ≡ in_state is_reaped (alone v []) c.args.q) c.self.view_is
    (base-there (tables_of c.self.inside.parts []) c.args.q c.from.result c.index.result.now (subst (λ (queues : List Queue). lacks_completion (slice_get queues c.args.q) ≡ false) c.deref.ensures.value (sym c.if-has_no_completion.ensures)) c.from.ensures c.index.ensures)

pub returns-then-has_no_completion-clause-base : goal.returns-then-has_no_completion-clause-base
returns-then-has_no_completion-clause-base g c =
    subst (λ (v : HostView). None ≡ spec_completion_base v c.args.q) c.self.view_is (base-gone (tables_of c.self.inside.parts []) c.args.q (subst (λ (queues : List Queue). lacks_completion (slice_get queues c.args.q) ≡ true) c.deref.ensures.value (sym c.if-has_no_completion.ensures))).0

pub returns-then-has_no_completion-clause-there : goal.returns-then-has_no_completion-clause-there
returns-then-has_no_completion-clause-there g c =
    subst (λ (v : HostView). false ≡ in_state is_reaped (alone v []) c.args.q) c.self.view_is (base-gone (tables_of c.self.inside.parts []) c.args.q (subst (λ (queues : List Queue). lacks_completion (slice_get queues c.args.q) ≡ true) c.deref.ensures.value (sym c.if-has_no_completion.ensures))).1

pub index-requires : goal.index-requires
index-requires g c =
    omega (arith, c.from.ensures, c.self.inside.parts.queues.ok.0, completion-inside c.self.inside.parts.queues.items c.args.q (subst (λ (queues : List Queue). lacks_completion (slice_get queues c.args.q) ≡ false) c.deref.ensures.value (sym c.if-has_no_completion.ensures)))
