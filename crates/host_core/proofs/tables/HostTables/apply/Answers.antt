use Rattle.std.proofs.Common.{[], List, ap, sym, ◌∙◌, subst}
use Rattle.admin_commands.specs.declared.AdminKind.{AdminKind}
use Rattle.machine_model.specs.Refusals.{has_cq_alone}
use Rattle.host_core.{proofs.Reaps.{gives-meant, unmade-cq, unmade-sq}, specs.{Commands.{passes, state_at}, Halves.HasMeant, Parts.tables_of, Rows.Queue}}
use Rattle.host_core.proofs.tables.HostTables.apply.Goals as goal

pub give_back_completion-requires : goal.give_back_completion-requires
give_back_completion-requires g c =
    subst (λ (kind : AdminKind). HasMeant kind (tables_of c.args.self.now [])) c.in-DeleteCq.is c.requires
    (ap (passes has_cq_alone) (sym (c.host_state.ensures ∙ ap (λ (qs : List Queue). state_at qs c.in-DeleteCq.q) c.deref.ensures.value)) ∙ (sym c.has_cq_alone.ensures ∙ c.if-has_cq_alone.true))

pub returns-then-has_cq_alone : goal.returns-then-has_cq_alone
returns-then-has_cq_alone g c = λ pages.
    gives-meant (tables_of c.args.self.now pages) (tables_of c.give_back_completion.new.self pages) c.args.kind c.in-DeleteCq.q c.args.status c.in-DeleteCq.is (sym c.is_success.ensures ∙ c.if-is_success.true)
    (ap (passes has_cq_alone) (sym (c.host_state.ensures ∙ ap (λ (qs : List Queue). state_at qs c.in-DeleteCq.q) c.deref.ensures.value)) ∙ (sym c.has_cq_alone.ensures ∙ c.if-has_cq_alone.true))
    (c.give_back_completion.ensures pages)

pub returns-else-is_success-2 : goal.returns-else-is_success-2
returns-else-is_success-2 g c = λ pages.
    unmade-cq (tables_of c.args.self.now pages) (tables_of c.give_back_completion-else-is_success-2.new.self pages) c.args.kind c.in-CreateCq.q c.in-CreateCq.entries c.in-CreateCq.base c.in-CreateCq.vector c.args.status c.in-CreateCq.is
    (sym c.is_success-in-CreateCq.ensures ∙ c.if-is_success-2.false) (c.give_back_completion-else-is_success-2.ensures pages)

pub returns-else-is_success-3 : goal.returns-else-is_success-3
returns-else-is_success-3 g c = λ pages.
    unmade-sq (tables_of c.args.self.now pages) (tables_of c.give_back_submission.new.self pages) c.args.kind c.in-CreateSq.q c.in-CreateSq.entries c.in-CreateSq.base c.args.status c.in-CreateSq.is
    (sym c.is_success-in-CreateSq.ensures ∙ c.if-is_success-3.false) (c.give_back_submission.ensures pages)
