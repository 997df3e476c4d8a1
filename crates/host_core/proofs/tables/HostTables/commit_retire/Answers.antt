use Rattle.std.proofs.Common.{[], ap, sym, ◌∙◌, subst}
use Rattle.page_memory.specs.declared.page.Half.TheVariants.{Submission}
use Rattle.machine_model.specs.declared.words.HostState.TheVariants.{Retired}
use Rattle.host_core.{proofs.Identifiers.places-of, specs.{Halves.HasHalf, Parts.tables_of, Reaping.without_submission, Tables.Tables}}
use Rattle.host_core.proofs.tables.HostTables.commit_retire.Goals as goal

pub lose_commands-requires : goal.lose_commands-requires
lose_commands-requires g c = places-of (tables_of c.args.self.now []) c.requires.host

pub give_back_submission-requires : goal.give_back_submission-requires
give_back_submission-requires g c =
    let h = c.requires.half in
    subst (λ (u : Tables). HasHalf u c.args.q Submission) (sym (c.lose_commands.ensures [])) (record { queue = h.queue; at = h.at; lists = h.lists })

pub returns : goal.returns
returns g c = λ pages. c.give_back_submission.ensures pages ∙ ap (without_submission Retired c.args.q) (c.lose_commands.ensures pages)
