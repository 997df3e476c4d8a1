use Rattle.std.proofs.Common.{ℕ, [], Some, length, ap, sym, subst, ◌∙◌}
use Rattle.entry_codec.specs.declared.completion.ComEntry.{ComEntry}
use Rattle.machine_model.specs.Step.{reaped_as}
use Rattle.host_core.{proofs.Reaps.{Looks, admin-work, answered-claims, heard-many, looks, meant-many, over-many, reaps-admin, reaps-done}, specs.Halves.HasMeant}
use Rattle.host_core.{specs.{Parts.tables_of, Reaping.{meant, over, Answered, ReapsTo}, Tables.Tables}, proofs.{QueueLists.completion-inside, Reaping.over-has}}
use Rattle.host_core.proofs.tables.HostTables.end.Goals.{in-None, in-Some}
use Rattle.host_core.proofs.tables.HostTables.end.Goals as goal

pub returns-clause-reaps : goal.returns-clause-reaps
returns-clause-reaps g c = λ pages w seen.
    let t : Tables = tables_of c.args.self.now pages in
    let q : ℕ = c.args.q in
    let e : ComEntry = c.args.entry in
    let at : Looks t q (Some e) = looks t q (Some e) c.requires.there seen in
    let reaps : ReapsTo t q (reaped_as q e) (tables_of c.match-kind.self pages) =
    elim c.match-kind.branch [
      | in-None b ↦
          let answered = subst (λ kind. Answered t q e kind) b.in-None.is (c.requires.answered pages) in
          reaps-done t (tables_of c.match-kind.self pages) w q e at answered (ap (λ parts. tables_of parts pages) b.self-is ∙ b.hold_command.ensures pages)
      | in-Some b ↦
          let answered = subst (λ kind. Answered t q e kind) b.in-Some.is (c.requires.answered pages) in
          reaps-admin t (tables_of c.match-kind.self pages) w q e b.in-Some.kind at answered
          (ap (λ parts. tables_of parts pages) b.self-is ∙ (b.apply.ensures pages ∙ ap (meant b.in-Some.kind e.status) (b.end_command.ensures pages)))
    ] in
    subst (λ found. ReapsTo t q found (tables_of c.match-kind.self pages)) (sym c.told.ensures) reaps

pub returns-clause-many : goal.returns-clause-many
returns-clause-many g c =
    let t : Tables = tables_of c.args.self.now [] in
    let e : ComEntry = c.args.entry in
    elim c.match-kind.branch [
      | in-None b ↦ ap (λ parts. length parts.queues.items) b.self-is ∙ (ap (λ (u : Tables). length u.queues) (b.hold_command.ensures []) ∙ heard-many t c.args.q e.sqhd)
      | in-Some b ↦
          ap (λ parts. length parts.queues.items) b.self-is
          ∙ (ap (λ (u : Tables). length u.queues) (b.apply.ensures [] ∙ ap (meant b.in-Some.kind e.status) (b.end_command.ensures []))
          ∙ (meant-many (over c.args.q e.sqhd e.cid t) b.in-Some.kind e.status ∙ over-many t c.args.q e.sqhd e.cid))
    ]

pub end_command-requires-clause-claimed : goal.end_command-requires-clause-claimed
end_command-requires-clause-claimed g c =
    answered-claims (tables_of c.args.self.now []) c.requires.host.table.identifiers c.args.q c.args.entry c.args.kind (c.requires.answered [])

pub apply-requires : goal.apply-requires
apply-requires g c =
    let t : Tables = tables_of c.args.self.now [] in
    let answered = subst (λ kind. Answered t c.args.q c.args.entry kind) c.in-Some.is (c.requires.answered []) in
    subst (λ (u : Tables). HasMeant c.in-Some.kind u) (sym (c.end_command.ensures []))
    (over-has t c.requires.host c.args.q c.args.entry c.in-Some.kind answered.entry answered.was (admin-work answered.entry.work c.in-Some.kind answered.means))

pub hold_command-requires-clause-head : goal.hold_command-requires-clause-head
hold_command-requires-clause-head g c = (c.requires.answered []).head

pub hold_command-requires-clause-there : goal.hold_command-requires-clause-there
hold_command-requires-clause-there g c = completion-inside c.args.self.now.queues.items c.args.q c.requires.there

pub end_command-requires-clause-there : goal.end_command-requires-clause-there
end_command-requires-clause-there g c = completion-inside c.args.self.now.queues.items c.args.q c.requires.there

pub end_command-requires-clause-head : goal.end_command-requires-clause-head
end_command-requires-clause-head g c = (c.requires.answered []).head
