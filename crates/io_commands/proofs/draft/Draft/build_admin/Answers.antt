use Rattle.std.proofs.Common.{◌≡◌, ◌∙◌, ap, false, subst, sym}
use Rattle.io_commands.proofs.Building.{built_as, draft_of_admin, still_keeps}
use Rattle.io_commands.specs.{Drafting.contents_of, DataBytes.PagesOut, Drafts.{DraftContents, IsDraft, caller_entry, draft_entry}, Requests.has_list, Values.numbers_of}
use Rattle.io_commands.specs.declared.request.Kind.{Kind, TheVariants.Admin}
use Rattle.io_commands.proofs.draft.Draft.build_admin.Goals as goal

pub invariant_of-self : goal.invariant_of-self
invariant_of-self g c =
    let d : DraftContents = contents_of c.self.inside in
    let kind : d.request.kind ≡ Admin c.args.command = rw (← c.self.view_is) at c.requires.kind in
    let still : has_list d.request.kind ≡ false = ap has_list kind in
    let pages : c.data_pages.result.now ≡ d.data_pages = rw (← c.self.view_is) at c.data_pages.ensures in
    let is : c.admin_entry.result ≡ draft_entry d = c.admin_entry.ensures ∙ ap (λ (out : PagesOut). caller_entry d.cid d.request.nsid c.args.command (numbers_of out)) pages ∙ sym (draft_of_admin d c.args.command kind) in (
      subst IsDraft (sym (built_as d c.admin_entry.result c.self.invariant.0 still is)) (still_keeps d c.self.invariant.0 still),
      c.self.invariant.1,
    )

pub returns-clause-built : goal.returns-clause-built
returns-clause-built g c =
    let d : DraftContents = contents_of c.self.inside in
    let kind : d.request.kind ≡ Admin c.args.command = rw (← c.self.view_is) at c.requires.kind in
    let still : has_list d.request.kind ≡ false = ap has_list kind in
    let pages : c.data_pages.result.now ≡ d.data_pages = rw (← c.self.view_is) at c.data_pages.ensures in
    let is : c.admin_entry.result ≡ draft_entry d = c.admin_entry.ensures ∙ ap (λ (out : PagesOut). caller_entry d.cid d.request.nsid c.args.command (numbers_of out)) pages ∙ sym (draft_of_admin d c.args.command kind) in
    rw (← c.self.view_is) (built_as d c.admin_entry.result c.self.invariant.0 still is)
