use Rattle.std.proofs.Common.{◌≡◌, false, subst, sym}
use Rattle.io_commands.proofs.Building.{built_still, still_keeps}
use Rattle.io_commands.specs.{Drafting.contents_of, Drafts.{DraftContents, IsDraft}, Requests.{has_list, is_admin}}
use Rattle.io_commands.proofs.draft.Draft.build_without_list.Goals as goal

pub invariant_of-self : goal.invariant_of-self
invariant_of-self g c =
    let d : DraftContents = contents_of c.self.inside in
    let still : has_list d.request.kind ≡ false = rw (← c.self.view_is) at c.requires.still in
    let blocks : is_admin d.request.kind ≡ false = rw (← c.self.view_is) at c.requires.blocks in (
      subst IsDraft (sym (built_still d c.io_entry.result c.self.invariant.0 still blocks c.io_entry.ensures)) (still_keeps d c.self.invariant.0 still),
      c.self.invariant.1,
    )

pub returns-clause-built : goal.returns-clause-built
returns-clause-built g c =
    let d : DraftContents = contents_of c.self.inside in
    let still : has_list d.request.kind ≡ false = rw (← c.self.view_is) at c.requires.still in
    let blocks : is_admin d.request.kind ≡ false = rw (← c.self.view_is) at c.requires.blocks in
    rw (← c.self.view_is) (built_still d c.io_entry.result c.self.invariant.0 still blocks c.io_entry.ensures)
