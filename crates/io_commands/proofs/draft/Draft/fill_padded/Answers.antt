use Rattle.std.proofs.Common.{refl, ◌≤◌, ◌-◌, ◌++◌, ℕ, List, length, replicate, subst, sum_by, sym}
use Rattle.io_commands.{proofs.Building.{fill_keeps, enough_pages, filled_contents}, specs.{DataBytes.data_length, Drafting.contents_of, Drafts.{DraftContents, IsDraft}}}
use Rattle.io_commands.proofs.draft.Draft.fill_padded.Goals as goal

pub invariant_of-self : goal.invariant_of-self
invariant_of-self g c =
    let few : c.data_pages-data.result ≤ length c.self.inside.pages.items = enough_pages (contents_of c.self.inside) c.self.inside.pages.items c.data_pages-data.result c.data_pages-data.ensures c.self.invariant.0.pieces_have_pages in
    let d : DraftContents = contents_of c.self.inside in
    let bytes : List ℕ = c.args.bytes.now ++ replicate (sum_by data_length d.request.pieces - length c.args.bytes.now) 0 in (
      subst (λ (x : DraftContents). IsDraft x)
          (sym (filled_contents d c.self.inside.pages.items c.fill_first.new.pages.items c.data_pages-data.result bytes c.data_pages-data.ensures few
          (rw c.data_pages-data.ensures refl) (rw c.data_pages-data.ensures refl) (rw (c.pieces-pieces.ensures) at c.fill_first.ensures)))
          (fill_keeps d bytes c.self.invariant.0),
      c.self.invariant.1,
    )

pub returns-clause-filled : goal.returns-clause-filled
returns-clause-filled g c =
    let few : c.data_pages-data.result ≤ length c.self.inside.pages.items = enough_pages (contents_of c.self.inside) c.self.inside.pages.items c.data_pages-data.result c.data_pages-data.ensures c.self.invariant.0.pieces_have_pages in
    let d : DraftContents = contents_of c.self.inside in
    let bytes : List ℕ = c.args.bytes.now ++ replicate (sum_by data_length d.request.pieces - length c.args.bytes.now) 0 in
    rw (← c.self.view_is)
    (filled_contents d c.self.inside.pages.items c.fill_first.new.pages.items c.data_pages-data.result bytes c.data_pages-data.ensures few
    (rw c.data_pages-data.ensures refl) (rw c.data_pages-data.ensures refl) (rw (c.pieces-pieces.ensures) at c.fill_first.ensures))
