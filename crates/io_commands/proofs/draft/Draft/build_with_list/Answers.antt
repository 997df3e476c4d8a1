use Rattle.std.proofs.Common.{refl, sym, ap, subst, true, ◌≡◌, ◌≤◌, ◌∙◌, ℕ, List, length}
use Rattle.sgl_descriptor.specs.Spelling.{spelling}
use Rattle.sgl_chain.specs.Chains.{pages_needed}
use Rattle.io_commands.{proofs.Building.{draft_of_blocks, enough_pages, built_contents, built_keeps, built_spells, list_blocks}, specs.{Drafting.contents_of, Requests.has_list}}
use Rattle.io_commands.specs.Drafts.{DraftContents, IsDraft, SpellsItsParts, draft_parts, draft_segments, draft_first, draft_entry, io_entry}
use Rattle.io_commands.proofs.draft.Draft.build_with_list.Goals as goal

pub invariant_of-self : goal.invariant_of-self
invariant_of-self g c =
    let few : c.data_pages-data.result ≤ length c.self.inside.pages.items = enough_pages (contents_of c.self.inside) c.self.inside.pages.items c.data_pages-data.result c.data_pages-data.ensures c.self.invariant.0.pieces_have_pages in
    let d : DraftContents = contents_of c.self.inside in
    let segments : c.in_ok-chain.chain.segments ≡ draft_segments d = rw c.as_slice.ensures.value at c.in_ok-chain.ensures.segments in
    let first : c.first.result ≡ draft_first d = c.first.ensures ∙ (rw c.as_slice.ensures.value at c.in_ok-chain.ensures.first) in
    let list : has_list d.request.kind ≡ true = rw (← c.self.view_is) at c.requires.list in
    let entry : c.io_entry.result ≡ draft_entry d = c.io_entry.ensures ∙ ap (λ (sgl1 : List ℕ). io_entry d.cid d.request sgl1) (c.write-first.ensures ∙ ap spelling first) ∙ sym (draft_of_blocks d (list_blocks d.request.kind list)) in
    let needed : length c.in_ok-chain.chain.segments ≡ pages_needed (length (draft_parts d)) d.segment = rw c.as_slice.ensures.value at c.in_ok-chain.ensures.count in
    let count : length (draft_segments d) ≡ length d.chain_pages = rw (← segments) (needed ∙ sym c.self.invariant.0.chain_has_pages) in (
      subst (λ (x : DraftContents). IsDraft x)
          (sym (built_contents d c.self.inside.pages.items c.lay_all.new.pages.items c.data_pages-data.result c.in_ok-chain.chain.segments c.io_entry.result c.data_pages-data.ensures few
          (rw c.data_pages-data.ensures refl) (rw c.data_pages-data.ensures refl) c.lay_all.ensures segments entry))
          (built_keeps d count c.self.invariant.0),
      c.self.invariant.1,
    )

pub returns-clause-spells : goal.returns-clause-spells
returns-clause-spells g c =
    let few : c.data_pages-data.result ≤ length c.self.inside.pages.items = enough_pages (contents_of c.self.inside) c.self.inside.pages.items c.data_pages-data.result c.data_pages-data.ensures c.self.invariant.0.pieces_have_pages in
    let d : DraftContents = contents_of c.self.inside in
    let segments : c.in_ok-chain.chain.segments ≡ draft_segments d = rw c.as_slice.ensures.value at c.in_ok-chain.ensures.segments in
    let first : c.in_ok-chain.chain.first ≡ draft_first d = rw c.as_slice.ensures.value at c.in_ok-chain.ensures.first in
    let list : has_list d.request.kind ≡ true = rw (← c.self.view_is) at c.requires.list in
    let entry : c.io_entry.result ≡ draft_entry d = c.io_entry.ensures ∙ ap (λ (sgl1 : List ℕ). io_entry d.cid d.request sgl1) (c.write-first.ensures ∙ ap spelling (c.first.ensures ∙ first)) ∙ sym (draft_of_blocks d (list_blocks d.request.kind list)) in
    let needed : length c.in_ok-chain.chain.segments ≡ pages_needed (length (draft_parts d)) d.segment = rw c.as_slice.ensures.value at c.in_ok-chain.ensures.count in
    let count : length (draft_segments d) ≡ length d.chain_pages = rw (← segments) (needed ∙ sym c.self.invariant.0.chain_has_pages) in
    subst (λ (x : DraftContents). SpellsItsParts x)
    (sym (built_contents d c.self.inside.pages.items c.lay_all.new.pages.items c.data_pages-data.result c.in_ok-chain.chain.segments c.io_entry.result c.data_pages-data.ensures few
    (rw c.data_pages-data.ensures refl) (rw c.data_pages-data.ensures refl) c.lay_all.ensures segments entry))
    (built_spells d c.in_ok-chain.chain count segments first (rw c.as_slice.ensures.value at c.in_ok-chain.ensures.spells))

pub returns-clause-built : goal.returns-clause-built
returns-clause-built g c =
    let few : c.data_pages-data.result ≤ length c.self.inside.pages.items = enough_pages (contents_of c.self.inside) c.self.inside.pages.items c.data_pages-data.result c.data_pages-data.ensures c.self.invariant.0.pieces_have_pages in
    let d : DraftContents = contents_of c.self.inside in
    let segments : c.in_ok-chain.chain.segments ≡ draft_segments d = rw c.as_slice.ensures.value at c.in_ok-chain.ensures.segments in
    let first : c.first.result ≡ draft_first d = c.first.ensures ∙ (rw c.as_slice.ensures.value at c.in_ok-chain.ensures.first) in
    let list : has_list d.request.kind ≡ true = rw (← c.self.view_is) at c.requires.list in
    let entry : c.io_entry.result ≡ draft_entry d = c.io_entry.ensures ∙ ap (λ (sgl1 : List ℕ). io_entry d.cid d.request sgl1) (c.write-first.ensures ∙ ap spelling first) ∙ sym (draft_of_blocks d (list_blocks d.request.kind list)) in
    rw (← c.self.view_is)
    (built_contents d c.self.inside.pages.items c.lay_all.new.pages.items c.data_pages-data.result c.in_ok-chain.chain.segments c.io_entry.result c.data_pages-data.ensures few
    (rw c.data_pages-data.ensures refl) (rw c.data_pages-data.ensures refl) c.lay_all.ensures segments entry)
