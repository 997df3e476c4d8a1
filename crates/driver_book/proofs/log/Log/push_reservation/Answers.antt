use Rattle.std.proofs.Common.{◌≤◌, ◌<◌, length, arith, ◌++◌, ◌∷◌, [], refl, ap, ◌∙◌, rules}
use Rattle.io_commands.specs.Values.{numbers_of}
use Rattle.driver_book.{proofs.Runs.{kept_more, place_behind, stands_more}, specs.{Entries.{LogContents, LoggedDraft}, Keeping.most_places}}
use Rattle.driver_book.proofs.log.Log.push_reservation.Goals as goal

pub invariant_of-self : goal.invariant_of-self
invariant_of-self g c =
    let l = c.self.inside in
    let k = c.keep_draft-kept in
    let p = c.put_draft-place in
    let takes = c.requires in
    let few1 : length k.new.pieces.items ≤ most_places = omega (arith, takes.pieces, ap (λ (s : LogContents). s.room.pieces) c.self.view_is, c.self.invariant.0.few_pieces, l.pieces.ok.0, k.ensures.pieces_len, k.new.pieces.ok.0) in
    let few2 : length k.new.pages.items ≤ most_places = omega (arith, takes.pages, ap (λ (s : LogContents). s.room.pages) c.self.view_is, c.self.invariant.0.few_pages, l.pages.ok.0, k.ensures.pages_len, k.new.pages.ok.0) in
    let few3 : length p.new.list.items ≤ most_places = omega (arith, takes.entry, ap (λ (s : LogContents). s.room.entries) c.self.view_is, c.self.invariant.2, p.ensures.len, p.new.list.ok.0) in
    let here : p.result < length p.new.list.items = omega (arith, p.ensures.place, p.ensures.len, p.new.list.ok.0) in (
      rw c.push_reserved.ensures.items
          (stands_more l.pieces.items k.new.pieces.items c.args.draft.now.request.pieces l.pages.items k.new.pages.items (numbers_of c.args.draft.now.data_pages ++ numbers_of c.args.draft.now.chain_pages) l.drafts.items p.new.list.items (k.result ∷ []) l.kept.items _ c.self.invariant.0
          k.ensures.pieces k.ensures.pages p.ensures.items few1 few2 few3 (k.ensures.fits, tt) (here, here)),
      search rules,
      search rules,
    )

pub returns-clause-entries : goal.returns-clause-entries
returns-clause-entries g c =
    let l = c.self.inside in
    let k = c.keep_draft-kept in
    let p = c.put_draft-place in
    rw (c.push_reserved.ensures.items, ← c.self.view_is)
    (kept_more l.pieces.items k.new.pieces.items c.args.draft.now.request.pieces l.pages.items k.new.pages.items (numbers_of c.args.draft.now.data_pages ++ numbers_of c.args.draft.now.chain_pages) l.drafts.items p.new.list.items (k.result ∷ []) l.kept.items _ c.self.invariant.0
    k.ensures.pieces k.ensures.pages p.ensures.items
    ∙ rw (p.ensures.items, place_behind l.drafts.items k.result p.result (p.ensures.place ∙ l.drafts.ok.0), k.ensures.shown, ap (λ (d : LoggedDraft). d.request) k.ensures.shown, c.q.ensures, c.reserved.ensures) refl)
