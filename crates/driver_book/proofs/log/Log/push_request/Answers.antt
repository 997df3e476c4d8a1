use Rattle.std.proofs.{Common.{◌≤◌, ◌<◌, length, arith, [], ◌∷◌, refl, ap, sym, ◌∙◌, rules}, lemmas.List.append-nil}
use Rattle.driver_book.{proofs.Runs.{kept_more, place_behind, stands_more, without_draft_fits}, specs.{Entries.LogContents, Keeping.most_places}}
use Rattle.driver_book.proofs.log.Log.push_request.Goals as goal

pub invariant_of-self : goal.invariant_of-self
invariant_of-self g c =
    let l = c.self.inside in
    let k = c.keep_without_draft-kept in
    let p = c.put_draft-place in
    let takes = c.requires in
    let few1 : length k.new.list.items ≤ most_places = omega (arith, takes.pieces, ap (λ (s : LogContents). s.room.pieces) c.self.view_is, c.self.invariant.0.few_pieces, l.pieces.ok.0, k.ensures.len, k.new.list.ok.0) in
    let few3 : length p.new.list.items ≤ most_places = omega (arith, takes.entry, ap (λ (s : LogContents). s.room.entries) c.self.view_is, c.self.invariant.2, p.ensures.len, p.new.list.ok.0) in
    let here : p.result < length p.new.list.items = omega (arith, p.ensures.place, p.ensures.len, p.new.list.ok.0) in (
      rw c.push_reserved.ensures.items
          (stands_more l.pieces.items k.new.list.items c.args.request.now.pieces l.pages.items l.pages.items [] l.drafts.items p.new.list.items (k.result ∷ []) l.kept.items _ c.self.invariant.0
          k.ensures.items (sym (append-nil l.pages.items)) p.ensures.items few1 c.self.invariant.0.few_pages few3 (without_draft_fits _ _ k.result k.ensures.fits, tt) (here, tt)),
      search rules,
      search rules,
    )

pub returns-clause-entries : goal.returns-clause-entries
returns-clause-entries g c =
    let l = c.self.inside in
    let k = c.keep_without_draft-kept in
    let p = c.put_draft-place in
    rw (c.push_reserved.ensures.items, ← c.self.view_is)
    (kept_more l.pieces.items k.new.list.items c.args.request.now.pieces l.pages.items l.pages.items [] l.drafts.items p.new.list.items (k.result ∷ []) l.kept.items _ c.self.invariant.0
    k.ensures.items (sym (append-nil l.pages.items)) p.ensures.items
    ∙ rw (p.ensures.items, place_behind l.drafts.items k.result p.result (p.ensures.place ∙ l.drafts.ok.0), k.ensures.shown) refl)
