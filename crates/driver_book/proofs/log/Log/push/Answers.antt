use Rattle.std.proofs.{Common.{[], refl, sym, ◌∙◌, rules}, lemmas.List.append-nil}
use Rattle.driver_book.proofs.Runs.{bare_fits, bare_shown, kept_more, stands_more}
use Rattle.driver_book.proofs.log.Log.push.Goals as goal

pub invariant_of-self : goal.invariant_of-self
invariant_of-self g c =
    let l = c.self.inside in (
      rw c.push_reserved.ensures.items
          (stands_more l.pieces.items l.pieces.items [] l.pages.items l.pages.items [] l.drafts.items l.drafts.items [] l.kept.items _ c.self.invariant.0
          (sym (append-nil l.pieces.items)) (sym (append-nil l.pages.items)) (sym (append-nil l.drafts.items)) c.self.invariant.0.few_pieces c.self.invariant.0.few_pages c.self.invariant.0.few_drafts tt
          (bare_fits _ c.args.step c.requires.bare, tt)),
      search rules,
      search rules,
    )

pub returns-clause-entries : goal.returns-clause-entries
returns-clause-entries g c =
    let l = c.self.inside in
    rw (c.push_reserved.ensures.items, ← c.self.view_is)
    (kept_more l.pieces.items l.pieces.items [] l.pages.items l.pages.items [] l.drafts.items l.drafts.items [] l.kept.items _ c.self.invariant.0
    (sym (append-nil l.pieces.items)) (sym (append-nil l.pages.items)) (sym (append-nil l.drafts.items))
    ∙ rw (bare_shown l.pieces.items l.drafts.items c.args.step c.requires.bare) refl)
