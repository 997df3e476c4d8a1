use Rattle.std.proofs.Common.{◌<◌, length, arith, ap}
use Rattle.std.proofs.lemmas.List.{length-map}
use Rattle.driver_book.{proofs.Tables.kept_end, specs.{Entries.LogContents, Keeping.shown}}
use Rattle.driver_book.proofs.log.Log.end_at.Goals as goal

pub returns : goal.returns
returns g c =
    let l = c.self.inside in
    let less : c.args.index < length l.kept.items = omega (arith, c.requires, ap (λ (s : LogContents). length s.entries) c.self.view_is, length-map l.kept.items (shown l.pieces.items l.pages.items l.drafts.items)) in
    rw (c.end_in.ensures, ← c.self.view_is) (kept_end l.pieces.items l.pages.items l.drafts.items l.kept.items c.args.index c.index-entry.result.now less c.index-entry.ensures)
