use Rattle.std.proofs.Common.{ap, sym, ◌∙◌}
use Rattle.driver_book.{proofs.Runs.empty_book, specs.{Entries.LogContents, Latest.SubmissionsContents}}
use Rattle.driver_book.proofs.book.Book.over.Goals as goal

pub invariant_of-result : goal.invariant_of-result
invariant_of-result g c =
    empty_book _ c.check.ensures (sym c.requires.opening) (ap (λ (l : LogContents). l.entries) c.new.ensures) (ap (λ (s : SubmissionsContents). s.drafts) c.named.ensures) c.open-tally.ensures.total c.open-tally.ensures.parts (sym c.requires.parts ∙ c.requires.number)
