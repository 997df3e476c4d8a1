-- What a draft ends as, where the bytes of one of its data pages are lent to be written in place.
use Rattle.std.specs.Prelude.{ℕ, List, [], slice_get, slice_set}
use Rattle.std.specs.Option.{option_map_or}
use Rattle.std.specs.Borrow.{Lends, Fml, RattleType, MutBor, Array, u8}
use Rattle.std.specs.declared.alloc.Allocator.{Ghosts}
use Rattle.io_commands.specs.{DataBytes.PagesOut, Drafts.DraftContents}
use Rattle.io_commands.specs.contracts.draft.Draft.{the_row}

-- the bytes of the page at an index
abbrev pub bytes_of : PagesOut → ℕ → List ℕ
bytes_of pages i = option_map_or (λ page. page.1) (slice_get pages i) []

-- the pages with other bytes in the one at an index, which keeps its number
abbrev pub with_bytes_of : PagesOut → ℕ → List ℕ → PagesOut
with_bytes_of pages i bytes = option_map_or (λ page. slice_set pages i (page.0, bytes)) (slice_get pages i) pages

-- the draft keeps all but the bytes of that page, which are those that are left
module _ (A : RattleType) (alloc : Ghosts A.Denot) where
  abbrev pub lends_data : ℕ → MutBor DraftContents → MutBor (List ℕ) → Fml
  lends_data i d r = Lends (the_row A alloc) (Array u8 0) d r (λ w. record d.now { data_pages = with_bytes_of d.now.data_pages i w })
