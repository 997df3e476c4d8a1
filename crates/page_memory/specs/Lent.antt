-- What a page ends as, where its bytes are lent to be written in place.
use Rattle.std.specs.Prelude.{ℕ, List}
use Rattle.std.specs.Borrow.{Lends, Fml, RattleType, MutBor, Array, u8}
use Rattle.std.specs.declared.alloc.Allocator.{Ghosts}
use Rattle.page_memory.specs.contracts.page.Frame.{the_row as frame_row}
use Rattle.page_memory.specs.contracts.page.Page.{the_row as page_row}

module _ (A : RattleType) (alloc : Ghosts A.Denot) where
  -- the bytes end as they are left, in an array of n or in a slice
  abbrev pub lends_frame : ℕ → MutBor (List ℕ) → MutBor (List ℕ) → Fml
  lends_frame n f r = Lends (frame_row A alloc) (Array u8 n) f r (λ w. w)

  -- the page keeps its number, and ends with the bytes that are left
  abbrev pub lends_page : MutBor (ℕ × List ℕ) → MutBor (List ℕ) → Fml
  lends_page p r = Lends (page_row A alloc) (Array u8 0) p r (λ w. (p.now.0, w))
