-- Pages of a pool taken out, and brought in with their bytes.
use Rattle.std.specs.Prelude.{ℕ, Some, None, List, [], ◌∷◌, slice_set, map, Bool, is_some, ◌%◌, slice_index, option_map}
use Rattle.io_commands.specs.DataBytes.{PagesOut}
use Rattle.page_memory.specs.{Memory.{Memory, page_of}, Pages.{Pages, page_at, zero_page}}

abbrev pub is_in : Pages → ℕ → Bool
is_in pages p = is_some (page_at pages p)

-- pages moved out, and moved in with their bytes
abbrev pub without_pages : List ℕ → Pages → Pages
without_pages [] pages = pages
without_pages (p ∷ ps) pages = without_pages ps (slice_set pages p None)

abbrev pub with_pages : List (ℕ × List ℕ) → Pages → Pages
with_pages [] pages = pages
with_pages (page ∷ more) pages = with_pages more (slice_set pages page.0 (Some page.1))

-- pages of zeros with these numbers
abbrev pub zeroed_pages : List ℕ → PagesOut
zeroed_pages numbers = map (λ p. (p, zero_page)) numbers

-- the memory that a walk reads: the bytes of the pages that are in
abbrev pub memory_of : Pages → Memory
memory_of pages place = option_map (λ page. slice_index page (place % 4096)) (page_at pages (page_of place))
