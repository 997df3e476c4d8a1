-- The fewest pages that a request takes: those of its data, and those of its chain where its data pages are consecutive ones.
use Rattle.std.specs.{List.range_with_len, Prelude.{◌≡◌, ◌≢◌, ◌≤◌, ◌<◌, ◌+◌, ℕ, List, length, slice_index}}
use Rattle.sgl_descriptor.specs.declared.Part.{Part}
use Rattle.sgl_chain.specs.{Chains.pages_needed, Joining.joined}
use Rattle.io_commands.specs.{Asked.Request, Requests.{data_count, parts_of, joined_parts}, Values.IsGood, declared.request.Piece.Piece}

-- the parts of pieces in consecutive pages, from one on
abbrev pub parts_in_a_run : List Piece → ℕ → List Part
parts_in_a_run pieces first = parts_of pieces (range_with_len first (data_count pieces))

-- a page for each data piece, and those of the chain of parts, with segments of up to this many descriptors
abbrev pub pages_with : List Piece → ℕ → List Part → ℕ
pages_with pieces segment parts = data_count pieces + pages_needed (length parts) segment

-- the fewest pages of a request
abbrev pub least_pages : List Piece → ℕ → ℕ
least_pages pieces segment = pages_with pieces segment (joined (parts_in_a_run pieces 0))

-- Which consecutive pages they are makes no difference.
abbrev pub LeastAnywhere : Type 0
LeastAnywhere = (request : Request) (segment first : ℕ) → IsGood request →
    pages_with request.pieces segment (joined (parts_in_a_run request.pieces first)) ≡ least_pages request.pieces segment

-- no page twice
abbrev pub AreDistinct : List ℕ → Type 0
AreDistinct pages = (i j : ℕ) → i < j → j < length pages → slice_index pages i ≢ slice_index pages j

-- No distinct pages make it fewer, consecutive ones or others.
abbrev pub LeastOfAll : Type 0
LeastOfAll = (request : Request) (segment : ℕ) (pages : List ℕ) → IsGood request → 2 ≤ segment → length pages ≡ data_count request.pieces → AreDistinct pages →
    least_pages request.pieces segment ≤ pages_with request.pieces segment (joined_parts request.pieces pages)

-- They are no more than where nothing is joined, and no fewer than the data pages.
pub record LeastIsBetween (pieces : List Piece) (segment : ℕ) : Type 0 where
  pub least : data_count pieces ≤ least_pages pieces segment
  pub most : 2 ≤ segment → least_pages pieces segment ≤ data_count pieces + pages_needed (length pieces) segment
