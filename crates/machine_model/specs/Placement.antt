-- Where the pages of a command are placed: its data in a run of consecutive free pages where there is one, else in the lowest free pages;
-- its chain in the same way among those that are left.
use Rattle.std.specs.{List.list_all, Option.option_map_or, Prelude.{◌+◌, ℕ, Bool, Option, List, length, filter, find, not, take, nat_lt, if◌then◌else◌}}
use Rattle.page_ledger.specs.Owners.{is_among, pages_from}
use Rattle.sgl_chain.specs.Chains.{pages_needed}
use Rattle.io_commands.specs.{Least.least_pages, Requests.{data_count, joined_parts}, declared.request.Piece.Piece}

-- whether this many pages starting at p are free
abbrev pub is_run : (free : List ℕ) (count : ℕ) → ℕ → Bool
is_run free count p = list_all (is_among free) (pages_from p count)

-- where the lowest run of this many free pages begins; the free pages are in ascending order
abbrev pub first_of_run : (free : List ℕ) (count : ℕ) → Option ℕ
first_of_run free count = find (is_run free count) free

-- this many pages: the lowest run of them where there is one, else the lowest that are free
abbrev pub placed : (free : List ℕ) (count : ℕ) → List ℕ
placed free count = option_map_or (λ first. pages_from first count) (first_of_run free count) (take count free)

-- the free pages that are left without some of them
abbrev pub without_numbers : (pages free : List ℕ) → List ℕ
without_numbers pages free = filter (λ p. not (is_among pages p)) free

-- the pages of a request's data
abbrev pub data_placed : (free : List ℕ) → List Piece → List ℕ
data_placed free pieces = placed free (data_count pieces)

-- how many pages the chain of its parts takes then, with segments of up to this many descriptors, and which they are
abbrev pub chain_wanted : (free : List ℕ) (segment : ℕ) → List Piece → ℕ
chain_wanted free segment pieces = pages_needed (length (joined_parts pieces (data_placed free pieces))) segment

abbrev pub chain_placed : (free : List ℕ) (segment : ℕ) → List Piece → List ℕ
chain_placed free segment pieces = placed (without_numbers (data_placed free pieces) free) (chain_wanted free segment pieces)

-- the pages that a request needs in all: those of its placement, and where even its data has no room the fewest that it could take
abbrev pub wanted_of : (free : List ℕ) (segment : ℕ) → List Piece → ℕ
wanted_of free segment pieces =
    if nat_lt (length free) (data_count pieces) then least_pages pieces segment else data_count pieces + chain_wanted free segment pieces
