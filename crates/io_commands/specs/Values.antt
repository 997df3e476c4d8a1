-- What tickets and finished commands are.
use Rattle.std.specs.Prelude.{◌≡◌, ℕ, None, List, [], if◌then◌else◌, map, take, drop, sum_by}
use Rattle.entry_codec.specs.declared.{hints.Hints.Hints, status.Status.Status}
use Rattle.io_commands.specs.{Asked.Request, DataBytes.{PagesOut, data_length, gathered}, Requests.{brings_data, data_count, fault_of}, declared.request.Kind.Kind}
use Rattle.io_commands.specs.declared.request.Piece.{Piece}

-- a submitted command
pub record TicketContents : Type 0 where
  pub q : ℕ
  pub cid : ℕ

-- a command that has ended, with what its completion hinted at and its pages: one for each data piece, and those of the chain
pub record FinishedContents : Type 0 where
  pub q : ℕ
  pub cid : ℕ
  pub request : Request
  pub status : Status
  pub hints : Hints
  pub data_pages : PagesOut
  pub chain_pages : PagesOut

abbrev pub numbers_of : PagesOut → List ℕ
numbers_of pages = map (λ page. page.0) pages

-- of a command's pages those of its data pieces, which come first, and those of its chain
abbrev pub data_part : Request → PagesOut → PagesOut
data_part request pages = take (data_count request.pieces) pages

abbrev pub chain_part : Request → PagesOut → PagesOut
chain_part request pages = drop (data_count request.pieces) pages

-- a request that passes its check
abbrev pub IsGood : Request → Type 0
IsGood request = fault_of request.kind request.block_size request.blocks request.pieces ≡ None

-- what a finished command gathers: the data that came, and nothing of a command that brings none
abbrev pub gathered_by : Kind → List Piece → PagesOut → List ℕ
gathered_by kind pieces pages = if brings_data kind then gathered pieces pages else []

abbrev pub gathered_from : FinishedContents → List ℕ
gathered_from f = gathered_by f.request.kind f.request.pieces f.data_pages

-- how many bytes that is
abbrev pub gathered_length : Kind → List Piece → ℕ
gathered_length kind pieces = if brings_data kind then sum_by data_length pieces else 0
