-- How many pages each of the four classes has: free, of a queue, of a chain, of data.
use Rattle.std.specs.Prelude.{◌+◌, Bool, true, false, List, ℕ, length}
use Rattle.page_ledger.specs.{Owners.{free_pages, pages_owned}, declared.owner.{Counts.Counts, Owner.{Owner, TheVariants.{Free, Queue, Command}}}}
use Rattle.page_ledger.specs.declared.owner.Role.TheVariants.{Data, Chain}

-- whether a queue owns the page
abbrev pub is_queue_page : Owner → Bool
is_queue_page Free = false
is_queue_page (Queue q half) = true
is_queue_page (Command q cid role) = false

-- whether a command owns the page for its chain
abbrev pub is_chain_page : Owner → Bool
is_chain_page Free = false
is_chain_page (Queue q half) = false
is_chain_page (Command q cid Data) = false
is_chain_page (Command q cid Chain) = true

-- whether a command owns the page for its data
abbrev pub is_data_page : Owner → Bool
is_data_page Free = false
is_data_page (Queue q half) = false
is_data_page (Command q cid Data) = true
is_data_page (Command q cid Chain) = false

-- the numbers of the pages of the four classes
abbrev pub counts_of : List Owner → Counts
counts_of owners = record {
  free_pages = length (free_pages owners);
  queue_pages = length (pages_owned is_queue_page owners);
  chain_pages = length (pages_owned is_chain_page owners);
  data_pages = length (pages_owned is_data_page owners);
}

-- how many pages are counted in all
abbrev pub total : Counts → ℕ
total counts = counts.free_pages + counts.queue_pages + counts.chain_pages + counts.data_pages
