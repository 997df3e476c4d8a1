-- The counts as one page changes its owner.
use Rattle.std.specs.Prelude.{◌+◌, ◌-◌, ℕ}
use Rattle.page_ledger.specs.declared.owner.{Counts.Counts, Owner.{Owner, TheVariants.{Free, Queue, Command}}, Role.TheVariants.{Data, Chain}}

-- how many pages of an owner's class are counted
abbrev pub counted : Counts → Owner → ℕ
counted counts Free = counts.free_pages
counted counts (Queue q half) = counts.queue_pages
counted counts (Command q cid Data) = counts.data_pages
counted counts (Command q cid Chain) = counts.chain_pages

-- the counts with one page more of an owner's class
abbrev pub one_more : Counts → Owner → Counts
one_more counts Free = record counts { free_pages = counts.free_pages + 1 }
one_more counts (Queue q half) = record counts { queue_pages = counts.queue_pages + 1 }
one_more counts (Command q cid Data) = record counts { data_pages = counts.data_pages + 1 }
one_more counts (Command q cid Chain) = record counts { chain_pages = counts.chain_pages + 1 }

-- the counts with one page less of an owner's class
abbrev pub one_less : Counts → Owner → Counts
one_less counts Free = record counts { free_pages = counts.free_pages - 1 }
one_less counts (Queue q half) = record counts { queue_pages = counts.queue_pages - 1 }
one_less counts (Command q cid Data) = record counts { data_pages = counts.data_pages - 1 }
one_less counts (Command q cid Chain) = record counts { chain_pages = counts.chain_pages - 1 }
