use Rattle.std.proofs.Common.{◌≡◌, replicate, Some}
use Rattle.page_memory.specs.Pages.{zero_page}
use Rattle.page_memory.proofs.store.zeroed_pages.Given as goal

abbrev pub invariant-loop : goal.invariant-loop
invariant-loop g l = l.all.items ≡ replicate l.counter (Some zero_page)
