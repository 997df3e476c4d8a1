use Rattle.std.proofs.Common.{◌≡◌, ◌<◌, ℕ, false, is_none}
use Rattle.controller_core.specs.{Fetching.fetch_refusal, Looks.heads_touch}
use Rattle.page_memory.specs.Memory.{TouchesMore}
use Rattle.controller_core.proofs.controller.Controller.next_fetch.Given as goal

abbrev pub invariant-loop-place : goal.invariant-loop-place
invariant-loop-place g l =
    (g.D.Dma.memory l.dma ≡ g.D.Dma.memory l.fn.dma) × (g.D.Dma.page_count l.dma ≡ g.D.Dma.page_count l.fn.dma) × ((k : ℕ) → k < l.place → is_none (fetch_refusal l.self (g.D.Dma.memory l.fn.dma) k) ≡ false)
    × TouchesMore (g.D.Dma.unlisted l.fn.dma) (g.D.Dma.reached l.fn.dma) (heads_touch l.self (g.D.Dma.memory l.fn.dma) l.place) (g.D.Dma.unlisted l.dma) (g.D.Dma.reached l.dma)
