use Rattle.std.{proofs.Common.{◌≡◌, ◌<◌, ℕ, Some}, specs.Prelude.slice_get}
use Rattle.controller_core.specs.{Contents.{FetchedCommand, entry_of_work}, Looks.{IsStuck, name_at}}
use Rattle.page_memory.specs.Memory.{TouchesMore}
use Rattle.controller_core.proofs.controller.Controller.next_of_commands.Given as goal

abbrev pub invariant-loop : goal.invariant-loop
invariant-loop g l =
    (g.D.Dma.memory l.dma ≡ g.D.Dma.memory l.fn.dma) × (g.D.Dma.page_count l.dma ≡ g.D.Dma.page_count l.fn.dma) × (l.name ≡ name_at l.self.commands l.counter)
    × ((k : ℕ) → k < l.counter → (x : FetchedCommand) → slice_get l.self.commands k ≡ Some x → IsStuck l.self (g.D.Dma.memory l.fn.dma) x.q (entry_of_work x.work).cid)
    × TouchesMore (g.D.Dma.unlisted l.fn.dma) (g.D.Dma.reached l.fn.dma) 0 (g.D.Dma.unlisted l.dma) (g.D.Dma.reached l.dma)
