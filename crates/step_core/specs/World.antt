-- A world as both sides over its pages, and what contracts see of it.
use Rattle.std.specs.Prelude.{ℕ, Bool}
use Rattle.controller_core.specs.Contents.{Contents}
use Rattle.host_core.specs.Alone.{HostView}
use Rattle.machine_model.specs.State.{State}
use Rattle.page_memory.specs.Pages.{Pages}
use Rattle.two_sides.specs.Sides.{Sides}

abbrev pub sides_of : HostView → Contents → Pages → Bool → Sides
sides_of host controller pages trusted = record { host = host; controller = controller; pages = pages; trusted = trusted }

-- A world: the machine's state, and how many pages were touched since it opened, by either side and by looks; after 2^64 - 1 that number begins at 0 again.
pub record WorldContents : Type 0 where
  pub state : State
  pub touches : ℕ
