-- A controller as it opens.
use Rattle.std.specs.Prelude.{ℕ, suc, true, List, [], ◌∷◌}
use Rattle.admin_commands.specs.declared.SqState.TheVariants.{Live}
use Rattle.queue_pair.specs.Rings.{fresh_controller_ring}
use Rattle.controller_core.specs.{Contents.Contents, declared.queue.{ControllerQueue.ControllerQueue, QueuePages.QueuePages}}

-- queue q with n entries in each ring, whose halves begin at these pages
abbrev pub fresh_queue : ℕ → ℕ → QueuePages → ControllerQueue
fresh_queue n q pages =
    record {
      state = Live;
      cq_there = true;
      controller = record { q = q; entries = n; sq = pages.sq; cq = pages.cq; ring = fresh_controller_ring };
    }

-- the queues that have these pages, numbered from q on
abbrev pub queues_from : ℕ → ℕ → List QueuePages → List ControllerQueue
queues_from n q [] = []
queues_from n q (pages ∷ rest) = fresh_queue n q pages ∷ queues_from n (suc q) rest

-- a controller that has fetched nothing
abbrev pub opened : ℕ → List QueuePages → List ℕ → Contents
opened n pages image = record { queues = queues_from n 0 pages; commands = []; image = image }
