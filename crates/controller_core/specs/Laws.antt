-- Nothing of what a call leaves, answers and touches is open: it hangs on the controller, the memory, the size of the pool
-- and the pages touched before alone, want of memory left aside. How a walk keeps its place is its own matter.
use Rattle.std.specs.Prelude.{◌≡◌, ℕ, None, List, map}
use Rattle.controller_walk.specs.declared.walk.WalkState.{WalkState}
use Rattle.page_memory.specs.Memory.{Memory}
use Rattle.controller_core.specs.{Completing.CompletesTo, Contents.{Contents, IsController, FetchedCommand, FetchedWork}}
use Rattle.controller_core.specs.{Fetching.{FetchesTo, RefusedBy, look_refusal}, Walking.WalksTo, declared.command.FetchedWork.TheVariants.{Io, Admin}}
use Rattle.controller_core.specs.declared.refusal.ControllerRefusal.{ControllerRefusal}
use Rattle.controller_core.specs.declared.refusal.ControllerRefusal.TheVariants as refusal

-- a command without the place of its walk
abbrev pub unplaced : FetchedWork → FetchedWork
unplaced (Io job) = Io (record job { walk = None })
unplaced (Admin entry status dw0) = Admin entry status dw0

abbrev pub unplaced_command : FetchedCommand → FetchedCommand
unplaced_command k = record k { work = unplaced k.work }

-- The same queues, image and commands, with the same entries, bytes and verdicts.
pub record AreAlike (c c' : Contents) : Type 0 where
  pub queues : c.queues ≡ c'.queues
  pub commands : map unplaced_command c.commands ≡ map unplaced_command c'.commands
  pub image : c.image ≡ c'.image

abbrev pub WalksOneWay : Type 0
WalksOneWay =
    (c : Contents) (q cid : ℕ) (m : Memory) (r : List ℕ) (o o' : WalkState) (x x' : Contents) (n n' : Memory) (t t' : List ℕ)
    → IsController c → WalksTo c q cid m r o x n t → WalksTo c q cid m r o' x' n' t' → (o ≡ o') × AreAlike x x' × (n ≡ n') × (t ≡ t')

abbrev pub CompletesOneWay : Type 0
CompletesOneWay =
    (c : Contents) (q cid : ℕ) (m : Memory) (r : List ℕ) (x x' : Contents) (n n' : Memory) (t t' : List ℕ)
    → CompletesTo c q cid m r x n t → CompletesTo c q cid m r x' n' t' → (x ≡ x') × (n ≡ n') × (t ≡ t')

abbrev pub FetchesOneWay : Type 0
FetchesOneWay =
    (c : Contents) (pages : ℕ) (m : Memory) (r : List ℕ) (q cid cid' : ℕ) (x x' : Contents) (n n' : Memory) (t t' : List ℕ)
    → FetchesTo c pages m r q cid x n t → FetchesTo c pages m r q cid' x' n' t' → (cid ≡ cid') × AreAlike x x' × (n ≡ n') × (t ≡ t')

-- A refusal is determined too, and a fetch that can be served is refused for want of memory alone.
abbrev pub RefusesOneWay : Type 0
RefusesOneWay =
    (c : Contents) (m : Memory) (r : List ℕ) (q : ℕ) (why why' : ControllerRefusal) (t t' : List ℕ)
    → RefusedBy (look_refusal c m q) c m r q why t → RefusedBy (look_refusal c m q) c m r q why' t' → (why ≡ why') × (t ≡ t')

abbrev pub ServedUnlessMemory : Type 0
ServedUnlessMemory =
    (c : Contents) (pages : ℕ) (m : Memory) (r : List ℕ) (q cid : ℕ) (why : ControllerRefusal) (x : Contents) (n : Memory) (t t' : List ℕ)
    → FetchesTo c pages m r q cid x n t → RefusedBy (look_refusal c m q) c m r q why t' → why ≡ refusal.Memory
