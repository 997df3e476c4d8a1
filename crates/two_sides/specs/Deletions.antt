-- A queue that the host has in service keeps its completion queue at the controller. The controller deletes none that has a submission queue. An entry that asks for
-- one's deletion is fetched before the entry that asks for that of the submission queue, since after the latter the host sends no such entry.
use Rattle.std.specs.{List.list_any, Prelude.{◌≡◌, ℕ, ◌==◌, Bool, true, ◌&&◌, Some, List, [], ◌∷◌}}
use Rattle.admin_commands.specs.Entries.{named_queue}
use Rattle.entry_codec.specs.declared.{admin_opcode.TheConstants.{DELETE_IO_SQ, DELETE_IO_CQ}, submission.SubEntry.SubEntry}
use Rattle.machine_model.specs.{Agreeing.waiting, Refusals.{served_queue, host_queue, in_service, is_deleting}, State.{State, HostQueue, ServedQueue}}

-- whether an entry asks for the deletion of the completion queue of a number, or of the submission queue
abbrev pub asks_cq_deletion : ℕ → SubEntry → Bool
asks_cq_deletion q e = (e.opcode == DELETE_IO_CQ) && (named_queue e == q)

abbrev pub asks_sq_deletion : ℕ → SubEntry → Bool
asks_sq_deletion q e = (e.opcode == DELETE_IO_SQ) && (named_queue e == q)

-- after each entry of one kind comes one of another
abbrev pub AreBefore : (SubEntry → Bool) → (SubEntry → Bool) → List SubEntry → Type 0
AreBefore first later [] = Unit {0}
AreBefore first later (e ∷ es) = (first e ≡ true → list_any later es ≡ true) × AreBefore first later es

pub record CompletionsServe (s : State) : Type 0 where
  pub serves : (q : ℕ) (h : HostQueue) (d : ServedQueue) → host_queue s q ≡ Some h → served_queue s q ≡ Some d → in_service h.state ≡ true → d.cq_there ≡ true
  pub order : (q : ℕ) (h : HostQueue) → host_queue s q ≡ Some h → is_deleting h.state ≡ true → AreBefore (asks_cq_deletion q) (asks_sq_deletion q) (waiting s.controller.queues)
