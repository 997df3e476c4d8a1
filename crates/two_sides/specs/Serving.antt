-- What the controller answers, in the machine's words.
use Rattle.std.specs.Prelude.{◌≡◌, ℕ, Some, None, List, Result, Ok, Err}
use Rattle.controller_core.specs.{Completing.{CompletesTo, complete_refusal}, Contents.Contents, Walking.{WalksTo, walk_refusal}}
use Rattle.controller_walk.specs.declared.walk.WalkState.{WalkState}
use Rattle.machine_model.specs.{Events.Reply, declared.words.Refusal.Refusal}
use Rattle.page_memory.specs.Memory.{Memory}
use Rattle.controller_core.specs.declared.refusal.ControllerRefusal.{ControllerRefusal}
use Rattle.controller_core.specs.declared.refusal.ControllerRefusal.TheVariants as because
use Rattle.machine_model.specs.Events as events
use Rattle.machine_model.specs.declared.words.Refusal.TheVariants as refusal

-- why the controller refused
abbrev pub why_of : ControllerRefusal → Refusal
why_of because.Idle = refusal.Idle
why_of because.SlotOut = refusal.SlotOut
why_of because.Full = refusal.Full
why_of because.NoJob = refusal.NoJob
why_of because.Nothing = refusal.Nothing
why_of because.Walking = refusal.Walking
why_of because.Waits = refusal.Waits
why_of because.Memory = refusal.Memory

-- the reply that an answer is, with the pages touched
abbrev pub fetch_reply : Result ℕ ControllerRefusal → List ℕ → Reply
fetch_reply (Ok cid) touched = events.Fetched cid touched
fetch_reply (Err why) touched = events.Refused (why_of why) touched

abbrev pub walk_reply : Result WalkState ControllerRefusal → List ℕ → Reply
walk_reply (Ok state) touched = events.Walked state touched
walk_reply (Err why) touched = events.Refused (why_of why) touched

abbrev pub complete_reply : Result (Unit {0}) ControllerRefusal → List ℕ → Reply
complete_reply (Ok done) touched = events.Completed touched
complete_reply (Err why) touched = events.Refused (why_of why) touched

-- What a walk's step makes of the controller, of the memory and of the list of the pages touched; so with a completion.
abbrev pub Walks : Contents → Memory → List ℕ → ℕ → ℕ → Result WalkState ControllerRefusal → Contents → Memory → List ℕ → Type 0
Walks c m reached q cid (Ok state) c' m' reached' = (walk_refusal c q cid ≡ None) × WalksTo c q cid m reached state c' m' reached'
Walks c m reached q cid (Err why) c' m' reached' = (walk_refusal c q cid ≡ Some why) × (c' ≡ c) × (m' ≡ m) × (reached' ≡ reached)

abbrev pub Completes : Contents → Memory → List ℕ → ℕ → ℕ → Result (Unit {0}) ControllerRefusal → Contents → Memory → List ℕ → Type 0
Completes c m reached q cid (Ok done) c' m' reached' = (complete_refusal c m q cid ≡ None) × CompletesTo c q cid m reached c' m' reached'
Completes c m reached q cid (Err why) c' m' reached' = (complete_refusal c m q cid ≡ Some why) × (c' ≡ c) × (m' ≡ m) × (reached' ≡ reached)
