-- What may happen, and what is answered.
use Rattle.std.specs.Prelude.{ℕ, Option, List}
use Rattle.controller_walk.specs.declared.walk.WalkState.{WalkState}
use Rattle.io_commands.specs.{Asked.Request, Drafts.DraftContents, Values.FinishedContents}
pub use Rattle.machine_model.specs.declared.words.Refusal.{Refusal}
pub use Rattle.machine_model.specs.declared.words.Refusal.TheVariants.{NoQueue, Deleting, Bad, OtherBlocks, NoIdentifier, NoPages, Memory, Stranger, NotBuilt, QueueGone, QueueFull, NotYet, WrongState, NoSuchCommand, NotDeleted, NotDrained, Outstanding, NoRun, NoSlot, Idle, SlotOut, Full, NoJob, Nothing, Walking, Waits}
pub use Rattle.machine_model.specs.declared.words.RejectedFor.{RejectedFor}
pub use Rattle.machine_model.specs.declared.words.RejectedFor.TheVariants.{WrongQueue, BadHead, UnknownId}
pub use Rattle.machine_model.specs.declared.words.Reaped.{Reaped}
pub use Rattle.machine_model.specs.declared.words.Reaped.TheVariants.{Empty, Done, AdminDone, Rejected}

pub data Event : Type 0 where
  Reserve : (q : ℕ) → Request → Event
  Submit : DraftContents → Event
  Cancel : DraftContents → Event
  Ring : (q : ℕ) → Event
  Reap : (q : ℕ) → Event
  Collect : (q cid : ℕ) → Event
  Release : FinishedContents → Event
  Abort : (q cid : ℕ) → Event
  DeleteSq : (q : ℕ) → Event
  DeleteCq : (q : ℕ) → Event
  -- with interrupts on a vector, or polled
  CreateCq : (q : ℕ) → (vector : Option ℕ) → Event
  CreateSq : (q : ℕ) → Event
  Retire : (q : ℕ) → Event
  Fetch : (q : ℕ) → Event
  Walk : (q cid : ℕ) → Event
  Complete : (q cid : ℕ) → Event
  Forge : (q slot : ℕ) → List ℕ → Event
  -- the controller is reset, and comes up again with only its admin queue
  Reset : Event

pub data Reply : Type 0 where
  -- a reserved command's draft
  Reserved : DraftContents → Reply
  -- submit, cancel, ring, release, retire, forge, reset
  Accepted : Reply
  Reaps : Reaped → Reply
  Collects : FinishedContents → Reply
  -- an admin command's identifier on queue 0
  Sent : (cid : ℕ) → Reply
  Fetched : (cid : ℕ) → (touched : List ℕ) → Reply
  Walked : WalkState → (touched : List ℕ) → Reply
  Completed : (touched : List ℕ) → Reply
  Refused : Refusal → (touched : List ℕ) → Reply
