-- Creations that pass the rules on the numbers of queues.
use Rattle.std.specs.Prelude.{◌≡◌, ◌<◌, ◌≤◌, true, false}
use Rattle.entry_codec.specs.declared.submission.SubEntry.{SubEntry}
use Rattle.admin_commands.specs.{Entries.{named_queue, named_completion_queue}, declared.{DeviceView.DeviceView, SqState.TheVariants.Absent}}

-- a Create CQ of an I/O queue that is not there
pub record CreatesFreeCompletionQueue (entry : SubEntry) (view : DeviceView) : Type 0 where
  pub opcode : entry.opcode ≡ 0x05
  pub fuse : entry.fuse ≡ 0
  pub above_zero : 0 < named_queue entry
  pub within : named_queue entry ≤ view.queues
  pub free : view.cq_there ≡ false

-- a Create SQ of an I/O queue that is not there in any state
pub record CreatesFreeSubmissionQueue (entry : SubEntry) (view : DeviceView) : Type 0 where
  pub opcode : entry.opcode ≡ 0x01
  pub fuse : entry.fuse ≡ 0
  pub above_zero : 0 < named_queue entry
  pub within : named_queue entry ≤ view.queues
  pub free : view.sq ≡ Absent

-- one whose completions go to the completion queue of its number, which is there
pub record CreatesPairedSubmissionQueue (entry : SubEntry) (view : DeviceView) : Type 0 where
  pub queue : CreatesFreeSubmissionQueue entry view
  pub own : named_completion_queue entry ≡ named_queue entry
  pub there : view.cq_there ≡ true
