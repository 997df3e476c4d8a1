-- The host submits a draft.
use Rattle.std.specs.Prelude.{◌≡◌, ◌++◌, true, false, None, Some, slice_get}
use Rattle.entry_codec.specs.{Submission.FitsSubmission, declared.submission.SubEntry.SubEntry}
use Rattle.io_commands.specs.Drafts.{DraftContents}
use Rattle.machine_model.specs.{Memory.with_pages, Proper.IsProperDraft, Refusals.{refusal_of, is_live}, State.with_record}
use Rattle.queue_pair.specs.Slots.{is_full}
use Rattle.host_core.specs.{Commands.BelongsToDraft, Posting.posted, Rows.Queue, Tables.{Tables, state_of}}
use Rattle.machine_model.specs.After as a
use Rattle.machine_model.specs.Events as events

-- a draft's pages come in with its bytes, and its command is submitted
abbrev pub brought_in : DraftContents → Tables → Tables
brought_in d t = record t { pages = with_pages (d.data_pages ++ d.chain_pages) t.pages; records = with_record d.q d.cid a.submitted t.records }

-- and its entry is posted
abbrev pub submitted : DraftContents → Queue → SubEntry → Tables → Tables
submitted d queue entry t = posted d.q queue entry (brought_in d t)

-- the tables that a submission leaves, by the draft's queue
abbrev pub Submits : Tables → DraftContents → SubEntry → Tables → Type 0
Submits t d entry new = (queue : Queue) → slice_get t.queues d.q ≡ Some queue → new ≡ submitted d queue entry t

-- Nothing rules out a submission: the draft is proper and its record's, it is built and its entry fits, its queue is live and has room.
pub record CanSubmit (t : Tables) (d : DraftContents) (x : Queue) (entry : SubEntry) : Type 0 where
  pub none : refusal_of (state_of t) (events.Submit d) ≡ None
  pub proper : IsProperDraft d
  pub at : slice_get t.queues d.q ≡ Some x
  pub live : is_live x.state ≡ true
  pub room : is_full x.host.entries x.host.ring.known_head x.host.ring.tail ≡ false
  pub built : d.entry ≡ Some entry
  pub fits : FitsSubmission entry

-- A draft that can be submitted.
pub record IsReady (t : Tables) (d : DraftContents) (entry : SubEntry) : Type 0 where
  pub queue : Queue
  pub can : CanSubmit t d queue entry
  pub belongs : BelongsToDraft t.records d
