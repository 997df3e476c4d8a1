-- What stands while nothing is forged: a submitted I/O command's list stands in its chain pages; wherever the controller has an entry of its
-- queue and identifier, that entry is the command's own; and a job's walk is within its list.
use Rattle.std.specs.{List.AllByRecursion, Option.option_map_or, Prelude.{◌≡◌, ◌<◌, ◌==◌, ℕ, true, false, Some, None, List, [], length, slice_get}}
use Rattle.sgl_descriptor.specs.{Spelling.{spelling, descriptor_of}, declared.Descriptor.Descriptor}
use Rattle.sgl_chain.specs.Spells.{Spells}
use Rattle.controller_walk.specs.{Units.{units, verdict}, declared.walk.WalkState.TheVariants.End}
use Rattle.entry_codec.specs.declared.submission.SubEntry.{SubEntry}
use Rattle.io_commands.specs.{Asked.Request, Drafts.io_entry, Requests.{data_count, has_list, is_admin, joined_parts, moves_data, FitsRequest}, Values.IsGood}
use Rattle.io_commands.specs.declared.block_size.BlockSize.TheVariants.{Bytes512}
use Rattle.page_memory.specs.Pages.{Pages, byte_at}
use Rattle.machine_model.specs.{After.course_of, Commands.{Work, Io, Management}, Reached.{only, on_pages, KeepsToPages}, Refusals.is_submitted}
use Rattle.machine_model.specs.State.{State, ServedQueue, Record, Job, record_at}

-- a command's request fits its types and passes its check, it is no admin command, its blocks have 512 bytes, and the command has a page for
-- each data piece
pub record IsSized (r : Record) (request : Request) : Type 0 where
  pub fits : FitsRequest request
  pub good : IsGood request
  pub blocks : is_admin request.kind ≡ false
  pub size : request.block_size ≡ Bytes512
  pub pages : length r.data_pages ≡ data_count request.pieces

-- the entries of a queue that are not fetched
abbrev pub unfetched_at : List ServedQueue → ℕ → List SubEntry
unfetched_at queues q = option_map_or (λ at. at.unfetched) (slice_get queues q) []

-- wherever the controller has an entry of a command, it is this one
pub record HasEntry (queues : List ServedQueue) (jobs : List Job) (q cid : ℕ) (entry : SubEntry) : Type 0 where
  pub unfetched : AllByRecursion (λ e. e.cid ≡ cid → e ≡ entry) (unfetched_at queues q)
  pub fetched : AllByRecursion (λ j. j.q ≡ q → j.entry.cid ≡ cid → j.entry ≡ entry) jobs

-- The chain pages of a command with a list spell its joined parts, whatever is in other pages, from the descriptor of its entry.
pub record ListStands (m : Pages) (queues : List ServedQueue) (jobs : List Job) (r : Record) (request : Request) : Type 0 where
  pub first : Descriptor
  pub read : descriptor_of (spelling first) ≡ Some first
  pub spells : has_list request.kind ≡ true → Spells (only (on_pages r.chain_pages) (byte_at m)) first (joined_parts request.pieces r.data_pages)
  pub entry : HasEntry queues jobs r.q r.cid (io_entry r.cid request (spelling first))

abbrev pub StandsAs : Pages → List ServedQueue → List Job → Record → Work → Type 0
StandsAs m queues jobs r (Io request) = IsSized r request × (is_submitted r.phase ≡ true → ListStands m queues jobs r request)
StandsAs m queues jobs r (Management a) = Unit {0}

abbrev pub CommandStands : Pages → List ServedQueue → List Job → Record → Type 0
CommandStands m queues jobs r = StandsAs m queues jobs r r.work

-- a job of an I/O queue that has no verdict has a unit left to do
abbrev pub HasUnitLeft : State → Job → Type 0
HasUnitLeft s j = (j.q == 0) ≡ false → j.verdict ≡ None → j.units_done < length (units (course_of s j))

-- What stands for a job of an I/O queue: its command is submitted, its entry is that command's, and its walk keeps to the command's
-- pages, would end well if it moves data, and has a unit left as long as there is no verdict.
pub record JobStands (s : State) (j : Job) : Type 0 where
  pub command : Record
  pub request : Request
  pub found : record_at s.host j.q j.entry.cid ≡ Some command
  pub work : command.work ≡ Io request
  pub phase : is_submitted command.phase ≡ true
  pub sized : IsSized command request
  pub list : ListStands s.memory s.controller.queues s.controller.jobs command request
  pub entry : j.entry ≡ io_entry command.cid request (spelling list.first)
  pub keeps : KeepsToPages command.chain_pages command.data_pages (course_of s j)
  pub ends : moves_data request.kind ≡ true → verdict (course_of s j) ≡ End
  pub unit_left : j.verdict ≡ None → j.units_done < length (units (course_of s j))
