-- What a submitter does for its jobs: which steps some books of its opening made for each, with which receipt, and how it ended.
use Rattle.std.specs.Prelude.{◌≡◌, ◌≢◌, ◌⊎◌, ◌<◌, ◌-◌, ℕ, Some, None, List, [], ◌∷◌, ◌++◌, length, replicate, slice_get, sum_by, if◌then◌else◌}
use Rattle.io_commands.specs.{Asked.Request, Drafts.{DraftContents, built}, DataBytes.{PagesOut, data_length, filled}, Least.least_pages, Requests.brings_data, Values.{FinishedContents, gathered_from}}
use Rattle.io_commands.specs.declared.request.Kind.{Kind, TheVariants.Read}
use Rattle.machine_model.specs.{Claims.counts_of, Refusals.refusal_of, State.State}
use Rattle.driver_book.specs.{Calls.{Does, status_at}, Entries.asked_of, History.{accepted, last_place}, State.{BookContents, IsBookOf, SeatContents}, declared.report.Receipt.Receipt}
use Rattle.driver_threads.specs.{Sharing.Made, Values.{EndOf, Job, JobEnd, JobOf}}
use Rattle.driver_threads.specs.declared.jobs.{JobEnd.TheVariants.{Done, Refused}, JobRefusal.JobRefusal}
use Rattle.driver_threads.specs.declared.jobs.JobRefusal.TheVariants as why
use Rattle.machine_model.specs.Events as events
use Rattle.machine_model.specs.declared.words.Refusal.TheVariants as refusal

-- The draft of a job

-- its data pages, with the bytes of the job starting at the first data piece, and zeros after them
abbrev pub padded : Request → List ℕ → PagesOut → PagesOut
padded r bytes pages = filled r.pieces pages (bytes ++ replicate (sum_by data_length r.pieces - length bytes) 0)

-- the pages of a command that brings data, as a Read, are as they came; another command's have the job's bytes
abbrev pub with_bytes_of : Kind → List ℕ → DraftContents → DraftContents
with_bytes_of kind bytes d = if brings_data kind then d else record d { data_pages = padded d.request bytes d.data_pages }

-- the draft as it is submitted
abbrev pub prepared : List ℕ → DraftContents → DraftContents
prepared bytes d = built (with_bytes_of d.request.kind bytes d)

-- What the data of a job are

-- the bytes that data stand for
abbrev pub BytesOf : Type 0 → Type 0
BytesOf D = D → List ℕ

-- that an end may keep this value of a finished command, for these data
abbrev pub KeepsOf : Type 0 → Type 0 → Type 1
KeepsOf D K = D → FinishedContents → K → Type 0

-- data that are the bytes themselves, and ends that keep all that was gathered
abbrev pub themselves : BytesOf (List ℕ)
themselves bytes = bytes

abbrev pub KeepsGathered : KeepsOf (List ℕ) (List ℕ)
KeepsGathered given command kept = kept ≡ gathered_from command

-- The command of a job

-- A job was submitted: some book of this opening reserved its request on its queue, and some book accepted, for this seat, the draft so
-- reserved with the job's bytes. The receipt has the number of that submission, what the job asks for, its queue and the draft's identifier.
pub record IsSubmitted {D : Type 0} (bytes_of : BytesOf D) (opening : State) (seat : ℕ) (job : JobOf D) (r : Receipt) : Type 0 where
  pub draft : DraftContents
  pub reserved : Made opening None (events.Reserve job.q job.request) (events.Reserved draft)
  pub old : BookContents
  pub new : BookContents
  pub of : IsBookOf opening old
  pub does : Does old (Some seat) (events.Submit (prepared (bytes_of job.bytes) draft)) events.Accepted new
  pub number : r.number ≡ accepted old.log
  pub asked : r.asked ≡ asked_of job.request
  pub queue : r.q ≡ job.q
  pub identifier : r.cid ≡ draft.cid

-- The command of a receipt was given up: some book of this opening collected it, whose submission of the receipt's number has this draft and was
-- the last of its queue and identifier; this was kept of it for the data of its job, and some book released it for this seat; the receipt has the
-- status that it had then.
pub record IsEnded {D K : Type 0} (Keeps : KeepsOf D K) (opening : State) (seat : ℕ) (given : D) (r : Receipt) (submitted : DraftContents) (kept : K) : Type 0 where
  pub command : FinishedContents
  pub before : BookContents
  pub after : BookContents
  pub is : IsBookOf opening before
  pub collects : Does before None (events.Collect r.q r.cid) (events.Collects command) after
  pub numbered : slice_get before.drafts r.number ≡ Some submitted
  pub latest : last_place r.q r.cid before.drafts ≡ Some r.number
  pub keeps : Keeps given command kept
  pub old : BookContents
  pub new : BookContents
  pub of : IsBookOf opening old
  pub does : Does old (Some seat) (events.Release command) events.Accepted new
  pub status : r.status ≡ status_at old.world.host r.q r.cid

-- Why a job is refused

-- A book has too few pages for a request beside its queues: it lacks pages for it, and the fewest that the request could take are more than
-- those that no queue owns.
pub record LacksPages (book : BookContents) (q : ℕ) (request : Request) (need pool : ℕ) : Type 0 where
  pub wanted : ℕ
  pub free : ℕ
  pub refuses : refusal_of book.world (events.Reserve q request) ≡ Some (refusal.NoPages wanted free)
  pub need_is : need ≡ least_pages request.pieces book.world.segment
  pub pool_is : pool ≡ length book.world.memory - (counts_of book.world.host).queue_pages
  pub few : pool < need

-- a book refuses to reserve a request, for a cause that waiting does not end
abbrev pub RefusesToReserve : BookContents → ℕ → Request → JobRefusal → Type 0
RefusesToReserve book q request why.NoQueue = refusal_of book.world (events.Reserve q request) ≡ Some refusal.NoQueue
RefusesToReserve book q request why.QueueGone = refusal_of book.world (events.Reserve q request) ≡ Some refusal.Deleting
RefusesToReserve book q request (why.Bad fault) = refusal_of book.world (events.Reserve q request) ≡ Some (refusal.Bad fault)
RefusesToReserve book q request why.OtherBlocks = refusal_of book.world (events.Reserve q request) ≡ Some refusal.OtherBlocks
RefusesToReserve book q request (why.NoPages need pool) = LacksPages book q request need pool
RefusesToReserve book q request why.WrongLength = ⊥

-- a book's queue no longer takes a draft: it is no longer live, or its ring is full
abbrev pub RefusesToSubmit : BookContents → DraftContents → Type 0
RefusesToSubmit book d = (refusal_of book.world (events.Submit d) ≡ Some refusal.QueueGone) ⊎ (refusal_of book.world (events.Submit d) ≡ Some refusal.QueueFull)

-- some book of this opening refuses to reserve the request
pub record RefusesRequest (opening : State) (q : ℕ) (request : Request) (cause : JobRefusal) : Type 0 where
  pub book : BookContents
  pub of : IsBookOf opening book
  pub refuses : RefusesToReserve book q request cause

-- some book of this opening refuses this draft as it is submitted
pub record RefusesDraft (opening : State) (d : DraftContents) : Type 0 where
  pub book : BookContents
  pub of : IsBookOf opening book
  pub refuses : RefusesToSubmit book d

-- a job that was reserved is refused for its own bytes, or where its queue no longer takes its draft
abbrev pub RefusesReserved : {D : Type 0} → BytesOf D → State → JobOf D → DraftContents → JobRefusal → Type 0
RefusesReserved bytes_of opening job draft why.WrongLength = (job.request.kind ≢ Read) × (sum_by data_length job.request.pieces < length (bytes_of job.bytes))
RefusesReserved bytes_of opening job draft why.QueueGone = RefusesDraft opening (prepared (bytes_of job.bytes) draft)
RefusesReserved bytes_of opening job draft cause = ⊥

-- some book of this opening reserved the job's request, and what was reserved is refused
pub record IsRefusedOnceReserved {D : Type 0} (bytes_of : BytesOf D) (opening : State) (job : JobOf D) (cause : JobRefusal) : Type 0 where
  pub draft : DraftContents
  pub reserved : Made opening None (events.Reserve job.q job.request) (events.Reserved draft)
  pub refuses : RefusesReserved bytes_of opening job draft cause

-- A JOB IS REFUSED for what a book of this opening answers to its request, or, once that is reserved, for its own bytes or for what a book
-- answers to its draft.
abbrev pub RefusesJob : {D : Type 0} → BytesOf D → State → JobOf D → JobRefusal → Type 0
RefusesJob bytes_of opening job cause = RefusesRequest opening job.q job.request cause ⊎ IsRefusedOnceReserved bytes_of opening job cause

-- All jobs of a submitter

-- HOW THE JOBS WENT, in their order, beside the receipts of their seat and their ends: a refused job has no receipt; each other job has the next receipt, was
-- submitted with it, and ended with what was kept of its command.
abbrev pub WentBy : {D K : Type 0} → BytesOf D → KeepsOf D K → State → ℕ → List (JobOf D) → List Receipt → List (EndOf K) → Type 0
WentBy bytes_of Keeps opening seat [] [] [] = Unit {0}
WentBy bytes_of Keeps opening seat (job ∷ jobs) receipts (Refused cause ∷ ends) = RefusesJob bytes_of opening job cause × WentBy bytes_of Keeps opening seat jobs receipts ends
WentBy bytes_of Keeps opening seat (job ∷ jobs) (r ∷ receipts) (Done status kept ∷ ends) =
    (s : IsSubmitted bytes_of opening seat job r) × IsEnded Keeps opening seat job.bytes r (prepared (bytes_of job.bytes) s.draft) kept × (r.status ≡ Some status) × WentBy bytes_of Keeps opening seat jobs receipts ends
WentBy bytes_of Keeps opening seat jobs receipts ends = ⊥

-- those in flight: each has its receipt, and was submitted with it, as the seat knows
abbrev pub AreSubmitted : {D : Type 0} → BytesOf D → State → SeatContents → List (JobOf D) → List Receipt → Type 0
AreSubmitted bytes_of opening seat [] [] = Unit {0}
AreSubmitted bytes_of opening seat (job ∷ jobs) (r ∷ receipts) =
    (s : IsSubmitted bytes_of opening seat.number job r) × (slice_get seat.known r.number ≡ Some (prepared (bytes_of job.bytes) s.draft)) × AreSubmitted bytes_of opening seat jobs receipts
AreSubmitted bytes_of opening seat jobs receipts = ⊥

-- so the jobs of all submitters, each with a seat of its own
abbrev pub AllWentBy : {D K : Type 0} → BytesOf D → KeepsOf D K → State → List (List (JobOf D)) → List (List Receipt) → List (List (EndOf K)) → Type 0
AllWentBy bytes_of Keeps opening [] [] [] = Unit {0}
AllWentBy bytes_of Keeps opening (jobs ∷ lists) (receipts ∷ reports) (ends ∷ later) =
    ((seat : ℕ) × WentBy bytes_of Keeps opening seat jobs receipts ends) × AllWentBy bytes_of Keeps opening lists reports later
AllWentBy bytes_of Keeps opening lists reports later = ⊥

-- jobs with their bytes, whose ends have all that was gathered
abbrev pub AllWent : State → List (List Job) → List (List Receipt) → List (List JobEnd) → Type 0
AllWent opening lists reports ends = AllWentBy themselves KeepsGathered opening lists reports ends
