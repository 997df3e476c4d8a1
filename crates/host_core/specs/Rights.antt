-- What a device may do with which page now: with the rings of queues, and with what belongs to a submitted command.
use Rattle.std.specs.Option.{option_map_or}
use Rattle.std.specs.Prelude.{◌≡◌, ℕ, ◌+◌, ◌==◌, ◌≤◌, drop, Option, Some, None, option_map, List, [], ◌∷◌, ◌++◌, find, length, slice_get, suc, if◌then◌else◌}
use Rattle.io_commands.specs.{Requests.brings_data, declared.request.Kind.Kind}
use Rattle.machine_model.specs.{Claims.claims_of, Refusals.is_submitted, State.{Host, HostQueue, Record, is_at, record_at}, Work.Work}
use Rattle.machine_model.specs.declared.words.Work.TheVariants.{Io, Management}
use Rattle.page_ledger.specs.declared.owner.{Owner.{Owner, TheVariants.{Free, Queue, Command}}, Role.{Role, TheVariants.{Data, Chain}}}
use Rattle.page_memory.specs.declared.page.Half.TheVariants.{Submission, Completion}
use Rattle.host_core.specs.declared.rights.{Right.Right, Run.Run, QueueMemory.QueueMemory}
use Rattle.host_core.specs.declared.rights.Right.TheVariants as right

-- The data of a Read, and of an admin command that has data come, is written; that of another command is read, and so is a command's chain.
abbrev pub right_of_data : Kind → Right
right_of_data k = if brings_data k then right.Write else right.Read

abbrev pub right_by_role : Kind → Role → Right
right_by_role k Data = right_of_data k
right_by_role k Chain = right.Read

abbrev pub right_of_work : Work → Role → Right
right_of_work (Io request) role = right_by_role request.kind role
right_of_work (Management kind) role = right.Nothing

-- with a page of a command, which holds its data or its chain: from its submission until it is reaped
abbrev pub right_of_role : Record → Role → Right
right_of_role r role = if is_submitted r.phase then right_of_work r.work role else right.Nothing

-- with a page of this owner
abbrev pub right_of_owner : List Record → Owner → Right
right_of_owner records Free = right.Nothing
right_of_owner records (Queue q Submission) = right.Read
right_of_owner records (Queue q Completion) = right.Write
right_of_owner records (Command q cid role) = option_map_or (λ r. right_of_role r role) (find (is_at q cid) records) right.Nothing

-- the owner of a page: that of the claim that it is in, if it is a page of the pool
abbrev pub owner_of : Host → ℕ → Option Owner
owner_of h p = option_map (λ claim. claim.1) (find (λ claim. claim.0 == p) (claims_of h))

abbrev pub right_at : Host → ℕ → Right
right_at h p = option_map_or (right_of_owner h.records) (owner_of h p) right.Nothing

-- Pages as runs of consecutive ones, in their order, all with one right

abbrev pub joined : Right → ℕ → List Run → List Run
joined may p [] = record { first = p; count = 1; right = may } ∷ []
joined may p (run ∷ runs) =
    if run.first == p + 1
    then record { first = p; count = suc run.count; right = may } ∷ runs
    else record { first = p; count = 1; right = may } ∷ run ∷ runs

abbrev pub runs_of : Right → List ℕ → List Run
runs_of may [] = []
runs_of may (p ∷ pages) = joined may p (runs_of may pages)

-- how many pages follow a page, each the next one
abbrev pub following : ℕ → List ℕ → ℕ
following p [] = 0
following p (next ∷ pages) = if next == p + 1 then suc (following next pages) else 0

-- The first run of pages, where there is one.
abbrev pub FirstRun : Right → List ℕ → Option Run → Type 0
FirstRun may pages None = pages ≡ []
FirstRun may pages (Some run) = (runs_of may pages ≡ run ∷ runs_of may (drop run.count pages)) × (run.count ≤ length pages)

-- the pages of a command: those of its data, and then those of its chain
abbrev pub runs_of_record : Record → List Run
runs_of_record r = runs_of (right_of_role r Data) r.data_pages ++ runs_of (right_of_role r Chain) r.chain_pages

abbrev pub runs_of_command : Host → ℕ → ℕ → List Run
runs_of_command h q cid = option_map_or runs_of_record (record_at h q cid) []

-- the first run is given, or none is left
abbrev pub GivesRun : List Run → Option Run → List Run → Type 0
GivesRun old None new = (old ≡ []) × (new ≡ [])
GivesRun old (Some run) new = old ≡ run ∷ new

-- The memory of a queue's rings: one run each, while the host has that half.
abbrev pub ring_of : Right → List ℕ → Option Run
ring_of may [] = None
ring_of may (p ∷ pages) = Some (record { first = p; count = length (p ∷ pages); right = may })

abbrev pub memory_of_queue : HostQueue → QueueMemory
memory_of_queue queue =
    record { submission = ring_of right.Read queue.sq_pages; completion = ring_of right.Write queue.cq_pages }

abbrev pub queue_memory_at : Host → ℕ → Option QueueMemory
queue_memory_at h q = option_map memory_of_queue (slice_get h.queues q)
