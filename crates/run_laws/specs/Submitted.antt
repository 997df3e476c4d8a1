-- What a command gives back, said of the run from its own submission to its collection.
use Rattle.std.specs.{List.list_any, Prelude.{◌≡◌, ℕ, Bool, not, IsTrue, true, is_some, Some, List, [], ◌∷◌, ◌++◌, All}}
use Rattle.sgl_descriptor.specs.{Spelling.spelling, Targets.targets, declared.Direction.TheVariants.Destination}
use Rattle.entry_codec.specs.{Status.is_success, declared.status.TheConstants.Status.ABORTED_SQ_DELETION}
use Rattle.io_commands.specs.{Asked.Request, DataBytes.gathered, Drafts.{DraftContents, draft_first, pointer_of}, Requests.{has_list, parts_of, joined_parts}}
use Rattle.io_commands.specs.Values.{FinishedContents, numbers_of}
use Rattle.page_memory.specs.Pages.{byte_at}
use Rattle.sgl_chain.specs.Spells.{Spells}
use Rattle.machine_model.specs.{Image.{Made, is_draft, draft_of, submitted_by, image_after, read_of}, Refusals.is_submitted, State.{State, Record, record_at}}
use Rattle.machine_model.specs.{Step.{Step, zeroed}, Trusted.{TrustedRun, drafts_of}, declared.words.Work.TheVariants.Io}
use Rattle.two_sides.specs.MachineLaws.{entries_of}
use Rattle.run_laws.specs.{Blocks.{collected_of, is_read, blocks_of_request, partly}, Statuses.fetches}
use Rattle.machine_model.specs.Events as events

-- whether a step is an accepted submission of this queue and identifier
abbrev pub submits : ℕ → ℕ → Made → Bool
submits q cid m = list_any (is_draft q cid) (submitted_by m.event m.reply)

-- A command from its submission to its collection, in a run in which nothing was forged: the draft that was submitted, and what
-- was collected. Between the two no other draft of its queue and identifier was submitted.
pub record CollectedCommand : Type 0 where
  pub image : List ℕ
  pub before : List Made
  pub submitted : Made
  pub between : List Made
  pub collected : Made
  pub later : List Made
  pub end : State
  pub draft : DraftContents
  pub finished : FinishedContents
  pub run : TrustedRun image (before ++ submitted ∷ between ++ collected ∷ later) end
  pub is_submission : submitted_by submitted.event submitted.reply ≡ draft ∷ []
  pub is_collection : collected_of collected.event collected.reply ≡ Some finished
  pub queue : draft.q ≡ finished.q
  pub identifier : draft.cid ≡ finished.cid
  pub alone : IsTrue (not (list_any (submits finished.q finished.cid) between))

-- so each collection in such a run is that of a command that was submitted
pub record IsCollectionIn (image : List ℕ) (earlier : List Made) (m : Made) (later : List Made) (f : FinishedContents) : Type 0 where
  pub command : CollectedCommand
  pub its_image : command.image ≡ image
  pub steps_before : command.before ++ command.submitted ∷ command.between ≡ earlier
  pub its_step : command.collected ≡ m
  pub steps_behind : command.later ≡ later
  pub its_contents : command.finished ≡ f

abbrev pub collected_commands_were_submitted : Type 0
collected_commands_were_submitted =
    (image : List ℕ) (earlier later : List Made) (m : Made) (end : State) (f : FinishedContents) → TrustedRun image (earlier ++ m ∷ later) end
    → collected_of m.event m.reply ≡ Some f → IsCollectionIn image earlier m later f

-- it is fetched in some step between
abbrev pub was_fetched : CollectedCommand → Bool
was_fetched c = list_any (fetches c.finished.q c.finished.cid) c.between

-- what its draft gathered as it was submitted, and what it gathered as it was collected
abbrev pub bytes_drafted : CollectedCommand → List ℕ
bytes_drafted c = gathered c.draft.request.pieces c.draft.data_pages

abbrev pub bytes_collected : CollectedCommand → List ℕ
bytes_collected c = gathered c.finished.request.pieces c.finished.data_pages

-- A command keeps its request and its pages

abbrev pub requests_stay : Type 0
requests_stay = (c : CollectedCommand) → c.finished.request ≡ c.draft.request

abbrev pub data_pages_stay : Type 0
data_pages_stay = (c : CollectedCommand) → numbers_of c.finished.data_pages ≡ numbers_of c.draft.data_pages

abbrev pub chain_pages_stay : Type 0
chain_pages_stay = (c : CollectedCommand) → numbers_of c.finished.chain_pages ≡ numbers_of c.draft.chain_pages

-- One that was never fetched

abbrev pub unfetched_commands_keep_their_data : Type 0
unfetched_commands_keep_their_data = (c : CollectedCommand) → IsTrue (not (was_fetched c)) → c.finished.data_pages ≡ c.draft.data_pages

abbrev pub unfetched_commands_keep_the_drafts_bytes : Type 0
unfetched_commands_keep_the_drafts_bytes = (c : CollectedCommand) → IsTrue (not (was_fetched c)) → bytes_collected c ≡ bytes_drafted c

-- its status is that of a deleted queue or a reset: no other is given without a fetch
abbrev pub unfetched_commands_were_deleted : Type 0
unfetched_commands_were_deleted = (c : CollectedCommand) → IsTrue (not (was_fetched c)) → c.finished.status ≡ ABORTED_SQ_DELETION

abbrev pub successful_commands_were_fetched : Type 0
successful_commands_were_fetched = (c : CollectedCommand) → IsTrue (is_success c.finished.status) → IsTrue (was_fetched c)

-- the data pages of a draft that was just reserved are zeros, and where a draft was submitted so, the command gathers zeros
abbrev pub AreZeros : List ℕ → Type 0
AreZeros bytes = All (λ b. b ≡ 0) bytes

abbrev pub drafts_of_reserve_are_zero : Type 0
drafts_of_reserve_are_zero =
    (s new : State) (q : ℕ) (r : Request) (d : DraftContents) → Step s (events.Reserve q r) (events.Reserved d) new → zeroed d.data_pages

abbrev pub unfetched_commands_of_zeros_gather_zeros : Type 0
unfetched_commands_of_zeros_gather_zeros = (c : CollectedCommand) → zeroed c.draft.data_pages → IsTrue (not (was_fetched c)) → AreZeros (bytes_collected c)

-- One that was fetched

-- the fetch of a command: the steps between its submission and its collection, split there
pub record FetchedCommand : Type 0 where
  pub command : CollectedCommand
  pub before_fetch : List Made
  pub fetched : Made
  pub after_fetch : List Made
  pub split : command.between ≡ before_fetch ++ fetched ∷ after_fetch
  pub is_fetch : IsTrue (fetches command.finished.q command.finished.cid fetched)

-- the image of the run at that fetch
abbrev pub image_at_fetch : FetchedCommand → List ℕ
image_at_fetch f = image_after f.command.image (f.command.before ++ f.command.submitted ∷ f.before_fetch)

-- what was fetched has its fetch
abbrev pub fetched_commands_have_their_fetch : Type 0
fetched_commands_have_their_fetch = (c : CollectedCommand) → IsTrue (was_fetched c) → (f : FetchedCommand) × (f.command ≡ c)

-- a command is fetched once
abbrev pub commands_are_fetched_once : Type 0
commands_are_fetched_once =
    (f : FetchedCommand) → IsTrue (not (list_any (fetches f.command.finished.q f.command.finished.cid) (f.before_fetch ++ f.after_fetch)))

-- a Read gathers a prefix of its blocks' bytes, from the image at its fetch, and its draft's own after it
abbrev pub fetched_reads_give_a_prefix : Type 0
fetched_reads_give_a_prefix =
    (f : FetchedCommand) → IsTrue (is_read f.command.finished)
    → (k : ℕ) × (bytes_collected f.command
    ≡ partly k (targets Destination (parts_of f.command.finished.request.pieces (numbers_of f.command.finished.data_pages)))
    (blocks_of_request f.command.finished.request (image_at_fetch f)) (bytes_drafted f.command))

-- and where it ended with success, all its blocks' bytes that aren't discarded
abbrev pub successful_reads_give_their_blocks : Type 0
successful_reads_give_their_blocks =
    (f : FetchedCommand) → IsTrue (is_read f.command.finished) → IsTrue (is_success f.command.finished.status)
    → bytes_collected f.command ≡ read_of f.command.finished.request (numbers_of f.command.finished.data_pages) (image_at_fetch f)

-- A command's list

-- a submitted command has a draft's request and pages: where it has a list its chain spells the draft's list, and each entry of it at the controller names
-- that list
pub record HasListOf (d : DraftContents) (s : State) (r : Record) (request : Request) : Type 0 where
  pub is_built : IsTrue (is_some d.entry)
  pub request_is : d.request ≡ request
  pub data_pages : numbers_of d.data_pages ≡ r.data_pages
  pub chain_pages : numbers_of d.chain_pages ≡ r.chain_pages
  pub spells : has_list request.kind ≡ true → Spells (byte_at s.memory) (draft_first d) (joined_parts request.pieces r.data_pages)
  pub named : All (λ e. e.sgl1 ≡ pointer_of request.kind (spelling (draft_first d))) (entries_of s r.q r.cid)

-- that draft is the latest that was submitted of its queue and identifier
abbrev pub chains_are_the_drafts : Type 0
chains_are_the_drafts =
    (image : List ℕ) (made : List Made) (end : State) (q cid : ℕ) (r : Record) (request : Request) → TrustedRun image made end
    → record_at end.host q cid ≡ Some r → IsTrue (is_submitted r.phase) → r.work ≡ Io request
    → (d : DraftContents) × (draft_of q cid (drafts_of made) ≡ Some d) × HasListOf d end r request
