-- What a bench gathers: bytes of the commands that it submitted and collected.
use Rattle.std.specs.{List.list_any, Prelude.{◌≡◌, ℕ, IsTrue, not, Some, List, ◌∷◌, ◌++◌, ◌==◌, ◌&&◌, Bool, false}}
use Rattle.entry_codec.specs.Status.{is_success}
use Rattle.sgl_descriptor.specs.{Targets.targets, declared.Direction.TheVariants.Destination}
use Rattle.io_commands.specs.{Requests.parts_of, Values.{gathered_from, numbers_of}}
use Rattle.machine_model.specs.{Events.Event, Image.{Made, draft_of, read_of}, Script.{Table, finished_at}}
use Rattle.run_laws.specs.Blocks.{is_read, blocks_of_request, partly}
use Rattle.run_laws.specs.{Submitted.{CollectedCommand, FetchedCommand, was_fetched, bytes_drafted, image_at_fetch}, Values.{Done, made_by, TrustedBench}}
use Rattle.step_core.specs.Bench.{Does}
use Rattle.machine_model.specs.Events as events
use Rattle.step_core.specs.declared.step.Reply.TheVariants as reply
use Rattle.step_core.specs.declared.step.Step.TheVariants as step

-- a command that a bench submitted and collected: the two steps, the draft that the bench kept as it submitted it, and what the machine
-- made before, between and after them
pub record IsOfSteps (done : List Done) (q cid : ℕ) (c : CollectedCommand) : Type 0 where
  pub earlier : List Done
  pub submission : Done
  pub between : List Done
  pub collection : Done
  pub later : List Done
  pub parts : done ≡ earlier ++ submission ∷ between ++ collection ∷ later
  pub submits : submission.what ≡ step.Submit q cid
  pub draft : draft_of q cid submission.before.drafts ≡ Some c.draft
  pub collects : collection.what ≡ step.Collect q cid
  pub answers : collection.answer ≡ reply.Collected c.finished.status c.finished.hints
  pub made_before : made_by earlier ≡ c.before
  pub made_between : made_by between ≡ c.between
  pub made_later : made_by later ≡ c.later

-- whether a step collects this name
abbrev pub collects_by : ℕ → ℕ → Event → events.Reply → Bool
collects_by q cid (events.Collect k n) (events.Collects f) = (k == q) && (n == cid)
collects_by q cid e reply = false

abbrev pub collects : ℕ → ℕ → Made → Bool
collects q cid m = collects_by q cid m.event m.reply

-- the command that a bench keeps under a name, from its submission to its collection: the last collection of that name
pub record KeepsCommand (image : List ℕ) (done : List Done) (end : Table) (q cid : ℕ) : Type 0 where
  pub command : CollectedCommand
  pub image_is : command.image ≡ image
  pub end_is : command.end ≡ end.world
  pub queue : command.finished.q ≡ q
  pub identifier : command.finished.cid ≡ cid
  pub kept : finished_at q cid end.finished ≡ Some command.finished
  pub steps : IsOfSteps done q cid command
  pub last : IsTrue (not (list_any (collects q cid) command.later))

-- a gathered command
pub record GathersCommand (image : List ℕ) (done : List Done) (end : Table) (q cid : ℕ) (bytes : List ℕ) : Type 0 where
  pub keeps : KeepsCommand image done end q cid
  pub gathers : bytes ≡ gathered_from keeps.command.finished

abbrev pub gathered_bytes_are_of_collected_commands : Type 0
gathered_bytes_are_of_collected_commands =
    (image : List ℕ) (done : List Done) (end new : Table) (q cid : ℕ) (bytes : List ℕ) → TrustedBench image done end
    → Does end (step.Gather q cid) (reply.Gathered bytes) new → GathersCommand image done end q cid bytes

-- its blocks' bytes except the discarded ones, from the image of the run at its fetch
pub record ReadsBlocks (c : CollectedCommand) (bytes : List ℕ) : Type 0 where
  pub fetch : FetchedCommand
  pub is_of : fetch.command ≡ c
  pub reads : bytes ≡ read_of c.finished.request (numbers_of c.finished.data_pages) (image_at_fetch fetch)

-- a prefix of them, and its draft's own bytes after it
pub record ReadsPartly (c : CollectedCommand) (bytes : List ℕ) : Type 0 where
  pub fetch : FetchedCommand
  pub is_of : fetch.command ≡ c
  pub count : ℕ
  pub reads : bytes ≡ partly count (targets Destination (parts_of c.finished.request.pieces (numbers_of c.finished.data_pages))) (blocks_of_request c.finished.request (image_at_fetch fetch)) (bytes_drafted c)

-- what a Read gathers: all of its blocks where it ended with success, a part of them where it was fetched, and else its draft's own bytes
pub record GathersRead (c : CollectedCommand) (bytes : List ℕ) : Type 0 where
  pub successful : IsTrue (is_success c.finished.status) → ReadsBlocks c bytes
  pub fetched : IsTrue (was_fetched c) → ReadsPartly c bytes
  pub unfetched : IsTrue (not (was_fetched c)) → bytes ≡ bytes_drafted c

abbrev pub gathered_reads_have_their_blocks : Type 0
gathered_reads_have_their_blocks =
    (image : List ℕ) (done : List Done) (end : Table) (q cid : ℕ) (bytes : List ℕ) (g : GathersCommand image done end q cid bytes)
    → IsTrue (is_read g.keeps.command.finished) → GathersRead g.keeps.command bytes
