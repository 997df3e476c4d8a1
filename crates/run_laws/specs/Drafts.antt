-- The draft that a bench submits is the one that it reserved, with the bytes of its fills.
use Rattle.std.specs.List.{list_any}
use Rattle.std.specs.Prelude.{◌≡◌, ℕ, ◌-◌, ◌==◌, Bool, false, ◌&&◌, not, IsTrue, is_some, Some, None, List, [], ◌∷◌, ◌++◌, length, replicate, sum_by, if◌then◌else◌}
use Rattle.block_image.specs.Blocks.{IsImage}
use Rattle.io_commands.specs.{Asked.Request, DataBytes.{data_length, filled, gathered}, Drafts.DraftContents, Values.numbers_of}
use Rattle.machine_model.specs.{Image.draft_of, Script.{Table, table}}
use Rattle.step_core.specs.{Bench.event_at, Opening.opening_of, Values.{Reply, Step}}
use Rattle.host_core.specs.{Opening.refusal_of_config, declared.config.Config.Config}
use Rattle.run_laws.specs.Values.{Done, Goes}
use Rattle.machine_model.specs.Events as events
use Rattle.machine_model.specs.Step as machine
use Rattle.step_core.specs.declared.step.Reply.TheVariants as reply
use Rattle.step_core.specs.declared.step.Step.TheVariants as step

-- Steps of a draft

-- whether a step takes the draft of a name out of the bench: an accepted submission or cancel of it
abbrev pub takes_by : ℕ → ℕ → Step → Reply → Bool
takes_by q cid (step.Submit k n) reply.Accepted = (k == q) && (n == cid)
takes_by q cid (step.Cancel k n) reply.Accepted = (k == q) && (n == cid)
takes_by q cid what answer = false

abbrev pub takes_draft : ℕ → ℕ → Done → Bool
takes_draft q cid d = takes_by q cid d.what d.answer

-- the bytes that a step puts into the draft of a name: those of an accepted fill
abbrev pub fill_by : ℕ → ℕ → Step → Reply → List (List ℕ)
fill_by q cid (step.Fill k n bytes) reply.Accepted = if (k == q) && (n == cid) then bytes ∷ [] else []
fill_by q cid what answer = []

-- the accepted fills of a name, in their order
abbrev pub fills_of : ℕ → ℕ → List Done → List (List ℕ)
fills_of q cid [] = []
fills_of q cid (d ∷ done) = fill_by q cid d.what d.answer ++ fills_of q cid done

-- how many bytes of data a request has
abbrev pub data_bytes : Request → ℕ
data_bytes request = sum_by data_length request.pieces

-- this many bytes, and fills written over them, one after the other: each starting at the first byte, with zeros after it
abbrev pub written_over : ℕ → List ℕ → List (List ℕ) → List ℕ
written_over count bytes [] = bytes
written_over count bytes (fill ∷ fills) = written_over count (fill ++ replicate (count - length fill) 0) fills

-- From a reservation to the submission

-- A command that a bench reserved since it opened, and whose draft it asks to submit later: no submission and no cancel of that name
-- was accepted between. Whether an entry was forged doesn't matter.
pub record ReservedCommand : Type 0 where
  pub config : Config
  pub image : List ℕ
  pub opens : refusal_of_config config ≡ None
  pub is_image : IsImage image
  pub earlier : List Done
  pub reservation : Done
  pub between : List Done
  pub submission : Done
  pub later : List Done
  pub end : Table
  pub goes : Goes (table (opening_of config image)) (earlier ++ reservation ∷ between ++ submission ∷ later) end
  pub q : ℕ
  pub cid : ℕ
  pub request : Request
  pub data_pages : ℕ
  pub chain_pages : ℕ
  pub reserves : reservation.what ≡ step.Reserve q request
  pub reserved : reservation.answer ≡ reply.Reserved q cid data_pages chain_pages
  pub submits : submission.what ≡ step.Submit q cid
  pub stays : IsTrue (not (list_any (takes_draft q cid) between))

-- the draft that the machine gave as it reserved the command, and that the bench kept
pub record IsReservedDraft (c : ReservedCommand) (draft : DraftContents) : Type 0 where
  pub queue : draft.q ≡ c.q
  pub identifier : draft.cid ≡ c.cid
  pub step : machine.Step c.reservation.before.world (events.Reserve c.q c.request) (events.Reserved draft) c.reservation.after.world
  pub kept : c.reservation.after.drafts ≡ c.reservation.before.drafts ++ draft ∷ []

-- the zeros of a reservation, with the fills between written over them
abbrev pub bytes_left : ReservedCommand → List ℕ
bytes_left c = written_over (data_bytes c.request) (replicate (data_bytes c.request) 0) (fills_of c.q c.cid c.between)

-- And the one that the machine's submission gets. Its data has those bytes, and in its data pages nothing else differs from those of
-- the reservation.
pub record SubmitsFilled (c : ReservedCommand) : Type 0 where
  pub reserved : DraftContents
  pub is_reserved : IsReservedDraft c reserved
  pub submitted : DraftContents
  pub event : event_at c.submission.before c.submission.what ≡ Some (events.Submit submitted)
  pub queue : submitted.q ≡ c.q
  pub identifier : submitted.cid ≡ c.cid
  pub request : submitted.request ≡ c.request
  pub segment : submitted.segment ≡ reserved.segment
  pub data_pages : numbers_of submitted.data_pages ≡ numbers_of reserved.data_pages
  pub chain_pages : numbers_of submitted.chain_pages ≡ numbers_of reserved.chain_pages
  pub bytes : gathered c.request.pieces submitted.data_pages ≡ bytes_left c
  pub page_bytes : submitted.data_pages ≡ filled c.request.pieces reserved.data_pages (bytes_left c)

-- a submission of a draft that the bench keeps is that of a command that it reserved
pub record WasReserved (config : Config) (image : List ℕ) (before : List Done) (submission : Done) (later : List Done) (q cid : ℕ) : Type 0 where
  pub command : ReservedCommand
  pub its_config : command.config ≡ config
  pub its_image : command.image ≡ image
  pub steps_before : command.earlier ++ command.reservation ∷ command.between ≡ before
  pub its_step : command.submission ≡ submission
  pub steps_behind : command.later ≡ later
  pub queue : command.q ≡ q
  pub identifier : command.cid ≡ cid

abbrev pub submitted_drafts_were_reserved : Type 0
submitted_drafts_were_reserved =
    (config : Config) (image : List ℕ) (before later : List Done) (submission : Done) (end : Table) (q cid : ℕ)
    → refusal_of_config config ≡ None → IsImage image → Goes (table (opening_of config image)) (before ++ submission ∷ later) end
    → submission.what ≡ step.Submit q cid → IsTrue (is_some (draft_of q cid submission.before.drafts)) → WasReserved config image before submission later q cid

abbrev pub benches_submit_what_they_reserved_and_filled : Type 0
benches_submit_what_they_reserved_and_filled = (c : ReservedCommand) → SubmitsFilled c
