-- What is collected by the number of a submission is of that very submission.
use Rattle.std.specs.{List.list_any, Prelude.{◌≡◌, ℕ, not, IsTrue, Some, None, List, slice_get}}
use Rattle.block_image.specs.Blocks.{IsImage}
use Rattle.io_commands.specs.{Drafts.DraftContents, Values.FinishedContents}
use Rattle.machine_model.specs.{State.State, Step.Step}
use Rattle.machine_model.specs.Events as events
use Rattle.host_core.specs.{Opening.refusal_of_config, declared.config.Config.Config}
use Rattle.step_core.specs.Opening.{opening_of}
use Rattle.driver_book.specs.{Entries.Entry, History.{LeadsBy, LeadsTo, last_place}, Laws.is_forgery}
use Rattle.run_laws.specs.Submitted.{CollectedCommand}

-- a command that was submitted with this draft, and collected so: the laws of collected commands speak of it
pub record IsOfSubmission (image : List ℕ) (draft : DraftContents) (f : FinishedContents) : Type 0 where
  pub command : CollectedCommand
  pub its_image : command.image ≡ image
  pub its_draft : command.draft ≡ draft
  pub its_contents : command.finished ≡ f

-- A log leads on from where an earlier one led, and nothing was forged in either. These are the drafts of its submissions; the one of this number is
-- the last of a queue and identifier. What the world that the log leads to lets collect there was submitted with that draft.
abbrev pub collected_commands_are_of_their_submissions : Type 0
collected_commands_are_of_their_submissions =
    (config : Config) (image : List ℕ) (earlier log : List Entry) (drafts : List DraftContents) (mid world new : State) (q cid number : ℕ) (draft : DraftContents) (f : FinishedContents)
    → refusal_of_config config ≡ None → IsImage image → LeadsTo (opening_of config image) earlier mid → LeadsBy mid log drafts world
    → IsTrue (not (list_any is_forgery earlier)) → IsTrue (not (list_any is_forgery log))
    → slice_get drafts number ≡ Some draft → last_place q cid drafts ≡ Some number
    → Step world (events.Collect q cid) (events.Collects f) new → IsOfSubmission image draft f
