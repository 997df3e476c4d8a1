-- What a bench's Writes change and its Compares tell, said of the drafts that it kept as it submitted them.
use Rattle.std.specs.{Option.option_map, Prelude.{◌≡◌, ℕ, ◌||◌, not, IsTrue, Some, List, ◌∷◌, ◌++◌}}
use Rattle.entry_codec.specs.declared.status.Status.{Status}
use Rattle.entry_codec.specs.declared.status.TheConstants.Status.{ABORT_REQUESTED, ABORTED_SQ_DELETION, LBA_OUT_OF_RANGE}
use Rattle.io_commands.specs.{Drafts.DraftContents, declared.request.Kind.TheVariants.Compare}
use Rattle.machine_model.specs.{After.final_status, Image.{draft_of, image_after}, Refusals.job_at, Script.Table, Status.same_status, Trusted.drafts_of}
use Rattle.run_laws.specs.{Blocks.compared, Values.{Done, TrustedBench, made_by}}
use Rattle.step_core.specs.declared.step.Reply.TheVariants as reply
use Rattle.step_core.specs.declared.step.Step.TheVariants as step

-- the opening's image, changed by each Write whose completion gave success, in the order of those steps: by the draft that the bench kept as it
-- submitted it
abbrev pub image_after_steps : List ℕ → List Done → List ℕ
image_after_steps image done = image_after image (made_by done)

abbrev pub benches_write_their_blocks : Type 0
benches_write_their_blocks = (image : List ℕ) (done : List Done) (end : Table) → TrustedBench image done end → end.world.controller.image ≡ image_after_steps image done

-- the drafts that a bench submitted, each as it kept it then, the latest first
abbrev pub drafts_submitted : List Done → List DraftContents
drafts_submitted done = drafts_of (made_by done)

-- a step that completes a command, whose latest draft is a Compare's
pub record CompletesCompare (earlier : List Done) (d : Done) (status : Status) (draft : DraftContents) : Type 0 where
  pub q : ℕ
  pub cid : ℕ
  pub touched : List ℕ
  pub what : d.what ≡ step.Complete q cid
  pub answer : d.answer ≡ reply.Completed touched
  pub status_is : option_map (final_status d.before.world) (job_at d.before.world q cid) ≡ Some status
  pub draft_is : draft_of q cid (drafts_submitted earlier) ≡ Some draft
  pub is_compare : draft.request.kind ≡ Compare

-- where it was neither stopped nor beyond the image, it ends as that draft says: in namespace 1 it succeeds exactly where its blocks are then the
-- draft's bytes
abbrev pub benches_compare_their_blocks : Type 0
benches_compare_their_blocks =
    (image : List ℕ) (earlier later : List Done) (d : Done) (end : Table) (status : Status) (draft : DraftContents) → TrustedBench image (earlier ++ d ∷ later) end
    → CompletesCompare earlier d status draft
    → IsTrue (not (same_status status ABORT_REQUESTED || same_status status ABORTED_SQ_DELETION || same_status status LBA_OUT_OF_RANGE))
    → status ≡ compared draft (image_after_steps image earlier)
