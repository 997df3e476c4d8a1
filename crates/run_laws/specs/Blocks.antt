-- What becomes of blocks where nothing was forged: the image is the run's, Compares tell equality, and Reads gather from the image at their fetch.
use Rattle.std.specs.{List.list_any, Prelude.{◌≡◌, ℕ, zero, suc, ◌==◌, Bool, true, false, ◌||◌, not, IsTrue, Option, Some, None, List, [], ◌∷◌, ◌++◌, if◌then◌else◌}}
use Rattle.std.specs.Str.{bytes_eq}
use Rattle.block_image.specs.Blocks.{blocks_at}
use Rattle.sgl_descriptor.specs.{Targets.{Target, Place, Discarded, targets}, declared.Direction.TheVariants.Destination}
use Rattle.io_commands.specs.{Asked.Request, DataBytes.gathered, Drafts.DraftContents, Requests.parts_of}
use Rattle.io_commands.specs.{Values.{FinishedContents, numbers_of}, declared.request.Kind.{Kind, TheVariants.Read}}
use Rattle.entry_codec.specs.{Status.is_success, declared.status.Status.Status}
use Rattle.entry_codec.specs.declared.status.TheConstants.Status.{SUCCESS, ABORT_REQUESTED, ABORTED_SQ_DELETION, INVALID_NAMESPACE, LBA_OUT_OF_RANGE, COMPARE_FAILURE}
use Rattle.machine_model.specs.{Events.{Event, Reply}, Image.{Made, image_after, read_of, draft_of}, State.State, Status.same_status}
use Rattle.machine_model.specs.Trusted.{TrustedRun, drafts_of}
use Rattle.run_laws.specs.Statuses.{status_given, fetches, is_compare}
use Rattle.machine_model.specs.Events as events

-- What a read gathers, from the image of the run up to its fetch
abbrev pub collected_of : Event → Reply → Option FinishedContents
collected_of (events.Collect q cid) (events.Collects f) = Some f
collected_of e reply = None

abbrev pub reads : Kind → Bool
reads Read = true
reads kind = false

abbrev pub is_read : FinishedContents → Bool
is_read f = reads f.request.kind

abbrev pub reads_give_their_blocks : Type 0
reads_give_their_blocks =
    (image : List ℕ) (before : List Made) (fetched : Made) (between : List Made) (collected : Made) (later : List Made) (end : State) (f : FinishedContents)
    → TrustedRun image (before ++ fetched ∷ between ++ collected ∷ later) end
    → collected_of collected.event collected.reply ≡ Some f → IsTrue (is_read f) → IsTrue (is_success f.status)
    → IsTrue (fetches f.q f.cid fetched) → IsTrue (not (list_any (fetches f.q f.cid) between))
    → gathered f.request.pieces f.data_pages ≡ read_of f.request (numbers_of f.data_pages) (image_after image before)

-- The image is the run's
abbrev pub the_image_is_the_runs : Type 0
the_image_is_the_runs =
    (image : List ℕ) (made : List Made) (end : State) → TrustedRun image made end → end.controller.image ≡ image_after image made

-- What a compare that was neither stopped nor beyond the image ends with: in namespace 1, the only one, it succeeds exactly where the blocks
-- are then its draft's bytes
abbrev pub blocks_of_request : Request → List ℕ → List ℕ
blocks_of_request r image = blocks_at image r.slba r.blocks

abbrev pub compared : DraftContents → List ℕ → Status
compared d image =
    if d.request.nsid == 1
    then (if bytes_eq (gathered d.request.pieces d.data_pages) (blocks_of_request d.request image) then SUCCESS else COMPARE_FAILURE)
    else INVALID_NAMESPACE

abbrev pub compares_tell_equality : Type 0
compares_tell_equality =
    (image : List ℕ) (earlier later : List Made) (m : Made) (end : State) (q cid : ℕ) (st : Status) (d : DraftContents) → TrustedRun image (earlier ++ m ∷ later) end
    → status_given m q cid ≡ Some st → IsTrue (is_compare m q cid) → draft_of q cid (drafts_of earlier) ≡ Some d
    → IsTrue (not (same_status st ABORT_REQUESTED || same_status st ABORTED_SQ_DELETION || same_status st LBA_OUT_OF_RANGE))
    → st ≡ compared d m.before.controller.image

-- A read that was stopped: the blocks' bytes for this many counted bytes, and the draft's own for the rest. Its draft is the latest
-- before it was collected: a command that was never fetched may come after one of its identifier that was (`worked_never_fetched`).
abbrev pub partly : ℕ → List Target → (blocks own : List ℕ) → List ℕ
partly zero ts blocks own = own
partly (suc k) [] blocks own = own
partly (suc k) (t ∷ ts) [] own = own
partly (suc k) (Discarded ∷ ts) (b ∷ bs) own = partly k ts bs own
partly (suc k) (Place p ∷ ts) (b ∷ bs) [] = []
partly (suc k) (Place p ∷ ts) (b ∷ bs) (x ∷ xs) = b ∷ partly k ts bs xs

abbrev pub stopped_reads_give_a_prefix : Type 0
stopped_reads_give_a_prefix =
    (image : List ℕ) (before : List Made) (fetched : Made) (between : List Made) (collected : Made) (later : List Made) (end : State) (f : FinishedContents) (d : DraftContents)
    → TrustedRun image (before ++ fetched ∷ between ++ collected ∷ later) end
    → collected_of collected.event collected.reply ≡ Some f → IsTrue (is_read f)
    → IsTrue (fetches f.q f.cid fetched) → IsTrue (not (list_any (fetches f.q f.cid) between))
    → draft_of f.q f.cid (drafts_of (before ++ fetched ∷ between)) ≡ Some d
    → (k : ℕ) × (gathered f.request.pieces f.data_pages
    ≡ partly k (targets Destination (parts_of f.request.pieces (numbers_of f.data_pages))) (blocks_of_request f.request (image_after image before)) (gathered d.request.pieces d.data_pages))
