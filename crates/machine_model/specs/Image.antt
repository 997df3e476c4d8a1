-- The image of a run, and what a read gives.
use Rattle.std.specs.{Option.option_map_or, Prelude.{ℕ, ◌==◌, Bool, true, false, ◌&&◌, Option, List, [], ◌∷◌, ◌++◌, find, if◌then◌else◌}}
use Rattle.block_image.specs.Blocks.{blocks_at, with_blocks}
use Rattle.entry_codec.specs.Status.{is_success}
use Rattle.sgl_descriptor.specs.{Targets.{Target, Place, Discarded, targets}, declared.Direction.TheVariants.Destination}
use Rattle.io_commands.specs.{Asked.Request, DataBytes.gathered, Drafts.DraftContents, Requests.parts_of, declared.request.Kind.Kind}
use Rattle.io_commands.specs.declared.request.Kind.TheVariants.{Write}
use Rattle.machine_model.specs.{After.final_status, Events.{Event, Reply}, Refusals.job_at, State.State}
use Rattle.machine_model.specs.Events as events

-- a step as it was made: the state before it, the event and the reply
pub record Made : Type 0 where
  pub before : State
  pub event : Event
  pub reply : Reply

abbrev pub is_write : Kind → Bool
is_write Write = true
is_write kind = false

-- the drafts as they were submitted, the latest of a queue and identifier first
abbrev pub submitted_by : Event → Reply → List DraftContents
submitted_by (events.Submit d) events.Accepted = d ∷ []
submitted_by e reply = []

abbrev pub is_draft : ℕ → ℕ → DraftContents → Bool
is_draft q cid d = (d.q == q) && (d.cid == cid)

abbrev pub draft_of : ℕ → ℕ → List DraftContents → Option DraftContents
draft_of q cid drafts = find (is_draft q cid) drafts

abbrev pub written_by : DraftContents → List ℕ → List ℕ
written_by d image =
    if is_write d.request.kind then with_blocks image d.request.slba (gathered d.request.pieces d.data_pages) else image

-- the step that completes a command with success
abbrev pub succeeds : State → ℕ → ℕ → Bool
succeeds s q cid = option_map_or (λ j. is_success (final_status s j)) (job_at s q cid) false

abbrev pub image_by : State → List DraftContents → List ℕ → Event → Reply → List ℕ
image_by s drafts image (events.Complete q cid) (events.Completed touched) =
    if succeeds s q cid then option_map_or (λ d. written_by d image) (draft_of q cid drafts) image else image
image_by s drafts image e reply = image

-- the opening image, changed by each write whose completion gave success, in the order of those steps
abbrev pub image_from : List DraftContents → List ℕ → List Made → List ℕ
image_from drafts image [] = image
image_from drafts image (m ∷ made) =
    image_from (submitted_by m.event m.reply ++ drafts) (image_by m.before drafts image m.event m.reply) made

abbrev pub image_after : List ℕ → List Made → List ℕ
image_after image made = image_from [] image made

-- the bytes of a command's blocks that aren't discarded, by its targets
abbrev pub undiscarded : List Target → List ℕ → List ℕ
undiscarded [] bytes = []
undiscarded (t ∷ ts) [] = []
undiscarded (Place p ∷ ts) (b ∷ bs) = b ∷ undiscarded ts bs
undiscarded (Discarded ∷ ts) (b ∷ bs) = undiscarded ts bs

-- what a read that ended well gathers, from the image at its fetch
abbrev pub read_of : Request → List ℕ → List ℕ → List ℕ
read_of r data_pages image =
    undiscarded (targets Destination (parts_of r.pieces data_pages)) (blocks_at image r.slba r.blocks)
