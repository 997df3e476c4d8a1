-- The commands of a round.
use Rattle.std.specs.Prelude.{◌≡◌, ℕ, ◌+◌, ◌-◌, ◌*◌, ◌/◌, ◌^◌, ◌<◌, zero, suc, Option, List, [], ◌∷◌, All, map, min, slice_index}
use Rattle.driver_threads.specs.{Jobs.BytesOf, Values.JobOf}
use Rattle.io_commands.specs.declared.request.{Kind.Kind, Piece.{Piece, TheVariants.Data}, TheConstants.Flags.NONE}
use Rattle.load.specs.{Content.written, Picking.ArePicked, declared.{content.Content.Content, layout.Layout.Layout, plan.Planned.Planned}}
use Rattle.io_commands.specs.declared.request.Kind.TheVariants as kind
use Rattle.io_commands.specs.declared.block_size.BlockSize.TheVariants.{Bytes512}

-- a Write makes one more of the writes of a slot, as far as a number of 32 bits goes
unfoldable pub generation_after : Kind → ℕ → ℕ
generation_after kind.Write before = min (before + 1) (2 ^ 32 - 1)
generation_after k before = before

-- the command for a slot, by how often slots were written
abbrev pub planned_at : List ℕ → ℕ → Kind → Planned
planned_at generations slot kind = record { slot = slot; kind = kind; generation = generation_after kind (slice_index generations slot) }

-- a command's slot is one of the layout's
abbrev pub IsInside : Layout → Planned → Type 0
IsInside layout planned = planned.slot < layout.submitters * layout.slots

abbrev pub slots_of : List Planned → List ℕ
slots_of plan = map (λ p. p.slot) plan

-- the commands of a submitter: picked slots of its own part, each command as planned for its slot
pub record IsPlanOf (layout : Layout) (generations : List ℕ) (submitter most : ℕ) (plan : List Planned) : Type 0 where
  pub picked : List ℕ
  pub are_picked : ArePicked layout.slots most picked
  pub slots : slots_of plan ≡ map (λ slot. submitter * layout.slots + slot) picked
  pub planned : All (λ p. p ≡ planned_at generations p.slot p.kind) plan

-- full pages, and then the rest
abbrev pub full_pieces : ℕ → List Piece → List Piece
full_pieces zero pieces = pieces
full_pieces (suc many) pieces = Data 0 4096 ∷ full_pieces many pieces

abbrev pub pieces_of : ℕ → List Piece
pieces_of blocks = full_pieces ((blocks - 1) / 8) (Data 0 (512 * (blocks - 8 * ((blocks - 1) / 8))) ∷ [])

-- the data of a Write; another command has none
abbrev pub data_of : Layout → ℕ → Planned → Kind → List ℕ
data_of layout seed planned kind.Write = written layout seed planned.slot planned.generation
data_of layout seed planned k = []

-- what a command's data are made of, and what they are compared with, where Reads are compared
pub record TaskContents : Type 0 where
  pub layout : Layout
  pub seed : ℕ
  pub content : Option Content
  pub planned : Planned

-- the bytes that they stand for
abbrev pub bytes_for : BytesOf TaskContents
bytes_for task = data_of task.layout task.seed task.planned task.planned.kind

-- a job of a command
abbrev pub TaskJob : Type 0
TaskJob = JobOf TaskContents

-- the job of a command, with what its data are made of and compared with
abbrev pub job_for : Layout → ℕ → Option Content → ℕ → Planned → TaskJob
job_for layout seed content q planned = record {
  q = q;
  request = record { kind = planned.kind; nsid = 1; flags = NONE; slba = planned.slot * layout.slot_blocks; block_size = Bytes512; blocks = layout.slot_blocks; pieces = pieces_of layout.slot_blocks };
  bytes = record { layout = layout; seed = seed; content = content; planned = planned };
}
