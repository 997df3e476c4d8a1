-- What the controller makes of an entry of an I/O queue: its field checks, its data, and how it ends (NVM Command Set
-- Specification 1.0, Compare, Read and Write).
use Rattle.std.specs.Option.{option_map_or}
use Rattle.std.specs.Prelude.{◌≡◌, ◌↔◌, ◌≤◌, ◌+◌, ◌*◌, ◌-◌, ◌/◌, ◌%◌, ◌^◌, ◌==◌, ◌&&◌, ◌||◌, ℕ, Bool, true, false, not, nat_lt, is_none, IsSome, List, [], ◌∷◌, length, replicate, Option, Some, None, if◌then◌else◌}
use Rattle.std.specs.Str.{bytes_eq}
use Rattle.block_image.specs.Blocks.{blocks_at, with_blocks}
use Rattle.controller_walk.specs.{Units.{Course, Closes, course_of_list, first_passing}, declared.walk.{Walk.Walk, WalkState.WalkState}}
use Rattle.controller_walk.specs.declared.walk.WalkState.TheVariants.{More, End, Fault}
use Rattle.entry_codec.specs.{Status.is_success, declared.{io_opcode.TheConstants.{READ, WRITE, COMPARE}, status.Status.Status}}
use Rattle.entry_codec.specs.declared.status.TheConstants.Status.{SUCCESS, INVALID_OPCODE, INVALID_FIELD, INVALID_NAMESPACE, LBA_OUT_OF_RANGE, COMPARE_FAILURE}
use Rattle.entry_codec.specs.declared.submission.SubEntry.{SubEntry}
use Rattle.page_memory.specs.Memory.{Memory}
use Rattle.sgl_descriptor.specs.declared.Direction.{Direction, TheVariants.Source}
use Rattle.io_commands.specs.{Requests.direction_of, declared.request.Kind.{Kind, TheVariants.{Read, Write, Compare}}}
use Rattle.controller_walk.specs.Walks as walks

-- the commands that the controller has
abbrev pub kind_of_opcode : ℕ → Option Kind
kind_of_opcode opcode = first_passing ((opcode == WRITE, Write) ∷ (opcode == READ, Read) ∷ (opcode == COMPARE, Compare) ∷ [])

-- the first block that an entry names, its Starting LBA
abbrev pub first_block : SubEntry → ℕ
first_block e = e.cdw10 + 2 ^ 32 * e.cdw11

-- how many blocks it names; the field is one less than that
abbrev pub block_number : SubEntry → ℕ
block_number e = e.cdw12 % 65536 + 1

-- how many bytes it moves
abbrev pub need_of_entry : SubEntry → ℕ
need_of_entry e = 512 * block_number e

abbrev pub direction_by : Option Kind → Direction
direction_by None = Source
direction_by (Some kind) = direction_of kind

-- which way they go; what isn't a Read counts as a source
abbrev pub direction_of_entry : SubEntry → Direction
direction_of_entry e = direction_by (kind_of_opcode e.opcode)

-- the first failed field check of an entry, over an image of this many blocks
abbrev pub io_fault : ℕ → SubEntry → Option Status
io_fault blocks e =
    first_passing (
    (is_none (kind_of_opcode e.opcode), INVALID_OPCODE)
    ∷ (not (e.nsid == 1), INVALID_NAMESPACE)
    ∷ (not (e.fuse == 0) || not (e.psdt == 1), INVALID_FIELD)
    ∷ (nat_lt 2048 (block_number e), INVALID_FIELD)
    ∷ (nat_lt blocks (first_block e + block_number e), LBA_OUT_OF_RANGE)
    ∷ [])

-- what an entry without fault is
pub record Passes (blocks : ℕ) (e : SubEntry) : Type 0 where
  pub known : IsSome (kind_of_opcode e.opcode)
  pub namespace : e.nsid ≡ 1
  pub not_fused : e.fuse ≡ 0
  pub with_sgl : e.psdt ≡ 1
  pub few : block_number e ≤ 2048
  pub inside : first_block e + block_number e ≤ blocks

-- the field checks find no fault in those entries alone
abbrev pub NoFaultIsPassing : Type 0
NoFaultIsPassing = (blocks : ℕ) (e : SubEntry) → (io_fault blocks e ≡ None) ↔ Passes blocks e

abbrev pub first_bytes : List ℕ → SubEntry → Option Kind → List ℕ
first_bytes image e (Some Read) = blocks_at image (first_block e) (block_number e)
first_bytes image e (Some kind) = replicate (need_of_entry e) 0
first_bytes image e None = []

abbrev pub bytes_after_check : List ℕ → SubEntry → Option Status → List ℕ
bytes_after_check image e (Some fault) = []
bytes_after_check image e None = first_bytes image e (kind_of_opcode e.opcode)

-- whether an entry begins a Read over an image of this many blocks, and lacks the blocks for it
abbrev pub is_read : Option Kind → Bool
is_read (Some Read) = true
is_read kind = false

abbrev pub begins_read : ℕ → SubEntry → Bool
begins_read blocks e = is_none (io_fault blocks e) && is_read (kind_of_opcode e.opcode)

abbrev pub lacks_read : (ℕ → ℕ → Bool) → ℕ → SubEntry → Bool
lacks_read at_hand blocks e = not (at_hand (first_block e) (block_number e)) && begins_read blocks e

-- A job: an entry that was fetched, over an image of this many blocks, with the bytes that it moves. One that failed a field
-- check has no walk. It completes once it has a verdict.
pub record JobContents : Type 0 where
  pub blocks : ℕ
  pub entry : SubEntry
  pub bytes : List ℕ
  pub walk : Option Walk
  pub verdict : Option Status

-- all units of its list are to do
abbrev pub StandsAtStart : SubEntry → Walk → Type 0
StandsAtStart e w = (m : Memory) → walks.course m w ≡ course_of_list m e.sgl1 (direction_of_entry e) (need_of_entry e)

-- Just where the field checks are passed there is a walk, which stands at the start.
abbrev pub BeginsWalk : SubEntry → Option Status → Option Walk → Type 0
BeginsWalk e (Some fault) None = Unit {0}
BeginsWalk e (Some fault) (Some w) = ⊥
BeginsWalk e None None = ⊥
BeginsWalk e None (Some w) = StandsAtStart e w

-- what is left to do of a walk, if there is one
abbrev pub course_of_walk : Memory → Option Walk → Course
course_of_walk m None = Closes End
course_of_walk m (Some w) = walks.course m w

abbrev pub job_course : Memory → JobContents → Course
job_course m job = course_of_walk m job.walk

-- how many steps a job's walk may still answer More to, at most
abbrev pub left_of_walk : Option Walk → ℕ
left_of_walk None = 0
left_of_walk (Some w) = walks.left_of w

-- the verdict that a step of the walk gives
abbrev pub verdict_of : WalkState → Option Status
verdict_of More = None
verdict_of End = Some SUCCESS
verdict_of (Fault status) = Some status

-- Its walk moves the bytes of a job whose entry passed its field checks, and goes on as long as there is no verdict.
pub record IsServed (blocks : ℕ) (e : SubEntry) (bytes : List ℕ) (verdict : Option Status) (w : Walk) : Type 0 where
  pub passes : io_fault blocks e ≡ None
  pub whole : length bytes ≡ need_of_entry e
  pub need : walks.need_of w ≡ need_of_entry e
  pub direction : walks.direction_of w ≡ direction_of_entry e
  pub goes_on : verdict ≡ None → walks.is_over w ≡ false

-- A job without walk has the fault that its field checks found, and no bytes.
pub record IsRefused (blocks : ℕ) (e : SubEntry) (bytes : List ℕ) (verdict : Option Status) : Type 0 where
  pub fault : verdict ≡ io_fault blocks e
  pub some : IsSome verdict
  pub none : bytes ≡ []

abbrev pub IsJobBy : ℕ → SubEntry → List ℕ → Option Status → Option Walk → Type 0
IsJobBy blocks e bytes verdict None = IsRefused blocks e bytes verdict
IsJobBy blocks e bytes verdict (Some w) = IsServed blocks e bytes verdict w

-- what holds of every job
abbrev pub IsJob : JobContents → Type 0
IsJob job = IsJobBy job.blocks job.entry job.bytes job.verdict job.walk

-- how a command ends whose data was moved: a Compare fails where a byte differs
abbrev pub status_by : List ℕ → SubEntry → List ℕ → Option Kind → Status
status_by image e bytes (Some Compare) =
    if bytes_eq (blocks_at image (first_block e) (block_number e)) bytes then SUCCESS else COMPARE_FAILURE
status_by image e bytes kind = SUCCESS

-- the image after it: a Write puts its bytes over its blocks
abbrev pub image_by : List ℕ → SubEntry → List ℕ → Option Kind → List ℕ
image_by image e bytes (Some Write) = with_blocks image (first_block e) bytes
image_by image e bytes kind = image

abbrev pub status_after : List ℕ → SubEntry → List ℕ → Option Status → Status
status_after image e bytes None = SUCCESS
status_after image e bytes (Some verdict) =
    if is_success verdict then status_by image e bytes (kind_of_opcode e.opcode) else verdict

abbrev pub image_after : List ℕ → SubEntry → List ℕ → Option Status → List ℕ
image_after image e bytes None = image
image_after image e bytes (Some verdict) =
    if is_success verdict then image_by image e bytes (kind_of_opcode e.opcode) else image

-- The end of a job reads or writes blocks where its data was moved, and it is a Compare or a Write.
abbrev pub ends_over_blocks : Option Kind → Bool
ends_over_blocks (Some Write) = true
ends_over_blocks (Some Compare) = true
ends_over_blocks kind = false

abbrev pub needs_blocks : JobContents → Bool
needs_blocks job = option_map_or is_success job.verdict false && ends_over_blocks (kind_of_opcode job.entry.opcode)

-- whether these blocks are not at hand
abbrev pub lacks_blocks : (ℕ → ℕ → Bool) → JobContents → Bool
lacks_blocks at_hand job = not (at_hand (first_block job.entry) (block_number job.entry)) && needs_blocks job

-- the status that a job with a verdict completes with
abbrev pub finished_status : List ℕ → JobContents → Status
finished_status image job = status_after image job.entry job.bytes job.verdict

-- the image that it leaves
abbrev pub finished_image : List ℕ → JobContents → List ℕ
finished_image image job = image_after image job.entry job.bytes job.verdict

-- an entry for worked runs: an opcode, over this many blocks from a first one on
abbrev pub entry_over : ℕ → ℕ → ℕ → SubEntry
entry_over opcode first blocks =
    record {
      opcode = opcode;
      fuse = 0;
      psdt = 1;
      cid = 0;
      nsid = 1;
      mptr = 0;
      sgl1 = replicate 16 0;
      cdw10 = first % 2 ^ 32;
      cdw11 = first / 2 ^ 32;
      cdw12 = blocks - 1;
      cdw13 = 0;
      cdw14 = 0;
      cdw15 = 0;
    }

-- and the job of one block that it is, as it stands with this verdict
abbrev pub job_over : ℕ → Option Status → JobContents
job_over opcode verdict = record { blocks = 1; entry = entry_over opcode 0 1; bytes = replicate 512 0; walk = None; verdict = verdict }
