-- A controller whose blocks are lent for each call that reads or writes them.
use Rattle.std.specs.Option.{option_and_then, option_map, option_map_or}
use Rattle.std.specs.Prelude.{◌≡◌, ℕ, ◌==◌, ◌&&◌, ◌||◌, Bool, true, false, not, Option, Some, None, Result, Ok, Err, List, find, is_none, is_some, if◌then◌else◌}
use Rattle.block_image.specs.{Blocks.{block_count, shown, is_lent}, declared.lent.Lent.Lent}
use Rattle.entry_codec.specs.declared.submission.SubEntry.{SubEntry}
use Rattle.io_commands.specs.Jobs.{first_block, block_number, lacks_blocks, lacks_read}
use Rattle.page_memory.specs.Memory.{Memory}
use Rattle.controller_core.specs.{Completing.{complete_refusal, waits_among}, Contents.{Contents, FetchedCommand, FetchedWork, entry_of_work, is_command, verdict_of_work}}
use Rattle.controller_core.specs.{Fetching.{FetchesTo, LooksAt, RefusedBy, entry_refusal, is_known, look_refusal, rung_entry}, Posting.post_refusal_at}
use Rattle.controller_core.specs.declared.{command.FetchedWork.TheVariants.{Io, Admin}, refusal.ControllerRefusal.ControllerRefusal}
use Rattle.controller_core.specs.declared.lending.LentRefusal.{LentRefusal, TheVariants.{Refused, NotLent}}
use Rattle.controller_core.specs.declared.refusal.ControllerRefusal.TheVariants as refusal

-- the same queues and commands, over other blocks
abbrev pub with_image : Contents → List ℕ → Contents
with_image c image = record c { image = image }

-- the bytes of a namespace of which some blocks are lent, and whether this many blocks from a first one on are among these
abbrev pub bytes_lent : Lent → List ℕ
bytes_lent lent = shown lent.blocks lent.first lent.bytes.now

abbrev pub is_in : Lent → ℕ → ℕ → Bool
is_in lent = is_lent lent.first lent.bytes.now

-- what a fetch is refused for after its look: no room for a completion at once, or else memory for the command
abbrev pub IsRefusedAfterLook : Contents → Memory → ℕ → SubEntry → ControllerRefusal → Type 0
IsRefusedAfterLook c m q e why = (if is_known c q e then entry_refusal c m q e else Some refusal.Memory) ≡ Some why

-- a call that wants the blocks that an entry names
abbrev pub not_lent : SubEntry → LentRefusal
not_lent e = NotLent (first_block e) (block_number e)

-- Which blocks a fetch lacks: those of an entry that begins a Read, where it can be fetched else and they are not at hand.
abbrev pub entry_lacks : (ℕ → ℕ → Bool) → Contents → ℕ → SubEntry → Bool
entry_lacks at_hand c q e = not (is_known c q e || (q == 0)) && lacks_read at_hand (block_count c.image) e

abbrev pub entry_lacked : (ℕ → ℕ → Bool) → Contents → ℕ → SubEntry → Option LentRefusal
entry_lacked at_hand c q e = if entry_lacks at_hand c q e then Some (not_lent e) else None

abbrev pub fetch_lacked : (ℕ → ℕ → Bool) → Contents → Memory → ℕ → Option LentRefusal
fetch_lacked at_hand c m q =
    if is_some (look_refusal c m q) then None else option_and_then (entry_lacked at_hand c q) (rung_entry c m q)

-- what a call answers for want of blocks
abbrev pub lacked : {X : Type 0} → Result X LentRefusal → Option LentRefusal
lacked (Ok x) = None
lacked (Err (Refused why)) = None
lacked (Err (NotLent slba count)) = Some (NotLent slba count)

-- An entry was looked at, and nothing else changed.
pub record OnlyLooks (c : Contents) (m : Memory) (reached : List ℕ) (q : ℕ) (reached' : List ℕ) : Type 0 where
  pub entry : SubEntry
  pub looks : LooksAt c m reached q entry reached'

-- What a fetch makes of a controller over blocks that are lent, of the memory and of the list of the pages touched.
abbrev pub FetchesLent : Contents → ℕ → Memory → List ℕ → ℕ → Result ℕ LentRefusal → Contents → Memory → List ℕ → Type 0
FetchesLent c pages m reached q (Ok cid) c' m' reached' = FetchesTo c pages m reached q cid c' m' reached'
FetchesLent c pages m reached q (Err (Refused why)) c' m' reached' = RefusedBy (look_refusal c m q) c m reached q why reached' × (c' ≡ c) × (m' ≡ m)
FetchesLent c pages m reached q (Err (NotLent slba count)) c' m' reached' = OnlyLooks c m reached q reached' × (c' ≡ c) × (m' ≡ m)

-- whether the end of a command reads or writes blocks that are not at hand
abbrev pub work_lacks : (ℕ → ℕ → Bool) → FetchedWork → Bool
work_lacks at_hand (Io job) = lacks_blocks at_hand job
work_lacks at_hand (Admin entry status dw0) = false

abbrev pub command_lacks : (ℕ → ℕ → Bool) → List FetchedCommand → ℕ → ℕ → Bool
command_lacks at_hand commands q cid = option_map_or (λ k. work_lacks at_hand k.work) (find (is_command q cid) commands) false

-- what a completion is refused for that lies in the command, whatever memory and blocks hold
abbrev pub command_cause : List FetchedCommand → FetchedCommand → Option ControllerRefusal
command_cause commands k =
    if is_none (verdict_of_work k.work) then Some refusal.Walking else if waits_among commands k then Some refusal.Waits else None

abbrev pub unready : Contents → ℕ → ℕ → Option ControllerRefusal
unready c q cid = option_map_or (command_cause c.commands) (find (is_command q cid) c.commands) (Some refusal.NoJob)

-- What a completion is refused for over blocks that are lent, the first that holds: the blocks are wanted before the completion is posted.
abbrev pub end_refusal : (ℕ → ℕ → Bool) → Contents → Memory → ℕ → FetchedCommand → Option LentRefusal
end_refusal at_hand c m q k =
    if is_none (verdict_of_work k.work) then Some (Refused refusal.Walking)
    else if waits_among c.commands k then Some (Refused refusal.Waits)
    else if work_lacks at_hand k.work then Some (not_lent (entry_of_work k.work))
    else option_map (λ why. Refused why) (post_refusal_at c.queues m q)

abbrev pub lent_refusal : (ℕ → ℕ → Bool) → Contents → Memory → ℕ → ℕ → Option LentRefusal
lent_refusal at_hand c m q cid = option_map_or (end_refusal at_hand c m q) (find (is_command q cid) c.commands) (Some (Refused refusal.NoJob))

-- Where all blocks are at hand, nothing is lacking: a fetch lacks none, and a completion is refused for what it is refused for over an image.
abbrev pub NoneLacksAtHand : Type 0
NoneLacksAtHand = (c : Contents) (m : Memory) (q : ℕ) → fetch_lacked (λ slba n. true) c m q ≡ None

abbrev pub RefusesAsImage : Type 0
RefusesAsImage = (c : Contents) (m : Memory) (q cid : ℕ) → lent_refusal (λ slba n. true) c m q cid ≡ option_map (λ why. Refused why) (complete_refusal c m q cid)
