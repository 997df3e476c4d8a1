-- What a reset restores: whatever was forged, after it both sides agree.
use Rattle.std.specs.{List.AllByRecursion, Prelude.{◌≡◌, ℕ, ◌<◌, ◌≤◌, false, Some, List, length}}
use Rattle.block_image.specs.Blocks.{IsImage}
use Rattle.io_commands.specs.{Asked.Request, Requests.{is_admin, FitsRequest}, Values.IsGood}
use Rattle.machine_model.specs.{After.{after_reset, lost_anywhere}, Agreeing.SidesAgree, Always.IsHostProvided, Claims.IsSound, Events.{Event, Reply}}
use Rattle.machine_model.specs.{Opening.{opening, Opens}, Run.Run, State.{State, Record, record_at}, Work.Work}
use Rattle.io_commands.specs.declared.block_size.BlockSize.TheVariants.{Bytes512}
use Rattle.machine_model.specs.declared.words.{Peer.TheVariants.{Modelled}, Work.TheVariants.{Io, Management}}

-- an outstanding I/O command asks for what passes the check of requests, is no admin command, and has blocks of 512 bytes
abbrev pub IsChecked : Work → Type 0
IsChecked (Io request) = FitsRequest request × IsGood request × (is_admin request.kind ≡ false) × (request.block_size ≡ Bytes512)
IsChecked (Management a) = Unit {0}

-- what holds of each world whatever was forged
pub record CanRecover (s : State) : Type 0 where
  pub sound : IsSound s
  pub provided : IsHostProvided s.entries s.segment s.host
  pub checked : AllByRecursion (λ r. IsChecked r.work) s.host.records
  -- the limits of the world
  pub modelled : s.host.peer ≡ Modelled
  pub some_entries : 0 < s.entries
  pub few_queues : length s.host.queues ≤ 65536
  pub few_pages : length s.memory ≤ 65536
  -- as many queues on either side
  pub paired : length s.controller.queues ≡ length s.host.queues

abbrev pub openings_can_recover : Type 0
openings_can_recover = (pages queues n s : ℕ) (image : List ℕ) → Opens pages queues n s → CanRecover (opening pages queues n s image)

-- so after a reset every law of trusted states applies to the world again
abbrev pub resets_recover : Type 0
resets_recover = (s : State) → CanRecover s → SidesAgree (after_reset s)

-- and after each run, whatever was forged in it
abbrev pub every_run_recovers : Type 0
every_run_recovers =
    (pages queues n s : ℕ) (image : List ℕ) (es : List Event) (replies : List Reply) (end : State)
    → Opens pages queues n s → IsImage image → Run (opening pages queues n s image) es replies end → SidesAgree (after_reset end)

-- each I/O command is outstanding as before, and held with 0:08 where it was submitted
abbrev pub resets_leave_io_commands : Type 0
resets_leave_io_commands =
    (s : State) (q cid : ℕ) (r : Record) (request : Request) → record_at s.host q cid ≡ Some r → r.work ≡ Io request
    → record_at (after_reset s).host q cid ≡ Some (lost_anywhere r)
