-- The codes. They are those of `c/nvmesgl.h`.
use Rattle.std.specs.Prelude.{ℕ}
use Rattle.io_commands.specs.declared.{draft.FillFault.FillFault, request.RequestFault.RequestFault}
use Rattle.machine_model.specs.declared.words.{OpenRefusal.OpenRefusal, Refusal.Refusal}
use Rattle.io_commands.specs.declared.draft.FillFault.TheVariants as fill_fault
use Rattle.io_commands.specs.declared.request.RequestFault.TheVariants as request_fault
use Rattle.machine_model.specs.declared.words.OpenRefusal.TheVariants as open_refusal
use Rattle.machine_model.specs.declared.words.Refusal.TheVariants as refusal

abbrev pub code_of_request_fault : RequestFault → ℕ
code_of_request_fault request_fault.TooManyPieces = 40
code_of_request_fault request_fault.EmptyPiece = 41
code_of_request_fault request_fault.CrossesPage = 42
code_of_request_fault request_fault.BadCount = 43
code_of_request_fault request_fault.LengthMismatch = 44
code_of_request_fault request_fault.HostsOwn = 47

abbrev pub code_of_refusal : Refusal → ℕ
code_of_refusal refusal.NoQueue = 10
code_of_refusal refusal.Deleting = 11
code_of_refusal (refusal.Bad fault) = code_of_request_fault fault
code_of_refusal refusal.OtherBlocks = 35
code_of_refusal refusal.NoIdentifier = 13
code_of_refusal (refusal.NoPages need free) = 14
code_of_refusal refusal.Memory = 15
code_of_refusal refusal.Stranger = 16
code_of_refusal refusal.NotBuilt = 17
code_of_refusal refusal.QueueGone = 18
code_of_refusal refusal.QueueFull = 19
code_of_refusal refusal.NotYet = 20
code_of_refusal refusal.WrongState = 21
code_of_refusal refusal.NoSuchCommand = 22
code_of_refusal refusal.NotDeleted = 23
code_of_refusal refusal.NotDrained = 24
code_of_refusal refusal.Outstanding = 25
code_of_refusal (refusal.NoRun need) = 26
code_of_refusal refusal.NoSlot = 27
code_of_refusal refusal.Idle = 28
code_of_refusal refusal.SlotOut = 29
code_of_refusal refusal.Full = 30
code_of_refusal refusal.NoJob = 31
code_of_refusal refusal.Nothing = 32
code_of_refusal refusal.Walking = 33
code_of_refusal refusal.Waits = 34

abbrev pub code_of_fill_fault : FillFault → ℕ
code_of_fill_fault fill_fault.NotASource = 45
code_of_fill_fault fill_fault.WrongLength = 46

abbrev pub code_of_open_refusal : OpenRefusal → ℕ
code_of_open_refusal open_refusal.BadConfig = 12
code_of_open_refusal (open_refusal.NoPages need free) = 14
code_of_open_refusal open_refusal.Memory = 15
