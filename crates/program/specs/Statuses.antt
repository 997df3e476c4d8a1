-- The exit statuses of the program.
use Rattle.std.specs.Prelude.{ℕ, nat_lt, if◌then◌else◌}
use Rattle.load.specs.Statuses.{status_of_load}
use Rattle.program.specs.declared.{fault.{BytesFault.BytesFault, Fault.Fault}, testing.Tally.Tally}
use Rattle.script_cli.specs.Faults.{status_of_image, status_of_run}
use Rattle.program.specs.declared.fault.BytesFault.TheVariants as bytes
use Rattle.program.specs.declared.fault.Fault.TheVariants as fault
use Rattle.views.specs.declared.explain.fault.CaseFault.{CaseFault}
use Rattle.views.specs.declared.explain.fault.CaseFault.TheVariants as case_fault

-- of transcripts: 3 where a file was not written, else 4 where one differs, else 1 where one is at fault
abbrev pub status_of_tally : Tally → ℕ
status_of_tally tally =
    if nat_lt 0 tally.unwritten then 3 else if nat_lt 0 tally.differing then 4 else if nat_lt 0 tally.faulty then 1 else 0

-- of bytes that are not a case or an entry
abbrev pub status_of_case : CaseFault → ℕ
status_of_case case_fault.Memory = 3
status_of_case (case_fault.Line number start end wrong) = 1
status_of_case case_fault.TooLong = 1
status_of_case case_fault.NoEntry = 1

-- of bytes that were pasted in: 4 where the controller refuses the command
abbrev pub status_of_bytes : BytesFault → ℕ
status_of_bytes bytes.Refused = 4
status_of_bytes (bytes.Case why) = status_of_case why
status_of_bytes (bytes.Answered why) = status_of_case why
status_of_bytes bytes.UnknownKind = 2
status_of_bytes bytes.Unreadable = 1

-- THE EXIT STATUS of each fault
abbrev pub status_of : Fault → ℕ
status_of (fault.Arguments why) = 2
status_of (fault.Image why) = status_of_image why
status_of (fault.Run why) = status_of_run why
status_of fault.PipeClosed = 3
status_of fault.NotSaved = 3
status_of (fault.Transcripts tally) = status_of_tally tally
status_of (fault.Bytes why) = status_of_bytes why
status_of (fault.Load why) = status_of_load why
status_of (fault.Loaded tally) = 4
status_of fault.NoStats = 3
status_of fault.BadOptions = 1
status_of fault.Unwell = 4
