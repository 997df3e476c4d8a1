-- The faults of a run, and the exit statuses of a program.
use Rattle.std.specs.Prelude.{ℕ}
use Rattle.machine_model.specs.declared.words.OpenRefusal.{OpenRefusal}
use Rattle.script_cli.specs.declared.{fault.{RunFault.RunFault, ScriptFault.ScriptFault}, input.ImageFault.ImageFault}
use Rattle.machine_model.specs.declared.words.OpenRefusal.TheVariants as opening
use Rattle.script_cli.specs.declared.fault.RunFault.TheVariants as run
use Rattle.script_cli.specs.declared.fault.ScriptFault.TheVariants as fault
use Rattle.script_cli.specs.declared.input.ImageFault.TheVariants as image_fault

abbrev pub fault_of_script : ScriptFault → RunFault
fault_of_script fault.TooLong = run.TooLong
fault_of_script (fault.Line number why) = run.Line number why
fault_of_script fault.Memory = run.Memory

abbrev pub fault_of_opening : OpenRefusal → RunFault
fault_of_opening opening.BadConfig = run.BadConfig
fault_of_opening (opening.NoPages need free) = run.NoPages need free
fault_of_opening opening.Memory = run.Memory

-- 1 where the script is at fault, 2 where the image or the opening is, 3 where something was missing meanwhile
abbrev pub status_of_run : RunFault → ℕ
status_of_run (run.Line number why) = 1
status_of_run run.TooLong = 1
status_of_run run.Unreadable = 1
status_of_run run.BadConfig = 2
status_of_run (run.NoPages need free) = 2
status_of_run run.NoThread = 3
status_of_run (run.Close why) = 3
status_of_run run.Memory = 3
status_of_run run.OutputFailed = 3

abbrev pub status_of_image : ImageFault → ℕ
status_of_image image_fault.Unreadable = 2
status_of_image image_fault.BadLength = 2
status_of_image image_fault.Memory = 3
