-- The exit statuses of a load.
use Rattle.std.specs.Prelude.{ℕ}
use Rattle.load.specs.declared.fault.LoadFault.{LoadFault}
use Rattle.load.specs.declared.fault.LoadFault.TheVariants as load_fault
use Rattle.script_cli.specs.Faults.{status_of_run}

-- of each fault of a load
abbrev pub status_of_load : LoadFault → ℕ
status_of_load (load_fault.TooFewBlocks need blocks) = 2
status_of_load (load_fault.Run why) = status_of_run why
status_of_load (load_fault.Round why) = 3
