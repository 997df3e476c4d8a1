-- Which fault of a run is which of its threads, and of the close of their book.
use Rattle.driver_book.specs.declared.report.CloseFault.{CloseFault}
use Rattle.script_cli.specs.{Faults.fault_of_opening, declared.fault.{NotClosed.TheVariants.{Missing, SeatOut, StillOut, GateClosed}, RunFault.RunFault}}
use Rattle.driver_book.specs.declared.report.CloseFault.TheVariants as closing
use Rattle.driver_threads.specs.declared.jobs.RunFault as threads_fault
use Rattle.driver_threads.specs.declared.jobs.RunFault.TheVariants as threads
use Rattle.script_cli.specs.declared.fault.RunFault.TheVariants as run

abbrev pub fault_of_closing : CloseFault → RunFault
fault_of_closing (closing.Missing seat number) = run.Close Missing
fault_of_closing closing.SeatOut = run.Close SeatOut
fault_of_closing closing.StillOut = run.Close StillOut
fault_of_closing closing.Memory = run.Memory

abbrev pub fault_of_threads : threads_fault.RunFault → RunFault
fault_of_threads (threads.Open why) = fault_of_opening why
fault_of_threads threads.NoThread = run.NoThread
fault_of_threads (threads.GateClosed worker) = run.Close GateClosed
fault_of_threads (threads.Close why) = fault_of_closing why
fault_of_threads threads.Memory = run.Memory
