-- Reports, as contracts see them: with lists, wherever their receipts are.
use Rattle.std.specs.Prelude.{List}
use Rattle.driver_book.specs.declared.report.Receipt.{Receipt}
use Rattle.driver_book.specs.declared.report.Report as declared_report

abbrev pub Report : Type 0
Report = declared_report.Report (List (List Receipt))
