-- What an outstanding command is for, as contracts see it.
use Rattle.io_commands.specs.Asked.{Request}
use Rattle.machine_model.specs.declared.words.Work as declared

abbrev pub Work : Type 0
Work = declared.Work Request
