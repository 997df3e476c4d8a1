-- What a host asks for, as contracts see it: it says nothing of where the list of the pieces was made.
use Rattle.std.specs.Prelude.{List}
use Rattle.io_commands.specs.declared.request.Piece.{Piece}
use Rattle.io_commands.specs.declared.request.RequestOf as declared

abbrev pub Request : Type 0
Request = declared.RequestOf (List Piece)
