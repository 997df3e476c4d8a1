-- A reader that keeps why a read failed.
use Rattle.std.specs.Prelude.{Option, ℤ}
use Rattle.texts.specs.declared.noted.Noted.{Noted}

-- the reader that it is over
abbrev pub reader_of : {R : Type 0} → Noted R → R
reader_of noted = noted.reader

-- the number that it keeps
abbrev pub number_of : {R : Type 0} → Noted R → Option ℤ
number_of noted = noted.code
