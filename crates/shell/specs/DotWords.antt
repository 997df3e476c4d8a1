-- The words with a dot: their names, and the forms of their lines.
use Rattle.std.specs.Prelude.{ℕ, List, [], ◌++◌, codes}
use Rattle.shell.specs.declared.dot_word.DotWord.{DotWord, TheVariants.{Help, Explain, Owners, Counts, Rings, Page, Trace, Serve, Read, Write, Save, Dump, Output, Open, Print, Quit}}

unfoldable pub name_of_word : DotWord → List ℕ
name_of_word Help = codes ".help"
name_of_word Explain = codes ".explain"
name_of_word Owners = codes ".owners"
name_of_word Counts = codes ".counts"
name_of_word Rings = codes ".rings"
name_of_word Page = codes ".page"
name_of_word Trace = codes ".trace"
name_of_word Serve = codes ".serve"
name_of_word Read = codes ".read"
name_of_word Write = codes ".write"
name_of_word Save = codes ".save"
name_of_word Dump = codes ".dump"
name_of_word Output = codes ".output"
name_of_word Open = codes ".open"
name_of_word Print = codes ".print"
name_of_word Quit = codes ".quit"

-- what follows the name in the form of a line: nothing, or a blank and the arguments
abbrev pub arguments_of_word : DotWord → List ℕ
arguments_of_word Help = codes " [VERB]"
arguments_of_word Explain = codes " NAME"
arguments_of_word Owners = []
arguments_of_word Counts = []
arguments_of_word Rings = codes " [Q]"
arguments_of_word Page = codes " P"
arguments_of_word Trace = codes " on|off"
arguments_of_word Serve = codes " [Q]"
arguments_of_word Read = codes " Q SLBA BLOCKS | FILE"
arguments_of_word Write = codes " Q SLBA BLOCKS BYTES"
arguments_of_word Save = codes " FILE"
arguments_of_word Dump = codes " [FILE]"
arguments_of_word Output = codes " [FILE]"
arguments_of_word Open = codes " [OPTION=N ..] [image=FILE]"
arguments_of_word Print = codes " TEXT"
arguments_of_word Quit = []

abbrev pub form_of_word : DotWord → List ℕ
form_of_word word = name_of_word word ++ arguments_of_word word
