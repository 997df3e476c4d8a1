-- What a line of a script is, or its first fault. A required word is taken from the words that are left; what a definition of such
-- a word gives is the word's value, and the words after it.
use Rattle.std.specs.{List.list_any, Str.bytes_eq}
use Rattle.std.specs.Prelude.{ℕ, ◌≡◌, ◌^◌, ◌==◌, ◌||◌, nat_lt, nat_le, codes, Bool, true, false, Option, Some, None, Result, Ok, Err, List, [], ◌∷◌, ◌++◌, length, if◌then◌else◌}
use Rattle.io_commands.specs.{Asked.Request, declared.request.{Kind.Kind, Piece.Piece, TheConstants.Flags.NONE}}
use Rattle.io_commands.specs.{BlockSizes.size_of, declared.block_size.BlockSize.{BlockSize, TheVariants.{Bytes512}}}
use Rattle.script_cli.specs.{Lines.words, Numbers.{number, hex, sixteen_bytes, kind}, Pieces.piece, Verbs.{verb_named, queue_step, command_step}}
use Rattle.script_cli.specs.declared.fault.{LineError.LineError, LineFault.LineFault}
use Rattle.script_cli.specs.declared.fault.LineFault.TheVariants.{LongLine, NotAscii, UnknownVerb, MissingWord, BadKind, BadNumber, BadHex, BadPiece, ExtraWord}
use Rattle.script_cli.specs.declared.{script.Line.Line, verb.{CommandVerb.CommandVerb, QueueVerb.QueueVerb, Verb.Verb}}
use Rattle.script_cli.specs.declared.verb.Verb.TheVariants.{Reserve, Fill, CreateCq, Forge, Reset, Owners, OnQueue, OnCommand}
use Rattle.script_cli.specs.declared.fault.LineError.TheVariants as error
use Rattle.script_cli.specs.declared.script.Line.TheVariants as line
use Rattle.step_core.specs.declared.step.Step.TheVariants as step

abbrev pub Words : Type 0
Words = List (List ℕ)

-- what follows a word that was taken, or its fault
infixl 10 ◌>>=◌
abbrev pub ◌>>=◌ : {A B : Type 0} → Result A LineFault → (A → Result B LineFault) → Result B LineFault
Ok a >>= next = next a
Err fault >>= next = Err fault

-- a value, or the fault where there is none
abbrev pub value_or : {A : Type 0} → LineFault → Words → Option A → Result (A × Words) LineFault
value_or fault rest None = Err fault
value_or fault rest (Some value) = Ok (value, rest)

abbrev pub wanted : {A : Type 0} → LineFault → (List ℕ → Option A) → Words → Result (A × Words) LineFault
wanted fault value [] = Err MissingWord
wanted fault value (word ∷ rest) = value_or fault rest (value word)

unfoldable pub number_word : ℕ → Words → Result (ℕ × Words) LineFault
number_word limit ws = wanted BadNumber (number limit) ws

unfoldable pub kind_word : Words → Result (Kind × Words) LineFault
kind_word ws = wanted BadKind kind ws

unfoldable pub hex_word : Words → Result (List ℕ × Words) LineFault
hex_word ws = wanted BadHex hex ws

unfoldable pub sixteen_bytes_word : Words → Result (List ℕ × Words) LineFault
sixteen_bytes_word ws = wanted BadHex sixteen_bytes ws

-- what is read, where no word is left
unfoldable pub nothing_more : {A : Type 0} → Words → A → Result A LineFault
nothing_more [] what = Ok what
nothing_more (word ∷ rest) what = Err ExtraWord

-- a namespace is no 0
abbrev pub namespace_word : Words → Result (ℕ × Words) LineFault
namespace_word ws = do
  n ← number_word (2 ^ 32) ws
  if n.0 == 0 then Err BadNumber else Ok n

-- whether the next word is this one, and the words after it
abbrev pub named_word : List ℕ → Words → Result (Bool × Words) LineFault
named_word name [] = Ok (false, [])
named_word name (word ∷ rest) = if bytes_eq word name then Ok (true, rest) else Ok (false, word ∷ rest)

-- the namespace that is named, or else 1
abbrev pub nsid_words : Words → Result (ℕ × Words) LineFault
nsid_words ws = do
  named ← named_word (codes "nsid") ws
  if named.0 then namespace_word named.1 else Ok (1, named.1)

-- a block size of this many bytes
abbrev pub size_word : Words → Result (BlockSize × Words) LineFault
size_word ws = do
  n ← number_word (2 ^ 64) ws
  value_or BadNumber n.1 (size_of n.0)

-- the block size that is named, or else 512 bytes
abbrev pub size_words : Words → Result (BlockSize × Words) LineFault
size_words ws = do
  named ← named_word (codes "block_size") ws
  if named.0 then size_word named.1 else Ok (Bytes512, named.1)

-- the vector that is named, or else none
abbrev pub vector_word : Words → Result (Option ℕ × Words) LineFault
vector_word ws = do
  n ← number_word (2 ^ 16) ws
  Ok (Some n.0, n.1)

abbrev pub vector_words : Words → Result (Option ℕ × Words) LineFault
vector_words ws = do
  named ← named_word (codes "vector") ws
  if named.0 then vector_word named.1 else Ok (None, named.1)

-- a word that comes after the pieces
abbrev pub begins_option : List ℕ → Bool
begins_option word = bytes_eq word (codes "nsid") || bytes_eq word (codes "block_size") || bytes_eq word (codes "fua") || bytes_eq word (codes "lr")

abbrev pub ends_pieces : Words → Bool
ends_pieces [] = true
ends_pieces (word ∷ rest) = begins_option word

abbrev pub with_piece : List Piece → (List Piece → Result (List Piece × Words) LineFault) → Option Piece → Result (List Piece × Words) LineFault
with_piece so_far rest None = Err BadPiece
with_piece so_far rest (Some p) = rest (so_far ++ (p ∷ []))

-- the pieces that words go on to, from the pieces so far, and the words after the pieces
unfoldable pub pieces_from : List Piece → Words → Result (List Piece × Words) LineFault
pieces_from so_far [] = Ok (so_far, [])
pieces_from so_far (word ∷ rest) =
    if begins_option word then Ok (so_far, word ∷ rest) else with_piece so_far (λ pieces. pieces_from pieces rest) (piece word)

-- a request of namespace 1 with blocks of 512 bytes, without flags
abbrev pub request_of : Kind → ℕ → ℕ → List Piece → Request
request_of kind slba blocks pieces = record { kind = kind; nsid = 1; flags = NONE; slba = slba; block_size = Bytes512; blocks = blocks; pieces = pieces }

abbrev pub with_options : Request → ℕ → BlockSize → Bool → Bool → Request
with_options request nsid size fua lr = record request { nsid = nsid; block_size = size; flags = record { force_unit_access = fua; limited_retry = lr } }

-- a request, by the words that follow its number of blocks: its pieces, and then perhaps its namespace, its block size and its flags
abbrev pub request_words : Kind → ℕ → ℕ → Words → Result Request LineFault
request_words kind slba blocks ws = do
  pieces ← pieces_from [] ws
  nsid ← nsid_words pieces.1
  size ← size_words nsid.1
  fua ← named_word (codes "fua") size.1
  lr ← named_word (codes "lr") fua.1
  nothing_more lr.1 (with_options (request_of kind slba blocks pieces.0) nsid.0 size.0 fua.0 lr.0)

abbrev pub reserve_line : Words → Result Line LineFault
reserve_line ws = do
  q ← number_word (2 ^ 16) ws
  kind ← kind_word q.1
  slba ← number_word (2 ^ 64) kind.1
  blocks ← number_word (2 ^ 32) slba.1
  request ← request_words kind.0 slba.0 blocks.0 blocks.1
  Ok (line.Step (step.Reserve q.0 request))

abbrev pub fill_line : Words → Result Line LineFault
fill_line ws = do
  q ← number_word (2 ^ 16) ws
  cid ← number_word (2 ^ 16) q.1
  bytes ← hex_word cid.1
  nothing_more bytes.1 (line.Step (step.Fill q.0 cid.0 bytes.0))

abbrev pub create_cq_line : Words → Result Line LineFault
create_cq_line ws = do
  q ← number_word (2 ^ 16) ws
  vector ← vector_words q.1
  nothing_more vector.1 (line.Step (step.CreateCq q.0 vector.0))

abbrev pub forge_line : Words → Result Line LineFault
forge_line ws = do
  q ← number_word (2 ^ 16) ws
  slot ← number_word (2 ^ 16) q.1
  bytes ← sixteen_bytes_word slot.1
  nothing_more bytes.1 (line.Step (step.Forge q.0 slot.0 bytes.0))

abbrev pub queue_line : QueueVerb → Words → Result Line LineFault
queue_line verb ws = do
  q ← number_word (2 ^ 16) ws
  nothing_more q.1 (line.Step (queue_step verb q.0))

abbrev pub command_line : CommandVerb → Words → Result Line LineFault
command_line verb ws = do
  q ← number_word (2 ^ 16) ws
  cid ← number_word (2 ^ 16) q.1
  nothing_more cid.1 (line.Step (command_step verb q.0 cid.0))

-- the line of a verb, by the words after it
abbrev pub verb_line : Words → Verb → Result Line LineFault
verb_line ws Reserve = reserve_line ws
verb_line ws Fill = fill_line ws
verb_line ws CreateCq = create_cq_line ws
verb_line ws Forge = forge_line ws
verb_line ws Reset = nothing_more ws (line.Step step.Reset)
verb_line ws Owners = nothing_more ws line.Owners
verb_line ws (OnQueue verb) = queue_line verb ws
verb_line ws (OnCommand verb) = command_line verb ws

abbrev pub begins_with_hash : List ℕ → Bool
begins_with_hash [] = false
begins_with_hash (b ∷ bs) = b == 35

-- a line that begins with this word does nothing: a comment, or an answer, as in a transcript
abbrev pub begins_comment : List ℕ → Bool
begins_comment word = begins_with_hash word || bytes_eq word (codes ">")

abbrev pub known_verb_line : Words → Option Verb → Result Line LineFault
known_verb_line ws None = Err UnknownVerb
known_verb_line ws (Some verb) = verb_line ws verb

abbrev pub line_of_words : Words → Result Line LineFault
line_of_words [] = Ok line.Nothing
line_of_words (first ∷ rest) = if begins_comment first then Ok line.Nothing else known_verb_line rest (verb_named first)

-- a byte that is not ASCII
abbrev pub is_high : ℕ → Bool
is_high b = nat_le 128 b

-- the words of a line, where it is neither too long nor has a byte that is not ASCII
abbrev pub words_of : List ℕ → Result Words LineFault
words_of bytes =
    if nat_lt 16384 (length bytes) then Err LongLine
    else if list_any is_high bytes then Err NotAscii
    else Ok (words bytes)

abbrev pub line_of : List ℕ → Result Line LineFault
line_of bytes = words_of bytes >>= line_of_words

-- why there is no such value: the fault that is found, or that memory was refused
abbrev pub IsErrorOf : {A : Type 0} → Result A LineFault → LineError → Type 0
IsErrorOf meant (error.Fault fault) = meant ≡ Err fault
IsErrorOf meant error.Memory = Unit {0}

-- what is read: just what is meant, or that memory was refused
abbrev pub IsReadFrom : {A : Type 0} → Result A LineFault → Result A LineError → Type 0
IsReadFrom meant (Ok value) = meant ≡ Ok value
IsReadFrom meant (Err error) = IsErrorOf meant error
