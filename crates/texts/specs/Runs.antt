-- Which bytes a typed word is: runs with commas between them. A run is hexadecimal digits, two for each byte, and, after a star, how often
-- these bytes occur.
use Rattle.std.specs.{List.slice_split, Option.option_map}
use Rattle.std.specs.Prelude.{◌≡◌, ◌≤◌, ◌<◌, ◌+◌, ◌*◌, ◌/◌, ◌^◌, ◌==◌, ◌++◌, ℕ, zero, suc, Bool, Option, Some, None, Result, Ok, Err, List, [], ◌∷◌, length, take, drop, position, option_and_then}
use Rattle.script_cli.specs.Grammar.{Words, ◌>>=◌, hex_word, number_word, words_of}
use Rattle.script_cli.specs.declared.fault.{LineError.LineError, LineFault.LineFault}
use Rattle.script_cli.specs.declared.fault.LineError.TheVariants as line_error
use Rattle.texts.specs.declared.byte_runs.RunsFault.{RunsFault, TheVariants.{NoRuns, TooMany, Memory}}

-- Runs

abbrev pub is_comma : ℕ → Bool
is_comma b = b == 44

abbrev pub is_star : ℕ → Bool
is_star b = b == 42

abbrev pub value_of : {A : Type 0} → Result (A × Words) LineFault → Option A
value_of (Ok read) = Some read.0
value_of (Err fault) = None

-- the bytes of hexadecimal digits, which are read as the first word of a script's line is
abbrev pub digit_bytes : List ℕ → Option (List ℕ)
digit_bytes digits = value_of (words_of digits >>= hex_word)

-- the number of decimal digits, which are read the same way
abbrev pub times_said : List ℕ → Option ℕ
times_said digits = value_of (words_of digits >>= number_word (2 ^ 32))

-- bytes, this often
unfoldable pub repeated : List ℕ → ℕ → List ℕ
repeated bytes zero = []
repeated bytes (suc n) = bytes ++ repeated bytes n

-- where the first star of a run is
unfoldable pub star_of : List ℕ → Option ℕ
star_of run = position is_star run

-- the digits of a run, by where its star is, if it has one, and how often their bytes occur
abbrev pub parts_by : List ℕ → Option ℕ → Option (List ℕ × ℕ)
parts_by run None = Some (run, 1)
parts_by run (Some star) = option_map (λ times. (take star run, times)) (times_said (drop (star + 1) run))

abbrev pub run_parts : List ℕ → Option (List ℕ × ℕ)
run_parts run = parts_by run (star_of run)

-- the bytes of a run
abbrev pub run_bytes : List ℕ → Option (List ℕ)
run_bytes run = option_and_then (λ parts. option_map (λ bytes. repeated bytes parts.1) (digit_bytes parts.0)) (run_parts run)

-- Words

abbrev pub runs_of : List ℕ → List (List ℕ)
runs_of word = slice_split is_comma word

-- the bytes of runs, in order; none where one of them is no run
abbrev pub bytes_of_runs : List (List ℕ) → Option (List ℕ)
bytes_of_runs [] = Some []
bytes_of_runs (run ∷ rest) = option_and_then (λ bytes. option_map (λ more. bytes ++ more) (bytes_of_runs rest)) (run_bytes run)

-- THE BYTES of a word
abbrev pub bytes_of_word : List ℕ → Option (List ℕ)
bytes_of_word word = bytes_of_runs (runs_of word)

abbrev pub then_front : List ℕ → Option (List ℕ) → List ℕ
then_front more None = []
then_front more (Some bytes) = bytes ++ more

-- the bytes of the runs before the first that is none
abbrev pub front_of_runs : List (List ℕ) → List ℕ
front_of_runs [] = []
front_of_runs (run ∷ rest) = then_front (front_of_runs rest) (run_bytes run)

abbrev pub front_of_word : List ℕ → List ℕ
front_of_word word = front_of_runs (runs_of word)

-- Counts

-- how many bytes the digits of a run are, as often as they occur
unfoldable pub run_len : List ℕ → Option ℕ
run_len run = option_map (λ parts. length parts.0 / 2 * parts.1) (run_parts run)

-- how many bytes runs are, added up; none where one of them does not say how often its bytes occur
abbrev pub len_of_runs : List (List ℕ) → Option ℕ
len_of_runs [] = Some 0
len_of_runs (run ∷ rest) = option_and_then (λ len. option_map (λ more. len + more) (len_of_runs rest)) (run_len run)

-- HOW MANY BYTES a word is
abbrev pub len_of_word : List ℕ → Option ℕ
len_of_word word = len_of_runs (runs_of word)

-- no number is told: there is none, or it has more than 64 bits
abbrev pub IsUncounted : Option ℕ → Type 0
IsUncounted None = Unit {0}
IsUncounted (Some len) = 2 ^ 64 ≤ len

-- Refusals

-- WHY A WORD is not bytes, of this many at most: the runs before the first that is none have too many, or there is such a one, and they have not
abbrev pub IsNoWord : List ℕ → ℕ → RunsFault → Type 0
IsNoWord word most NoRuns = (bytes_of_word word ≡ None) × (length (front_of_word word) ≤ most)
IsNoWord word most TooMany = most < length (front_of_word word)
IsNoWord word most Memory = Unit {0}

-- why a run is not put after this many bytes, of this many at most
abbrev pub IsNotPut : Option (List ℕ) → ℕ → ℕ → RunsFault → Type 0
IsNotPut bytes len most NoRuns = bytes ≡ None
IsNotPut bytes len most TooMany = (more : List ℕ) × (bytes ≡ Some more) × (most < len + length more)
IsNotPut bytes len most Memory = Unit {0}

-- digits are none, or memory was refused
abbrev pub AreNone : {A : Type 0} → Option A → RunsFault → Type 0
AreNone meant NoRuns = meant ≡ None
AreNone meant TooMany = ⊥
AreNone meant Memory = Unit {0}

abbrev pub fault_of_line : LineError → RunsFault
fault_of_line (line_error.Fault fault) = NoRuns
fault_of_line line_error.Memory = Memory
