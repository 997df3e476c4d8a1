-- Numbers, and numbers with a unit.
use Rattle.std.specs.Prelude.{ℕ, ◌-◌, ◌*◌, ◌/◌, ◌%◌, ◌^◌, ◌==◌, ◌&&◌, ◌||◌, Option, Some, None, length, nat_le, nat_lt, option_and_then, option_map, slice_index, take, if◌then◌else◌}
use Rattle.std.specs.Str.Parse.{digits_value, without_leading_plus}
use Rattle.clap.specs.{ValueTests.is_numeral, Words.Text}

-- a number below 2^32 in decimal digits, which a plus may precede
abbrev pub number : Text → Option ℕ
number text =
    let digits = without_leading_plus text in
    if is_numeral digits && nat_lt (digits_value 10 digits) (2 ^ 32) then Some (digits_value 10 digits) else None

-- the last letter of a text; 0 of none
abbrev pub last_letter : Text → ℕ
last_letter text = slice_index text (length text - 1)

-- how many bytes a letter stands for: `b`, `k`, `m`, and these as capitals
abbrev pub bytes_of : ℕ → Option ℕ
bytes_of letter =
    if (letter == 98) || (letter == 66) then Some 1
    else if (letter == 107) || (letter == 75) then Some 1024
    else if (letter == 109) || (letter == 77) then Some 1048576
    else None

-- how many seconds: `s`, `m`, `h`
abbrev pub seconds_of : ℕ → Option ℕ
seconds_of letter =
    if letter == 115 then Some 1
    else if letter == 109 then Some 60
    else if letter == 104 then Some 3600
    else None

-- the number before the last letter, this many times
abbrev pub scaled : Text → ℕ → Option ℕ
scaled text unit = option_map (λ n. n * unit) (number (take (length text - 1) text))

-- bytes are whole blocks
abbrev pub whole_blocks : ℕ → Option ℕ
whole_blocks bytes = if bytes % 512 == 0 then Some (bytes / 512) else None

-- blocks, by the unit of a text: without one they are blocks, else bytes
abbrev pub blocks_by : Option ℕ → Text → Option ℕ
blocks_by None text = number text
blocks_by (Some unit) text = option_and_then whole_blocks (scaled text unit)

-- seconds, by the unit of a text
abbrev pub seconds_by : Option ℕ → Text → Option ℕ
seconds_by None text = number text
seconds_by (Some unit) text = scaled text unit

abbrev pub if_within : ℕ → ℕ → ℕ → Option ℕ
if_within least most n = if nat_le least n && nat_le n most then Some n else None

-- 1 block to this many
abbrev pub size_within : ℕ → Text → Option ℕ
size_within most text = option_and_then (if_within 1 most) (blocks_by (bytes_of (last_letter text)) text)

-- this many seconds at least
abbrev pub seconds_within : ℕ → Text → Option ℕ
seconds_within least text = option_and_then (if_within least (2 ^ 32 - 1)) (seconds_by (seconds_of (last_letter text)) text)
