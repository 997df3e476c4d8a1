-- Bytes and numbers as words.
use Rattle.std.specs.{Fmt.{digit_glyph, digits}, Prelude.{ℕ, ◌/◌, ◌%◌, true, List, [], ◌∷◌, ◌++◌, codes}}

-- a byte as two hexadecimal digits
abbrev pub hex_byte_text : ℕ → List ℕ
hex_byte_text b = digit_glyph true (b / 16) ∷ digit_glyph true (b % 16) ∷ []

-- bytes as two hexadecimal digits each
abbrev pub hex_text : List ℕ → List ℕ
hex_text [] = []
hex_text (b ∷ bs) = hex_byte_text b ++ hex_text bs

-- a number as hexadecimal digits, after `0x`
abbrev pub hex_number_text : ℕ → List ℕ
hex_number_text n = codes "0x" ++ digits 16 true n
