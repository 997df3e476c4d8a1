-- Which status is success, the halfword of a completion that has its phase and its status, and the text of a status.
use Rattle.std.specs.{Fmt.{decimal, digit_glyph}, Int.from_bool, Prelude.{ℕ, ◌+◌, ◌*◌, ◌/◌, ◌%◌, ◌==◌, ◌&&◌, Bool, true, List, [], ◌∷◌, ◌++◌, codes}}
use Rattle.entry_codec.specs.declared.status.Status.{Status}

-- Successful Completion
abbrev pub is_success : Status → Bool
is_success status = (status.sct == 0) && (status.sc == 0)

-- phase bit 0, status code bits 8:1, status code type bits 11:9, and zero above
abbrev pub status_halfword : Status → Bool → ℕ
status_halfword status phase = status.sct * 512 + status.sc * 2 + from_bool phase

-- the type in decimal, a colon, and the code as two upper case hexadecimal digits
abbrev pub status_text : Status → List ℕ
status_text status = decimal status.sct ++ (codes ":" ++ digit_glyph true (status.sc / 16) ∷ digit_glyph true (status.sc % 16) ∷ [])
