-- A line as it is shown, and carets below some of its bytes.
use Rattle.std.specs.Prelude.{◌+◌, ◌-◌, ◌==◌, ◌&&◌, ◌++◌, ℕ, Bool, List, [], ◌∷◌, codes, drop, if◌then◌else◌, length, map, max, min, nat_le, nat_lt, replicate, take}

-- a byte as it is shown: a blank for a tab, and a question mark for what is not printed
abbrev pub shown : ℕ → ℕ
shown b =
    if nat_le 32 b && nat_le b 126 then b
    else if b == 9 then 32
    else 63

-- the byte at which a shown line starts: one of more than 76 bytes starts 30 bytes before a position, if that many precede it
abbrev pub shown_from : List ℕ → ℕ → ℕ
shown_from line start = if nat_lt 76 (length line) then start - 30 else 0

-- dots where something is left out
abbrev pub dots_if : Bool → List ℕ
dots_if cut = if cut then codes ".." else []

-- what is shown of a line starting at a byte: 76 bytes at most
unfoldable pub cut_text : List ℕ → ℕ → List ℕ
cut_text line from = dots_if (nat_lt 0 from) ++ (map shown (take 76 (drop from line)) ++ dots_if (nat_lt (from + 76) (length line)))

-- how many blanks come before the carets: one for each byte that is shown there, and for each dot
abbrev pub blanks : ℕ → ℕ → ℕ
blanks from start = (start - from) + length (dots_if (nat_lt 0 from))

-- how many carets: one for each byte up to the end of what is shown, and one at least
abbrev pub carets : ℕ → ℕ → ℕ → ℕ
carets from start end = max (min (end - start) (76 + from - start)) 1

-- blanks and carets, a line
unfoldable pub carets_text : ℕ → ℕ → ℕ → List ℕ
carets_text from start end = codes "  " ++ (replicate (blanks from start) 32 ++ (replicate (carets from start end) 94 ++ (10 ∷ [])))

-- two lines: what is shown of a line, and carets below it, from one of its bytes to another
abbrev pub lines_from : ℕ → List ℕ → ℕ → ℕ → List ℕ
lines_from from line start end = codes "  " ++ (cut_text line from ++ ((10 ∷ []) ++ carets_text from start end))

-- THE TEXT of a line with carets
abbrev pub line_text : List ℕ → ℕ → ℕ → List ℕ
line_text line start end = lines_from (shown_from line start) line start end
