-- The lines of a script and the words of a line.
use Rattle.std.specs.{List.onto_first, Prelude.{ℕ, ◌==◌, ◌&&◌, ◌||◌, Bool, false, not, List, [], ◌∷◌, if◌then◌else◌}}

-- a line feed
abbrev pub is_feed : ℕ → Bool
is_feed b = b == 10

abbrev pub begins_with_feed : List ℕ → Bool
begins_with_feed [] = false
begins_with_feed (b ∷ bs) = is_feed b

-- a carriage return just before a line feed, which is dropped with it
abbrev pub is_dropped : ℕ → List ℕ → Bool
is_dropped b bs = b == 13 && begins_with_feed bs

-- the lines without their ends; the last one needs no line feed, and what follows the last line feed is a line only if it is not empty
abbrev pub lines : List ℕ → List (List ℕ)
lines [] = []
lines (b ∷ bs) = if is_feed b then [] ∷ lines bs else if is_dropped b bs then lines bs else onto_first b (lines bs)

-- what is before the first byte that passes a test, or all where none does
abbrev pub before : (ℕ → Bool) → List ℕ → List ℕ
before p [] = []
before p (b ∷ bs) = if p b then [] else b ∷ before p bs

-- the first byte that passes a test and what follows it, or nothing where none does
abbrev pub onward : (ℕ → Bool) → List ℕ → List ℕ
onward p [] = []
onward p (b ∷ bs) = if p b then b ∷ bs else onward p bs

-- a space or a tab
abbrev pub is_blank : ℕ → Bool
is_blank b = b == 32 || b == 9

abbrev pub begins_part : (ℕ → Bool) → List ℕ → Bool
begins_part separates [] = false
begins_part separates (b ∷ bs) = not (separates b)

-- the longest parts without separating bytes
abbrev pub parts_between : (ℕ → Bool) → List ℕ → List (List ℕ)
parts_between separates [] = []
parts_between separates (b ∷ bs) =
    if separates b then parts_between separates bs
    else if begins_part separates bs then onto_first b (parts_between separates bs)
    else (b ∷ []) ∷ parts_between separates bs

-- the words of a line
abbrev pub words : List ℕ → List (List ℕ)
words line = parts_between is_blank line

-- no blank
abbrev pub is_solid : ℕ → Bool
is_solid b = not (is_blank b)

-- the first line of a text that is not empty, and what follows its line feed
abbrev pub first_line : List ℕ → List ℕ
first_line [] = []
first_line (b ∷ bs) = if is_feed b then [] else if is_dropped b bs then [] else b ∷ first_line bs

abbrev pub after_line : List ℕ → List ℕ
after_line [] = []
after_line (b ∷ bs) = if is_feed b then bs else after_line bs

-- a line without the carriage return at its end
abbrev pub unreturned : List ℕ → List ℕ
unreturned [] = []
unreturned (b ∷ []) = if b == 13 then [] else b ∷ []
unreturned (b ∷ c ∷ bs) = b ∷ unreturned (c ∷ bs)
