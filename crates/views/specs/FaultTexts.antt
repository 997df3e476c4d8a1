-- What more is told of a fault of a case.
use Rattle.std.specs.Prelude.{◌≡◌, ◌-◌, ◌++◌, ℕ, IsSome, List, [], ◌∷◌, Option, Some, None, codes, slice_get, unwrap_or}
use Rattle.script_cli.specs.Lines.{lines}
use Rattle.texts.specs.Layout.{line_text}
use Rattle.views.specs.declared.explain.fault.CaseFault.{CaseFault, TheVariants.{Line, Memory, NoEntry, TooLong}}

-- the sentence of a fault that has no line
abbrev pub unplaced_sentence : CaseFault → Option (List ℕ)
unplaced_sentence (Line number start end wrong) = None
unplaced_sentence TooLong = Some (codes "it has 1048576 bytes and 65536 lines at most.")
unplaced_sentence NoEntry = Some (codes "a line has the entry: `sqe`, and its 64 bytes.")
unplaced_sentence Memory = None

-- a fault of a line has a sentence, whatever that says
abbrev pub IsSentence : CaseFault → Option (List ℕ) → Type 0
IsSentence (Line number start end wrong) said = IsSome said
IsSentence TooLong said = said ≡ unplaced_sentence TooLong
IsSentence NoEntry said = said ≡ unplaced_sentence NoEntry
IsSentence Memory said = said ≡ unplaced_sentence Memory

-- where it is: the line of this number, or an empty one where a text has fewer, with carets
abbrev pub place_text : List ℕ → CaseFault → List ℕ
place_text text (Line number start end wrong) = line_text (unwrap_or (slice_get (lines text) (number - 1)) []) start end
place_text text TooLong = []
place_text text NoEntry = []
place_text text Memory = []

abbrev pub sentence_line : Option (List ℕ) → List ℕ
sentence_line None = []
sentence_line (Some said) = said ++ (10 ∷ [])

-- WHAT IS TOLD: where it is, and then a sentence
abbrev pub IsTold : List ℕ → CaseFault → List ℕ → Type 0
IsTold text fault told = (said : Option (List ℕ)) × IsSentence fault said × (told ≡ place_text text fault ++ sentence_line said)
