-- What is wrong with lines, as an object of JSON.
use Rattle.std.specs.Prelude.{◌≡◌, ◌+◌, ◌^◌, ◌-◌, ◌++◌, ℕ, List, codes, min}
use Rattle.serde_json.specs.Data.{Data, number, unsigned, string, object, Members, member}
use Rattle.texts.specs.Objects.{line_of, lone}
use Rattle.views.specs.declared.explain.fault.{CaseFault.{CaseFault, TheVariants.{Line, TooLong, NoEntry, Memory}}, Wrong.Wrong}
use Rattle.views.specs.declared.explain.fault.Wrong.TheVariants as wrong

-- the name of what is wrong with a line
abbrev pub wrong_name : Wrong → List ℕ
wrong_name wrong.NoText = codes "BadLine"
wrong_name wrong.NoKey = codes "UnknownWord"
wrong_name (wrong.NoNumber least most) = codes "BadNumber"
wrong_name (wrong.NoSize least most) = codes "BadNumber"
wrong_name wrong.NoBlockSize = codes "BadNumber"
wrong_name (wrong.NoAddress first last) = codes "BadAddress"
wrong_name wrong.NoMultiple = codes "BadAddress"
wrong_name wrong.NoHex = codes "BadHex"
wrong_name wrong.NoStatus = codes "BadStatus"
wrong_name (wrong.NoOffset offset) = codes "BadOffset"
wrong_name wrong.NoEnd = codes "BadOffset"
wrong_name (wrong.NoFile code) = codes "BadFile"
wrong_name (wrong.NoDump line) = codes "BadFile"
wrong_name (wrong.TooManyBytes most found) = codes "BadLength"
wrong_name (wrong.NotSoMany found wanted) = codes "BadLength"
wrong_name wrong.Extra = codes "ExtraWord"
wrong_name wrong.Late = codes "LateSize"
wrong_name wrong.IsOut = codes "PageOut"
wrong_name (wrong.Given line) = codes "SecondBytes"
wrong_name wrong.Twice = codes "SecondEntry"
wrong_name wrong.SecondNamespace = codes "SecondNamespace"

-- columns count from 1
abbrev pub column_of : ℕ → ℕ
column_of start = min (start + 1) (2 ^ 64 - 1)

-- a fault by name, with its line and column where it has these
abbrev pub fault_members : CaseFault → List ℕ → Members
fault_members (Line line start end wrong) sentence =
    member (codes "fault") (string (wrong_name wrong)) (member (codes "line") (number (unsigned line))
    (member (codes "column") (number (unsigned (column_of start))) (lone (codes "sentence") (string sentence))))
fault_members TooLong sentence = member (codes "fault") (string (codes "TooLong")) (lone (codes "sentence") (string sentence))
fault_members NoEntry sentence = member (codes "fault") (string (codes "NoEntry")) (lone (codes "sentence") (string sentence))
fault_members Memory sentence = lone (codes "fault") (string (codes "Memory"))

abbrev pub fault_object : CaseFault → List ℕ → Data
fault_object fault sentence = object (fault_members fault sentence)

-- The line of a fault is appended to a text. Its sentence is for people: no clause spells it.
pub record PutsFault (fault : CaseFault) (before after : List ℕ) : Type 0 where
  pub sentence : List ℕ
  pub put : after ≡ before ++ line_of (fault_object fault sentence)
