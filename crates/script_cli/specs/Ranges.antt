-- The numbers that a world is opened with, and the ranges that they may lie in.
use Rattle.std.specs.Prelude.{ℕ, nat_le, ◌&&◌, Bool, List, [], ◌∷◌, ◌++◌, codes, if◌then◌else◌}
use Rattle.std.specs.Fmt.{decimal}
use Rattle.script_cli.specs.declared.transcripts.{options.Options.Options, ranges.Ranged.Ranged}

-- the name of an option, its number, and the least and the most that it may be
pub record Range : Type 0 where
  pub name : List ℕ
  pub value : ℕ
  pub least : ℕ
  pub most : ℕ

abbrev pub ranged_text : Ranged → Range
ranged_text ranged = record { name = ranged.name.now; value = ranged.value; least = ranged.least; most = ranged.most }

abbrev pub is_in_range : Range → Bool
is_in_range range = nat_le range.least range.value && nat_le range.value range.most

abbrev pub range : List ℕ → ℕ → ℕ → ℕ → Range
range name value least most = record { name = name; value = value; least = least; most = most }

abbrev pub sizes_of : Options → List Range
sizes_of options =
    range (codes "pages") options.config.pages 8 65536 ∷ range (codes "queues") options.config.queues 1 64
    ∷ range (codes "entries") options.config.entries 2 1024 ∷ range (codes "segment") options.config.segment 2 256 ∷ []

abbrev pub zero_blocks_of : Options → Range
zero_blocks_of options = range (codes "blocks") options.blocks 1 65536

-- what is told of a number
abbrev pub range_line : Range → List ℕ
range_line range =
    codes "--" ++ (range.name ++ (codes " is " ++ (decimal range.value ++ (codes ", and may be " ++ (decimal range.least ++ (codes " to " ++ decimal range.most))))))

-- nothing of a number in its range
abbrev pub line_out_of_range : Range → List ℕ
line_out_of_range range = if is_in_range range then [] else range_line range ++ (10 ∷ [])

abbrev pub lines_out_of_range : List Range → List ℕ
lines_out_of_range [] = []
lines_out_of_range (range ∷ rest) = line_out_of_range range ++ lines_out_of_range rest
