-- The options that the first line of a script says.
use Rattle.std.specs.{Prelude.{ℕ, ◌==◌, ◌≤◌, ◌&&◌, Bool, false, true, nat_le, Option, Some, None, List, [], ◌∷◌, ◌++◌, codes, drop, length, option_and_then, option_map, take, unwrap_or, if◌then◌else◌}, Fmt.decimal, Str.bytes_eq}
use Rattle.script_cli.specs.{Lines.{before, first_line, onward, words}, Pieces.number32}
use Rattle.script_cli.specs.declared.transcripts.options.{Options.Options, SaidOptions.SaidOptions, ScriptKind.{ScriptKind, TheVariants.{Jobs, Steps}}}

-- a text begins with another
abbrev pub begins_with : List ℕ → List ℕ → Bool
begins_with front text = bytes_eq (take (length front) text) front

abbrev pub is_equals : ℕ → Bool
is_equals b = b == 61

-- a word without the two hyphens that it begins with
abbrev pub unhyphened : List ℕ → List ℕ
unhyphened word = if begins_with (codes "--") word then drop 2 word else word

abbrev pub nothing_said : SaidOptions
nothing_said = record { pages = None; queues = None; entries = None; segment = None; blocks = None; submitters = None }

-- a number that is said, where none was said before
abbrev pub once : Option ℕ → Option ℕ → Option (Option ℕ)
once None (Some number) = Some (Some number)
once None None = None
once (Some before) number = None

-- an allowed number of submitters
abbrev pub few : Option ℕ → Option ℕ
few None = None
few (Some number) = if nat_le 1 number && nat_le number 16 then Some number else None

-- a number of submitters, if there is one, is an allowed one
abbrev pub AreFew : Option ℕ → Type 0
AreFew None = Unit {0}
AreFew (Some number) = (1 ≤ number) × (number ≤ 16)

-- a script of jobs says its submitters too
abbrev pub has_submitters : ScriptKind → Bool
has_submitters Steps = false
has_submitters Jobs = true

-- one more option: its name, and its number if that is one
abbrev pub with_option : ScriptKind → SaidOptions → List ℕ → Option ℕ → Option SaidOptions
with_option kind said name number =
    if bytes_eq name (codes "pages") then option_map (λ n. record said { pages = n }) (once said.pages number)
    else if bytes_eq name (codes "queues") then option_map (λ n. record said { queues = n }) (once said.queues number)
    else if bytes_eq name (codes "entries") then option_map (λ n. record said { entries = n }) (once said.entries number)
    else if bytes_eq name (codes "segment") then option_map (λ n. record said { segment = n }) (once said.segment number)
    else if bytes_eq name (codes "blocks") then option_map (λ n. record said { blocks = n }) (once said.blocks number)
    else if has_submitters kind && bytes_eq name (codes "submitters") then option_map (λ n. record said { submitters = n }) (once said.submitters (few number))
    else None

-- a word that begins an option: its number comes after the equals sign, and where there is none it is the next word
abbrev pub with_word : ScriptKind → SaidOptions → List ℕ → List ℕ → (Option (List ℕ) → SaidOptions → Option SaidOptions) → Option SaidOptions
with_word kind said word [] rest = rest (Some (unhyphened word)) said
with_word kind said word (equals ∷ digits) rest = option_and_then (rest None) (with_option kind said (unhyphened (before is_equals word)) (number32 digits))

-- what words say, after what was said, where the number of an option may be wanted
abbrev pub said_from : ScriptKind → Option (List ℕ) → SaidOptions → List (List ℕ) → Option SaidOptions
said_from kind None said [] = Some said
said_from kind (Some name) said [] = None
said_from kind None said (word ∷ rest) = with_word kind said word (onward is_equals word) (λ name more. said_from kind name more rest)
said_from kind (Some name) said (word ∷ rest) = option_and_then (λ more. said_from kind None more rest) (with_option kind said name (number32 word))

-- what a line says: nothing, unless it begins with `# options:`, or that its words are not options
abbrev pub said_on : ScriptKind → List ℕ → Option SaidOptions
said_on kind line = if begins_with (codes "# options:") line then said_from kind None nothing_said (words (drop 10 line)) else Some nothing_said

-- these options, but for those that are said
abbrev pub over : SaidOptions → Options → Options
over said usual = record {
  config = record {
    pages = unwrap_or said.pages usual.config.pages;
    queues = unwrap_or said.queues usual.config.queues;
    entries = unwrap_or said.entries usual.config.entries;
    segment = unwrap_or said.segment usual.config.segment;
  };
  blocks = unwrap_or said.blocks usual.blocks;
}

-- what a script of steps is played over, by its first line and by what is usual
abbrev pub options_in : Options → List ℕ → Option Options
options_in usual text = option_map (λ said. over said usual) (said_on Steps (first_line text))

-- what a script of jobs is played over, and by how many submitters
abbrev pub jobs_options_in : Options → ℕ → List ℕ → Option (Options × ℕ)
jobs_options_in usual submitters text = option_map (λ said. (over said usual, unwrap_or said.submitters submitters)) (said_on Jobs (first_line text))

-- an option, unless its number is the usual one
abbrev pub unless_usual : List ℕ → ℕ → ℕ → List ℕ
unless_usual name number usual = if number == usual then [] else codes " --" ++ (name ++ (codes " " ++ decimal number))

-- the line that says options, each that is not the usual one
abbrev pub options_line : Options → Options → List ℕ
options_line usual options =
    codes "# options:" ++ (unless_usual (codes "pages") options.config.pages usual.config.pages
    ++ (unless_usual (codes "queues") options.config.queues usual.config.queues
    ++ (unless_usual (codes "entries") options.config.entries usual.config.entries
    ++ (unless_usual (codes "segment") options.config.segment usual.config.segment
    ++ unless_usual (codes "blocks") options.blocks usual.blocks))))
