-- What the words of a command line ask for.
use Rattle.std.specs.{Borrow.Bor, Option.option_map_or}
use Rattle.std.specs.Prelude.{◌≤◌, ◌&&◌, ⊤, ℕ, Bool, List, [], ◌∷◌, Option, Some, None, codes, is_some, option_map, option_and_then, unwrap_or, map, not, true, false, nat_le, if◌then◌else◌}
use Rattle.std.specs.Str.{bytes_eq}
use Rattle.clap.specs.Words.{Kinds, Row, Text, all_of, fault_of, first_of, one_of, subcommand_of}
use Rattle.command_line.specs.{Commands.nvmesgl, Units.{number, seconds_within, size_within}, declared.{arguments.{CommandLine.CommandLine, CommandOptions.CommandOptions, Testing.Testing}, load.{Amounts.Amounts, Names.Names}, serving.Serving.Serving, threads.Threading.Threading}}
use Rattle.host_core.specs.declared.config.Config.{Config}
use Rattle.script_cli.specs.{Loads.FitsLoad, Patterns.{format_named, pattern_named}, declared.workload.{Load.Load, OutputFormat.OutputFormat, Pattern.Pattern}}
use Rattle.command_line.specs.declared.arguments.CommandLine.TheVariants as line
use Rattle.command_line.specs.declared.serving.Serving.TheVariants as serving

-- The options of a command, by what was found for each: a row of the words' values, or of the usual value

-- the number that is found under a name, else the usual one
abbrev pub number_under : Text → ℕ → List Row → ℕ
number_under name usual rows = unwrap_or (option_and_then number (one_of name rows)) usual

-- what these commands are given; where no file is named, standard input has the script. `steps` alone may be given a file to save the image into, and
-- `steps` and `threads` that a refusal, or another status than 0:00, is a fault
pub record Given : Type 0 where
  pub config : Config
  pub blocks : ℕ
  pub image : Option Text
  pub script : Option Text
  pub save : Option Text
  pub strict : Bool

-- the file of a script
abbrev pub script_in : List Row → Option Text
script_in rows = first_of (codes "script") rows

-- a flag was typed
abbrev pub has_flag : Text → List Row → Bool
has_flag name rows = option_map_or (λ text. bytes_eq text (codes "true")) (first_of name rows) false

abbrev pub given_in : List Row → Given
given_in rows = record {
  config = record {
    pages = number_under (codes "pages") 16 rows;
    queues = number_under (codes "queues") 1 rows;
    entries = number_under (codes "entries") 4 rows;
    segment = number_under (codes "segment") 256 rows;
  };
  blocks = number_under (codes "blocks") 64 rows;
  image = first_of (codes "image") rows;
  script = script_in rows;
  save = first_of (codes "save") rows;
  strict = has_flag (codes "strict") rows;
}

-- what the transcripts of files are tested with
pub record Tested : Type 0 where
  pub sizes : Config
  pub zeros : ℕ
  pub updates : Bool
  pub files : List Text

-- the words that are found under a name
abbrev pub all_under : Text → List Row → List Text
all_under name rows = unwrap_or (all_of name rows) []

-- the files that are named
abbrev pub files_in : List Row → List Text
files_in rows = all_under (codes "files") rows

abbrev pub tested_in : List Row → Tested
tested_in rows = record {
  sizes = (given_in rows).config;
  zeros = (given_in rows).blocks;
  updates = has_flag (codes "update") rows;
  files = files_in rows;
}

abbrev pub submitters_in : List Row → ℕ
submitters_in rows = number_under (codes "submitters") 2 rows

-- `--jobs` was typed
abbrev pub has_jobs : List Row → Bool
has_jobs rows = has_flag (codes "jobs") rows

-- How jobs are run

-- the number that is found under a name, if there is one
abbrev pub amount_under : Text → List Row → Option ℕ
amount_under name rows = option_and_then number (one_of name rows)

abbrev pub log_limit_in : List Row → Option ℕ
log_limit_in rows = amount_under (codes "log-limit") rows

abbrev pub threading_in : List Row → Threading
threading_in rows = record {
  submitters = submitters_in rows;
  depth = number_under (codes "depth") 1 rows;
  log_limit = log_limit_in rows;
}

abbrev pub is_within : ℕ → ℕ → ℕ → Bool
is_within least most n = nat_le least n && nat_le n most

-- there is an entry at least, if there is a limit
abbrev pub is_limit : Option ℕ → Bool
is_limit None = true
is_limit (Some entries) = nat_le 1 entries

-- all three lie in their ranges
abbrev pub is_threading : Threading → Bool
is_threading what = is_within 1 16 what.submitters && (is_within 1 256 what.depth && is_limit what.log_limit)

-- who has a word
abbrev pub serving_named : Text → Option Serving
serving_named text =
    if bytes_eq text (codes "ringer") then Some serving.Ringer
    else if bytes_eq text (codes "controller") then Some serving.Controller
    else None

-- who is asked to serve
abbrev pub serving_in : List Row → Option Serving
serving_in rows = option_and_then serving_named (first_of (codes "serve") rows)

-- What is loaded

-- what a load is made of, besides its world
pub record Loaded : Type 0 where
  pub pattern : Pattern
  pub reads : ℕ
  pub command_blocks : ℕ
  pub size : Option ℕ
  pub submitters : ℕ
  pub depth : ℕ
  pub log_limit : Option ℕ
  pub seed : ℕ
  pub count : Option ℕ
  pub runtime : Option ℕ
  pub verify : Bool
  pub quiet : Bool
  pub stats : Option Text
  pub interval : Option ℕ
  pub format : OutputFormat

-- what a word is read as: no value where there is no word, and nothing where the word cannot be read
abbrev pub read_if_said : (Text → Option ℕ) → Option Text → Option (Option ℕ)
read_if_said read None = Some None
read_if_said read (Some word) = option_map (λ n. Some n) (read word)

-- the blocks of each command: 1 where nothing is said
abbrev pub blocks_in : List Row → Option ℕ
blocks_in rows = option_map (λ said. unwrap_or said 1) (read_if_said (size_within 256) (first_of (codes "bs") rows))

abbrev pub size_in : List Row → Option (Option ℕ)
size_in rows = read_if_said (size_within 65536) (first_of (codes "size") rows)

abbrev pub runtime_in : List Row → Option (Option ℕ)
runtime_in rows = read_if_said (seconds_within 0) (first_of (codes "runtime") rows)

-- an interval needs a file of statistics
abbrev pub interval_in : List Row → Option (Option ℕ)
interval_in rows =
    if is_some (first_of (codes "status-interval") rows) && not (is_some (first_of (codes "stats") rows)) then None
    else read_if_said (seconds_within 1) (first_of (codes "status-interval") rows)

-- what is said with units
abbrev pub amounts_in : List Row → Option Amounts
amounts_in rows =
    option_and_then (λ blocks.
    option_and_then (λ size.
    option_and_then (λ runtime.
    option_map (λ interval. record { command_blocks = blocks; size = size; runtime = runtime; interval = interval })
    (interval_in rows))
    (runtime_in rows))
    (size_in rows))
    (blocks_in rows)

-- commands in all: 10,000 where there is neither a number nor a time
abbrev pub count_of : Option ℕ → Option ℕ → Option ℕ
count_of None None = Some 10000
count_of None (Some seconds) = None
count_of (Some count) runtime = Some count

-- the pattern that is named
abbrev pub pattern_in : List Row → Option Pattern
pattern_in rows = option_and_then pattern_named (first_of (codes "rw") rows)

-- the format that is named
abbrev pub format_in : List Row → Option OutputFormat
format_in rows = option_and_then format_named (first_of (codes "output-format") rows)

-- what is said by names
abbrev pub names_in : List Row → Option Names
names_in rows =
    option_and_then (λ pattern.
    option_and_then (λ format.
    option_map (λ serving. record { pattern = pattern; format = format; serving = serving })
    (serving_in rows))
    (format_in rows))
    (pattern_in rows)

-- submitters, depth, the part of the reads and the log lie in their ranges
abbrev pub are_load_numbers : ℕ → ℕ → ℕ → Option ℕ → Bool
are_load_numbers submitters depth reads limit = is_within 1 16 submitters && (is_within 1 256 depth && (nat_le reads 100 && is_limit limit))

abbrev pub numjobs_in : List Row → ℕ
numjobs_in rows = number_under (codes "numjobs") 1 rows

abbrev pub depth_in : List Row → ℕ
depth_in rows = number_under (codes "iodepth") 1 rows

abbrev pub reads_in : List Row → ℕ
reads_in rows = number_under (codes "rwmixread") 50 rows

abbrev pub loaded_in : List Row → Amounts → Names → Loaded
loaded_in rows amounts names = record {
  pattern = names.pattern;
  reads = reads_in rows;
  command_blocks = amounts.command_blocks;
  size = amounts.size;
  submitters = numjobs_in rows;
  depth = depth_in rows;
  log_limit = log_limit_in rows;
  seed = number_under (codes "seed") 1 rows;
  count = count_of (amount_under (codes "count") rows) amounts.runtime;
  runtime = amounts.runtime;
  verify = has_flag (codes "verify") rows;
  quiet = has_flag (codes "quiet") rows;
  stats = first_of (codes "stats") rows;
  interval = amounts.interval;
  format = names.format;
}

-- what `load` is asked for, and who serves
abbrev pub load_in : List Row → Option (Loaded × Serving)
load_in rows =
    if are_load_numbers (numjobs_in rows) (depth_in rows) (reads_in rows) (log_limit_in rows) then
    option_and_then (λ amounts. option_map (λ names. (loaded_in rows amounts names, names.serving)) (names_in rows)) (amounts_in rows)
    else None

-- What is asked for

pub data Asked : Type 0 where
  steps : Given → Asked
  traced : Given → Bool → Asked
  threads : Given → Threading → Serving → Asked
  thread_objects : Given → Threading → Serving → Asked
  load : Given → Loaded → Serving → Asked
  check : Option Text → Asked
  check_jobs : Option Text → ℕ → Asked
  test : Tested → Asked
  shell : Given → Bool → Asked
  draw : Given → Asked
  explain : Option Text → Bool → Asked
  show : List Text → Bool → Asked
  grammar : Asked

-- `--trace` was typed
abbrev pub has_trace : List Row → Bool
has_trace rows = has_flag (codes "trace") rows

-- `--json` was typed
abbrev pub has_json : List Row → Bool
has_json rows = has_flag (codes "json") rows

-- what `steps` with these rows asks for
abbrev pub steps_by : List Row → Asked
steps_by rows = if has_json rows then traced (given_in rows) true else if has_trace rows then traced (given_in rows) false else steps (given_in rows)

-- there are as many submitters as there may be
abbrev pub are_submitters : ℕ → Bool
are_submitters n = nat_le 1 n && nat_le n 16

-- what is asked for, where there are as many submitters as there may be
abbrev pub if_submitters : ℕ → (ℕ → Asked) → Option Asked
if_submitters n wanted = if are_submitters n then Some (wanted n) else None

-- jobs that are run so, and told by lines or as objects
abbrev pub jobs_by : List Row → Threading → Serving → Asked
jobs_by rows what who = if has_json rows then thread_objects (given_in rows) what who else threads (given_in rows) what who

-- what `threads` with these rows asks for
abbrev pub threads_by : List Row → Option Asked
threads_by rows = if is_threading (threading_in rows) then option_map (jobs_by rows (threading_in rows)) (serving_in rows) else None

-- what `check` with these rows asks for
abbrev pub check_by : List Row → Option Asked
check_by rows =
    if has_jobs rows then if_submitters (submitters_in rows) (λ n. check_jobs (script_in rows) n) else Some (check (script_in rows))

-- what `load` with these rows asks for
abbrev pub load_by : List Row → Option Asked
load_by rows = option_map (λ said. load (given_in rows) said.0 said.1) (load_in rows)

-- what the commands ask for that show something, or answer line by line
abbrev pub shown_of_name : Text → List Row → Option Asked
shown_of_name name rows =
    if bytes_eq name (codes "shell") then Some (shell (given_in rows) (has_trace rows))
    else if bytes_eq name (codes "draw") then Some (draw (given_in rows))
    else if bytes_eq name (codes "explain") then Some (explain (script_in rows) (has_json rows))
    else if bytes_eq name (codes "show") then Some (show (all_under (codes "words") rows) (has_json rows))
    else if bytes_eq name (codes "grammar") then Some grammar
    else None

-- what a named command with these rows asks for
abbrev pub asked_of_name : Text → List Row → Option Asked
asked_of_name name rows =
    if bytes_eq name (codes "steps") then Some (steps_by rows)
    else if bytes_eq name (codes "threads") then threads_by rows
    else if bytes_eq name (codes "load") then load_by rows
    else if bytes_eq name (codes "check") then check_by rows
    else if bytes_eq name (codes "test") then Some (test (tested_in rows))
    else shown_of_name name rows

abbrev pub asked_by : Option (Text × List Row) → Option Asked
asked_by None = None
asked_by (Some (name, rows)) = asked_of_name name rows

abbrev pub unless_at_fault : Kinds → Option Asked → Option Asked
unless_at_fault [] wanted = wanted
unless_at_fault (kind ∷ kinds) wanted = None

-- what words ask for, the program's name first; nothing where one of them is at fault, or asks for help
abbrev pub asked : List Text → Option Asked
asked words = unless_at_fault (fault_of nvmesgl words) (asked_by (subcommand_of nvmesgl words))

-- The same of values of the code

abbrev pub path_of : Option (Bor Text) → Option Text
path_of path = option_map (λ p. p.now) path

abbrev pub given_of : CommandOptions → Given
given_of options = record { config = options.config; blocks = options.blocks; image = path_of options.image; script = path_of options.script; save = path_of options.save; strict = options.strict }

abbrev pub tested_of : Testing → Tested
tested_of testing = record { sizes = testing.config; zeros = testing.blocks; updates = testing.updates; files = map (λ f. f.now) testing.files.items }

abbrev pub loaded_of : Load → Loaded
loaded_of what = record {
  pattern = what.pattern;
  reads = what.reads;
  command_blocks = what.command_blocks;
  size = what.size;
  submitters = what.submitters;
  depth = what.depth;
  log_limit = what.log_limit;
  seed = what.seed;
  count = what.count;
  runtime = what.runtime;
  verify = what.verify;
  quiet = what.quiet;
  stats = path_of what.stats;
  interval = what.interval;
  format = what.format;
}

abbrev pub asked_of : CommandLine → Asked
asked_of (line.Steps options) = steps (given_of options)
asked_of (line.Traced options objects) = traced (given_of options) objects
asked_of (line.Threads options what who) = threads (given_of options) what who
asked_of (line.ThreadObjects options what who) = thread_objects (given_of options) what who
asked_of (line.Load options what who) = load (given_of options) (loaded_of what) who
asked_of (line.Check script) = check (path_of script)
asked_of (line.CheckJobs script submitters) = check_jobs (path_of script) submitters
asked_of (line.Test testing) = test (tested_of testing)
asked_of (line.Shell options traces) = shell (given_of options) traces
asked_of (line.Draw options) = draw (given_of options)
asked_of (line.Explain script objects) = explain (path_of script) objects
asked_of (line.Show words objects) = show (map (λ w. w.now) words.items) objects
asked_of line.Grammar = grammar

-- submitters and depth lie in their ranges
pub record FitsThreading (what : Threading) : Type 0 where
  pub some : 1 ≤ what.submitters
  pub few : what.submitters ≤ 16
  pub at_least_one : 1 ≤ what.depth
  pub at_most : what.depth ≤ 256

-- a command line has as many submitters as there may be, a depth in its range, and a load that lies in its ranges
abbrev pub FitsLine : CommandLine → Type 0
FitsLine (line.Steps options) = ⊤
FitsLine (line.Traced options objects) = ⊤
FitsLine (line.Threads options what who) = FitsThreading what
FitsLine (line.ThreadObjects options what who) = FitsThreading what
FitsLine (line.Load options what who) = FitsLoad what
FitsLine (line.Check script) = ⊤
FitsLine (line.CheckJobs script submitters) = (1 ≤ submitters) × (submitters ≤ 16)
FitsLine (line.Test testing) = ⊤
FitsLine (line.Shell options traces) = ⊤
FitsLine (line.Draw options) = ⊤
FitsLine (line.Explain script objects) = ⊤
FitsLine (line.Show words objects) = ⊤
FitsLine line.Grammar = ⊤
