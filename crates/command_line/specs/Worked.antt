-- Worked command lines.
use Rattle.std.specs.Prelude.{ℕ, List, [], ◌∷◌, None, Some, false, codes}
use Rattle.clap.specs.Words.{Text}
use Rattle.command_line.specs.{Asked.{Given, Loaded, Tested}, declared.threads.Threading.Threading}
use Rattle.script_cli.specs.declared.workload.{OutputFormat.TheVariants.Normal, Pattern.TheVariants.Read}

-- what is given where nothing is
abbrev pub usual : Given
usual = record {
  config = record { pages = 16; queues = 1; entries = 4; segment = 256 };
  blocks = 64;
  image = None;
  script = None;
  save = None;
  strict = false;
}

-- this many submitters, one job in flight each, all jobs at once
abbrev pub alone : ℕ → Threading
alone n = record { submitters = n; depth = 1; log_limit = None }

-- a load of which nothing is said
abbrev pub usual_load : Loaded
usual_load = record {
  pattern = Read;
  reads = 50;
  command_blocks = 1;
  size = None;
  submitters = 1;
  depth = 1;
  log_limit = None;
  seed = 1;
  count = Some 10000;
  runtime = None;
  verify = false;
  quiet = false;
  stats = None;
  interval = None;
  format = Normal;
}

-- the words of a command
abbrev pub steps_with : List Text → List Text
steps_with options = codes "nvmesgl" ∷ codes "steps" ∷ options

abbrev pub threads_with : List Text → List Text
threads_with options = codes "nvmesgl" ∷ codes "threads" ∷ options

abbrev pub load_with : List Text → List Text
load_with options = codes "nvmesgl" ∷ codes "load" ∷ options

abbrev pub check_with : List Text → List Text
check_with options = codes "nvmesgl" ∷ codes "check" ∷ options

abbrev pub test_with : List Text → List Text
test_with options = codes "nvmesgl" ∷ codes "test" ∷ options

-- one file that is tested
abbrev pub one_file : Tested
one_file = record { sizes = usual.config; zeros = usual.blocks; updates = false; files = codes "a" ∷ [] }

-- each option at its end that is farther from the usual value
abbrev pub extreme_words : List Text
extreme_words =
    codes "--pages" ∷ codes "65536" ∷ codes "--queues" ∷ codes "64" ∷ codes "--entries" ∷ codes "1024" ∷ codes "--segment" ∷ codes "2"
    ∷ codes "--blocks" ∷ codes "65536" ∷ []

abbrev pub extreme : Given
extreme = record {
  config = record { pages = 65536; queues = 64; entries = 1024; segment = 2 };
  blocks = 65536;
  image = None;
  script = None;
  save = None;
  strict = false;
}

-- other values, in another order and other forms
abbrev pub mixed_words : List Text
mixed_words = codes "--image=disk" ∷ codes "--blocks=+3" ∷ codes "--segment" ∷ codes "007" ∷ codes "--entries=2" ∷ codes "--queues" ∷ codes "5" ∷ codes "some.script" ∷ codes "--pages=8" ∷ []

abbrev pub mixed : Given
mixed = record {
  config = record { pages = 8; queues = 5; entries = 2; segment = 7 };
  blocks = 3;
  image = Some (codes "disk");
  script = Some (codes "some.script");
  save = None;
  strict = false;
}
