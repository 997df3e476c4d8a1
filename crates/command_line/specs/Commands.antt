-- The commands and their options, as a parse reads them.
use Rattle.std.specs.Prelude.{List, pos, true, [], ◌∷◌, Some, codes}
use Rattle.clap.specs.{Words.{App, Rule, Text, new_app, new_rule, with_rule, with_subcommand}, declared.builder.action.ArgAction.TheVariants.{Append, SetTrue}}
use Rattle.clap.specs.declared.builder.value_parser.ValueParser.TheVariants.{Signed}

-- an option with a value: `--NAME VALUE` or `--NAME=VALUE`
abbrev pub option_rule : Text → Rule
option_rule name = record (new_rule name) { long = Some name; value_names = 1 }

-- an option that is a number below 2^32, with its usual value as a text
abbrev pub number_rule : Text → Text → Rule
number_rule name usual = record (option_rule name) {
  parser = Some (Signed (pos 0) (pos 4294967295));
  defaults = usual ∷ [];
}

-- an option without a value: `--NAME`
abbrev pub flag_rule : Text → Rule
flag_rule name = record (new_rule name) { long = Some name; action = Some SetTrue }

-- a word that belongs to no option
abbrev pub word_rule : Text → Rule
word_rule name = record (new_rule name) { value_names = 1 }

-- words that belong to no option, one or more
abbrev pub words_rule : Text → Rule
words_rule name = record (word_rule name) { action = Some Append; required = true }

-- a command with one rule after the other
abbrev pub with_rules : App → List Rule → App
with_rules command [] = command
with_rules command (rule ∷ rules) = with_rules (with_rule command rule) rules

-- the numbers that a world is opened with, in the order of the help text
abbrev pub size_rules : List Rule
size_rules =
    number_rule (codes "pages") (codes "16")
    ∷ number_rule (codes "queues") (codes "1")
    ∷ number_rule (codes "entries") (codes "4")
    ∷ number_rule (codes "segment") (codes "256")
    ∷ number_rule (codes "blocks") (codes "64")
    ∷ []

-- a command with these
abbrev pub with_sizes : App → App
with_sizes command = with_rules command size_rules

-- a command with these, an image, and the file of its lines
abbrev pub with_options : App → App
with_options command = with_rule
    (with_rule (with_sizes command)
    (option_rule (codes "image")))
    (word_rule (codes "script"))

-- a command that may tell objects in place of lines, and of which a refusal may be a fault
abbrev pub with_telling : App → App
with_telling command = with_rule (with_rule command (flag_rule (codes "json"))) (flag_rule (codes "strict"))

abbrev pub steps : App
steps = with_options (with_telling (with_rule
    (with_rule (new_app (codes "steps")) (option_rule (codes "save")))
    (flag_rule (codes "trace"))))

-- an option that is a number below 2^32, without a usual value
abbrev pub optional_number_rule : Text → Rule
optional_number_rule name = record (option_rule name) { parser = Some (Signed (pos 0) (pos 4294967295)) }

-- an option with a value, with its usual value as a text
abbrev pub text_rule : Text → Text → Rule
text_rule name usual = record (option_rule name) { defaults = usual ∷ [] }

-- how jobs are run, in the order of the help text
abbrev pub threading_rules : List Rule
threading_rules =
    number_rule (codes "submitters") (codes "2")
    ∷ number_rule (codes "depth") (codes "1")
    ∷ optional_number_rule (codes "log-limit")
    ∷ text_rule (codes "serve") (codes "ringer")
    ∷ []

abbrev pub with_threading : App → App
with_threading command = with_rules command threading_rules

abbrev pub threads : App
threads = with_options (with_threading (with_telling (new_app (codes "threads"))))

-- what is loaded, in the order of the help text
abbrev pub amount_rules : List Rule
amount_rules =
    text_rule (codes "rw") (codes "read")
    ∷ number_rule (codes "rwmixread") (codes "50")
    ∷ text_rule (codes "bs") (codes "1")
    ∷ option_rule (codes "size")
    ∷ optional_number_rule (codes "count")
    ∷ option_rule (codes "runtime")
    ∷ number_rule (codes "numjobs") (codes "1")
    ∷ []

abbrev pub with_amounts : App → App
with_amounts command = with_rules command amount_rules

abbrev pub check_rules : List Rule
check_rules =
    number_rule (codes "iodepth") (codes "1")
    ∷ optional_number_rule (codes "log-limit")
    ∷ text_rule (codes "serve") (codes "ringer")
    ∷ number_rule (codes "seed") (codes "1")
    ∷ flag_rule (codes "verify")
    ∷ option_rule (codes "stats")
    ∷ option_rule (codes "status-interval")
    ∷ text_rule (codes "output-format") (codes "normal")
    ∷ flag_rule (codes "quiet")
    ∷ []

abbrev pub with_checks : App → App
with_checks command = with_rules command check_rules

abbrev pub load : App
load = with_rule (with_sizes (with_checks (with_amounts (new_app (codes "load"))))) (option_rule (codes "image"))

abbrev pub check : App
check = with_rule
    (with_rule
    (with_rule (new_app (codes "check")) (flag_rule (codes "jobs")))
    (number_rule (codes "submitters") (codes "2")))
    (word_rule (codes "script"))

abbrev pub test : App
test = with_sizes (with_rule
    (with_rule (new_app (codes "test")) (flag_rule (codes "update")))
    (words_rule (codes "files")))

abbrev pub shell : App
shell = with_options (with_rule (new_app (codes "shell")) (flag_rule (codes "trace")))

abbrev pub draw : App
draw = with_options (new_app (codes "draw"))

abbrev pub explain : App
explain = with_rule (with_rule (new_app (codes "explain")) (flag_rule (codes "json"))) (word_rule (codes "script"))

abbrev pub show : App
show = with_rule (with_rule (new_app (codes "show")) (flag_rule (codes "json"))) (words_rule (codes "words"))

abbrev pub grammar : App
grammar = new_app (codes "grammar")

-- a command line that names none of these is none
abbrev pub named : App
named = record { top = record (new_app (codes "nvmesgl")).top { subcommand_required = true; has_version = true }; subs = [] }

-- with the commands that play a script or a load
abbrev pub running : App
running = with_subcommand (with_subcommand (with_subcommand named steps.top) threads.top) load.top

abbrev pub nvmesgl : App
nvmesgl = with_subcommand
    (with_subcommand
    (with_subcommand
    (with_subcommand (with_subcommand (with_subcommand (with_subcommand running check.top) test.top) shell.top) draw.top)
    explain.top)
    show.top)
    grammar.top
