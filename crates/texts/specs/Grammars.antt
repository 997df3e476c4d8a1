-- All that a script may say.
use Rattle.std.specs.Fmt.{format_spec, padded}
use Rattle.std.specs.Prelude.{◌-◌, ◌^◌, ◌++◌, ℕ, List, [], ◌∷◌, codes, map}
use Rattle.entry_codec.specs.{Status.status_text, declared.{status.Status.Status, status_names.TheConstants.NAMES}}
use Rattle.script_cli.specs.{Verbs.all_verbs, declared.verb.{CommandVerb.CommandVerb, QueueVerb.QueueVerb, Verb.Verb}}
use Rattle.script_cli.specs.declared.verb.Verb.TheVariants.{CreateCq, Fill, Forge, OnCommand, OnQueue, Owners, Reserve, Reset}
use Rattle.script_cli.specs.declared.verb.CommandVerb.TheVariants as command
use Rattle.script_cli.specs.declared.verb.QueueVerb.TheVariants as queue
use Rattle.texts.specs.{Forms.form_of, declared.faults.grammar.TheConstants.{BEGINNING, END, LAST}}

-- what the step of a verb on a queue does
abbrev pub about_queue : QueueVerb → List ℕ
about_queue queue.Ring = codes "tells the controller of what was submitted"
about_queue queue.Reap = codes "takes a completion"
about_queue queue.Fetch = codes "the controller takes an entry"
about_queue queue.Retire = codes "gives up a queue whose submission half is deleted"
about_queue queue.DeleteSq = codes "asks to drop a queue's submission half, on queue 0"
about_queue queue.DeleteCq = codes "asks to drop a queue's completion half, on queue 0"
about_queue queue.CreateSq = codes "asks to make a submission half again, on queue 0"

-- what the step of a verb on a command does
abbrev pub about_command : CommandVerb → List ℕ
about_command command.Build = codes "lays the scatter-gather list"
about_command command.Submit = codes "puts the command into its queue"
about_command command.Cancel = codes "gives up a command that was not submitted"
about_command command.Collect = codes "asks how the command ended"
about_command command.Gather = codes "asks for the bytes of a Read"
about_command command.Release = codes "gives back the pages of a command that ended"
about_command command.Walk = codes "the controller does one unit of the list"
about_command command.Complete = codes "the controller posts the completion"
about_command command.Abort = codes "asks to stop the command, on queue 0"

-- what the line of a verb does
abbrev pub about : Verb → List ℕ
about Reserve = codes "reserves a command and its pages"
about Fill = codes "writes the bytes of a Write, a Compare or a Deallocate"
about CreateCq = codes "asks to make a completion half again, on queue 0"
about Forge = codes "overwrites a completion slot"
about Reset = codes "resets the controller: queue 0 alone is left"
about Owners = codes "prints who owns which page"
about (OnQueue verb) = about_queue verb
about (OnCommand verb) = about_command verb

-- the line of a verb: its form, in 35 columns, and what it does
abbrev pub verb_line : Verb → List ℕ
verb_line verb = codes "  " ++ (padded (format_spec 32 1 0 35 (2 ^ 64 - 1)) (form_of verb) ++ (codes "  " ++ (about verb ++ (10 ∷ []))))

unfoldable pub verb_lines : List Verb → List ℕ
verb_lines [] = []
verb_lines (verb ∷ rest) = verb_line verb ++ verb_lines rest

-- the line of a status: its numbers, and its name
abbrev pub status_line : Status → List ℕ → List ℕ
status_line status name = codes "  " ++ (status_text status ++ (codes " " ++ (name ++ (10 ∷ []))))

unfoldable pub status_lines : List (Status × List ℕ) → List ℕ
status_lines [] = []
status_lines (named ∷ rest) = status_line named.0 named.1 ++ status_lines rest

-- THE TEXT: a line for each verb, and one for each status that has a name, with what is before, between and after them
abbrev pub grammar_of : List ℕ
grammar_of = BEGINNING.now ++ (verb_lines all_verbs ++ (END.now ++ (status_lines (map (λ named. (named.0, named.1.now)) NAMES) ++ LAST.now)))
