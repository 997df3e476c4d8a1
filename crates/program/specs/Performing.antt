-- What the program does with what words ask for, a script and a writer.
use Rattle.std.specs.Io.KnownBytes.{Keeps}
use Rattle.std.specs.{Prelude.{◌≡◌, ◌⊎◌, ◌<◌, ◌+◌, ◌*◌, ℕ, Bool, true, false, not, List, Option, Some, None, option_map, replicate, codes, take, unwrap_or, IsSome, if◌then◌else◌}, Str.bytes_eq}
use Rattle.block_image.specs.Blocks.{most_blocks}
use Rattle.clap.specs.Words.{Text}
use Rattle.command_line.specs.Asked.{Asked, Given, Loaded, loaded_of, check, check_jobs, draw, explain, grammar, load, shell, show, steps, test, thread_objects, threads, traced}
use Rattle.program.specs.{Loading.{LeavesLoad, TellsLoad}, declared.fault.Fault.Fault}
use Rattle.job_cli.specs.JobRuns.{EndsJobsWith, HasJobs, IsCountedText, IsNoJobs, WritesJobs}
use Rattle.load.specs.{Lines.IsLineFront, Loaded.HasRun, Tallies.is_good}
use Rattle.job_cli.specs.declared.jobs.JobLine.{JobLine}
use Rattle.load.specs.declared.{fault.LoadFault.LoadFault, tally.Tally.Tally}
use Rattle.host_core.specs.declared.config.Config.{Config}
use Rattle.machine_model.specs.Script.{Table}
use Rattle.script_cli.specs.declared.workload.Load.{Load}
use Rattle.script_cli.specs.declared.transcripts.options.{Options.Options, SaidOptions.SaidOptions, ScriptKind.{ScriptKind, TheVariants.{Jobs, Steps}}}
use Rattle.script_cli.specs.{Inputs.{IsTold, Gains}, Lines.first_line, Options.{jobs_options_in, options_in, said_on}, Runs.{EndsWith, HasScript, IsNoScript, IsRunTo, Writes}}
use Rattle.shell.specs.{Told.{EndsTold, IsToldTo}, declared.told.Telling.{Telling, TheVariants.{Objects, Traces}}}
use Rattle.script_cli.specs.declared.{fault.RunFault.RunFault, input.ImageFault.ImageFault, script.Numbered.Numbered}
use Rattle.load.specs.declared.fault.LoadFault.TheVariants as load_fault
use Rattle.program.specs.declared.fault.Fault.TheVariants as fault
use Rattle.script_cli.specs.declared.fault.RunFault.TheVariants as run
use Rattle.script_cli.specs.declared.input.ImageFault.TheVariants as image_fault

-- What a run begins with

-- where no file is named, a run begins with as many blocks of zeros as are given
abbrev pub IsFirstImage : Given → List ℕ → Type 0
IsFirstImage given image = given.image ≡ None → image ≡ replicate (512 * given.blocks) 0

-- and it has none where these are too few or too many, or memory is refused
abbrev pub IsNoFirstImage : Given → ImageFault → Type 0
IsNoFirstImage given why =
    given.image ≡ None → (why ≡ image_fault.Memory) ⊎ ((why ≡ image_fault.BadLength) × ((given.blocks ≡ 0) ⊎ (most_blocks < given.blocks)))

-- a file is named, and not standard input
abbrev pub is_file : Option Text → Bool
is_file None = false
is_file (Some path) = not (bytes_eq path (codes "-"))

-- what is known of the script that a path names, by what is known of standard input: that has it where there is no path, or it is `-`; a file may have any bytes
abbrev pub script_told : Option Text → Option (List ℕ) → Option (List ℕ)
script_told None told = told
script_told (Some path) told = if bytes_eq path (codes "-") then told else None

-- What a script's first line says

-- the pool, its queues and the zero blocks that are given
abbrev pub options_of : Given → Options
options_of given = record { config = given.config; blocks = given.blocks }

-- the same given, but for these
abbrev pub given_over : Given → Options → Given
given_over given options = record given { config = options.config; blocks = options.blocks }

-- what a script of steps is played over: what words ask for, but for the options that its first line says
abbrev pub steps_said : Given → List ℕ → Option Given
steps_said given text = option_map (λ options. given_over given options) (options_in (options_of given) text)

-- what a script of jobs is run over, and by how many submitters
abbrev pub jobs_said : Given → ℕ → List ℕ → Option (Given × ℕ)
jobs_said given submitters text = option_map (λ said. (given_over given said.0, said.1)) (jobs_options_in (options_of given) submitters text)

-- what the first line of a script says, where it is only checked
abbrev pub line_said : ScriptKind → List ℕ → Option SaidOptions
line_said kind text = said_on kind (first_line text)

-- the first bytes of a script, which are read: all that it may have, and one more
abbrev pub bytes_read : List ℕ → List ℕ
bytes_read script = take (1048576 + 1) script

-- There is a script, as far as it is known, and what is read of it says something that meets a condition.
abbrev pub Plays : {S : Type 0} → Option (List ℕ) → (List ℕ → Option S) → (List ℕ → S → Type 0) → Type 0
Plays {S} told said_in Holds = (script : List ℕ) × IsTold told script × (said : S) × (said_in (bytes_read script) ≡ Some said) × Holds script said

-- its first line says invalid options
abbrev pub SaysNone : {S : Type 0} → Option (List ℕ) → (List ℕ → Option S) → Type 0
SaysNone told said_in = (script : List ℕ) × IsTold told script × (said_in (bytes_read script) ≡ None)

-- no script was read
abbrev pub IsUnread : RunFault → Type 0
IsUnread why = (why ≡ run.Unreadable) ⊎ (why ≡ run.Memory)

-- why nothing was played: no script was read, its first line says invalid options, or there is no image
abbrev pub IsNotBegun : {S : Type 0} → Option (List ℕ) → (List ℕ → Option S) → (S → Given) → Fault → Type 0
IsNotBegun told said_in given_in (fault.Run why) = IsUnread why
IsNotBegun told said_in given_in fault.BadOptions = SaysNone told said_in
IsNotBegun told said_in given_in (fault.Image why) = Plays told said_in (λ script said. IsNoFirstImage (given_in said) why)
IsNotBegun told said_in given_in other = ⊥

-- What is written

-- a script of steps is played over an image, and what comes of it meets a condition
abbrev pub PlaysSteps : Option (List ℕ) → Given → (List ℕ → Given → List ℕ → Type 0) → Type 0
PlaysSteps told given Holds =
    Plays (script_told given.script told) (steps_said given) (λ script said. (image : List ℕ) × IsFirstImage said image × Holds script said image)

-- a text that goes with what a run of steps leaves, and with how many of its answers are not well
abbrev pub Outcome : Type 1
Outcome = Table → ℕ → Table → List Numbered → List ℕ → Type 0

-- each step was answered well, where that is asked for
abbrev pub IsAsAsked : Outcome → Bool → Table → List Numbered → List ℕ → Type 0
IsAsAsked Leaves strict t script text = (last : Table) × (unwell : ℕ) × Leaves last unwell t script text × (strict ≡ true → unwell ≡ 0)

-- some was not
abbrev pub HasUnwell : Outcome → Table → List Numbered → List ℕ → Type 0
HasUnwell Leaves t script text = (last : Table) × (unwell : ℕ) × Leaves last unwell t script text × (unwell ≡ 0 → ⊥)

-- how a run of steps is told that is not told in the lines of `steps` alone
abbrev pub told_as : Bool → Telling
told_as true = Objects
told_as false = Traces

-- the text of a run of jobs, each of which was not refused and ended with the status 0:00 where that is asked for
abbrev pub IsTextAsAsked : Bool → Config → List ℕ → List JobLine → List ℕ → Type 0
IsTextAsAsked strict config image lines text = (unwell : ℕ) × IsCountedText unwell config image lines text × (strict ≡ true → unwell ≡ 0)

-- the text of one of which some did not
abbrev pub IsUnwellText : Config → List ℕ → List JobLine → List ℕ → Type 0
IsUnwellText config image lines text = (unwell : ℕ) × IsCountedText unwell config image lines text × (unwell ≡ 0 → ⊥)

-- a script of jobs is run over an image by submitters, and what comes of it meets a condition
abbrev pub RunsJobs : Option (List ℕ) → Given → ℕ → (List ℕ → Given → ℕ → List ℕ → Type 0) → Type 0
RunsJobs told given submitters Holds =
    Plays (script_told given.script told) (jobs_said given submitters) (λ script said. (image : List ℕ) × IsFirstImage said.0 image × Holds script said.0 said.1 image)

-- a load runs over an image, in rounds until no command is left, and what it came to is told
abbrev pub TellsRun : Given → Loaded → Tally → Option (List ℕ) → Option (List ℕ) → Type 0
TellsRun given what tally before after =
    (image : List ℕ) × IsFirstImage given image × (how : Load) × (loaded_of how ≡ what) × HasRun given.config image how tally × TellsLoad what.format what.pattern tally before after

-- the same of a load in which no command was refused or failed and none brought other bytes, or else some
abbrev pub WritesLoad : Given → Loaded → Bool → Option (List ℕ) → Option (List ℕ) → Type 0
WritesLoad given what good before after = (tally : Tally) × (is_good tally ≡ good) × TellsRun given what tally before after

-- the fault of a load that did not run to its end: a fault of its opening, of memory and of the output is that of any run
abbrev pub fault_of_load : LoadFault → Fault
fault_of_load (load_fault.Run why) = fault.Run why
fault_of_load (load_fault.TooFewBlocks need blocks) = fault.Load (load_fault.TooFewBlocks need blocks)
fault_of_load (load_fault.Round why) = fault.Load (load_fault.Round why)

-- a script of steps without faults is checked
abbrev pub LooksAtSteps : Option (List ℕ) → Type 0
LooksAtSteps told = Plays told (line_said Steps) (λ script said. (lines : List Numbered) × HasScript (Some script) lines)

-- and one of jobs, for this many submitters where it says none
abbrev pub LooksAtJobs : Option (List ℕ) → ℕ → Type 0
LooksAtJobs told submitters = Plays told (line_said Jobs) (λ script said. (lines : List JobLine) × HasJobs (Some script) (unwrap_or said.submitters submitters) lines)

-- What is written where all goes well: the text of a run of the script, over the configuration and the image that are given, or said in its first line; nothing where help
-- is asked for, and nothing of a script that is checked and has no fault. Of what `test`, `shell`, `draw`, `explain` and `show` write, of objects of JSON and of the text of
-- the grammar nothing is said.
abbrev pub Performs : Option (List ℕ) → Option Asked → Option (List ℕ) → Option (List ℕ) → Type 0
Performs told None before after = Keeps before after
Performs told (Some (steps given)) before after = PlaysSteps told given (λ script said image. Writes (Some script) said.config image before after (IsAsAsked IsRunTo given.strict))
Performs told (Some (threads given what who)) before after =
    RunsJobs told given what.submitters (λ script said submitters image. WritesJobs (Some script) submitters said.config image before after (IsTextAsAsked given.strict))
Performs told (Some (load given what who)) before after = WritesLoad given what true before after
Performs told (Some (check path)) before after = LooksAtSteps (script_told path told) × Keeps before after
Performs told (Some (check_jobs path submitters)) before after = LooksAtJobs (script_told path told) submitters × Keeps before after
Performs told (Some (thread_objects given what who)) before after = Unit {0}
Performs told (Some (test tested)) before after = Unit {0}
Performs told (Some (shell given traces)) before after = Unit {0}
Performs told (Some (draw given)) before after = Unit {0}
Performs told (Some (traced given objects)) before after =
    PlaysSteps told given (λ script said image. Writes (Some script) said.config image before after (IsAsAsked (IsToldTo (told_as objects)) given.strict))
Performs told (Some (explain path objects)) before after = Unit {0}
Performs told (Some (show words objects)) before after = Unit {0}
Performs told (Some grammar) before after = Unit {0}

-- What a fault says

-- why the grammar was not written
abbrev pub IsNoGrammar : RunFault → Type 0
IsNoGrammar why = (why ≡ run.Memory) ⊎ (why ≡ run.OutputFailed)

-- a fault is one of a run, and meets a condition
abbrev pub IsRunFault : Fault → (RunFault → Type 0) → Type 0
IsRunFault (fault.Run why) Holds = Holds why
IsRunFault other Holds = ⊥

-- a fault is one of an image, and meets a condition
abbrev pub IsImageFault : Fault → (ImageFault → Type 0) → Type 0
IsImageFault (fault.Image why) Holds = Holds why
IsImageFault other Holds = ⊥

-- a script that is checked was not read, says invalid options, or has a fault that meets a condition
abbrev pub IsCheckFault : Option (List ℕ) → ScriptKind → (List ℕ → SaidOptions → RunFault → Type 0) → Fault → Type 0
IsCheckFault told kind Holds (fault.Run why) = IsUnread why ⊎ Plays told (line_said kind) (λ script said. Holds script said why)
IsCheckFault told kind Holds fault.BadOptions = SaysNone told (line_said kind)
IsCheckFault told kind Holds other = ⊥

-- why there is no script of steps without faults, and why none of jobs
abbrev pub IsNoSteps : Option (List ℕ) → Fault → Type 0
IsNoSteps told why = IsCheckFault told Steps (λ script said cause. IsNoScript (Some script) cause) why

abbrev pub IsNoJobScript : Option (List ℕ) → ℕ → Fault → Type 0
IsNoJobScript told submitters why = IsCheckFault told Jobs (λ script said cause. IsNoJobs (Some script) (unwrap_or said.submitters submitters) cause) why

-- why transcripts were not all good, or not all tested
abbrev pub IsTestFault : Fault → Type 0
IsTestFault (fault.Run why) = Unit {0}
IsTestFault (fault.Transcripts tally) = Unit {0}
IsTestFault other = ⊥

-- why bytes were not accepted, or not decoded
abbrev pub IsBytesFault : Fault → Type 0
IsBytesFault (fault.Run why) = Unit {0}
IsBytesFault (fault.Bytes why) = Unit {0}
IsBytesFault other = ⊥

-- a run went well, but the image, for which a file was named, was not saved, or not all answers were well, which was asked for
abbrev pub IsEndFault : Given → Fault → Type 0
IsEndFault given fault.NotSaved = IsSome given.save
IsEndFault given fault.Unwell = given.strict ≡ true
IsEndFault given other = ⊥

-- the same of a script of steps, whose run has this text
abbrev pub IsEndOfRun : Outcome → Given → Fault → Table → List Numbered → List ℕ → Type 0
IsEndOfRun Leaves given fault.NotSaved t script text = IsSome given.save × (last : Table) × (unwell : ℕ) × Leaves last unwell t script text
IsEndOfRun Leaves given fault.Unwell t script text = (given.strict ≡ true) × HasUnwell Leaves t script text
IsEndOfRun Leaves given other t script text = ⊥

-- not all answers were well, which was asked for
abbrev pub IsUnwell : Given → Fault → Type 0
IsUnwell given fault.Unwell = given.strict ≡ true
IsUnwell given other = ⊥

-- what a fault of a load says, and what was then written
abbrev pub FailsLoad : Given → Loaded → Option (List ℕ) → Option (List ℕ) → Fault → Type 0
FailsLoad given what before after (fault.Image why) = IsNoFirstImage given why × Keeps before after
FailsLoad given what before after (fault.Load why) = Gains before after (IsLineFront what.pattern)
FailsLoad given what before after (fault.Run why) = LeavesLoad what.format what.pattern before after
FailsLoad given what before after (fault.Loaded tally) = (is_good tally ≡ false) × TellsRun given what tally before after
FailsLoad given what before after fault.NoStats = WritesLoad given what true before after × IsSome what.stats
FailsLoad given what before after other = ⊥

-- What a fault says, and what was then written: nothing, where nothing was played; what a run that ended with this fault left; or what a run writes that went well, but for its end.
-- Only words that ask for no command are at fault themselves.
abbrev pub FailsWith : Option (List ℕ) → Option Asked → Option (List ℕ) → Option (List ℕ) → Fault → Type 0
FailsWith told None before after why = Keeps before after
FailsWith told (Some (steps given)) before after why =
    (IsNotBegun (script_told given.script told) (steps_said given) (λ said. said) why × Keeps before after)
    ⊎ (IsRunFault why (λ cause. PlaysSteps told given (λ script said image. EndsWith (Some script) said.config image before after cause))
    ⊎ PlaysSteps told given (λ script said image. Writes (Some script) said.config image before after (IsEndOfRun IsRunTo given why)))
FailsWith told (Some (traced given objects)) before after why =
    (IsNotBegun (script_told given.script told) (steps_said given) (λ said. said) why × Keeps before after)
    ⊎ (IsRunFault why (λ cause. PlaysSteps told given (λ script said image. EndsTold (told_as objects) (Some script) said.config image before after cause))
    ⊎ PlaysSteps told given (λ script said image. Writes (Some script) said.config image before after (IsEndOfRun (IsToldTo (told_as objects)) given why)))
FailsWith told (Some (threads given what who)) before after why =
    (IsNotBegun (script_told given.script told) (jobs_said given what.submitters) (λ said. said.0) why × Keeps before after)
    ⊎ (IsRunFault why (λ cause. RunsJobs told given what.submitters (λ script said submitters image. EndsJobsWith (Some script) submitters said.config image before after cause))
    ⊎ (RunsJobs told given what.submitters (λ script said submitters image. WritesJobs (Some script) submitters said.config image before after IsUnwellText) × IsUnwell given why))
FailsWith told (Some (thread_objects given what who)) before after why =
    (IsNotBegun (script_told given.script told) (jobs_said given what.submitters) (λ said. said.0) why × Keeps before after)
    ⊎ (IsRunFault why (λ cause. Unit {0}) ⊎ IsUnwell given why)
FailsWith told (Some (load given what who)) before after why = FailsLoad given what before after why
FailsWith told (Some (check path)) before after why = IsNoSteps (script_told path told) why × Keeps before after
FailsWith told (Some (check_jobs path submitters)) before after why = IsNoJobScript (script_told path told) submitters why × Keeps before after
FailsWith told (Some (test tested)) before after why = IsTestFault why
FailsWith told (Some (shell given traces)) before after why =
    ((is_file given.script ≡ true) × IsNotBegun (script_told given.script told) (steps_said given) (λ said. said) why × Keeps before after)
    ⊎ (((is_file given.script ≡ false) × IsImageFault why (IsNoFirstImage given) × Keeps before after)
    ⊎ IsRunFault why (λ cause. Unit {0}))
FailsWith told (Some (draw given)) before after why =
    (IsNotBegun (script_told given.script told) (steps_said given) (λ said. said) why × Keeps before after) ⊎ IsRunFault why (λ cause. Unit {0})
FailsWith told (Some (explain path objects)) before after why = IsBytesFault why
FailsWith told (Some (show words objects)) before after why = IsBytesFault why
FailsWith told (Some grammar) before after why = IsRunFault why IsNoGrammar
