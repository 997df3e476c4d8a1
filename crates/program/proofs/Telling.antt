-- What is known of a run over bytes that were read is known of those that the reader had.
use Rattle.program.specs.declared.fault.Fault.TheVariants as fault
use Rattle.script_cli.specs.declared.fault.RunFault.TheVariants as run
use Rattle.script_cli.specs.declared.fault.ScriptFault.TheVariants as cause
use Rattle.std.{proofs.Common.{◌≡◌, ◌⊎◌, Bool, true, false, Option, Some, None, List, [], ℕ, refl, sym, subst, inl, inr, ◌∙◌, ap}, specs.{Io.KnownBytes.Keeps}}
use Rattle.std.specs.Prelude.{IfErr, Result, Ok, Err, IsErrAnd, OnErr, OnOk}
use Rattle.clap.specs.{Words.kind_of, declared.error.{Error.Error, kind.ErrorKind.TheVariants.OutOfMemory}}
use Rattle.command_line.specs.Asked.{Asked, check, check_jobs, draw, explain, grammar, load, shell, show, steps, test, thread_objects, threads, traced, Given}
use Rattle.program.specs.{Checking.{AreJobs, AreNoJobs, AreNoSteps, AreSteps}, Loading.LeavesLoad, Performing.{FailsWith, IsCheckFault, IsEndFault, IsEndOfRun, IsFirstImage, IsNoFirstImage, IsNotBegun, is_file, IsUnread, IsAsAsked, IsTextAsAsked, IsUnwell, IsUnwellText, jobs_said, line_said, Outcome, Performs, Plays, PlaysSteps, RunsJobs, SaysNone, script_told, steps_said, told_as}}
use Rattle.shell.specs.{Told.{EndsTold, IsFrontOfTold, IsToldTo}, declared.told.Telling.Telling}
use Rattle.program.specs.declared.fault.Fault.{Fault}
use Rattle.command_line.specs.declared.{serving.Serving.Serving, threads.Threading.Threading}
use Rattle.job_cli.proofs.JobRuns.{jobs_are_told, no_jobs_are_told}
use Rattle.job_cli.specs.{JobRuns.{EndsJobsWith, EndsSoFar, EndsUnwritten, HasJobFault, HasJobs, IsCountedText, IsCutJobsText, IsNoJobs, WritesJobs}, Jobs.jobs_of}
use Rattle.load.specs.{Lines.line_text, Tallies.no_tally}
use Rattle.job_cli.specs.declared.jobs.JobLine.{JobLine}
use Rattle.script_cli.{proofs.{Runs.{no_script_is_told, script_is_told, writes_so}, Texts.appends_none}, specs.Inputs.AreFirstOf}
use Rattle.script_cli.specs.declared.{input.ImageFault.ImageFault, workload.{OutputFormat.{OutputFormat, TheVariants.{Json, Normal}}, Pattern.Pattern}}
use Rattle.script_cli.specs.{Runs.{EndsWith, HasFault, HasScript, IsCutText, IsNoScript, IsNotOpened, IsRunText, IsRunTo, Writes}, Scripts.script_of}
use Rattle.script_cli.specs.declared.{fault.{LineFault.LineFault, RunFault.RunFault}, script.Numbered.Numbered}
use Rattle.script_cli.specs.declared.transcripts.options.{SaidOptions.SaidOptions, ScriptKind.ScriptKind}
use Rattle.host_core.specs.declared.config.Config.{Config}
use Rattle.machine_model.specs.{Script.Table, declared.words.OpenRefusal.OpenRefusal}

-- What is known where the words of a command line are at fault.

pub kept : (bytes : Option (List ℕ)) → Keeps bytes bytes
kept None = tt
kept (Some bytes) = refl

-- nothing is written of a load
nothing_left : (format : OutputFormat) (pattern : Pattern) (bytes : Option (List ℕ)) → LeavesLoad format pattern bytes bytes
nothing_left Normal pattern bytes = ([], (no_tally, (line_text pattern no_tally, refl)), appends_none bytes)
nothing_left Json pattern bytes = ([], tt, appends_none bytes)

-- lack of memory, before anything is written
wanting : (told : Option (List ℕ)) (what : Asked) (bytes : Option (List ℕ)) → FailsWith told (Some what) bytes bytes (fault.Run run.Memory)
wanting told (steps given) bytes = inl (inr refl, kept bytes)
wanting told (traced given objects) bytes = inl (inr refl, kept bytes)
wanting told (threads given what who) bytes = inl (inr refl, kept bytes)
wanting told (thread_objects given what who) bytes = inl (inr refl, kept bytes)
wanting told (load given what who) bytes = nothing_left what.format what.pattern bytes
wanting told (check path) bytes = (inl (inr refl), kept bytes)
wanting told (check_jobs path submitters) bytes = (inl (inr refl), kept bytes)
wanting told (test tested) bytes = tt
wanting told (shell given traces) bytes = inr (inr tt)
wanting told (draw given) bytes = inr tt
wanting told (explain path objects) bytes = tt
wanting told (show words objects) bytes = tt
wanting told grammar bytes = inl refl

refused : (told : Option (List ℕ)) (what : Option Asked) (bytes : Option (List ℕ)) (e : Error) (why : Fault) → (kind_of e ≡ OutOfMemory) ⊎ (what ≡ None)
    → (kind_of e ≡ OutOfMemory → why ≡ fault.Run run.Memory) → FailsWith told what bytes bytes why
refused told None bytes e why cause memory = kept bytes
refused told (Some what) bytes e why (inl wants) memory = subst (λ (f : Fault). FailsWith told (Some what) bytes bytes f) (sym (memory wants)) (wanting told what bytes)
refused told (Some what) bytes e why (inr nothing) memory = absurd (no_some what nothing)
  where
    no_some : (x : Asked) → Some x ≡ None → ⊥
    no_some x e = cc

-- where an error of the words is shown: they ask for nothing, or memory is lacking, and nothing is written
pub shown : {T U : Type 0} (told : Option (List ℕ)) (what : Option Asked) (bytes : Option (List ℕ)) (e : Error) (r : Result T U) (fault_of : U → Fault)
    → (kind_of e ≡ OutOfMemory) ⊎ (what ≡ None) → IfErr r (λ why. kind_of e ≡ OutOfMemory → fault_of why ≡ fault.Run run.Memory)
    → IfErr r (λ why. FailsWith told what bytes bytes (fault_of why))
shown told what bytes e (Ok x) fault_of cause memory = tt
shown told what bytes e (Err why) fault_of cause memory = refused told what bytes e (fault_of why) cause memory

-- What is known of a run over bytes that were read is known of those that the reader had.

-- Scripts of steps

has_told : (told : Option (List ℕ)) (text : List ℕ) (script : List Numbered) → AreFirstOf 1048576 told text → HasScript (Some text) script → HasScript told script
has_told told text script first (all, same, good) = script_is_told told text script first (ap script_of (sym same) ∙ good)

line_told : (told : Option (List ℕ)) (text : List ℕ) (number : ℕ) (why : LineFault) → AreFirstOf 1048576 told text → HasFault (Some text) (cause.Line number why) → HasFault told (cause.Line number why)
line_told told text number why first (all, same, bad) = no_script_is_told told text (cause.Line number why) first (ap script_of (sym same) ∙ bad)

long_told : (told : Option (List ℕ)) (text : List ℕ) → AreFirstOf 1048576 told text → HasFault (Some text) cause.TooLong → HasFault told cause.TooLong
long_told told text first (all, same, bad) = no_script_is_told told text cause.TooLong first (ap script_of (sym same) ∙ bad)

unopened_told : (told : Option (List ℕ)) (text : List ℕ) (config : Config) (why : OpenRefusal) → AreFirstOf 1048576 told text → IsNotOpened (Some text) config why → IsNotOpened told config why
unopened_told told text config why first (script, has, refused) = (script, has_told told text script first has, refused)

pub writes_told : (told : Option (List ℕ)) (text : List ℕ) (config : Config) (image : List ℕ) (a b : Option (List ℕ)) (Holds : Table → List Numbered → List ℕ → Type 0)
    → AreFirstOf 1048576 told text → Writes (Some text) config image a b Holds → Writes told config image a b Holds
writes_told told text config image a b Holds first (script, has, fits, gains) = (script, has_told told text script first has, fits, gains)

pub ends_told : (told : Option (List ℕ)) (text : List ℕ) (config : Config) (image : List ℕ) (a b : Option (List ℕ)) (why : RunFault)
    → AreFirstOf 1048576 told text → EndsWith (Some text) config image a b why → EndsWith told config image a b why
ends_told told text config image a b (run.Line number why) first (bad, keeps) = (line_told told text number why first bad, keeps)
ends_told told text config image a b run.TooLong first (bad, keeps) = (long_told told text first bad, keeps)
ends_told told text config image a b run.Unreadable first keeps = keeps
ends_told told text config image a b run.BadConfig first (refused, keeps) = (unopened_told told text config _ first refused, keeps)
ends_told told text config image a b (run.NoPages need free) first (refused, keeps) = (unopened_told told text config _ first refused, keeps)
ends_told told text config image a b run.NoThread first bad = absurd bad
ends_told told text config image a b (run.Close why) first bad = absurd bad
ends_told told text config image a b run.Memory first (inl keeps) = inl keeps
ends_told told text config image a b run.Memory first (inr writes) = inr (writes_told told text config image a b IsCutText first writes)
ends_told told text config image a b run.OutputFailed first writes = writes_told told text config image a b IsCutText first writes

-- Scripts of jobs

has_jobs_told : (told : Option (List ℕ)) (submitters : ℕ) (text : List ℕ) (lines : List JobLine) → AreFirstOf 1048576 told text → HasJobs (Some text) submitters lines → HasJobs told submitters lines
has_jobs_told told submitters text lines first (all, same, good) = jobs_are_told told submitters text lines first (ap (jobs_of submitters) (sym same) ∙ good)

job_line_told : (told : Option (List ℕ)) (submitters : ℕ) (text : List ℕ) (number : ℕ) (why : LineFault) → AreFirstOf 1048576 told text
    → HasJobFault (Some text) submitters (cause.Line number why) → HasJobFault told submitters (cause.Line number why)
job_line_told told submitters text number why first (all, same, bad) = no_jobs_are_told told submitters text (cause.Line number why) first (ap (jobs_of submitters) (sym same) ∙ bad)

long_jobs_told : (told : Option (List ℕ)) (submitters : ℕ) (text : List ℕ) → AreFirstOf 1048576 told text → HasJobFault (Some text) submitters cause.TooLong → HasJobFault told submitters cause.TooLong
long_jobs_told told submitters text first (all, same, bad) = no_jobs_are_told told submitters text cause.TooLong first (ap (jobs_of submitters) (sym same) ∙ bad)

unwritten_told : (told : Option (List ℕ)) (submitters : ℕ) (text : List ℕ) (config : Config) (why : Option OpenRefusal) (a b : Option (List ℕ)) → AreFirstOf 1048576 told text
    → EndsUnwritten (Some text) submitters config why a b → EndsUnwritten told submitters config why a b
unwritten_told told submitters text config why a b first (lines, has, refused, keeps) = (lines, has_jobs_told told submitters text lines first has, refused, keeps)

so_far_told : (told : Option (List ℕ)) (submitters : ℕ) (text : List ℕ) (config : Config) (image : List ℕ) (a b : Option (List ℕ)) → AreFirstOf 1048576 told text
    → EndsSoFar (Some text) submitters config image a b → EndsSoFar told submitters config image a b
so_far_told told submitters text config image a b first (lines, has, refused, gains) = (lines, has_jobs_told told submitters text lines first has, refused, gains)

pub writes_jobs_told : (told : Option (List ℕ)) (submitters : ℕ) (text : List ℕ) (config : Config) (image : List ℕ) (a b : Option (List ℕ)) (Holds : Config → List ℕ → List JobLine → List ℕ → Type 0)
    → AreFirstOf 1048576 told text → WritesJobs (Some text) submitters config image a b Holds → WritesJobs told submitters config image a b Holds
writes_jobs_told told submitters text config image a b Holds first (lines, has, gains) = (lines, has_jobs_told told submitters text lines first has, gains)

pub ends_jobs_told : (told : Option (List ℕ)) (submitters : ℕ) (text : List ℕ) (config : Config) (image : List ℕ) (a b : Option (List ℕ)) (why : RunFault)
    → AreFirstOf 1048576 told text → EndsJobsWith (Some text) submitters config image a b why → EndsJobsWith told submitters config image a b why
ends_jobs_told told submitters text config image a b (run.Line number why) first (bad, keeps) = (job_line_told told submitters text number why first bad, keeps)
ends_jobs_told told submitters text config image a b run.TooLong first (bad, keeps) = (long_jobs_told told submitters text first bad, keeps)
ends_jobs_told told submitters text config image a b run.Unreadable first keeps = keeps
ends_jobs_told told submitters text config image a b run.BadConfig first ends = unwritten_told told submitters text config _ a b first ends
ends_jobs_told told submitters text config image a b (run.NoPages need free) first ends = unwritten_told told submitters text config _ a b first ends
ends_jobs_told told submitters text config image a b run.NoThread first ends = so_far_told told submitters text config image a b first ends
ends_jobs_told told submitters text config image a b (run.Close why) first ends = so_far_told told submitters text config image a b first ends
ends_jobs_told told submitters text config image a b run.Memory first (inl keeps) = inl keeps
ends_jobs_told told submitters text config image a b run.Memory first (inr writes) = inr (writes_jobs_told told submitters text config image a b IsCutJobsText first writes)
ends_jobs_told told submitters text config image a b run.OutputFailed first writes = writes_jobs_told told submitters text config image a b IsCutJobsText first writes

-- Scripts that are checked

pub steps_told : (told : Option (List ℕ)) (text : List ℕ) → AreFirstOf 1048576 told text → AreSteps text → (script : List Numbered) × HasScript told script
steps_told told text first (script, good) = (script, script_is_told told text script first good)

pub no_steps_told : (told : Option (List ℕ)) (text : List ℕ) (why : RunFault) → AreFirstOf 1048576 told text → AreNoSteps text why → IsNoScript told why
no_steps_told told text why first (script, same, bad) = subst (λ (f : RunFault). IsNoScript told f) (sym same) (no_script_is_told told text script first bad)

pub jobs_told : (told : Option (List ℕ)) (submitters : ℕ) (text : List ℕ) → AreFirstOf 1048576 told text → AreJobs submitters text → (lines : List JobLine) × HasJobs told submitters lines
jobs_told told submitters text first (lines, good) = (lines, jobs_are_told told submitters text lines first good)

pub no_jobs_told : (told : Option (List ℕ)) (submitters : ℕ) (text : List ℕ) (why : RunFault) → AreFirstOf 1048576 told text → AreNoJobs submitters text why → IsNoJobs told submitters why
no_jobs_told told submitters text why first (script, same, bad) = subst (λ (f : RunFault). IsNoJobs told submitters f) (sym same) (no_jobs_are_told told submitters text script first bad)

-- What a script says that was read

-- a script was read that says so, and what holds of each script of which those are the first bytes holds of it
pub played : {S : Type 0} (told : Option (List ℕ)) (text : List ℕ) (said_in : List ℕ → Option S) (said : S) (Holds : List ℕ → S → Type 0)
    → AreFirstOf 1048576 told text → said_in text ≡ Some said → ((all : List ℕ) → AreFirstOf 1048576 (Some all) text → Holds all said) → Plays told said_in Holds
played {S} told text said_in said Holds (all, is, same) says holds =
    (all, is, said, subst (λ (t : List ℕ). said_in t ≡ Some said) same says, holds all (all, refl, same))

says_none : {S : Type 0} (told : Option (List ℕ)) (text : List ℕ) (said_in : List ℕ → Option S) → AreFirstOf 1048576 told text → said_in text ≡ None → SaysNone told said_in
says_none {S} told text said_in (all, is, same) none = (all, is, subst (λ (t : List ℕ). said_in t ≡ None) same none)

-- Why nothing was played, by the faults that `?` makes

pub unread : {S T U : Type 0} (r : Result T U) (fault_of : U → Fault) (told : Option (List ℕ)) (said_in : List ℕ → Option S) (given_in : S → Given) (why : RunFault)
    → IsErrAnd r (λ x. fault_of x ≡ fault.Run why) → IsUnread why → IfErr r (λ x. IsNotBegun told said_in given_in (fault_of x))
unread {S} (Ok x) fault_of told said_in given_in why same is = tt
unread {S} (Err x) fault_of told said_in given_in why same is = subst (λ (f : Fault). IsNotBegun told said_in given_in f) (sym same) is

pub unsaid : {S T U : Type 0} (r : Result T U) (fault_of : U → Fault) (told : Option (List ℕ)) (text : List ℕ) (said_in : List ℕ → Option S) (given_in : S → Given) (e : U)
    → IsErrAnd r (λ x. x ≡ e) → fault_of e ≡ fault.BadOptions → AreFirstOf 1048576 told text → said_in text ≡ None → IfErr r (λ x. IsNotBegun told said_in given_in (fault_of x))
unsaid {S} (Ok x) fault_of told text said_in given_in e same bad first none = tt
unsaid {S} (Err x) fault_of told text said_in given_in e same bad first none =
    subst (λ (f : Fault). IsNotBegun told said_in given_in f) (sym (ap fault_of same ∙ bad)) (says_none told text said_in first none)

pub no_image : {S T U : Type 0} (r : Result T U) (fault_of : U → Fault) (told : Option (List ℕ)) (text : List ℕ) (said_in : List ℕ → Option S) (given_in : S → Given) (said : S) (why : ImageFault)
    → IsErrAnd r (λ x. fault_of x ≡ fault.Image why) → AreFirstOf 1048576 told text → said_in text ≡ Some said → IsNoFirstImage (given_in said) why
    → IfErr r (λ x. IsNotBegun told said_in given_in (fault_of x))
no_image {S} (Ok x) fault_of told text said_in given_in said why same first says none = tt
no_image {S} (Err x) fault_of told text said_in given_in said why same first says none =
    subst (λ (f : Fault). IsNotBegun told said_in given_in f) (sym same)
    (played told text said_in said (λ script s. IsNoFirstImage (given_in s) why) first says (λ all read. none))

-- A script of steps

-- it is played, and what holds of each script of which those are the first bytes holds of it
steps_played : (told : Option (List ℕ)) (given said : Given) (text image : List ℕ) (Holds : List ℕ → Given → List ℕ → Type 0)
    → AreFirstOf 1048576 (script_told given.script told) text → steps_said given text ≡ Some said → IsFirstImage said image
    → ((all : List ℕ) → AreFirstOf 1048576 (Some all) text → Holds all said image) → PlaysSteps told given Holds
steps_played told given said text image Holds first says is holds =
    played (script_told given.script told) text (steps_said given) said (λ script s. (im : List ℕ) × IsFirstImage s im × Holds script s im) first says (λ all read. (image, is, holds all read))

-- of whichever text that goes with what a run leaves
ran_so : (Leaves : Outcome) (told : Option (List ℕ)) (given said : Given) (text image : List ℕ) (a b : Option (List ℕ)) (last : Table) (unwell : ℕ)
    → AreFirstOf 1048576 (script_told given.script told) text → steps_said given text ≡ Some said → IsFirstImage said image
    → Writes (Some text) said.config image a b (Leaves last unwell) → (given.strict ≡ true → unwell ≡ 0)
    → PlaysSteps told given (λ script s im. Writes (Some script) s.config im a b (IsAsAsked Leaves given.strict))
ran_so Leaves told given said text image a b last unwell first says is writes well =
    steps_played told given said text image (λ script s im. Writes (Some script) s.config im a b (IsAsAsked Leaves given.strict)) first says is
    (λ all read. writes_so (Some all) said.config image a b (Leaves last unwell) (IsAsAsked Leaves given.strict) (λ t script words ran. (last, unwell, ran, well))
    (writes_told (Some all) text said.config image a b (Leaves last unwell) read writes))

pub steps_ran : {T U : Type 0} (r : Result T U) (told : Option (List ℕ)) (given said : Given) (text image : List ℕ) (a b : Option (List ℕ)) (last : Table) (unwell : ℕ)
    → AreFirstOf 1048576 (script_told given.script told) text → steps_said given text ≡ Some said → IsFirstImage said image
    → Writes (Some text) said.config image a b (IsRunTo last unwell) → OnOk r (given.strict ≡ true → unwell ≡ 0) → OnOk r (Performs told (Some (steps given)) a b)
steps_ran (Ok done) told given said text image a b last unwell first says is writes well = ran_so IsRunTo told given said text image a b last unwell first says is writes well
steps_ran (Err x) told given said text image a b last unwell first says is writes well = tt

pub steps_ended : (told : Option (List ℕ)) (given said : Given) (text image : List ℕ) (a b : Option (List ℕ)) (why : RunFault) (f : Fault)
    → f ≡ fault.Run why → AreFirstOf 1048576 (script_told given.script told) text → steps_said given text ≡ Some said → IsFirstImage said image
    → EndsWith (Some text) said.config image a b why → FailsWith told (Some (steps given)) a b f
steps_ended told given said text image a b why f same first says is ends =
    subst (λ (g : Fault). FailsWith told (Some (steps given)) a b g) (sym same)
    (inr (inl (steps_played told given said text image (λ script s im. EndsWith (Some script) s.config im a b why) first says is
    (λ all read. ends_told (Some all) text said.config image a b why read ends))))

-- a fault at the end of a run that went well
end_so : (Leaves : Outcome) (why : Fault) (told : Option (List ℕ)) (given said : Given) (text image : List ℕ) (a b : Option (List ℕ)) (last : Table) (unwell : ℕ)
    → AreFirstOf 1048576 (script_told given.script told) text → steps_said given text ≡ Some said → IsFirstImage said image
    → Writes (Some text) said.config image a b (Leaves last unwell) → IsEndFault given why → (why ≡ fault.Unwell → unwell ≡ 0 → ⊥)
    → PlaysSteps told given (λ script s im. Writes (Some script) s.config im a b (IsEndOfRun Leaves given why))
end_so Leaves why told given said text image a b last unwell first says is writes end some =
    steps_played told given said text image (λ script s im. Writes (Some script) s.config im a b (IsEndOfRun Leaves given why)) first says is
    (λ all read. writes_so (Some all) said.config image a b (Leaves last unwell) (IsEndOfRun Leaves given why) (λ t script words ran. ended why t script words ran end some)
    (writes_told (Some all) text said.config image a b (Leaves last unwell) read writes))
  where
    ended : (why : Fault) (t : Table) (script : List Numbered) (words : List ℕ) → Leaves last unwell t script words → IsEndFault given why → (why ≡ fault.Unwell → unwell ≡ 0 → ⊥)
        → IsEndOfRun Leaves given why t script words
    ended fault.NotSaved t script words ran end some = (end, last, unwell, ran)
    ended fault.Unwell t script words ran end some = (end, (last, unwell, ran, some refl))
    ended why t script words ran end some = absurd end

pub steps_end : {T U : Type 0} (r : Result T U) (fault_of : U → Fault) (told : Option (List ℕ)) (given said : Given) (text image : List ℕ) (a b : Option (List ℕ)) (last : Table) (unwell : ℕ)
    → AreFirstOf 1048576 (script_told given.script told) text → steps_said given text ≡ Some said → IsFirstImage said image
    → Writes (Some text) said.config image a b (IsRunTo last unwell) → IfErr r (λ x. IsEndFault given (fault_of x)) → IfErr r (λ x. fault_of x ≡ fault.Unwell → unwell ≡ 0 → ⊥)
    → IfErr r (λ x. FailsWith told (Some (steps given)) a b (fault_of x))
steps_end (Ok done) fault_of told given said text image a b last unwell first says is writes end some = tt
steps_end (Err x) fault_of told given said text image a b last unwell first says is writes end some =
    inr (inr (end_so IsRunTo (fault_of x) told given said text image a b last unwell first says is writes end some))

-- A script of steps of which more is told, or in another form

pub trace_ran : {T U : Type 0} (r : Result T U) (told : Option (List ℕ)) (given said : Given) (objects : Bool) (text image : List ℕ) (a b : Option (List ℕ)) (last : Table) (unwell : ℕ)
    → AreFirstOf 1048576 (script_told given.script told) text → steps_said given text ≡ Some said → IsFirstImage said image
    → Writes (Some text) said.config image a b (IsToldTo (told_as objects) last unwell) → OnOk r (given.strict ≡ true → unwell ≡ 0) → OnOk r (Performs told (Some (traced given objects)) a b)
trace_ran (Ok done) told given said objects text image a b last unwell first says is writes well =
    ran_so (IsToldTo (told_as objects)) told given said text image a b last unwell first says is writes well
trace_ran (Err x) told given said objects text image a b last unwell first says is writes well = tt

cut_told : (telling : Telling) (told : Option (List ℕ)) (text : List ℕ) (config : Config) (image : List ℕ) (a b : Option (List ℕ)) (why : RunFault)
    → AreFirstOf 1048576 told text → EndsTold telling (Some text) config image a b why → EndsTold telling told config image a b why
cut_told telling told text config image a b (run.Line number why) first (bad, keeps) = (line_told told text number why first bad, keeps)
cut_told telling told text config image a b run.TooLong first (bad, keeps) = (long_told told text first bad, keeps)
cut_told telling told text config image a b run.Unreadable first bad = absurd bad
cut_told telling told text config image a b run.BadConfig first (refused, keeps) = (unopened_told told text config _ first refused, keeps)
cut_told telling told text config image a b (run.NoPages need free) first (refused, keeps) = (unopened_told told text config _ first refused, keeps)
cut_told telling told text config image a b run.NoThread first bad = absurd bad
cut_told telling told text config image a b (run.Close why) first bad = absurd bad
cut_told telling told text config image a b run.Memory first (inl keeps) = inl keeps
cut_told telling told text config image a b run.Memory first (inr writes) = inr (writes_told told text config image a b (IsFrontOfTold telling) first writes)
cut_told telling told text config image a b run.OutputFailed first writes = writes_told told text config image a b (IsFrontOfTold telling) first writes

pub trace_ended : (told : Option (List ℕ)) (given said : Given) (objects : Bool) (text image : List ℕ) (a b : Option (List ℕ)) (why : RunFault) (f : Fault)
    → f ≡ fault.Run why → AreFirstOf 1048576 (script_told given.script told) text → steps_said given text ≡ Some said → IsFirstImage said image
    → EndsTold (told_as objects) (Some text) said.config image a b why → FailsWith told (Some (traced given objects)) a b f
trace_ended told given said objects text image a b why f same first says is ends =
    subst (λ (g : Fault). FailsWith told (Some (traced given objects)) a b g) (sym same)
    (inr (inl (steps_played told given said text image (λ script s im. EndsTold (told_as objects) (Some script) s.config im a b why) first says is
    (λ all read. cut_told (told_as objects) (Some all) text said.config image a b why read ends))))

pub trace_end : {T U : Type 0} (r : Result T U) (fault_of : U → Fault) (told : Option (List ℕ)) (given said : Given) (objects : Bool) (text image : List ℕ) (a b : Option (List ℕ)) (last : Table) (unwell : ℕ)
    → AreFirstOf 1048576 (script_told given.script told) text → steps_said given text ≡ Some said → IsFirstImage said image
    → Writes (Some text) said.config image a b (IsToldTo (told_as objects) last unwell) → IfErr r (λ x. IsEndFault given (fault_of x)) → IfErr r (λ x. fault_of x ≡ fault.Unwell → unwell ≡ 0 → ⊥)
    → IfErr r (λ x. FailsWith told (Some (traced given objects)) a b (fault_of x))
trace_end (Ok done) fault_of told given said objects text image a b last unwell first says is writes end some = tt
trace_end (Err x) fault_of told given said objects text image a b last unwell first says is writes end some =
    inr (inr (end_so (IsToldTo (told_as objects)) (fault_of x) told given said text image a b last unwell first says is writes end some))

-- Scripts that are checked, by the faults that `?` makes

pub unread_check : {T U : Type 0} (r : Result T U) (fault_of : U → Fault) (told : Option (List ℕ)) (kind : ScriptKind) (Holds : List ℕ → SaidOptions → RunFault → Type 0) (why : RunFault)
    → IsErrAnd r (λ x. fault_of x ≡ fault.Run why) → IsUnread why → IfErr r (λ x. IsCheckFault told kind Holds (fault_of x))
unread_check (Ok x) fault_of told kind Holds why same is = tt
unread_check (Err x) fault_of told kind Holds why same is = subst (λ (f : Fault). IsCheckFault told kind Holds f) (sym same) (inl is)

pub unsaid_check : {T U : Type 0} (r : Result T U) (fault_of : U → Fault) (told : Option (List ℕ)) (text : List ℕ) (kind : ScriptKind) (Holds : List ℕ → SaidOptions → RunFault → Type 0) (e : U)
    → IsErrAnd r (λ x. x ≡ e) → fault_of e ≡ fault.BadOptions → AreFirstOf 1048576 told text → line_said kind text ≡ None → IfErr r (λ x. IsCheckFault told kind Holds (fault_of x))
unsaid_check (Ok x) fault_of told text kind Holds e same bad first none = tt
unsaid_check (Err x) fault_of told text kind Holds e same bad first none =
    subst (λ (f : Fault). IsCheckFault told kind Holds f) (sym (ap fault_of same ∙ bad)) (says_none told text (line_said kind) first none)

pub bad_check : {T U : Type 0} (r : Result T U) (fault_of : U → Fault) (told : Option (List ℕ)) (text : List ℕ) (kind : ScriptKind) (Holds : List ℕ → SaidOptions → RunFault → Type 0)
    (said : SaidOptions) (why : RunFault) → IsErrAnd r (λ x. fault_of x ≡ fault.Run why) → AreFirstOf 1048576 told text → line_said kind text ≡ Some said
    → ((all : List ℕ) → AreFirstOf 1048576 (Some all) text → Holds all said why) → IfErr r (λ x. IsCheckFault told kind Holds (fault_of x))
bad_check (Ok x) fault_of told text kind Holds said why same first says bad = tt
bad_check (Err x) fault_of told text kind Holds said why same first says bad =
    subst (λ (f : Fault). IsCheckFault told kind Holds f) (sym same) (inr (played told text (line_said kind) said (λ script s. Holds script s why) first says bad))

-- A script of jobs

jobs_played : (told : Option (List ℕ)) (given said : Given) (submitters n : ℕ) (text image : List ℕ) (Holds : List ℕ → Given → ℕ → List ℕ → Type 0)
    → AreFirstOf 1048576 (script_told given.script told) text → jobs_said given submitters text ≡ Some (said, n) → IsFirstImage said image
    → ((all : List ℕ) → AreFirstOf 1048576 (Some all) text → Holds all said n image) → RunsJobs told given submitters Holds
jobs_played told given said submitters n text image Holds first says is holds =
    played (script_told given.script told) text (jobs_said given submitters) (said, n) (λ script s. (im : List ℕ) × IsFirstImage s.0 im × Holds script s.0 s.1 im) first says (λ all read. (image, is, holds all read))

-- what is written of jobs is so
held : (told : Option (List ℕ)) (n : ℕ) (config : Config) (image : List ℕ) (a b : Option (List ℕ)) (P Q : Config → List ℕ → List JobLine → List ℕ → Type 0)
    → ((lines : List JobLine) (text : List ℕ) → P config image lines text → Q config image lines text) → WritesJobs told n config image a b P → WritesJobs told n config image a b Q
held told n config image a b P Q is (lines, has, (text, holds, written)) = (lines, has, (text, is lines text holds, written))

pub jobs_ran : {T U : Type 0} (r : Result T U) (told : Option (List ℕ)) (given said : Given) (what : Threading) (who : Serving) (n : ℕ) (text image : List ℕ) (a b : Option (List ℕ)) (unwell : ℕ)
    → AreFirstOf 1048576 (script_told given.script told) text → jobs_said given what.submitters text ≡ Some (said, n) → IsFirstImage said image
    → WritesJobs (Some text) n said.config image a b (IsCountedText unwell) → OnOk r (given.strict ≡ true → unwell ≡ 0) → OnOk r (Performs told (Some (threads given what who)) a b)
jobs_ran (Ok done) told given said what who n text image a b unwell first says is writes well =
    jobs_played told given said what.submitters n text image (λ script s m im. WritesJobs (Some script) m s.config im a b (IsTextAsAsked given.strict)) first says is
    (λ all read. held (Some all) n said.config image a b (IsCountedText unwell) (IsTextAsAsked given.strict) (λ lines t counted. (unwell, counted, well))
    (writes_jobs_told (Some all) n text said.config image a b (IsCountedText unwell) read writes))
jobs_ran (Err x) told given said what who n text image a b unwell first says is writes well = tt

pub jobs_ended : (told : Option (List ℕ)) (given said : Given) (what : Threading) (who : Serving) (n : ℕ) (text image : List ℕ) (a b : Option (List ℕ)) (why : RunFault) (f : Fault)
    → f ≡ fault.Run why → AreFirstOf 1048576 (script_told given.script told) text → jobs_said given what.submitters text ≡ Some (said, n) → IsFirstImage said image
    → EndsJobsWith (Some text) n said.config image a b why → FailsWith told (Some (threads given what who)) a b f
jobs_ended told given said what who n text image a b why f same first says is ends =
    subst (λ (g : Fault). FailsWith told (Some (threads given what who)) a b g) (sym same)
    (inr (inl (jobs_played told given said what.submitters n text image (λ script s m im. EndsJobsWith (Some script) m s.config im a b why) first says is
    (λ all read. ends_jobs_told (Some all) n text said.config image a b why read ends))))

-- a fault at the end of a run that went well
pub jobs_end : {T U : Type 0} (r : Result T U) (fault_of : U → Fault) (told : Option (List ℕ)) (given said : Given) (what : Threading) (who : Serving) (n : ℕ) (text image : List ℕ) (a b : Option (List ℕ)) (unwell : ℕ)
    → AreFirstOf 1048576 (script_told given.script told) text → jobs_said given what.submitters text ≡ Some (said, n) → IsFirstImage said image
    → WritesJobs (Some text) n said.config image a b (IsCountedText unwell) → OnErr r (unwell ≡ 0 → ⊥) → IfErr r (λ x. IsUnwell given (fault_of x))
    → IfErr r (λ x. FailsWith told (Some (threads given what who)) a b (fault_of x))
jobs_end (Ok done) fault_of told given said what who n text image a b unwell first says is writes some end = tt
jobs_end (Err x) fault_of told given said what who n text image a b unwell first says is writes some end =
    inr (inr (
      jobs_played told given said what.submitters n text image (λ script s m im. WritesJobs (Some script) m s.config im a b IsUnwellText) first says is
          (λ all read. held (Some all) n said.config image a b (IsCountedText unwell) IsUnwellText (λ lines t counted. (unwell, counted, some))
          (writes_jobs_told (Some all) n text said.config image a b (IsCountedText unwell) read writes)),
      end,
    ))

-- jobs told as objects: a fault of the run, and one at its end
pub objects_failed : (told : Option (List ℕ)) (given : Given) (what : Threading) (who : Serving) (a b : Option (List ℕ)) (why : RunFault) (f : Fault)
    → f ≡ fault.Run why → FailsWith told (Some (thread_objects given what who)) a b f
objects_failed told given what who a b why f same = subst (λ (g : Fault). FailsWith told (Some (thread_objects given what who)) a b g) (sym same) (inr (inl tt))

pub objects_end : {T U : Type 0} (r : Result T U) (fault_of : U → Fault) (told : Option (List ℕ)) (given : Given) (what : Threading) (who : Serving) (a b : Option (List ℕ))
    → IfErr r (λ x. IsUnwell given (fault_of x)) → IfErr r (λ x. FailsWith told (Some (thread_objects given what who)) a b (fault_of x))
objects_end (Ok done) fault_of told given what who a b end = tt
objects_end (Err x) fault_of told given what who a b end = inr (inr end)

-- Runs of which nothing more is said

-- a session: why it was not begun, and a fault of its run
pub shell_unbegun : {T U : Type 0} (r : Result T U) (fault_of : U → Fault) (told : Option (List ℕ)) (given : Given) (traces : Bool) (a : Option (List ℕ)) (why : ImageFault)
    → IsErrAnd r (λ x. fault_of x ≡ fault.Image why) → is_file given.script ≡ false → IsNoFirstImage given why → IfErr r (λ x. FailsWith told (Some (shell given traces)) a a (fault_of x))
shell_unbegun (Ok x) fault_of told given traces a why same file none = tt
shell_unbegun (Err x) fault_of told given traces a why same file none =
    subst (λ (f : Fault). FailsWith told (Some (shell given traces)) a a f) (sym same) (inr (inl (file, none, kept a)))

pub shell_failed : (told : Option (List ℕ)) (given : Given) (traces : Bool) (a b : Option (List ℕ)) (why : RunFault) (f : Fault) → f ≡ fault.Run why → FailsWith told (Some (shell given traces)) a b f
shell_failed told given traces a b why f same = subst (λ (g : Fault). FailsWith told (Some (shell given traces)) a b g) (sym same) (inr (inr tt))

-- a picture: a fault of its run
pub draw_failed : (told : Option (List ℕ)) (given : Given) (a b : Option (List ℕ)) (why : RunFault) (f : Fault) → f ≡ fault.Run why → FailsWith told (Some (draw given)) a b f
draw_failed told given a b why f same = subst (λ (g : Fault). FailsWith told (Some (draw given)) a b g) (sym same) (inr tt)
