-- What a run of a script prints, and how it may end.
use Rattle.std.specs.{Io.KnownBytes.Keeps, List.{AllByRecursion, Contains}, Prelude.{◌≡◌, ◌⊎◌, ◌+◌, ℕ, Option, Some, None, Ok, Err, List, [], ◌∷◌, ◌++◌, length, min, if◌then◌else◌}}
use Rattle.machine_model.specs.{Claims.{claims_of, counts_of}, Script.{Table, table}, State.State, declared.words.OpenRefusal.OpenRefusal}
use Rattle.page_ledger.specs.{Owners.owner_at, declared.owner.Owner.Owner}
use Rattle.script_cli.specs.{Inputs.{IsTold, Gains, IsFront}, Owners.{owners_text, counts_line}, Replies.{is_well, reply_line}, Scripts.script_of, Verbs.verb_of}
use Rattle.script_cli.specs.declared.{fault.{RunFault.RunFault, ScriptFault.ScriptFault}, script.{Line.Line, Numbered.Numbered}}
use Rattle.step_core.specs.{Bench.Does, Going.IsFitStep, Opening.opening_of, Values.{Step, Reply}}
use Rattle.host_core.specs.{Opening.refusal_of_config, declared.config.Config.Config}
use Rattle.machine_model.specs.declared.words.OpenRefusal.TheVariants as opening
use Rattle.script_cli.specs.declared.fault.RunFault.TheVariants as run
use Rattle.script_cli.specs.declared.fault.ScriptFault.TheVariants as fault
use Rattle.script_cli.specs.declared.script.Line.TheVariants as line

-- Lines whose numbers fit, a request's and the 16 bytes of an entry, as those of each script without faults do

abbrev pub IsFitLine : Line → Type 0
IsFitLine (line.Step what) = IsFitStep what
IsFitLine line.Owners = Unit {0}
IsFitLine line.Nothing = Unit {0}

abbrev pub AreFitLines : List Numbered → Type 0
AreFitLines script = AllByRecursion (λ numbered. IsFitLine numbered.line) script

-- What is printed

-- the owners of the first pages, in the pages' order: each page is in a claim of its owner
abbrev pub AreFirstOwners : State → List Owner → Type 0
AreFirstOwners s owners = (p : ℕ) (owner : Owner) → owner_at owners p ≡ Some owner → Contains (claims_of s.host) (p, owner)

-- the same of all pages
pub record AreOwners (s : State) (owners : List Owner) : Type 0 where
  pub all : length owners ≡ length s.memory
  pub claim : AreFirstOwners s owners

-- what a step answers, its line, and what it leaves
abbrev pub PrintsAnswer : Table → ℕ → Step → Reply → List ℕ → Table → Type 0
PrintsAnswer t number what answer text new = Does t what answer new × (text ≡ reply_line number (verb_of what) answer)

-- one answer that is not well, or none
abbrev pub unwell_by : Reply → ℕ
unwell_by answer = if is_well answer then 0 else 1

-- what a line of a script prints, how many of its answers are not well, and what it leaves
abbrev pub PrintsLine : Table → ℕ → Line → List ℕ → ℕ → Table → Type 0
PrintsLine t number (line.Step what) text unwell new = (answer : Reply) × Does t what answer new × (text ≡ reply_line number (verb_of what) answer) × (unwell ≡ unwell_by answer)
PrintsLine t number line.Owners text unwell new = (owners : List Owner) × AreOwners t.world owners × (text ≡ owners_text owners) × (unwell ≡ 0) × (new ≡ t)
PrintsLine t number line.Nothing text unwell new = (text ≡ []) × (unwell ≡ 0) × (new ≡ t)

-- the same of lines, each over what the one before left
abbrev pub Prints : Table → List Numbered → List ℕ → ℕ → Table → Type 0
Prints t [] text unwell new = (text ≡ []) × (unwell ≡ 0) × (new ≡ t)
Prints t (first ∷ rest) text unwell new =
    (mid : Table) × (said : List ℕ) × (others : List ℕ) × (here : ℕ) × (later : ℕ)
    × PrintsLine t first.number first.line said here mid × Prints mid rest others later new × (text ≡ said ++ others) × (unwell ≡ here + later)

-- the counts of a table, where no line is left
abbrev pub last_line : List Numbered → Table → List ℕ
last_line [] t = counts_line (counts_of t.world.host)
last_line (next ∷ rest) t = []

-- the text of a run of a script: what its lines print, and then the counts
abbrev pub IsRunText : Table → List Numbered → List ℕ → Type 0
IsRunText t script text = (last : Table) × (said : List ℕ) × (unwell : ℕ) × Prints t script said unwell last × (text ≡ said ++ last_line [] last)

-- the same of a run that leaves this table and has this many answers, as far as 64 bits count, that are not well
abbrev pub IsRunTo : Table → ℕ → Table → List Numbered → List ℕ → Type 0
IsRunTo last counted t script text =
    (said : List ℕ) × (unwell : ℕ) × Prints t script said unwell last × (text ≡ said ++ last_line [] last) × (counted ≡ min unwell 18446744073709551615)

-- what is written where a run was cut off, told by the lines that were done: a prefix of what these print, with the counts where they are all
abbrev pub IsFrontOfFirst : Table → List Numbered → List ℕ → Type 0
IsFrontOfFirst t script text =
    (done : List Numbered) × (left : List Numbered) × (last : Table) × (said : List ℕ) × (unwell : ℕ)
    × (script ≡ done ++ left) × Prints t done said unwell last × IsFront text (said ++ last_line left last)

-- what was written of a run that was cut off: a prefix of the text of a run of the whole script
abbrev pub IsCutText : Table → List Numbered → List ℕ → Type 0
IsCutText t script text = (whole : List ℕ) × IsRunText t script whole × IsFront text whole

-- How a run ends

-- a reader has a script without faults, of which these are the lines that do something
abbrev pub HasScript : Option (List ℕ) → List Numbered → Type 0
HasScript told script = (text : List ℕ) × IsTold told text × (script_of text ≡ Ok script)

-- a reader has a script whose first fault this is
abbrev pub HasFault : Option (List ℕ) → ScriptFault → Type 0
HasFault told why = (text : List ℕ) × IsTold told text × (script_of text ≡ Err why)

-- why no script was read, and why no world was opened
abbrev pub IsNoScript : Option (List ℕ) → RunFault → Type 0
IsNoScript told (run.Line number why) = HasFault told (fault.Line number why)
IsNoScript told run.TooLong = HasFault told fault.TooLong
IsNoScript told run.Unreadable = Unit {0}
IsNoScript told run.Memory = Unit {0}
IsNoScript told other = ⊥

abbrev pub IsNoOpening : Config → RunFault → Type 0
IsNoOpening config run.BadConfig = refusal_of_config config ≡ Some opening.BadConfig
IsNoOpening config (run.NoPages need free) = refusal_of_config config ≡ Some (opening.NoPages need free)
IsNoOpening config run.Memory = Unit {0}
IsNoOpening config other = ⊥

-- a reader has a script without faults, and the configuration opens no world
abbrev pub IsNotOpened : Option (List ℕ) → Config → OpenRefusal → Type 0
IsNotOpened told config why = (script : List Numbered) × HasScript told script × (refusal_of_config config ≡ Some why)

-- a reader has a script without faults, the world opens, and a text that meets a condition is written
abbrev pub Writes : Option (List ℕ) → Config → List ℕ → Option (List ℕ) → Option (List ℕ) → (Table → List Numbered → List ℕ → Type 0) → Type 0
Writes told config image before after Holds =
    (script : List Numbered) × HasScript told script × (refusal_of_config config ≡ None) × Gains before after (Holds (table (opening_of config image)) script)

-- what a fault of a run says, and what was then written
abbrev pub EndsWith : Option (List ℕ) → Config → List ℕ → Option (List ℕ) → Option (List ℕ) → RunFault → Type 0
EndsWith told config image before after (run.Line number why) = HasFault told (fault.Line number why) × Keeps before after
EndsWith told config image before after run.TooLong = HasFault told fault.TooLong × Keeps before after
EndsWith told config image before after run.Unreadable = Keeps before after
EndsWith told config image before after run.BadConfig = IsNotOpened told config opening.BadConfig × Keeps before after
EndsWith told config image before after (run.NoPages need free) = IsNotOpened told config (opening.NoPages need free) × Keeps before after
EndsWith told config image before after run.NoThread = ⊥
EndsWith told config image before after (run.Close why) = ⊥
EndsWith told config image before after run.Memory = Keeps before after ⊎ Writes told config image before after IsCutText
EndsWith told config image before after run.OutputFailed = Writes told config image before after IsCutText
