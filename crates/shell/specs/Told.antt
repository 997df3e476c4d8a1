-- What is written of a script that is played with more told of each step than its answer, or in another form.
use Rattle.std.specs.{Io.KnownBytes.Keeps, Prelude.{◌≡◌, ◌⊎◌, ◌+◌, ℕ, Option, List, [], ◌∷◌, ◌++◌, min}}
use Rattle.host_core.specs.declared.config.Config.{Config}
use Rattle.machine_model.specs.{Claims.counts_of, Script.Table}
use Rattle.page_ledger.specs.declared.owner.{Counts.Counts, Owner.Owner}
use Rattle.script_cli.specs.{Inputs.IsFront, Owners.{counts_line, owners_text}, Replies.reply_line, Runs.{AreOwners, HasFault, IsNotOpened, unwell_by, Writes}, Verbs.verb_of}
use Rattle.script_cli.specs.declared.{fault.RunFault.RunFault, script.{Line.Line, Numbered.Numbered}, verb.Verb.Verb}
use Rattle.step_core.specs.{Bench.Does, Values.{Reply, Step}}
use Rattle.texts.specs.{Objects.line_of, PageObjects.{counts_object, owners_object}, ReplyObjects.PutsReply}
use Rattle.shell.specs.declared.told.Telling.{Telling, TheVariants.{Objects, Traces}}
use Rattle.machine_model.specs.declared.words.OpenRefusal.TheVariants as opening
use Rattle.script_cli.specs.declared.fault.RunFault.TheVariants as run
use Rattle.script_cli.specs.declared.fault.ScriptFault.TheVariants as fault
use Rattle.script_cli.specs.declared.script.Line.TheVariants as line

-- what is told of an answer: its line, as `steps` prints it, and below it possibly more; or its object
abbrev pub TellsReply : Telling → ℕ → Verb → Reply → List ℕ → Type 0
TellsReply Traces number verb answer text = IsFront (reply_line number verb answer) text
TellsReply Objects number verb answer text = PutsReply number verb answer [] text

-- what is told of the owners of all pages: the lines that `steps` prints; or one object
abbrev pub TellsOwners : Telling → ℕ → List Owner → List ℕ → Type 0
TellsOwners Traces number owners text = text ≡ owners_text owners
TellsOwners Objects number owners text = text ≡ line_of (owners_object number owners)

-- what is told of the counts at the end
abbrev pub TellsCounts : Telling → Counts → List ℕ → Type 0
TellsCounts Traces counts text = text ≡ counts_line counts
TellsCounts Objects counts text = text ≡ line_of (counts_object counts)

-- what is told of a step and its answer, and what it leaves
abbrev pub TellsAnswer : Telling → Table → ℕ → Step → Reply → List ℕ → Table → Type 0
TellsAnswer telling t number what answer text new = Does t what answer new × TellsReply telling number (verb_of what) answer text

-- what is told of a line of a script, how many of its answers are not well, and what it leaves
abbrev pub TellsLine : Telling → Table → ℕ → Line → List ℕ → ℕ → Table → Type 0
TellsLine telling t number (line.Step what) text unwell new =
    (answer : Reply) × Does t what answer new × TellsReply telling number (verb_of what) answer text × (unwell ≡ unwell_by answer)
TellsLine telling t number line.Owners text unwell new =
    (owners : List Owner) × AreOwners t.world owners × TellsOwners telling number owners text × (unwell ≡ 0) × (new ≡ t)
TellsLine telling t number line.Nothing text unwell new = (text ≡ []) × (unwell ≡ 0) × (new ≡ t)

-- the same of lines, each over what the one before left
abbrev pub Told : Telling → Table → List Numbered → List ℕ → ℕ → Table → Type 0
Told telling t [] text unwell new = (text ≡ []) × (unwell ≡ 0) × (new ≡ t)
Told telling t (first ∷ rest) text unwell new =
    (mid : Table) × (here : List ℕ) × (others : List ℕ) × (now : ℕ) × (later : ℕ)
    × TellsLine telling t first.number first.line here now mid × Told telling mid rest others later new × (text ≡ here ++ others) × (unwell ≡ now + later)

-- A SCRIPT IS PLAYED to its end: what is told of its lines, and then of the counts; the table that is left, and how many answers, as far as 64 bits count, are
-- not well.
abbrev pub IsToldTo : Telling → Table → ℕ → Table → List Numbered → List ℕ → Type 0
IsToldTo telling last counted t script text =
    (told : List ℕ) × (end : List ℕ) × (unwell : ℕ)
    × Told telling t script told unwell last × TellsCounts telling (counts_of last.world.host) end × (text ≡ told ++ end) × (counted ≡ min unwell 18446744073709551615)

-- what is told at the end, where no line is left
abbrev pub Ends : Telling → List Numbered → Table → List ℕ → Type 0
Ends telling [] last end = TellsCounts telling (counts_of last.world.host) end
Ends telling (next ∷ rest) last end = end ≡ []

-- what is written where a run was cut off, told by the lines that were done: a prefix of what is told of these, with the counts where they are all
abbrev pub IsFrontOfTold : Telling → Table → List Numbered → List ℕ → Type 0
IsFrontOfTold telling t script text =
    (done : List Numbered) × (left : List Numbered) × (last : Table) × (told : List ℕ) × (end : List ℕ) × (unwell : ℕ)
    × (script ≡ done ++ left) × Told telling t done told unwell last × Ends telling left last end × IsFront text (told ++ end)

-- what a fault says, and what was then written
abbrev pub EndsTold : Telling → Option (List ℕ) → Config → List ℕ → Option (List ℕ) → Option (List ℕ) → RunFault → Type 0
EndsTold telling told config image before after (run.Line number why) = HasFault told (fault.Line number why) × Keeps before after
EndsTold telling told config image before after run.TooLong = HasFault told fault.TooLong × Keeps before after
EndsTold telling told config image before after run.Unreadable = ⊥
EndsTold telling told config image before after run.BadConfig = IsNotOpened told config opening.BadConfig × Keeps before after
EndsTold telling told config image before after (run.NoPages need free) = IsNotOpened told config (opening.NoPages need free) × Keeps before after
EndsTold telling told config image before after run.NoThread = ⊥
EndsTold telling told config image before after (run.Close why) = ⊥
EndsTold telling told config image before after run.Memory = Keeps before after ⊎ Writes told config image before after (IsFrontOfTold telling)
EndsTold telling told config image before after run.OutputFailed = Writes told config image before after (IsFrontOfTold telling)
