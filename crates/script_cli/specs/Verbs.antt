-- The verbs, their words, and the steps of those that are told a queue or a command alone.
use Rattle.std.specs.{Prelude.{ℕ, Option, Some, None, List, [], ◌∷◌, codes, if◌then◌else◌}, Str.bytes_eq}
use Rattle.script_cli.specs.declared.verb.{CommandVerb.CommandVerb, QueueVerb.QueueVerb, Verb.Verb}
use Rattle.script_cli.specs.declared.verb.Verb.TheVariants.{Reserve, Fill, CreateCq, Forge, Reset, Owners, OnQueue, OnCommand}
use Rattle.step_core.specs.Values.{Step}
use Rattle.script_cli.specs.declared.verb.CommandVerb.TheVariants as command
use Rattle.script_cli.specs.declared.verb.QueueVerb.TheVariants as queue
use Rattle.step_core.specs.declared.step.Step.TheVariants as step

abbrev pub queue_verb_text : QueueVerb → List ℕ
queue_verb_text queue.Ring = codes "ring"
queue_verb_text queue.Reap = codes "reap"
queue_verb_text queue.Fetch = codes "fetch"
queue_verb_text queue.Retire = codes "retire"
queue_verb_text queue.DeleteSq = codes "delete_sq"
queue_verb_text queue.DeleteCq = codes "delete_cq"
queue_verb_text queue.CreateSq = codes "create_sq"

abbrev pub command_verb_text : CommandVerb → List ℕ
command_verb_text command.Build = codes "build"
command_verb_text command.Submit = codes "submit"
command_verb_text command.Cancel = codes "cancel"
command_verb_text command.Collect = codes "collect"
command_verb_text command.Gather = codes "gather"
command_verb_text command.Release = codes "release"
command_verb_text command.Walk = codes "walk"
command_verb_text command.Complete = codes "complete"
command_verb_text command.Abort = codes "abort"

abbrev pub verb_text : Verb → List ℕ
verb_text Reserve = codes "reserve"
verb_text Fill = codes "fill"
verb_text CreateCq = codes "create_cq"
verb_text Forge = codes "forge"
verb_text Reset = codes "reset"
verb_text Owners = codes "owners"
verb_text (OnQueue verb) = queue_verb_text verb
verb_text (OnCommand verb) = command_verb_text verb

abbrev pub all_verbs : List Verb
all_verbs =
    Reserve ∷ Fill ∷ OnCommand command.Build ∷ OnCommand command.Submit ∷ OnCommand command.Cancel ∷ OnCommand command.Collect
    ∷ OnCommand command.Gather ∷ OnCommand command.Release ∷ OnQueue queue.Ring ∷ OnQueue queue.Reap ∷ OnQueue queue.Fetch
    ∷ OnQueue queue.Retire ∷ OnQueue queue.DeleteSq ∷ OnQueue queue.DeleteCq ∷ CreateCq ∷ OnQueue queue.CreateSq
    ∷ OnCommand command.Walk ∷ OnCommand command.Complete ∷ OnCommand command.Abort ∷ Forge ∷ Reset ∷ Owners ∷ []

-- the first of some verbs that a word names
unfoldable pub first_named : List ℕ → List Verb → Option Verb
first_named word [] = None
first_named word (verb ∷ rest) = if bytes_eq (verb_text verb) word then Some verb else first_named word rest

-- the verb that a word is
abbrev pub verb_named : List ℕ → Option Verb
verb_named word = first_named word all_verbs

abbrev pub queue_step : QueueVerb → ℕ → Step
queue_step queue.Ring q = step.Ring q
queue_step queue.Reap q = step.Reap q
queue_step queue.Fetch q = step.Fetch q
queue_step queue.Retire q = step.Retire q
queue_step queue.DeleteSq q = step.DeleteSq q
queue_step queue.DeleteCq q = step.DeleteCq q
queue_step queue.CreateSq q = step.CreateSq q

abbrev pub command_step : CommandVerb → ℕ → ℕ → Step
command_step command.Build q cid = step.Build q cid
command_step command.Submit q cid = step.Submit q cid
command_step command.Cancel q cid = step.Cancel q cid
command_step command.Collect q cid = step.Collect q cid
command_step command.Gather q cid = step.Gather q cid
command_step command.Release q cid = step.Release q cid
command_step command.Walk q cid = step.Walk q cid
command_step command.Complete q cid = step.Complete q cid
command_step command.Abort q cid = step.Abort q cid

-- the verb whose line a step is
abbrev pub verb_of : Step → Verb
verb_of (step.Reserve q request) = Reserve
verb_of (step.Fill q cid bytes) = Fill
verb_of (step.Build q cid) = OnCommand command.Build
verb_of (step.Submit q cid) = OnCommand command.Submit
verb_of (step.Cancel q cid) = OnCommand command.Cancel
verb_of (step.Ring q) = OnQueue queue.Ring
verb_of (step.Fetch q) = OnQueue queue.Fetch
verb_of (step.Walk q cid) = OnCommand command.Walk
verb_of (step.Complete q cid) = OnCommand command.Complete
verb_of (step.Reap q) = OnQueue queue.Reap
verb_of (step.Collect q cid) = OnCommand command.Collect
verb_of (step.Gather q cid) = OnCommand command.Gather
verb_of (step.Release q cid) = OnCommand command.Release
verb_of (step.Abort q cid) = OnCommand command.Abort
verb_of (step.DeleteSq q) = OnQueue queue.DeleteSq
verb_of (step.DeleteCq q) = OnQueue queue.DeleteCq
verb_of (step.CreateCq q vector) = CreateCq
verb_of (step.CreateSq q) = OnQueue queue.CreateSq
verb_of (step.Retire q) = OnQueue queue.Retire
verb_of (step.Forge q slot bytes) = Forge
verb_of step.Reset = Reset
