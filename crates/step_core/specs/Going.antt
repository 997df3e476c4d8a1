-- Benches go on: each step whose numbers fit has an answer, from each table that steps of a bench lead to; what they tell of its controller;
-- and which of their runs are trusted.
use Rattle.std.specs.{List.AllByRecursion, Prelude.{◌≡◌, ◌<◌, ◌^◌, ℕ, Bool, true, false, ◌&&◌, ◌||◌, not, IsTrue, None, IfSome, List, ◌∷◌, length}}
use Rattle.block_image.specs.Blocks.{IsImage}
use Rattle.io_commands.specs.Requests.{FitsRequest}
use Rattle.machine_model.specs.{Events.Event, Proper.{IsProper, IsProperDraft}, Script.{Table, table}, Touch.{stays_allowed, stays_own}, Trusted.TrustedRun}
use Rattle.two_sides.specs.InOrder.{IsInOrder}
use Rattle.step_core.specs.{Bench.{Does, DoesAll, asked, told}, Laws.made_by, Opening.opening_of, Values.{Reply, Step}}
use Rattle.host_core.specs.{Opening.refusal_of_config, declared.config.Config.Config}
use Rattle.machine_model.specs.Events as events
use Rattle.step_core.specs.declared.step.Step.TheVariants as step
use Rattle.step_core.specs.declared.step.Reply.TheVariants as reply

-- a step whose numbers fit: a request's, a vector of 16 bits, and the 16 bytes of an entry
abbrev pub IsFitStep : Step → Type 0
IsFitStep (step.Reserve q request) = FitsRequest request
IsFitStep (step.CreateCq q vector) = IfSome vector (λ v. v < 2 ^ 16)
IsFitStep (step.Forge q slot bytes) = length bytes ≡ 16
IsFitStep what = Unit {0}

-- a world in order, and kept values that its steps take
pub record IsTableInOrder (t : Table) : Type 0 where
  pub world : IsInOrder t.world
  pub drafts : AllByRecursion IsProperDraft t.drafts
  pub finished : AllByRecursion (λ f. IsProper (events.Release f)) t.finished

abbrev pub benches_open_in_order : Type 0
benches_open_in_order =
    (config : Config) (image : List ℕ) → refusal_of_config config ≡ None → IsImage image → IsTableInOrder (table (opening_of config image))

abbrev pub benches_keep_order : Type 0
benches_keep_order = (t : Table) (what : Step) (answer : Reply) (new : Table) → IsTableInOrder t → Does t what answer new → IsTableInOrder new

-- an answer that a step may get, and what it leaves
pub record GoesOn (t : Table) (what : Step) : Type 0 where
  pub answer : Reply
  pub left : Table
  pub does : Does t what answer left

-- whatever was forged, each step whose numbers fit has an answer
abbrev pub benches_go_on : Type 0
benches_go_on = (t : Table) (what : Step) → IsTableInOrder t → IsFitStep what → GoesOn t what

-- in a trusted world, what a step's answer reports of the machine's reply names only allowed pages, and only those of its own queue or command
abbrev pub benches_touch_what_they_may : Type 0
benches_touch_what_they_may =
    (t : Table) (what : Step) (answer : Reply) (new : Table) (e : Event) (r : events.Reply)
    → IsTableInOrder t → IsTrue t.world.trusted → Does t what answer new → what ≡ asked e → answer ≡ told r
    → IsTrue (stays_allowed t.world r && stays_own t.world e r)

-- whether a step forged an entry
abbrev pub forges_by : Step → Reply → Bool
forges_by (step.Forge q slot bytes) reply.Accepted = true
forges_by what answer = false

-- whether a forgery among these steps was accepted
abbrev pub has_forgery : List Step → List Reply → Bool
has_forgery (what ∷ steps) (answer ∷ answers) = forges_by what answer || has_forgery steps answers
has_forgery steps answers = false

-- what a bench did since it opened, if none of its steps is an accepted forgery, is a run to which the machine's laws apply, resets and all
abbrev pub benches_make_trusted_runs : Type 0
benches_make_trusted_runs =
    (config : Config) (image : List ℕ) (steps : List Step) (answers : List Reply) (new : Table) → refusal_of_config config ≡ None → IsImage image
    → (does : DoesAll (table (opening_of config image)) steps answers new) → IsTrue (not (has_forgery steps answers))
    → TrustedRun image (made_by (table (opening_of config image)) steps answers new does) new.world
