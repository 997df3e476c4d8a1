-- States in order: what holds of each state that steps from an opening lead to, and that each event is answered there.
use Rattle.std.specs.Prelude.{◌≡◌, ◌≤◌, ℕ, Bool, false, ◌||◌, IsTrue, not, List, ◌∷◌, map}
use Rattle.block_image.specs.Blocks.{IsImage}
use Rattle.io_commands.specs.{Asked.Request, Drafts.DraftContents, Values.FinishedContents}
use Rattle.page_memory.specs.Pages.{AreWhole}
use Rattle.machine_model.specs.{Agreeing.SidesAgree, Claims.IsSound, Events.{Event, Reply}, Image.Made, Opening.{opening, Opens}}
use Rattle.machine_model.specs.{Proper.{IsProper, IsProperDraft}, Run.Run, State.State, Step.Step, Trusted.{TrustedRun, forges_by}}
use Rattle.two_sides.specs.Recovering.{CanRecover}
use Rattle.machine_model.specs.Events as events

-- a sound state whose pages that are in are whole, and whose sides agree unless something was forged
pub record IsInOrder (s : State) : Type 0 where
  pub sound : IsSound s
  pub whole : AreWhole s.memory
  pub least_segment : 2 ≤ s.segment
  pub most_segment : s.segment ≤ 256
  pub agree : IsTrue s.trusted → SidesAgree s
  -- from which a reset makes one whose sides agree, whatever was forged
  pub recovers : CanRecover s

abbrev pub openings_are_in_order : Type 0
openings_are_in_order =
    (pages queues n s : ℕ) (image : List ℕ) → Opens pages queues n s → IsImage image → IsInOrder (opening pages queues n s image)

abbrev pub steps_keep_order : Type 0
steps_keep_order = (old : State) (e : Event) (reply : Reply) (new : State) → IsInOrder old → Step old e reply new → IsInOrder new

-- an answer that an event may get, and what it leaves
pub record IsAnswered (s : State) (e : Event) : Type 0 where
  pub reply : Reply
  pub left : State
  pub step : Step s e reply left

-- the machine never stops: whatever was forged, each event may happen, with an answer
abbrev pub every_event_is_answered : Type 0
every_event_is_answered = (s : State) (e : Event) → IsInOrder s → IsProper e → IsAnswered s e

-- the draft of a command that was reserved is proper, and so is the command that was collected, to be released
abbrev pub reserved_drafts_are_proper : Type 0
reserved_drafts_are_proper =
    (s new : State) (q : ℕ) (r : Request) (d : DraftContents) → IsInOrder s → Step s (events.Reserve q r) (events.Reserved d) new → IsProperDraft d

abbrev pub collected_commands_are_proper : Type 0
collected_commands_are_proper =
    (s new : State) (q cid : ℕ) (f : FinishedContents) → IsInOrder s → Step s (events.Collect q cid) (events.Collects f) new → IsProper (events.Release f)

-- a run's steps as they were made: its events and replies are theirs
pub record IsTrustedRunOf (image : List ℕ) (es : List Event) (replies : List Reply) (end : State) : Type 0 where
  pub made : List Made
  pub happened : map (λ m. m.event) made ≡ es
  pub answered : map (λ m. m.reply) made ≡ replies
  pub run : TrustedRun image made end

-- whether a forgery among these events was accepted
abbrev pub has_forgery : List Event → List Reply → Bool
has_forgery (e ∷ es) (reply ∷ replies) = forges_by e reply || has_forgery es replies
has_forgery es replies = false

-- a run from an opening in which no forgery was accepted is one to which the laws of trusted runs apply
abbrev pub runs_are_made : Type 0
runs_are_made =
    (pages queues n s : ℕ) (image : List ℕ) (es : List Event) (replies : List Reply) (end : State)
    → Opens pages queues n s → IsImage image → Run (opening pages queues n s image) es replies end → IsTrue (not (has_forgery es replies)) → IsTrustedRunOf image es replies end
