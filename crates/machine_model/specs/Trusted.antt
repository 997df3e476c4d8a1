-- Trusted runs: steps from an opening, as they were made, none of which is an accepted forgery.
use Rattle.std.specs.{List.list_any, Prelude.{◌≡◌, ℕ, Bool, true, false, not, IsTrue, List, [], ◌∷◌, ◌++◌}}
use Rattle.machine_model.specs.{Events.{Event, Reply}, Image.{Made, submitted_by}, Opening.{opening, Opens}, State.State, Step.{Step, resets}}
use Rattle.block_image.specs.Blocks.{IsImage}
use Rattle.io_commands.specs.Drafts.{DraftContents}
use Rattle.machine_model.specs.Events as events

-- the steps, one after the other, from a state to a state
abbrev pub Steps : State → List Made → State → Type 0
Steps s [] end = end ≡ s
Steps s (m ∷ made) end = (m.before ≡ s) × (mid : State) × Step s m.event m.reply mid × Steps mid made end

-- whether a step forged an entry
abbrev pub forges_by : Event → Reply → Bool
forges_by (events.Forge q slot bytes) events.Accepted = true
forges_by e reply = false

abbrev pub is_forgery : Made → Bool
is_forgery m = forges_by m.event m.reply

-- whether a step is a reset
abbrev pub is_reset : Made → Bool
is_reset m = resets m.event

-- a run from an opening in which nothing was forged: none of its steps is an accepted forgery
pub record TrustedRun (image : List ℕ) (made : List Made) (end : State) : Type 0 where
  pub pages : ℕ
  pub queues : ℕ
  pub entries : ℕ
  pub segment : ℕ
  pub opens : Opens pages queues entries segment
  pub is_image : IsImage image
  pub steps : Steps (opening pages queues entries segment image) made end
  pub unforged : IsTrue (not (list_any is_forgery made))

-- the drafts that were submitted, the latest first
abbrev pub drafts_of : List Made → List DraftContents
drafts_of [] = []
drafts_of (m ∷ made) = drafts_of made ++ submitted_by m.event m.reply
