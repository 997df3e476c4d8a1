-- How many pages an event of the host touches, whose rings have n entries: the answer tells it.
use Rattle.std.specs.Prelude.{◌≡◌, ℕ, ◌+◌, ◌≤◌, [], length}
use Rattle.machine_model.specs.{Events.{Event, Reply}, declared.words.Refusal.Refusal}
use Rattle.page_memory.specs.{Memory.TouchesMore, Pages.Contents, declared.page.Half.TheVariants.{Submission, Completion}}
use Rattle.queue_pair.specs.Memory.{half_pages}
use Rattle.machine_model.specs.Events as events
use Rattle.machine_model.specs.declared.words.Refusal.TheVariants as refusal

-- One page is written where an entry is posted, and one is read where a completion ring is looked at: by a reap, and by a retirement
-- that ends, or finds the ring not drained. Each page that is taken out counts: for a draft or a finished command, and to be made zero, as
-- are those of a half that is granted, and those of queue 0 at a reset. Pages that come in count as none.

abbrev pub accepted_touches : ℕ → Event → ℕ
accepted_touches n (events.Submit draft) = 1
accepted_touches n (events.Retire q) = 1
accepted_touches n events.Reset = half_pages n Submission + half_pages n Completion
accepted_touches n e = 0

abbrev pub sent_touches : ℕ → Event → ℕ
sent_touches n (events.CreateCq q vector) = half_pages n Completion + 1
sent_touches n (events.CreateSq q) = half_pages n Submission + 1
sent_touches n e = 1

abbrev pub refused_touches : Event → Refusal → ℕ
refused_touches (events.Retire q) refusal.NotDrained = 1
refused_touches e why = 0

abbrev pub host_touches : (n : ℕ) → Event → Reply → ℕ
host_touches n e (events.Reserved draft) = length draft.data_pages + length draft.chain_pages
host_touches n e (events.Collects finished) = length finished.data_pages + length finished.chain_pages
host_touches n e (events.Reaps found) = 1
host_touches n e (events.Sent id) = sent_touches n e
host_touches n e events.Accepted = accepted_touches n e
host_touches n e (events.Refused why touched) = refused_touches e why
host_touches n e reply = 0

-- a store of which nothing was touched
pub record IsUntouched (s : Contents) : Type 0 where
  pub touched : s.touched ≡ []
  pub unlisted : s.unlisted ≡ 0

-- a store counts exactly this many more touches than before
abbrev pub TouchesBy : ℕ → Contents → Contents → Type 0
TouchesBy n old new = TouchesMore old.unlisted old.touched n new.unlisted new.touched

-- as many as the host's event with this answer touches
abbrev pub HostTouches : (n : ℕ) → Contents → Event → Reply → Contents → Type 0
HostTouches n old e reply new = TouchesBy (host_touches n e reply) old new

-- a store counts this many more touches than before, or fewer
abbrev pub TouchesAtMost : ℕ → Contents → Contents → Type 0
TouchesAtMost most old new = (n : ℕ) × (n ≤ most) × TouchesBy n old new
