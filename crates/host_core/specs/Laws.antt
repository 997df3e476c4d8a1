-- What the definitions of the host alone give.
use Rattle.std.specs.Prelude.{◌≡◌, ℕ, [], false, length, Some, None}
use Rattle.machine_model.specs.{After.after, Events.{Event, Reply}, Memory.is_in, Refusals.refusal_of, State.State, Step.IsController}
use Rattle.machine_model.specs.declared.words.Refusal.{Refusal}
use Rattle.page_memory.specs.Pages.{Pages, IsPool}
use Rattle.host_core.specs.Alone.{HostView, HostStep, IsOver, alone}
use Rattle.machine_model.specs.Events as events
use Rattle.machine_model.specs.declared.words.Refusal.TheVariants as refusal

-- the host of a state
abbrev pub shown : State → HostView
shown s = record { entries = s.entries; segment = s.segment; host = s.host }

-- A step of the host leaves just the host and the memory that the machine says, whatever they were.
abbrev pub LeavesJust : Type 0
LeavesJust =
    (v v' : HostView) (pages pages' : Pages) (e : Event) (reply : Reply) → IsController e ≡ false → HostStep v pages e reply v' pages'
    → (v' ≡ shown (after (alone v pages) e reply)) × (pages' ≡ (after (alone v pages) e reply).memory)

-- So one answer leaves one host and one memory.
abbrev pub LeavesOne : Type 0
LeavesOne =
    (v v' v'' : HostView) (pages pages' pages'' : Pages) (e : Event) (reply : Reply) → IsController e ≡ false
    → HostStep v pages e reply v' pages' → HostStep v pages e reply v'' pages'' → (v' ≡ v'') × (pages' ≡ pages'')

-- A refusal has one cause, and changes nothing; want of memory is told only where there is no cause.
abbrev pub RefusesJust : Type 0
RefusesJust =
    (v v' : HostView) (pages pages' : Pages) (e : Event) (why : Refusal) → IsController e ≡ false → HostStep v pages e (events.Refused why []) v' pages'
    → (v' ≡ v) × (pages' ≡ pages) × ((why ≡ refusal.Memory → ⊥) → refusal_of (alone v pages) e ≡ Some why) × (why ≡ refusal.Memory → refusal_of (alone v pages) e ≡ None)

-- Other bytes in the pages that are in, as a controller writes them, leave the pages the host's.
abbrev pub WritesLeaveOver : Type 0
WritesLeaveOver =
    (v : HostView) (pages pages' : Pages) → IsOver v pages → IsPool pages' → length pages' ≡ length pages → ((p : ℕ) → is_in pages' p ≡ is_in pages p) → IsOver v pages'
