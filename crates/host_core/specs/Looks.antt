-- What looks at a host tell: what would be answered, ignoring want of memory, and where a completion ring begins.
use Rattle.std.specs.Prelude.{ℕ, ◌*◌, Bool, ◌&&◌, is_none, is_some, Option, Some, None, option_and_then, option_map, slice_get, if◌then◌else◌}
use Rattle.machine_model.specs.{Refusals.{refusal_of, seen_entry, is_reaped}, State.State, declared.words.Refusal.Refusal}
use Rattle.host_core.specs.Alone.{HostView}
use Rattle.machine_model.specs.Events as events
use Rattle.machine_model.specs.declared.words.Refusal.TheVariants as refusal

-- whether a reap would take a completion
abbrev pub completion_waits : State → ℕ → Bool
completion_waits s q = is_none (refusal_of s (events.Reap q)) && is_some (seen_entry s q)

-- a cause against an event; want of memory is none
abbrev pub cause_of : Refusal → Option Refusal
cause_of refusal.Memory = None
cause_of why = Some why

-- where the completion ring of a queue that is reaped begins: at the first of its pages
abbrev pub completion_base : HostView → ℕ → Option ℕ
completion_base v q =
    option_and_then (λ queue. if is_reaped queue.state then option_map (λ page. 4096 * page) (slice_get queue.cq_pages 0) else None) (slice_get v.host.queues q)
