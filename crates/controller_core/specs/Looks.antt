-- What a look at a controller tells: which of its calls would do something, want of memory left aside.
use Rattle.std.specs.Option.{option_map, option_map_or}
use Rattle.std.specs.Prelude.{◌≡◌, ℕ, zero, suc, ◌+◌, ◌<◌, false, List, length, Option, Some, None, is_none, is_some, slice_get, min, if◌then◌else◌}
use Rattle.entry_codec.specs.declared.submission.SubEntry.{SubEntry}
use Rattle.page_memory.specs.Memory.{Memory}
use Rattle.queue_pair.specs.Rings.{ControllerSide}
use Rattle.controller_core.specs.{Posting.post_refusal, Completing.complete_refusal, Contents.{Contents, FetchedCommand, entry_of_work}}
use Rattle.controller_core.specs.{Fetching.{fetch_refusal, look_refusal, rung_entry, is_known}, Walking.walk_refusal}
use Rattle.controller_core.specs.declared.{look.ControllerStep.{ControllerStep, TheVariants.{Fetch, Walk, Complete}}, queue.ControllerQueue.ControllerQueue}
use Rattle.controller_core.specs.declared.refusal.ControllerRefusal.{ControllerRefusal}

-- the queue and the identifier of the command that was fetched after this many others
abbrev pub name_at : List FetchedCommand → ℕ → Option (ℕ × ℕ)
name_at commands n = option_map (λ k. (k.q, (entry_of_work k.work).cid)) (slice_get commands n)

-- what a call is refused for
abbrev pub refusal_by : Contents → Memory → ControllerStep → Option ControllerRefusal
refusal_by c m (Fetch q) = fetch_refusal c m q
refusal_by c m (Walk q cid) = walk_refusal c q cid
refusal_by c m (Complete q cid) = complete_refusal c m q cid

-- a command of which nothing can be done
abbrev pub IsStuck : Contents → Memory → ℕ → ℕ → Type 0
IsStuck c m q cid = (is_none (walk_refusal c q cid) ≡ false) × (is_none (complete_refusal c m q cid) ≡ false)

-- each call is refused; queues have numbers of 16 bits
pub record IsAtRest (c : Contents) (m : Memory) : Type 0 where
  pub fetches : (q : ℕ) → q < 65536 → is_none (fetch_refusal c m q) ≡ false
  pub commands : (q cid : ℕ) → IsStuck c m q cid

-- How many pages a look touches

-- the page of the next completion, where one could be posted
abbrev pub post_touches : Memory → ControllerSide → ℕ
post_touches m controller = if is_none (post_refusal m controller) then 1 else 0

abbrev pub post_touches_at : List ControllerQueue → Memory → ℕ → ℕ
post_touches_at queues m q = option_map_or (λ queue. post_touches m queue.controller) (slice_get queues q) 0

-- the page of the entry at the head of a queue, and, where its identifier is known, that of the completion which it would get at once
abbrev pub entry_touches : Contents → Memory → ℕ → SubEntry → ℕ
entry_touches c m q e = if is_known c q e then 1 + post_touches_at c.queues m q else 1

abbrev pub fetch_touches : Contents → Memory → ℕ → ℕ
fetch_touches c m q = if is_some (look_refusal c m q) then 0 else option_map_or (entry_touches c m q) (rung_entry c m q) 0

-- at the heads of this many queues, from queue 0 on
abbrev pub heads_touch : Contents → Memory → ℕ → ℕ
heads_touch c m zero = 0
heads_touch c m (suc n) = heads_touch c m n + fetch_touches c m n

-- queues have numbers of 16 bits
abbrev pub queue_numbers : Contents → ℕ
queue_numbers c = min (length c.queues) 65536

-- the heads are looked at up to the first of which an entry can be fetched
abbrev pub fetches_touch : Contents → Memory → Option ℕ → ℕ
fetches_touch c m (Some q) = heads_touch c m (q + 1)
fetches_touch c m None = heads_touch c m (queue_numbers c)

-- of a command, only the page of a completion that could be posted
abbrev pub command_touches : Contents → Memory → Option ControllerStep → ℕ
command_touches c m (Some (Complete q cid)) = post_touches_at c.queues m q
command_touches c m step = 0

-- a look for something to do, by what it finds
abbrev pub looked : Contents → Memory → Option ControllerStep → ℕ
looked c m (Some (Fetch q)) = fetches_touch c m (Some q)
looked c m step = fetches_touch c m None + command_touches c m step
