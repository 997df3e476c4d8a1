-- What a call of something shared says: that some sound world, or host with its pages, did it.
use Rattle.std.specs.{List.Contains, Prelude.{ℕ, ◌≡◌, ◌≤◌, true, IsTrue, Option, None, length, MatchOption}}
use Rattle.host_bench.specs.{Calls.{Does}, Values.{Call, Reply as HostReply}}
use Rattle.host_core.specs.{Alone.{alone, IsSoundHost}, Laws.shown}
use Rattle.machine_model.specs.{Agreeing.SidesAgree, Claims.{claims_of, counts_of, IsSound}, Events.{Event, Reply}, Refusals.refusal_of, Script.{Table}, State.State, Step.Step}
use Rattle.page_ledger.specs.{Counting.total, declared.owner.{Counts.Counts, Owner.Owner}}
use Rattle.shared.specs.declared.serving.ServedStep.{ServedStep, TheVariants.{Fetch, Walk, Complete}}
use Rattle.step_core.specs.{Looks.has_completion, Replies.{complete_reply, fetch_reply, walk_reply}, Touching.StaysAllowed}
use Rattle.machine_model.specs.Events as events

-- Some sound world made this step: each of its pages had one owner, its counts added up, and the identifiers of a queue were distinct.
pub record Stepped (e : Event) (r : Reply) : Type 0 where
  pub old : State
  pub new : State
  pub sound : IsSound old
  pub step : Step old e r new

-- likewise of a step of the controller: in a trusted world each page that its reply tells is one that it may touch
pub record Served (e : Event) (r : Reply) : Type 0 where
  pub old : State
  pub new : State
  pub sound : IsSound old
  pub step : Step old e r new
  pub allowed : StaysAllowed old e r

-- likewise of a reap of a queue that had a completion
pub record ReapedNext (q : ℕ) (r : Reply) : Type 0 where
  pub old : State
  pub new : State
  pub sound : IsSound old
  pub there : has_completion old q ≡ true
  pub step : Step old (events.Reap q) r new

-- the event that a step of the controller was, and the machine's reply that its answer is
abbrev pub event_of : ServedStep → Event
event_of (Fetch q answer) = events.Fetch q
event_of (Walk q cid answer) = events.Walk q cid
event_of (Complete q cid answer) = events.Complete q cid

abbrev pub reply_of : ServedStep → Reply
reply_of (Fetch q answer) = fetch_reply answer
reply_of (Walk q cid answer) = walk_reply answer
reply_of (Complete q cid answer) = complete_reply answer

-- likewise of a step of the controller that it could do: in a trusted world nothing but want of memory ruled it out
pub record ServedNext (e : Event) (r : Reply) : Type 0 where
  pub old : State
  pub new : State
  pub sound : IsSound old
  pub possible : IsTrue old.trusted → refusal_of old e ≡ None
  pub step : Step old e r new
  pub allowed : StaysAllowed old e r

-- some sound world was reset, and both sides agree since
pub record Recovers : Type 0 where
  pub old : State
  pub new : State
  pub sound : IsSound old
  pub step : Step old events.Reset events.Accepted new
  pub agree : SidesAgree new

-- some sound world says who owns a page, or that it has no such page
pub record TellsOwner (p : ℕ) (answer : Option Owner) : Type 0 where
  pub world : State
  pub sound : IsSound world
  pub tells : MatchOption answer (length world.memory ≤ p) (λ owner. Contains (claims_of world.host) (p, owner))

-- some sound world says how many pages each class has
pub record Counted (counts : Counts) : Type 0 where
  pub world : State
  pub sound : IsSound world
  pub counts_are : counts ≡ counts_of world.host
  pub all : total counts ≡ length world.memory

-- A host over its pages, with no controller: each of its pages has one owner, the identifiers of a queue are distinct, and it stands in its rings.
pub record IsSoundBench (t : Table) : Type 0 where
  pub sound : IsSoundHost (shown t.world)
  pub alone : t.world ≡ alone (shown t.world) t.world.memory

-- some such host made this call
pub record Called (call : Call) (r : HostReply) : Type 0 where
  pub old : Table
  pub new : Table
  pub sound : IsSoundBench old
  pub does : Does old call r new
