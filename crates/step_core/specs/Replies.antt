-- The machine's reply that an answer of a call is.
use Rattle.std.specs.Prelude.{[], Result, Ok, Err}
use Rattle.machine_model.specs.{Events.Reply, declared.words.{Reaped.Reaped, Refusal.Refusal}}
use Rattle.step_core.specs.declared.refused.{Completed.Completed, Fetched.Fetched, StepRefused.StepRefused, Walked.Walked}
use Rattle.machine_model.specs.Events as events
pub use Rattle.host_core.specs.Replies.{reserve_reply, accept_reply, collect_reply, ring_reply, send_reply}

abbrev pub reap_reply : Result Reaped Refusal → Reply
reap_reply (Ok what) = events.Reaps what
reap_reply (Err why) = events.Refused why []

abbrev pub complete_reply : Result Completed StepRefused → Reply
complete_reply (Ok done) = events.Completed done.touched
complete_reply (Err r) = events.Refused r.why r.touched

abbrev pub fetch_reply : Result Fetched StepRefused → Reply
fetch_reply (Ok done) = events.Fetched done.cid done.touched
fetch_reply (Err r) = events.Refused r.why r.touched

abbrev pub walk_reply : Result Walked StepRefused → Reply
walk_reply (Ok done) = events.Walked done.state done.touched
walk_reply (Err r) = events.Refused r.why r.touched
