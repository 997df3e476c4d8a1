-- The machine's reply that an answer of a call is.
use Rattle.std.specs.Prelude.{ℕ, [], Result, Ok, Err}
use Rattle.io_commands.specs.{Asked.Request, Drafts.DraftContents, Values.{FinishedContents, TicketContents}}
use Rattle.machine_model.specs.{Events.Reply, declared.words.Refusal.Refusal}
use Rattle.host_core.specs.declared.{reap.Reap.Reap, refused.Refused.Refused}
use Rattle.machine_model.specs.Events as events

abbrev pub reserve_reply : Result DraftContents (Refused Request) → Reply
reserve_reply (Ok d) = events.Reserved d
reserve_reply (Err r) = events.Refused r.why []

-- of calls that are accepted without saying more
abbrev pub accept_reply : {A T : Type 0} → Result A (Refused T) → Reply
accept_reply (Ok done) = events.Accepted
accept_reply (Err r) = events.Refused r.why []

abbrev pub ring_reply : {A : Type 0} → Result A Refusal → Reply
ring_reply (Ok done) = events.Accepted
ring_reply (Err why) = events.Refused why []

abbrev pub collect_reply : Result FinishedContents (Refused TicketContents) → Reply
collect_reply (Ok f) = events.Collects f
collect_reply (Err r) = events.Refused r.why []

abbrev pub reap_reply : Result Reap Refusal → Reply
reap_reply (Ok reap) = events.Reaps reap.found
reap_reply (Err why) = events.Refused why []

-- of calls that send an admin command, under an identifier of queue 0
abbrev pub send_reply : Result ℕ Refusal → Reply
send_reply (Ok cid) = events.Sent cid
send_reply (Err why) = events.Refused why []
