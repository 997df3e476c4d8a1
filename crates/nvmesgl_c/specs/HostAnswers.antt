-- What C is told of each reply besides its code.
use Rattle.std.specs.Prelude.{ℕ, true, false, Option, Some, None, Result, Ok, Err, [], ◌∷◌, length}
use Rattle.nvmesgl_c.specs.{Answers.{nothing, collected, reaped, refused}, declared.host.answer.CDoorbell.CDoorbell}
use Rattle.nvmesgl_c.specs.declared.words.answer.Answer.{Answer}
use Rattle.host_core.specs.declared.doorbell.Doorbell.{Doorbell}
use Rattle.host_bench.specs.Values.{Reply}
use Rattle.host_bench.specs.declared.call.Reply.TheVariants as reply

abbrev pub told_of : Reply → Answer
told_of (reply.Reserved q cid front back) = record nothing { cid = cid; data_pages = front; chain_pages = back }
told_of (reply.Reaps what bell) = reaped what
told_of (reply.Collected status hints) = collected status hints
told_of (reply.Gathered bytes) = record nothing { bytes = length bytes }
told_of (reply.Sent cid) = record nothing { cid = cid }
told_of (reply.Refused why) = refused why []
told_of reply.Accepted = nothing
told_of (reply.Rung bell) = nothing
told_of reply.NoValue = nothing
told_of (reply.NotFilled why) = nothing

-- of a call on a handle that keeps nothing there is no reply
abbrev pub told : Result Reply ℕ → Answer
told (Ok answer) = told_of answer
told (Err code) = nothing

-- the value for a doorbell, where there is one
abbrev pub shown_bell : Option Doorbell → CDoorbell
shown_bell (Some bell) = record { offset = bell.offset; value = bell.value; rings = true; reserved = 0 ∷ 0 ∷ 0 ∷ 0 ∷ [] }
shown_bell None = record { offset = 0; value = 0; rings = false; reserved = 0 ∷ 0 ∷ 0 ∷ 0 ∷ [] }

abbrev pub bell_in : Reply → CDoorbell
bell_in (reply.Rung bell) = shown_bell (Some bell)
bell_in (reply.Reaps what bell) = shown_bell bell
bell_in r = shown_bell None

-- of a call on a handle that keeps nothing there is none
abbrev pub bell_of : Result Reply ℕ → CDoorbell
bell_of (Ok answer) = bell_in answer
bell_of (Err code) = shown_bell None
