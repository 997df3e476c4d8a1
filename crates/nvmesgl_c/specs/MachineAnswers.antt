-- What C is told of each reply besides its code.
use Rattle.std.specs.Prelude.{ℕ, Result, Ok, Err, length}
use Rattle.nvmesgl_c.specs.Answers.{nothing, touching, collected, walked, reaped, refused}
use Rattle.nvmesgl_c.specs.declared.words.answer.Answer.{Answer}
use Rattle.step_core.specs.Values.{Reply}
use Rattle.step_core.specs.declared.step.Reply.TheVariants as reply

abbrev pub told_of : Reply → Answer
told_of (reply.Reserved q cid front back) = record nothing { cid = cid; data_pages = front; chain_pages = back }
told_of (reply.Fetched cid pages) = record (touching pages) { cid = cid }
told_of (reply.Walked state pages) = walked state pages
told_of (reply.Completed pages) = touching pages
told_of (reply.Reaps what) = reaped what
told_of (reply.Collected status hints) = collected status hints
told_of (reply.Gathered bytes) = record nothing { bytes = length bytes }
told_of (reply.Sent cid) = record nothing { cid = cid }
told_of (reply.Refused why pages) = refused why pages
told_of reply.Accepted = nothing
told_of reply.NoValue = nothing
told_of (reply.NotFilled why) = nothing

-- of a step on a handle that keeps nothing there is no reply
abbrev pub told : Result Reply ℕ → Answer
told (Ok answer) = told_of answer
told (Err code) = nothing
