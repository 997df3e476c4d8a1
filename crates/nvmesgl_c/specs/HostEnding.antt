-- What the calls tell that find the end of a command: a reap and a collection. Where it is a command of an I/O queue, its tag is told too.
use Rattle.std.specs.Prelude.{◌≡◌, ℕ, Option, Some, None, Ok, Err, List}
use Rattle.host_bench.specs.{Calls.Does, Values.{Call, Reply}}
use Rattle.slot_table.specs.Rows.{Row}
use Rattle.nvmesgl_c.specs.{Answers.nothing, HostAnswers.{bell_in, shown_bell, told_of}, HostCodes.code_of_answer, HostKept.{Kept, code_in}, HostTags.tag_at}
use Rattle.nvmesgl_c.specs.declared.{host.{answer.CDoorbell.CDoorbell, tagged.Tagged.Tagged}, words.answer.Answer.Answer}
use Rattle.host_bench.specs.declared.call.Call.TheVariants as call
use Rattle.host_bench.specs.declared.call.Reply.TheVariants as reply
use Rattle.machine_model.specs.declared.words.Reaped.TheVariants as reaps

-- the identifier of the command of an I/O queue that a reap found ended
abbrev pub found_in : Reply → Option ℕ
found_in (reply.Reaps (reaps.Done cid status) bell) = Some cid
found_in r = None

-- the identifier of the command, where it was collected
abbrev pub collected_in : ℕ → Reply → Option ℕ
collected_in cid (reply.Collected status hints) = Some cid
collected_in cid r = None

-- a reply; of the command that has ended the tag too
abbrev pub told_ended : List (Row ℕ) → ℕ → Option ℕ → Reply → Answer
told_ended tags q (Some cid) r = record (told_of r) { tag = tag_at tags q cid }
told_ended tags q None r = told_of r

-- a call of a host that was answered so, and what is told of the command that has ended, if it tells the end of one; the tags stay
pub record Tells (t : Tagged) (q : ℕ) (what : Call) (ended : Option ℕ) (r : Reply) (code : ℕ) (answer : Answer) (new : Tagged) : Type 0 where
  pub does : Does t.bench what r new.bench
  pub tags : new.tags ≡ t.tags
  pub code_is : code ≡ code_of_answer r
  pub answer_is : answer ≡ told_ended t.tags q ended r

-- a completion is taken, of a handle that keeps a host or none
abbrev pub Reaps : Kept → ℕ → ℕ → CDoorbell → Answer → Kept → Type 0
Reaps (Err h) q code bell answer new = (code ≡ code_in h) × (bell ≡ shown_bell None) × (answer ≡ nothing) × (new ≡ Err h)
Reaps (Ok t) q code bell answer (Err h) = ⊥
Reaps (Ok t) q code bell answer (Ok new) = (r : Reply) × Tells t q (call.Reap q) (found_in r) r code answer new × (bell ≡ bell_in r)

-- a command is collected, of a handle that keeps a host or none
abbrev pub Collects : Kept → ℕ → ℕ → ℕ → Answer → Kept → Type 0
Collects (Err h) q cid code answer new = (code ≡ code_in h) × (answer ≡ nothing) × (new ≡ Err h)
Collects (Ok t) q cid code answer (Err h) = ⊥
Collects (Ok t) q cid code answer (Ok new) = (r : Reply) × Tells t q (call.Collect q cid) (collected_in cid r) r code answer new
