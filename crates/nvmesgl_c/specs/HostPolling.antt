-- What a poll takes from a queue: completions, one after the other, each with the collection of the command that it ends.
use Rattle.std.specs.Prelude.{◌≡◌, ◌++◌, ℕ, Bool, true, false, Option, Some, None, Ok, Err, List, [], ◌∷◌, drop, length, replicate}
use Rattle.host_bench.specs.{Calls.Does, Values.{Reply}}
use Rattle.host_core.specs.declared.doorbell.Doorbell.{Doorbell}
use Rattle.slot_table.specs.Rows.{Row}
use Rattle.machine_model.specs.{Script.Table, declared.words.Reaped.Reaped}
use Rattle.nvmesgl_c.specs.{Answers.{nothing, reaped}, HostAnswers.{shown_bell, told_of}, HostCodes.code_of_answer, HostKept.{Kept, code_in}, HostTags.tag_at}
use Rattle.nvmesgl_c.specs.declared.{host.{answer.CDoorbell.CDoorbell, polling.CEnded.CEnded}, words.answer.Answer.Answer}
use Rattle.host_bench.specs.declared.call.Reply.TheVariants as reply
use Rattle.host_bench.specs.declared.call.Call.TheVariants as call
use Rattle.machine_model.specs.declared.words.Reaped.TheVariants as reaps

-- whether a reap took a completion
abbrev pub is_taken : Reply → Bool
is_taken (reply.Reaps reaps.Empty bell) = false
is_taken (reply.Reaps found bell) = true
is_taken r = false

-- a completion, as C sees it: what was found, and the code of the collection and the tag of the command that it ends
abbrev pub shown : Answer → ℕ → ℕ → CEnded
shown found code tag =
    record {
      tag = tag;
      state = found.state;
      code = code;
      dw0 = found.dw0;
      cid = found.cid;
      sct = found.sct;
      sc = found.sc;
      retry_delay = 0;
      more = false;
      do_not_retry = false;
      reserved = replicate 13 0;
    }

-- with what the collection of the command tells that was hinted at
abbrev pub with_hints : Reply → CEnded → CEnded
with_hints (reply.Collected status hints) entry = record entry { retry_delay = hints.retry_delay; more = hints.more; do_not_retry = hints.do_not_retry }
with_hints r entry = entry

-- what is made of it: the command of an I/O queue that it ends is collected
abbrev pub Ends : Table → List (Row ℕ) → ℕ → Reaped → CEnded → Table → Type 0
Ends t tags q (reaps.Done cid status) entry new = (r : Reply) × Does t (call.Collect q cid) r new × (entry ≡ with_hints r (shown (reaped (reaps.Done cid status)) (code_of_answer r) (tag_at tags q cid)))
Ends t tags q found entry new = (new ≡ t) × (entry ≡ shown (reaped found) 0 0)

-- a completion is taken
pub record Takes (t : Table) (tags : List (Row ℕ)) (q : ℕ) (entry : CEnded) (bell : Option Doorbell) (new : Table) : Type 0 where
  pub found : Reaped
  pub mid : Table
  pub reaps : Does t (call.Reap q) (reply.Reaps found bell) mid
  pub taken : is_taken (reply.Reaps found bell) ≡ true
  pub ends : Ends mid tags q found entry new

-- completions are taken, one after the other; the value for the head doorbell is that of the last, and before all this
abbrev pub TakesAll : Table → List (Row ℕ) → ℕ → Option Doorbell → List CEnded → Option Doorbell → Table → Type 0
TakesAll t tags q before [] bell new = (bell ≡ before) × (new ≡ t)
TakesAll t tags q before (entry ∷ entries) bell new = (rung : Option Doorbell) × (mid : Table) × Takes t tags q entry rung mid × TakesAll mid tags q rung entries bell new

-- how it ended: with as many as there is room for, or with a reap that took none
abbrev pub StopsBy : Table → ℕ → ℕ → ℕ → Option Reply → Table → Type 0
StopsBy t q count room None new = (count ≡ room) × (new ≡ t)
StopsBy t q count room (Some why) new = Does t (call.Reap q) why new × (is_taken why ≡ false)

pub record Polls (t : Table) (tags : List (Row ℕ)) (q : ℕ) (old buffer : List CEnded) (count : ℕ) (bell : Option Doorbell) (end : Option Reply) (new : Table) : Type 0 where
  pub entries : List CEnded
  pub mid : Table
  pub takes : TakesAll t tags q None entries bell mid
  pub stops : StopsBy mid q (length entries) (length old) end new
  pub laid : buffer ≡ entries ++ drop (length entries) old
  pub count_is : count ≡ length entries

-- What C is told

abbrev pub code_of_end : Option Reply → ℕ
code_of_end None = 0
code_of_end (Some why) = code_of_answer why

abbrev pub told_of_end : Option Reply → Answer
told_of_end None = nothing
told_of_end (Some why) = told_of why

-- of a handle that keeps a host or none
abbrev pub PollsKept : Kept → ℕ → ℕ → List CEnded → List CEnded → ℕ → CDoorbell → Answer → Kept → Type 0
PollsKept (Err h) q code old buffer count bell answer new =
    (code ≡ code_in h) × (buffer ≡ old) × (count ≡ 0) × (bell ≡ shown_bell None) × (answer ≡ nothing) × (new ≡ Err h)
PollsKept (Ok t) q code old buffer count bell answer (Err h) = ⊥
PollsKept (Ok t) q code old buffer count bell answer (Ok new) =
    (rung : Option Doorbell) × (end : Option Reply) × Polls t.bench t.tags q old buffer count rung end new.bench × (new.tags ≡ t.tags) × (bell ≡ shown_bell rung) × (code ≡ code_of_end end) × (answer ≡ told_of_end end)
