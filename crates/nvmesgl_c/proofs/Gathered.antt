-- What was gathered to the start of a buffer is what the step and the call of that name answer.
use Rattle.std.proofs.Common.{◌≡◌, ◌++◌, ℕ, List, Option, Ok, Err, inr, refl, sym, ap, ◌∙◌, subst, drop, length}
use Rattle.io_commands.specs.Values.{FinishedContents, gathered_from}
use Rattle.machine_model.specs.Script.{Table, finished_at}
use Rattle.nvmesgl_c.specs.{Answers.nothing, Gathering.IsGathered, declared.words.answer.Answer.Answer}
use Rattle.host_bench.specs.Calls as calls
use Rattle.host_bench.specs.declared.call.Call.TheVariants as call
use Rattle.host_bench.specs.declared.call.Reply.TheVariants as said
use Rattle.nvmesgl_c.specs.HostCalls as host
use Rattle.nvmesgl_c.specs.HostKept as host_kept
use Rattle.nvmesgl_c.specs.MachineCalls as machine
use Rattle.nvmesgl_c.specs.MachineKept as machine_kept
use Rattle.step_core.specs.Bench as bench
use Rattle.step_core.specs.declared.step.Reply.TheVariants as reply
use Rattle.step_core.specs.declared.step.Step.TheVariants as step

step_gathered : (t : Table) (q cid count : ℕ) (old buffer : List ℕ) (is : IsGathered (finished_at q cid t.finished) count old buffer) → bench.Does t (step.Gather q cid) (reply.Gathered (gathered_from is.command)) t
step_gathered t q cid count old buffer is = subst (λ (o : Option FinishedContents). bench.Gathers t o (reply.Gathered (gathered_from is.command)) t) (sym is.there) (refl, refl)

call_gathered : (t : Table) (q cid count : ℕ) (old buffer : List ℕ) (is : IsGathered (finished_at q cid t.finished) count old buffer) → calls.Does t (call.Gather q cid) (said.Gathered (gathered_from is.command)) t
call_gathered t q cid count old buffer is = subst (λ (o : Option FinishedContents). calls.Gathers t o (said.Gathered (gathered_from is.command)) t) (sym is.there) (refl, refl)

abbrev so_many : Answer → ℕ → Answer
so_many told count = record told { bytes = count }

laid_so : (bytes old buffer : List ℕ) (count : ℕ) → count ≡ length bytes → buffer ≡ bytes ++ drop count old → buffer ≡ bytes ++ drop (length bytes) old
laid_so bytes old buffer count counted laid = laid ∙ ap (λ (n : ℕ). bytes ++ drop n old) counted

pub machine_gathered : (kept new : machine_kept.Kept) (q cid count : ℕ) (old buffer : List ℕ) (told : Answer) → machine.IsGatheredOf kept q cid count old buffer → new ≡ kept → told ≡ nothing
    → machine.Gathers kept q cid 0 old buffer (record told { bytes = count }) new
machine_gathered (Err h) new q cid count old buffer told is same tells = absurd is
machine_gathered (Ok t) new q cid count old buffer told is same tells =
    subst (λ (k : machine_kept.Kept). machine.Gathers (Ok t) q cid 0 old buffer (so_many told count) k) (sym same)
    (record {
      reply = Ok (reply.Gathered (gathered_from is.command));
      does = step_gathered t q cid count old buffer is;
      laid = inr (refl, laid_so (gathered_from is.command) old buffer count is.counted is.laid);
      answer_is = ap (λ (a : Answer). so_many a count) tells ∙ ap (so_many nothing) is.counted;
    })

pub host_gathered : (kept new : host_kept.Kept) (q cid count : ℕ) (old buffer : List ℕ) (told : Answer) → host.IsGatheredOf kept q cid count old buffer → new ≡ kept → told ≡ nothing
    → host.Gathers kept q cid 0 old buffer (record told { bytes = count }) new
host_gathered (Err h) new q cid count old buffer told is same tells = absurd is
host_gathered (Ok t) new q cid count old buffer told is same tells =
    subst (λ (k : host_kept.Kept). host.Gathers (Ok t) q cid 0 old buffer (so_many told count) k) (sym same)
    (record {
      reply = Ok (said.Gathered (gathered_from is.command));
      does = (call_gathered t.bench q cid count old buffer is, refl);
      laid = inr (refl, laid_so (gathered_from is.command) old buffer count is.counted is.laid);
      answer_is = ap (λ (a : Answer). so_many a count) tells ∙ ap (so_many nothing) is.counted;
    })
