-- this many submitters have their jobs
use Rattle.std.{proofs.Common.{◌≡◌, ◌<◌, ℕ, List, length, map, vec_len}, specs.Prelude.slice_index_or}
use Rattle.load.specs.{Course.queue_of, Planning.{TaskJob, job_for}, declared.plan.Planned.Planned}
use Rattle.load.proofs.course.Course.jobs.Given as goal

abbrev pub invariant-loop-submitter : goal.invariant-loop-submitter
invariant-loop-submitter l = record {
  count : vec_len l.lists ≡ l.submitter;
  each :
      (s : ℕ) (d : List TaskJob) (e : List Planned) → s < length (map (λ list. list.items) l.lists.items)
      → slice_index_or (map (λ list. list.items) l.lists.items) s d
      ≡ map (job_for l.self.layout l.self.seed l.self.content (queue_of l.self.queues s)) (slice_index_or (map (λ plan. plan.items) l.plans) s e);
}
