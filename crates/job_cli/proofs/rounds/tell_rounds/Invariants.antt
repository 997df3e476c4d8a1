-- the rounds so far went on to the world as it is, with the jobs that are left the jobs that were done are all, and those whose turn came are told
use Rattle.std.{proofs.Common.{◌≡◌, List, length, map, vec_len}, specs.Io.KnownBytes.Appends}
use Rattle.driver_threads.specs.{Behind.behind, Values.Job}
use Rattle.job_cli.specs.{GoneOn.HasGoneOn, Headings.{headed_so_far, without_end}, declared.telling.Form.TheVariants.Lines}
use Rattle.job_cli.proofs.rounds.tell_rounds.Given as goal

abbrev pub invariant-loop : goal.invariant-loop
invariant-loop g l = record {
  count : vec_len l.left ≡ vec_len l.fn.orders.lists;
  jobs : (done : List (List Job)) × (map length l.ends ≡ map length done) × (behind done (map (λ queue. queue.items) l.left.items) ≡ map (λ queue. queue.items) l.fn.orders.lists.items)
      × HasGoneOn l.fn.world.state done l.ends l.world.state;
  untold : l.untold ≡ without_end l.ends l.fn.orders.headings.items;
  told : l.pace.form ≡ Lines → Appends (g.W.Write.contents l.fn.writer) (g.W.Write.contents l.writer) (headed_so_far l.ends l.fn.orders.headings.items);
}
