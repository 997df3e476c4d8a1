-- this many submitters have what they draw from
use Rattle.std.{proofs.Common.{◌≡◌, ◌*◌, vec_len}, specs.Prelude.IfSome}
use Rattle.load.proofs.course.Course.new.Given as goal

abbrev pub invariant-loop-submitter : goal.invariant-loop-submitter
invariant-loop-submitter l = record {
  count : vec_len l.picks ≡ l.submitter;
  content : l.content ≡ l.fn.content;
  whole : IfSome l.content (λ c. vec_len c.first ≡ 512 * l.layout.blocks);
}
