-- what is told and what the headings that are left tell is all
use Rattle.std.{proofs.Common.{◌≡◌, ◌++◌, ℕ, List, length}, specs.Io.KnownBytes.Appends}
use Rattle.job_cli.specs.{Headings.{headed_so_far, without_end}, declared.telling.Form.TheVariants.Lines}
use Rattle.job_cli.proofs.telling.write_ended.Given as goal

abbrev pub invariant-loop-heading : goal.invariant-loop-heading
invariant-loop-heading g l = record {
  left : without_end l.ends l.fn.headings ≡ without_end l.ends l.left;
  written : l.form ≡ Lines → (said : List ℕ) × Appends (g.W.Write.contents l.fn.writer) (g.W.Write.contents l.writer) said × (headed_so_far l.ends l.fn.headings ≡ said ++ headed_so_far l.ends l.left);
}

abbrev pub decreases-loop-heading : goal.decreases-loop-heading
decreases-loop-heading g l = length l.left
