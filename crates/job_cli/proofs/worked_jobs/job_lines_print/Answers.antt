-- The numbers are computed as decimal text.
use Rattle.std.{proofs.Common.refl, specs.Fmt.digits}
use Rattle.job_cli.proofs.worked_jobs.job_lines_print.Goals as goal

pub returns : goal.returns
unfolding digits
returns c =
    record {
      written = refl;
      read = refl;
      differs = refl;
      no_queue = refl;
      bad = refl;
      other_blocks = refl;
      too_few = refl;
      too_many_bytes = refl;
    }
