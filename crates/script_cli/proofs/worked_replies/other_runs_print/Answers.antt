-- The numbers are computed as decimal text.
use Rattle.std.{proofs.Common.refl, specs.Fmt.digits}
use Rattle.script_cli.proofs.worked_replies.other_runs_print.Goals as goal

pub returns : goal.returns
unfolding digits
returns c =
    record {
      bucket = refl;
      mismatch = refl;
      too_few = refl;
      no_run = refl;
      nothing = refl;
      past_the_end = refl;
      two_touched = refl;
      abort = refl;
      waits = refl;
      aborted = refl;
      admin = refl;
      no_such_command = refl;
      forged = refl;
      unknown = refl;
      bad_head = refl;
      wrong_queue = refl;
      empty = refl;
      reset = refl;
      no_slot = refl;
      compare = refl;
      no_value = refl;
    }
