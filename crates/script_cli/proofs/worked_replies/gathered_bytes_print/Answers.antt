-- The numbers are computed as decimal text.
use Rattle.std.{proofs.Common.refl, specs.Fmt.digits}
use Rattle.script_cli.proofs.worked_replies.gathered_bytes_print.Goals as goal

pub returns : goal.returns
unfolding digits
returns c =
    record {
      zeros = refl;
      none = refl;
      runs = refl;
      again = refl;
    }
