-- The numbers are computed as decimal text.
use Rattle.std.{proofs.Common.refl, specs.Fmt.digits}
use Rattle.script_cli.proofs.worked_replies.first_run_prints.Goals as goal

pub returns : goal.returns
unfolding digits
returns c =
    record {
      line1 = refl;
      line2 = refl;
      line3 = refl;
      line4 = refl;
      line5 = refl;
      line6 = refl;
      line7 = refl;
      line8 = refl;
      line9 = refl;
      line10 = refl;
      line12 = refl;
      line13 = refl;
      last = refl;
    }
