-- The types are computed as decimal text.
use Rattle.std.{proofs.Common.refl, specs.Fmt.digits}
use Rattle.entry_codec.proofs.status.worked_texts.Goals as goal

pub returns : goal.returns
unfolding digits
returns c =
    record {
      success = refl;
      invalid_sgl_segment = refl;
      lba_out_of_range = refl;
      invalid_queue_deletion = refl;
      compare_failure = refl;
      largest = refl;
    }
