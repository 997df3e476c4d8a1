-- An image has at most the bytes of the limit, so no further byte was read.
use Rattle.std.proofs.{Common.{refl, sym}, lemmas.Bool.true≢false}
use Rattle.script_cli.proofs.Texts.{image_is_told, no_image_is_told}
use Rattle.script_cli.proofs.input.read_image.Goals as goal

pub returns-in-Ok-from_bytes-clause-image : goal.returns-in-Ok-from_bytes-clause-image
returns-in-Ok-from_bytes-clause-image g c =
    rw c.in-Ok-from_bytes.ensures.image (image_is_told _ c.in-Ok.bytes.items (c.in-Ok-from_bytes.ensures.good_length.0 refl) c.in-Ok.ensures)

pub returns-clause-no_image : goal.returns-clause-no_image
returns-clause-no_image g c = no_image_is_told _ c.in-Ok.bytes.items (λ good. true≢false (sym (c.in-Err.ensures.good_length.1 good))) c.in-Ok.ensures
