-- The fields that were read are those that the bytes spell.
use Rattle.std.proofs.Common.{refl}
use Rattle.entry_codec.{proofs.CompletionLemmas.{spells, found}, specs.Bytes.IsBytes}
use Rattle.entry_codec.proofs.completion.ComEntry.read.Goals as goal

pub returns : goal.returns
returns c =
    let bytes : IsBytes 16 c.args.bytes.now = record { count = c.told-bytes; below = c.fits-bytes } in
    rw (c.dw0.ensures, c.sqhd.ensures, c.sqid.ensures, c.cid.ensures, c.phase.ensures, c.status.ensures, c.hints.ensures)
    (record { spelled = spells c.args.bytes.now bytes; only = found c.args.bytes.now; exact = refl })
