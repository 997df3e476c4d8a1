-- The fields that were read are those that the bytes spell.
use Rattle.std.proofs.Common.{refl}
use Rattle.entry_codec.{proofs.SubmissionLemmas.{spells, found}, specs.Bytes.IsBytes}
use Rattle.entry_codec.proofs.submission.SubEntry.read.Goals as goal

pub returns : goal.returns
returns c =
    let bytes : IsBytes 64 c.args.bytes.now = record { count = c.told-bytes; below = c.fits-bytes } in
    rw (c.opcode.ensures, c.fuse.ensures, c.psdt.ensures, c.cid.ensures, c.nsid.ensures, c.mptr.ensures, c.sgl1.ensures)
    (rw (c.cdw10.ensures, c.cdw11.ensures, c.cdw12.ensures, c.cdw13.ensures, c.cdw14.ensures, c.cdw15.ensures)
    (record { spelled = spells c.args.bytes.now bytes; only = found c.args.bytes.now; exact = refl }))
