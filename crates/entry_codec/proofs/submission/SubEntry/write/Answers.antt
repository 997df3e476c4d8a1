-- The four parts stand one after the other.
use Rattle.std.{proofs.Common.{rules, ◌≡◌, ◌∙◌, refl, length}, specs.Int.{w64, to_le_bytes}}
use Rattle.entry_codec.{proofs.Bits.parts_joined, specs.Submission.{submission_bytes, submission_head, command_words}}
use Rattle.entry_codec.proofs.submission.SubEntry.write.Goals as goal

pub returns-clause-bytes : goal.returns-clause-bytes
unfolding submission_bytes
returns-clause-bytes c =
    let head : c.copy_from_slice.new.self ≡ submission_head c.args.self = c.copy_from_slice.ensures.after ∙ c.head.ensures in
    let pointer : c.copy_from_slice-2.new.self ≡ to_le_bytes w64 c.args.self.mptr = c.copy_from_slice-2.ensures.after ∙ c.to_le_bytes.ensures in
    let sgl : c.copy_from_slice-3.new.self ≡ c.args.self.sgl1 = c.copy_from_slice-3.ensures.after in
    let words : c.copy_from_slice-4.new.self ≡ command_words c.args.self = c.copy_from_slice-4.ensures.after ∙ c.command_words.ensures in
    let long : length c.args.self.sgl1 ≡ 16 = search rules in
    rw (head, pointer, sgl, words)
    (parts_joined (submission_head c.args.self) (to_le_bytes w64 c.args.self.mptr) c.args.self.sgl1 (command_words c.args.self) refl refl long refl)
