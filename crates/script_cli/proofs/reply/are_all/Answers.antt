-- Numbers of eight bytes are the same only where the bytes are.
use Rattle.std.{proofs.{Common.{arith, rules, ◌≡◌, ◌∙◌, ℕ, ap, sym, replicate, w64}, lemmas.Nat.le_bytes_8}, specs.Int.to_le_bytes}
use Rattle.script_cli.proofs.Texts.{bytes_all}
use Rattle.script_cli.proofs.reply.are_all.Goals as goal

pub returns : goal.returns
returns c same =
    let equal : c.from_le_bytes.result ≡ c.from_le_bytes-2.result = grind (arith, same) in
    sym (le_bytes_8 c.args.eight c.from_le_bytes.result (search rules) (search rules) c.from_le_bytes.ensures)
    ∙ (ap (λ (n : ℕ). to_le_bytes w64 n) equal
    ∙ le_bytes_8 (replicate 8 c.args.byte) c.from_le_bytes-2.result (search rules) (bytes_all c.args.byte (search rules)) c.from_le_bytes-2.ensures)
