-- What is written for the code, and that these are its two digits.
use Rattle.std.proofs.{Common.{rules, true, ◌<◌}, lemmas.Fmt.hex_byte}
use Rattle.entry_codec.proofs.status.StatusDisplay.fmt.Goals as goal

pub returns-clause-writes : goal.returns-clause-writes
returns-clause-writes g c =
    let small : c.args.self.now.sc < 256 = search rules in
    let code = rw (c.in_radix.ensures) at c.write.ensures.writes in
    let options = rw (c.laid_out.ensures) at code in
    rw (hex_byte true c.args.self.now.sc small) at options
