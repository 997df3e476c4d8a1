use Rattle.std.proofs.{Common.{rules, true}, lemmas.Fmt.hex_byte}
use Rattle.texts.proofs.objects.line.put_hex_byte.Goals as goal

pub returns : goal.returns
returns c = search (rules, hex_byte true c.args.byte)
