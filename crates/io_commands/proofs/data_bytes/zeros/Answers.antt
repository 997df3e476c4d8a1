use Rattle.std.proofs.lemmas.List.{take-replicate}
use Rattle.io_commands.proofs.data_bytes.zeros.Goals as goal

pub returns : goal.returns
returns c = take-replicate c.args.count 4096 0 c.requires
