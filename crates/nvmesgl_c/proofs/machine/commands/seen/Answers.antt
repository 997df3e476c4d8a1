use Rattle.std.proofs.Common.{sym, arith}
use Rattle.std.proofs.lemmas.List.{length-take-le, take_all}
use Rattle.nvmesgl_c.proofs.machine.commands.seen.Goals as goal

pub returns-else-bytes-gt-MOST_SEEN : goal.returns-else-bytes-gt-MOST_SEEN
returns-else-bytes-gt-MOST_SEEN c = sym (take_all 1048577 c.args.bytes.now (omega arith))

pub slice_bounds-result-end : goal.slice_bounds-result-end
slice_bounds-result-end c = sym (length-take-le 1048577 c.args.bytes.now (omega arith))
