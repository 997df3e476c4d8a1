-- Whether two statuses are one.
use Rattle.std.specs.Prelude.{Bool, ◌==◌, ◌&&◌}
use Rattle.entry_codec.specs.declared.status.Status.{Status}

abbrev pub same_status : Status → Status → Bool
same_status a b = (a.sct == b.sct) && (a.sc == b.sc)
