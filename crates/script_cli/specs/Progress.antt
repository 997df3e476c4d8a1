-- The line that says how far a run is.
use Rattle.std.specs.Prelude.{ℕ, ◌+◌, ◌&&◌, nat_le, Bool, false, true, min, if◌then◌else◌}
use Rattle.script_cli.specs.declared.progress.Progress.{Progress}

-- no line was told yet; the first comes after a fifth of a second
abbrev pub begun : Bool → Progress
begun shows = record { shows = shows; shown = false; next = 200000000 }

-- a line is told where there are lines and the next one's time has come, and then none for a fifth of a second
abbrev pub told_at : ℕ → Progress → Progress
told_at nanos line =
    if line.shows && nat_le line.next nanos then record line { shown = true; next = min (nanos + 200000000) 18446744073709551615 }
    else line
