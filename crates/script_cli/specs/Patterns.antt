-- The names of patterns and formats.
use Rattle.std.specs.{Prelude.{ℕ, ◌||◌, List, Option, Some, None, codes, if◌then◌else◌}, Str.bytes_eq}
use Rattle.script_cli.specs.declared.workload.{OutputFormat.OutputFormat, Pattern.Pattern}
use Rattle.script_cli.specs.declared.workload.OutputFormat.TheVariants as format
use Rattle.script_cli.specs.declared.workload.Pattern.TheVariants as pattern

abbrev pub pattern_name : Pattern → List ℕ
pattern_name pattern.Read = codes "read"
pattern_name pattern.Write = codes "write"
pattern_name pattern.Rw = codes "rw"
pattern_name pattern.RandRead = codes "randread"
pattern_name pattern.RandWrite = codes "randwrite"
pattern_name pattern.RandRw = codes "randrw"

-- the pattern of a name; `readwrite` is another name of `rw`
abbrev pub pattern_named : List ℕ → Option Pattern
pattern_named text =
    if bytes_eq text (codes "read") then Some pattern.Read
    else if bytes_eq text (codes "write") then Some pattern.Write
    else if bytes_eq text (codes "rw") || bytes_eq text (codes "readwrite") then Some pattern.Rw
    else if bytes_eq text (codes "randread") then Some pattern.RandRead
    else if bytes_eq text (codes "randwrite") then Some pattern.RandWrite
    else if bytes_eq text (codes "randrw") then Some pattern.RandRw
    else None

-- the format of a name
abbrev pub format_named : List ℕ → Option OutputFormat
format_named text =
    if bytes_eq text (codes "normal") then Some format.Normal
    else if bytes_eq text (codes "json") then Some format.Json
    else None
