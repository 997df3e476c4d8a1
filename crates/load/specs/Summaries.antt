-- What a load measured, for people.
use Rattle.std.specs.Prelude.{ℕ, ◌+◌, ◌*◌, ◌/◌, ◌%◌, ◌^◌, ◌-◌, ◌==◌, List, [], ◌∷◌, ◌++◌, codes, decimal, max, min, if◌then◌else◌}
use Rattle.load.specs.{Histograms.{Numbers, least_of, mean_of, percentile_of}, declared.measured.Measured.Measured}

-- how many there are in a second, given this many in this many nanoseconds
abbrev pub rate_of : ℕ → ℕ → ℕ
rate_of many nanos = min (many * 1000000) (2 ^ 64 - 1) / max (nanos / 1000) 1

-- microseconds with a tenth, of nanoseconds
abbrev pub micros_text : ℕ → List ℕ
micros_text nanos = decimal (nanos / 1000) ++ (codes "." ++ decimal (nanos / 100 % 10))

-- how many commands there were in a second, and how many MiB, with a tenth, of this many commands of this many bytes
unfoldable pub rates_text : ℕ → ℕ → ℕ → List ℕ
rates_text many command_bytes nanos =
    let kib = rate_of (min (many * command_bytes) (2 ^ 64 - 1)) nanos / 1024 in
    decimal (rate_of many nanos) ++ (codes " commands a second, " ++ (decimal (kib / 1024) ++ (codes "." ++ (decimal (kib % 1024 * 10 / 1024)
    ++ (codes " MiB a second, " ++ (decimal (nanos / 1000000) ++ (codes " ms" ++ (10 ∷ []))))))))

-- how long reads or writes took, where there are any
unfoldable pub latencies_text : List ℕ → Numbers → List ℕ
latencies_text name took =
    if took.many == 0 then []
    else name ++ (codes " us: min " ++ (micros_text (least_of took) ++ (codes ", mean " ++ (micros_text (mean_of took)
    ++ (codes ", 50% " ++ (micros_text (percentile_of took 500) ++ (codes ", 90% " ++ (micros_text (percentile_of took 900)
    ++ (codes ", 99% " ++ (micros_text (percentile_of took 990) ++ (codes ", 99.9% " ++ (micros_text (percentile_of took 999)
    ++ (codes ", max " ++ (micros_text took.most ++ (10 ∷ [])))))))))))))))

-- how many commands were measured
abbrev pub many_of : Measured → ℕ
many_of measured = min (measured.reads.many + measured.writes.many) (2 ^ 64 - 1)

-- a line of both, and one each of reads and of writes
abbrev pub summary_text : Measured → ℕ → ℕ → List ℕ
summary_text measured command_bytes nanos =
    rates_text (many_of measured) command_bytes nanos ++ latencies_text (codes "read ") measured.reads ++ latencies_text (codes "write") measured.writes
