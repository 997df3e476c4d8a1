-- What a load measured, as JSON: the object of its numbers, and what is written of it.
use Rattle.json.specs.{Layout.pretty, Lex.tokens}
use Rattle.load.specs.Histograms.{IsDeviationOf, Numbers, least_of, mean_of, percentile_of}
use Rattle.load.specs.Summaries.{rate_of}
use Rattle.load.specs.declared.{figures.Figures.Figures, stats.{Direction.Direction, Latencies.Latencies, Percentiles.Percentiles, Stats.Stats}, tally.Tally.Tally}
use Rattle.serde.specs.Event.{Event, Log, field_key, map_begins, map_ends, seq_begins, seq_ends, text, unsigned}
use Rattle.serde.specs.declared.name.Case.TheVariants.{AsIs}
use Rattle.serde_json.specs.Sent.{AreTokensOf}
use Rattle.std.specs.Prelude.{◌≡◌, ℕ, ◌-◌, ◌*◌, ◌/◌, ◌^◌, false, List, [], ◌∷◌, ◌++◌, Some, None, codes, min, ⊤}

-- The numbers

abbrev pub percentiles_of : Numbers → Percentiles
percentiles_of took = record {
  half = percentile_of took 500;
  nine_tenths = percentile_of took 900;
  all_but_a_hundredth = percentile_of took 990;
  all_but_a_thousandth = percentile_of took 999;
}

pub record IsLatenciesOf (took : Numbers) (l : Latencies) : Type 0 where
  pub min_is : l.min ≡ least_of took
  pub max_is : l.max ≡ took.most
  pub mean_is : l.mean ≡ mean_of took
  pub stddev : IsDeviationOf took l.stddev
  pub many : l.many ≡ took.many
  pub percentile : l.percentile ≡ percentiles_of took

abbrev pub bytes_of : ℕ → ℕ → ℕ
bytes_of many command_bytes = min (many * command_bytes) (2 ^ 64 - 1)

-- reads or writes, of this many bytes each, in this many nanoseconds
pub record IsDirectionOf (command_bytes nanos : ℕ) (took : Numbers) (d : Direction) : Type 0 where
  pub io_bytes : d.io_bytes ≡ bytes_of took.many command_bytes
  pub bw_bytes : d.bw_bytes ≡ rate_of (bytes_of took.many command_bytes) nanos
  pub iops : d.iops ≡ rate_of took.many nanos
  pub runtime : d.runtime ≡ nanos / 1000000
  pub total_ios : d.total_ios ≡ took.many
  pub clat_ns : IsLatenciesOf took d.clat_ns

pub record IsStatsOf (version : List ℕ) (figures : Figures) (s : Stats) : Type 0 where
  pub version_is : s.version.now ≡ version
  pub runtime_ns : s.runtime_ns ≡ figures.nanos
  pub commands : s.commands ≡ figures.tally
  pub read : IsDirectionOf figures.command_bytes figures.nanos figures.measured.now.reads s.read
  pub write : IsDirectionOf figures.command_bytes figures.nanos figures.measured.now.writes s.write

-- What is written

-- where what was written so far is known, this is added to it
abbrev pub AddsTo : List Event → Log → Log → Type 0
AddsTo events None new = ⊤
AddsTo events (Some old) new = new ≡ Some (old ++ events)

pub record Adds (events : List Event) (old new : Log) : Type 0 where
  pub added : AddsTo events old new

-- a number under its name
abbrev pub number_events : List ℕ → ℕ → List Event
number_events name number = field_key name AsIs ∷ unsigned number ∷ []

abbrev pub key_event : List ℕ → List Event
key_event name = field_key name AsIs ∷ []

-- an object of this many members
abbrev pub object_events : ℕ → List Event → List Event
object_events many members = (map_begins (Some many) ∷ [] ++ members) ++ map_ends ∷ []

unfoldable pub tally_events : Tally → List Event
tally_events tally = object_events 5 (
    number_events (codes "done") tally.done ++ (number_events (codes "refused") tally.refused ++ (number_events (codes "failed") tally.failed
    ++ (number_events (codes "verified") tally.verified ++ number_events (codes "differ") tally.differ))))

unfoldable pub percentiles_events : Percentiles → List Event
percentiles_events p = object_events 4 (
    number_events (codes "50.000000") p.half ++ (number_events (codes "90.000000") p.nine_tenths
    ++ (number_events (codes "99.000000") p.all_but_a_hundredth ++ number_events (codes "99.900000") p.all_but_a_thousandth)))

unfoldable pub latencies_events : Latencies → List Event
latencies_events l = object_events 6 (
    number_events (codes "min") l.min ++ (number_events (codes "max") l.max ++ (number_events (codes "mean") l.mean
    ++ (number_events (codes "stddev") l.stddev ++ (number_events (codes "N") l.many
    ++ (key_event (codes "percentile") ++ percentiles_events l.percentile))))))

unfoldable pub direction_events : Direction → List Event
direction_events d = object_events 6 (
    number_events (codes "io_bytes") d.io_bytes ++ (number_events (codes "bw_bytes") d.bw_bytes ++ (number_events (codes "iops") d.iops
    ++ (number_events (codes "runtime") d.runtime ++ (number_events (codes "total_ios") d.total_ios
    ++ (key_event (codes "clat_ns") ++ latencies_events d.clat_ns))))))

-- the one job
unfoldable pub job_events : Stats → List Event
job_events s = object_events 3 (
    key_event (codes "jobname") ++ (text (codes "load") ∷ [] ++ (key_event (codes "read") ++ (direction_events s.read
    ++ (key_event (codes "write") ++ direction_events s.write)))))

unfoldable pub stats_events : Stats → List Event
stats_events s = object_events 4 (
    key_event (codes "nvmesgl version") ++ (text s.version.now ∷ [] ++ (number_events (codes "runtime_ns") s.runtime_ns
    ++ (key_event (codes "commands") ++ (tally_events s.commands
    ++ (key_event (codes "jobs") ++ (seq_begins (Some 1) ∷ [] ++ (job_events s ++ seq_ends ∷ []))))))))

-- The bytes are those of the object of these figures, laid out, with a line feed.
pub record IsJsonOf (version : List ℕ) (figures : Figures) (bytes : List ℕ) : Type 0 where
  pub object : Stats
  pub is_object : IsStatsOf version figures object
  pub front : List ℕ
  pub has_tokens : AreTokensOf false (Some (stats_events object)) (tokens front)
  pub layout : front ≡ pretty (tokens front)
  pub bytes_are : bytes ≡ front ++ 10 ∷ []
