-- Which slots a submitter's commands go to, counted from its first.
use Rattle.std.specs.Prelude.{◌≡◌, ℕ, ◌+◌, ◌-◌, ◌%◌, ◌<◌, ◌≤◌, Bool, true, false, List, length, min, nat_lt, Option, Some, None, slice_index_or, unwrap_or, if◌then◌else◌}
use Rattle.io_commands.specs.declared.request.Kind.{Kind}
use Rattle.rand.specs.Sample.{IsSampleOf}
use Rattle.rand_core.specs.{Steps.{steps_u32, stream_of}, Stream.next_u32}
use Rattle.rand_pcg.specs.{Lcg.Lcg, Pcg.pcg32}
use Rattle.script_cli.specs.declared.workload.Pattern.{Pattern}
use Rattle.io_commands.specs.declared.request.Kind.TheVariants as kind
use Rattle.script_cli.specs.declared.workload.Pattern.TheVariants as pattern

-- the slots of a pattern come at random
abbrev pub is_random : Pattern → Bool
is_random pattern.Read = false
is_random pattern.Write = false
is_random pattern.Rw = false
is_random pattern.RandRead = true
is_random pattern.RandWrite = true
is_random pattern.RandRw = true

-- different slots out of a given number, this many at most, and some where some may be
pub record ArePicked (slots most : ℕ) (picked : List ℕ) : Type 0 where
  pub few : length picked ≤ most
  pub some : 1 ≤ most → 1 ≤ length picked
  pub sample : IsSampleOf slots (length picked) picked

-- this many numbers starting at one, in order
pub record AreCounted (from many : ℕ) (numbers : List ℕ) : Type 0 where
  pub count : length numbers ≡ many
  pub each : (k d : ℕ) → k < length numbers → slice_index_or numbers k d ≡ from + k

-- the slots that come next in turn, and the one that is next then: after the last it is the first
abbrev pub AreNext : ℕ → ℕ → ℕ → List ℕ → ℕ → Type 0
AreNext next slots most picked after =
    let from = if nat_lt next slots then next else 0 in
    let many = min most (slots - from) in
    AreCounted from many picked × (after ≡ (if nat_lt (from + many) slots then from + many else 0))

-- the one kind of a pattern that is not mixed
abbrev pub only_kind : Pattern → Option Kind
only_kind pattern.Read = Some kind.Read
only_kind pattern.Write = Some kind.Write
only_kind pattern.Rw = None
only_kind pattern.RandRead = Some kind.Read
only_kind pattern.RandWrite = Some kind.Write
only_kind pattern.RandRw = None

-- this many of a hundred words say that a command reads
abbrev pub kind_of_word : ℕ → ℕ → Kind
kind_of_word reads word = if nat_lt (word % 100) reads then kind.Read else kind.Write

-- the next command's kind: where both kinds are mixed, the next word of the generator says it
abbrev pub kind_by : Pattern → ℕ → Lcg → Kind
kind_by pattern reads words = unwrap_or (only_kind pattern) (kind_of_word reads (next_u32 (stream_of (steps_u32 pcg32) words)).0)
