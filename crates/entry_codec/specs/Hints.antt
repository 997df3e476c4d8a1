-- The four bits of hints, as they stand above the status of a completion (NVM Express Base Specification 2.0, "Status Field Definition").
use Rattle.std.specs.{Int.from_bool, Prelude.{ℕ, ◌+◌, ◌*◌, ◌<◌}}
use Rattle.entry_codec.specs.declared.hints.Hints.{Hints}

-- the retry delay fits its 2 bits
pub record FitsHints (hints : Hints) : Type 0 where
  pub retry_delay : hints.retry_delay < 4

-- Command Retry Delay in bits 1:0, More in bit 2, Do Not Retry in bit 3
abbrev pub hint_bits : Hints → ℕ
hint_bits hints = hints.retry_delay + from_bool hints.more * 4 + from_bool hints.do_not_retry * 8
