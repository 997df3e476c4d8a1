-- The doorbells of a controller, 4 bytes apart: a queue's tail, and after it its head.
use Rattle.std.specs.Prelude.{ℕ, ◌+◌, ◌*◌}
use Rattle.host_core.specs.declared.doorbell.Doorbell.{Doorbell}

abbrev pub tail_bell : ℕ → ℕ → Doorbell
tail_bell q slot = record { offset = 4096 + 8 * q; value = slot }

abbrev pub head_bell : ℕ → ℕ → Doorbell
head_bell q slot = record { offset = 4096 + 8 * q + 4; value = slot }
