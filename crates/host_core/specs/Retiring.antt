-- The host gives the submission half of a deleted queue back.
use Rattle.std.specs.Prelude.{ℕ, map}
use Rattle.machine_model.specs.{After.lost, declared.words.HostState.TheVariants.Retired}
use Rattle.host_core.specs.{Reaping.without_submission, Tables.Tables}

-- a queue's commands that were never answered are lost
abbrev pub with_lost : ℕ → Tables → Tables
with_lost q t = record t { records = map (lost q) t.records }

-- the tables once a queue is retired
abbrev pub retired : ℕ → Tables → Tables
retired q t = without_submission Retired q (with_lost q t)
