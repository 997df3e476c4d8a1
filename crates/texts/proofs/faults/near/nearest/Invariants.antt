-- the nearest of the names so far
use Rattle.std.proofs.Common.{map, string_bytes}
use Rattle.std.specs.Option.{option_map}
use Rattle.texts.proofs.NearLemmas.{SoFar}
use Rattle.texts.proofs.faults.near.nearest.Given as goal

abbrev pub invariant-loop-name : goal.invariant-loop-name
invariant-loop-name l = SoFar (string_bytes l.text) (map (λ name. name.now) l.names) l.name-index l.least (option_map (λ name. name.now) l.nearest)
