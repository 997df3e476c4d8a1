use Rattle.std.proofs.Common.{[], ◌∷◌, Some}
use Rattle.serde.specs.Event.{map_begins, map_ends}
use Rattle.load.specs.Objects.{Adds, percentiles_events}
use Rattle.load.proofs.Written.{ended, one, then}
use Rattle.load.proofs.stats.PercentilesSerialize.serialize.Goals as goal

pub returns : goal.returns
unfolding percentiles_events
returns g c =
    let written = g.S.Serializer.written in
    let begun : Adds (map_begins (Some 4) ∷ []) (written c.args.out.now) (written c.begin_map.new.self) = one c.in_ok-begin_map.ensures in
    let members = then c.in_ok-put_number.ensures (then c.in_ok-put_number-2.ensures (then c.in_ok-put_number-3.ensures c.in_ok-put_number-4.ensures)) in
    ended c.end_map.result map_ends (written c.end_map.new.self) (then begun members) c.end_map.ensures
