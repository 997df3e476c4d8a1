use Rattle.std.proofs.Common.{[], ◌∷◌, Some, codes}
use Rattle.serde.specs.Event.{field_key, map_begins, map_ends}
use Rattle.serde.specs.declared.name.Case.TheVariants.{AsIs}
use Rattle.load.specs.Objects.{Adds, latencies_events}
use Rattle.load.proofs.Written.{ended, one, then}
use Rattle.load.proofs.stats.LatenciesSerialize.serialize.Goals as goal

pub returns : goal.returns
unfolding latencies_events
returns g c =
    let written = g.S.Serializer.written in
    let begun : Adds (map_begins (Some 6) ∷ []) (written c.args.out.now) (written c.begin_map.new.self) = one c.in_ok-begin_map.ensures in
    let percentile : Adds (field_key (codes "percentile") AsIs ∷ []) (written c.put_number-5.new.out) (written c.key.new.self) = one c.in_ok-key.ensures in
    let members = then c.in_ok-put_number.ensures (then c.in_ok-put_number-2.ensures (then c.in_ok-put_number-3.ensures (then c.in_ok-put_number-4.ensures (then c.in_ok-put_number-5.ensures (then percentile c.in_ok-serialize.ensures))))) in
    ended c.end_map.result map_ends (written c.end_map.new.self) (then begun members) c.end_map.ensures
