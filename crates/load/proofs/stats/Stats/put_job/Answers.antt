use Rattle.std.proofs.Common.{[], ◌∷◌, Some, codes}
use Rattle.serde.specs.Event.{field_key, map_begins, map_ends, text}
use Rattle.serde.specs.declared.name.Case.TheVariants.{AsIs}
use Rattle.load.specs.Objects.{Adds, job_events}
use Rattle.load.proofs.Written.{ended, one, then}
use Rattle.load.proofs.stats.Stats.put_job.Goals as goal

pub returns : goal.returns
unfolding job_events
returns g c =
    let written = g.S.Serializer.written in
    let begun : Adds (map_begins (Some 3) ∷ []) (written c.args.out.now) (written c.begin_map.new.self) = one c.in_ok-begin_map.ensures in
    let jobname : Adds (field_key (codes "jobname") AsIs ∷ []) (written c.begin_map.new.self) (written c.key.new.self) = one c.in_ok-key.ensures in
    let name : Adds (text (codes "load") ∷ []) (written c.key.new.self) (written c.str.new.self) = one c.in_ok-str.ensures in
    let read : Adds (field_key (codes "read") AsIs ∷ []) (written c.str.new.self) (written c.key-2.new.self) = one c.in_ok-key-2.ensures in
    let write : Adds (field_key (codes "write") AsIs ∷ []) (written c.serialize.new.out) (written c.key-3.new.self) = one c.in_ok-key-3.ensures in
    let members = then jobname (then name (then read (then c.in_ok-serialize.ensures (then write c.in_ok-serialize-2.ensures)))) in
    ended c.end_map.result map_ends (written c.end_map.new.self) (then begun members) c.end_map.ensures
