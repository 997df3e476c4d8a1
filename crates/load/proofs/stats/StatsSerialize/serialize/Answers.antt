use Rattle.std.proofs.Common.{[], ◌∷◌, Some, codes}
use Rattle.serde.specs.Event.{field_key, map_begins, map_ends, seq_begins, seq_ends, text}
use Rattle.serde.specs.declared.name.Case.TheVariants.{AsIs}
use Rattle.load.specs.Objects.{Adds, stats_events}
use Rattle.load.proofs.Written.{ended, one, then}
use Rattle.load.proofs.stats.StatsSerialize.serialize.Goals as goal

pub returns : goal.returns
unfolding stats_events
returns g c =
    let written = g.S.Serializer.written in
    let begun : Adds (map_begins (Some 4) ∷ []) (written c.args.out.now) (written c.begin_map.new.self) = one c.in_ok-begin_map.ensures in
    let version : Adds (field_key (codes "nvmesgl version") AsIs ∷ []) (written c.begin_map.new.self) (written c.key.new.self) = one c.in_ok-key.ensures in
    let value : Adds (text c.args.self.now.version.now ∷ []) (written c.key.new.self) (written c.str.new.self) = one c.in_ok-str.ensures in
    let commands : Adds (field_key (codes "commands") AsIs ∷ []) (written c.put_number.new.out) (written c.key-2.new.self) = one c.in_ok-key-2.ensures in
    let jobs : Adds (field_key (codes "jobs") AsIs ∷ []) (written c.serialize.new.out) (written c.key-3.new.self) = one c.in_ok-key-3.ensures in
    let list : Adds (seq_begins (Some 1) ∷ []) (written c.key-3.new.self) (written c.begin_seq.new.self) = one c.in_ok-begin_seq.ensures in
    let end : Adds (seq_ends ∷ []) (written c.put_job.new.out) (written c.end_seq.new.self) = one c.in_ok-end_seq.ensures in
    let members = then version (then value (then c.in_ok-put_number.ensures (then commands (then c.in_ok-serialize.ensures (then jobs (then list (then c.in_ok-put_job.ensures end))))))) in
    ended c.end_map.result map_ends (written c.end_map.new.self) (then begun members) c.end_map.ensures
