use Rattle.controller_core.proofs.Counting.{count_read, counted_put, few_counted, length_row}
use Rattle.controller_core.proofs.Rows.{commands_of, named_put, distinct_put, unknown_place}
use Rattle.slot_table.proofs.Walks.{none_stands}
use Rattle.std.proofs.Common.{◌<◌, length, arith, ap, refl, sym}
use Rattle.entry_codec.specs.declared.submission.SubEntry.{SubEntry}
use Rattle.controller_core.proofs.commands.Commands.put.Goals as goal

pub put-requires : goal.put-requires
put-requires g c =
    let unknown = rw (← c.self.view_is, ← c.entry.ensures) at c.requires.unknown in
    record { empty = unknown_place c.self.inside.table c.args.command.q c.entry.result.now.cid c.self.invariant.0 unknown }

pub overflow_add-index_mut : goal.overflow_add-index_mut
overflow_add-index_mut g c =
    let i = c.self.inside in
    let q = c.args.command.q in
    let inside : q < length i.counts.items = rw (← c.self.view_is) at c.requires.there in
    let read = count_read i.counts.items q c.from.result c.index_mut.result.now c.from.ensures inside c.index_mut.ensures.value in
    let few = few_counted i.counts.items (commands_of i.table) q c.self.invariant.2 in
    let more = length_row i.table q c.entry.result.now.cid c.args.command in
    let long = ap length c.in-Ok.ensures.put in
    omega (arith, read, few, more, long, c.len.ensures.count, c.len.type_inv)

pub invariant_of-self-2 : goal.invariant_of-self-2
invariant_of-self-2 g c =
    let t = c.self.inside.table in
    let counts = c.self.inside.counts.items in
    let k = c.args.command in
    let unknown = rw (← c.self.view_is, ← c.entry.ensures) at c.requires.unknown in
    let empty = unknown_place t k.q c.entry.result.now.cid c.self.invariant.0 unknown in
    let inside : k.q < length counts = rw (← c.self.view_is) at c.requires.there in
    rw (c.in-Ok.ensures.put) (
      named_put t k.q c.entry.result.now.cid k c.self.invariant.0 refl (ap (λ (e : SubEntry). e.cid) (sym c.entry.ensures)),
      distinct_put t k.q c.entry.result.now.cid k c.self.invariant.1 (none_stands t k.q c.entry.result.now.cid empty),
      counted_put counts t c.entry.result.now.cid k c.from.result _ c.self.invariant.2 inside c.from.ensures c.index_mut.ensures.value,
    )
