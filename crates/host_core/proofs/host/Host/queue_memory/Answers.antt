use Rattle.std.proofs.Common.{◌≡◌, ◌≤◌, [], length, sym, ◌∙◌, ap, subst, arith, Some, None, option_map}
use Rattle.std.proofs.lemmas.Option.{slice_get_past, slice_get-map}
use Rattle.host_core.{proofs.QueueLists.{queue-at, host-at}, specs.{Alone.HostView, Parts.tables_of, Rights.{memory_of_queue, queue_memory_at}, Tables.host_queue_of}}
use Rattle.host_core.proofs.host.Host.queue_memory.Goals as goal

pub returns : goal.returns
returns g c =
    let here =
    queue-at (tables_of c.self.inside.parts []) c.args.q c.from-2.result c.index-queue.result.now
    (omega (arith, c.if-from-len.false, c.from.ensures, c.len.ensures, c.self.inside.parts.queues.ok.0)) c.from-2.ensures c.index-queue.ensures in
    subst (λ (v : HostView). Some c.memory_of.result ≡ queue_memory_at v.host c.args.q) c.self.view_is
    (ap (λ m. Some m) c.memory_of.ensures ∙ ap (λ o. option_map memory_of_queue o) (sym (host-at (tables_of c.self.inside.parts []) c.args.q c.index-queue.result.now here)))

pub returns-then-from-len : goal.returns-then-from-len
returns-then-from-len g c =
    let outside : length c.self.inside.parts.queues.items ≤ c.args.q = omega (arith, c.if-from-len.true, c.from.ensures, c.len.ensures, c.self.inside.parts.queues.ok.0) in
    subst (λ (v : HostView). None ≡ queue_memory_at v.host c.args.q) c.self.view_is
    (sym (ap (λ o. option_map memory_of_queue o) (slice_get-map host_queue_of c.self.inside.parts.queues.items c.args.q ∙ ap (option_map host_queue_of) (slice_get_past c.self.inside.parts.queues.items c.args.q outside))))

pub memory_of-requires-clause-entries : goal.memory_of-requires-clause-entries
memory_of-requires-clause-entries g c =
    let here =
    queue-at (tables_of c.self.inside.parts []) c.args.q c.from-2.result c.index-queue.result.now
    (omega (arith, c.if-from-len.false, c.from.ensures, c.len.ensures, c.self.inside.parts.queues.ok.0)) c.from-2.ensures c.index-queue.ensures in
    (c.self.invariant.rings.each c.args.q c.index-queue.result.now here).entries

pub memory_of-requires-clause-some : goal.memory_of-requires-clause-some
memory_of-requires-clause-some g c = omega (arith, c.self.invariant.limits.least_entries)
