use Rattle.std.proofs.{Common.{◌≡◌, ◌∙◌, [], length, ap, arith, refl, subst, sym}, lemmas.Option.slice_get_within}
use Rattle.page_ledger.specs.Owners.{given_back, is_half}
use Rattle.page_memory.specs.declared.page.Half.TheVariants.{Submission, Completion}
use Rattle.host_core.{proofs.Resets.{half-stays, halves-apart, halves_given, queue-lost}, specs.{Parts.tables_of, Resetting.ListsHalf, Tables.Tables}}
use Rattle.host_core.proofs.tables.HostTables.lose_queue.Goals as goal

pub give_back-requires-2 : goal.give_back-requires-2
give_back-requires-2 g c =
    let t : Tables = tables_of c.args.self.now [] in
    subst (λ (u : Tables). ListsHalf u c.args.q Completion) (sym (c.give_back.ensures []))
    (half-stays t c.args.q Completion (is_half c.args.q Submission) t.queues (halves-apart c.args.q) refl (c.requires Completion))

pub index_mut-requires : goal.index_mut-requires
index_mut-requires g c =
    let t : Tables = tables_of c.args.self.now [] in
    let h = c.requires Completion in
    omega (arith, slice_get_within t.queues c.args.q h.queue h.at, c.from.ensures, ap (λ (u : Tables). length u.queues) (c.give_back-2.ensures []), ap (λ (u : Tables). length u.queues) (c.give_back.ensures []))

pub returns : goal.returns
returns g c = λ pages.
    let t : Tables = tables_of c.args.self.now pages in
    let h = c.requires Completion in
    let given : tables_of c.give_back-2.new.self pages ≡ halves_given c.args.q t =
    c.give_back-2.ensures pages ∙ ap (λ (u : Tables). record u { owners = given_back (is_half c.args.q Completion) u.owners }) (c.give_back.ensures pages) in
    queue-lost t (tables_of c.give_back-2.new.self pages) c.args.q c.from.result c.index_mut.result.now c.lose.new.queue given c.from.ensures (slice_get_within t.queues c.args.q h.queue h.at)
    c.index_mut.ensures.value c.lose.ensures
