use Rattle.std.proofs.{Common.{◌≡◌, ◌+◌, ◌++◌, length, arith, ap, sym, ◌∙◌, subst, inl, inr, is_some}, lemmas.List.length-append}
use Rattle.std.specs.Option.{option_copied_mut}
use Rattle.slot_table.proofs.Rows.{option_is}
use Rattle.io_commands.specs.Values.{FinishedContents}
use Rattle.machine_model.specs.{After.collected, Memory.without_pages, State.{Record, with_record}}
use Rattle.slot_table.specs.Rows.{with_value}
use Rattle.host_core.proofs.Ending.{held_can_take, held_work, collect_enough, collect_made, collected_tables, length-taken}
use Rattle.host_core.{proofs.{RowRecords.{changed-rows, row-is, found-row, no-row, with-row}, Told.both_parts}, specs.{Collecting.taken_pages, Commands.CanTake, Parts.{record_of, tables_of}}}
use Rattle.host_core.specs.Tables.{Tables}
use Rattle.host_core.proofs.tables.HostTables.commit_collect.Goals as goal
use Rattle.machine_model.proofs.Cases.{none_some}

pub take_pages-requires-clause-data_pages : goal.take_pages-requires-clause-data_pages
take_pages-requires-clause-data_pages g c =
    let t : Tables = tables_of c.args.self.now c.args.store.now.pages in
    let same : record_of c.args.q c.args.cid c.unwrap-entry.result.now ≡ c.requires.stands.entry = row-is c.args.self.now.records.rows c.args.q c.args.cid (sym c.get_mut.ensures.value ∙ ap option_copied_mut c.unwrap-entry.ensures) c.requires.stands.was in
    subst (λ (x : Record). CanTake x.data_pages t.pages) (sym same) (held_can_take t c.args.q c.args.cid c.requires.whole c.requires.stands).0

pub take_pages-requires-clause-chain_pages : goal.take_pages-requires-clause-chain_pages
take_pages-requires-clause-chain_pages g c =
    let t : Tables = tables_of c.args.self.now c.args.store.now.pages in
    let same : record_of c.args.q c.args.cid c.unwrap-entry.result.now ≡ c.requires.stands.entry = row-is c.args.self.now.records.rows c.args.q c.args.cid (sym c.get_mut.ensures.value ∙ ap option_copied_mut c.unwrap-entry.ensures) c.requires.stands.was in
    subst (λ (x : Record). CanTake x.chain_pages (without_pages x.data_pages t.pages)) (sym same) (held_can_take t c.args.q c.args.cid c.requires.whole c.requires.stands).1

pub make-requires-clause-good : goal.make-requires-clause-good
make-requires-clause-good g c =
    (held_work (tables_of c.args.self.now c.args.store.now.pages) c.args.q c.args.cid c.args.room.request c.requires.whole c.requires.stands (c.requires.tells c.requires.stands.entry c.requires.stands.was).0).0

pub make-requires-clause-enough : goal.make-requires-clause-enough
make-requires-clause-enough g c =
    let t : Tables = tables_of c.args.self.now c.args.store.now.pages in
    let same : record_of c.args.q c.args.cid c.unwrap-entry.result.now ≡ c.requires.stands.entry = row-is c.args.self.now.records.rows c.args.q c.args.cid (sym c.get_mut.ensures.value ∙ ap option_copied_mut c.unwrap-entry.ensures) c.requires.stands.was in
    collect_enough t c.args.q c.args.cid c.args.room.request c.take_pages.new.into.items c.requires.whole c.requires.stands (c.requires.tells c.requires.stands.entry c.requires.stands.was).0
    (c.take_pages.ensures.items ∙ ap (λ (x : Record). taken_pages x.data_pages t.pages ++ taken_pages x.chain_pages (without_pages x.data_pages t.pages)) same)

pub take_pages-requires-clause-room : goal.take_pages-requires-clause-room
take_pages-requires-clause-room g c =
    let room = c.requires.space (record_of c.args.q c.args.cid c.unwrap-entry.result.now) (found-row c.args.self.now.records.rows c.args.q c.args.cid c.unwrap-entry.result.now (sym c.get_mut.ensures.value ∙ ap option_copied_mut c.unwrap-entry.ensures)) in
    (c.requires.empty.0, c.requires.empty.1, room)

pub unwrap-entry-requires : goal.unwrap-entry-requires
unwrap-entry-requires g c = elim (option_is c.get_mut.result) [
  | inl none ↦ absurd (none_some (sym (no-row c.args.self.now.records.rows c.args.q c.args.cid (sym c.get_mut.ensures.value ∙ ap option_copied_mut none)) ∙ c.requires.stands.was))
  | inr (x, at) ↦ ap is_some at
]

pub returns : goal.returns
returns g c =
    let t : Tables = tables_of c.args.self.now c.args.store.now.pages in
    let told = c.requires.tells c.requires.stands.entry c.requires.stands.was in
    let same : record_of c.args.q c.args.cid c.unwrap-entry.result.now ≡ c.requires.stands.entry = row-is c.args.self.now.records.rows c.args.q c.args.cid (sym c.get_mut.ensures.value ∙ ap option_copied_mut c.unwrap-entry.ensures) c.requires.stands.was in
    let items = c.take_pages.ensures.items ∙ ap (λ (x : Record). taken_pages x.data_pages t.pages ++ taken_pages x.chain_pages (without_pages x.data_pages t.pages)) same in
    let pages = c.take_pages.ensures.pages ∙ ap (λ (x : Record). without_pages x.chain_pages (without_pages x.data_pages t.pages)) same in
    let rows = c.args.self.now.records.rows in
    let marked = with_value rows c.args.q c.args.cid c.collect.new.self in
    let new : Tables = tables_of (record c.args.self.now { records = record c.args.self.now.records { rows = marked } }) c.take_pages.new.store.pages in
    let kept = with-row rows c.args.q c.args.cid collected c.unwrap-entry.result.now c.collect.new.self (rw c.unwrap-entry.ensures at c.get_mut.ensures.distinct) (sym c.get_mut.ensures.value ∙ ap option_copied_mut c.unwrap-entry.ensures) (c.collect.ensures c.args.q c.args.cid) in
    let left = changed-rows c.args.self.now marked (with_record c.args.q c.args.cid collected) kept c.take_pages.new.store.pages ∙ collected_tables t c.args.q c.args.cid c.take_pages.new.store.pages c.requires.stands pages in
    let made = collect_made t new c.args.q c.args.cid c.args.room.request c.args.room.status c.args.room.hints c.take_pages.new.into.items c.make.result c.requires.whole c.requires.stands told.0 told.1 told.2 items c.make.ensures left in
    let data_pages = c.unwrap-entry.result.now.data_pages in
    let chain_pages = c.unwrap-entry.result.now.chain_pages in
    let rest = without_pages data_pages t.pages in
    let many = ap length c.take_pages.ensures.items ∙ length-append (taken_pages data_pages t.pages) (taken_pages chain_pages rest) in
    let parts = ap (λ (f : FinishedContents). length f.data_pages + length f.chain_pages) c.make.ensures ∙ both_parts c.args.room.request c.take_pages.new.into.items in
    record {
      step = made.step;
      whole = made.whole;
      touches = omega (arith, c.take_pages.ensures.touches, many, length-taken data_pages t.pages, length-taken chain_pages rest, parts);
    }
