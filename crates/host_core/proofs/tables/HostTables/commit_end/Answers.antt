use Rattle.std.proofs.Common.{◌++◌, ap, inl, inr, is_some, sym, ◌∙◌, subst}
use Rattle.page_ledger.specs.{Lists.ListsAll, Owners.is_command}
use Rattle.host_core.proofs.Ending.{command-listed, ended_there, ended_claimed, ended_can_put, ended_tables}
use Rattle.host_core.{proofs.RowRecords.{found-row, no-row, taken-becomes}, specs.{Parts.{record_of, tables_of}, Rows.RecordRow, Tables.Tables}}
use Rattle.host_core.proofs.tables.HostTables.commit_end.Goals as goal
use Rattle.slot_table.proofs.Rows.{option_is}
use Rattle.machine_model.proofs.Cases.{none_some}

pub unwrap-entry-requires : goal.unwrap-entry-requires
unwrap-entry-requires g c = elim (option_is c.take.result) [ inl none ↦ absurd (none_some (sym (no-row c.args.self.now.records.rows c.args.q c.args.cid (sym c.take.ensures.value ∙ none)) ∙ c.requires.brings.was)) | inr (x, at) ↦ ap is_some at ]

pub give_back_pages-requires : goal.give_back_pages-requires
give_back_pages-requires g c =
    let t : Tables = tables_of c.args.self.now c.args.store.now.pages in
    let there = found-row c.args.self.now.records.rows c.args.q c.args.cid c.unwrap-entry.result (sym c.take.ensures.value ∙ c.unwrap-entry.ensures) in
    rw (c.deref.ensures.value, c.deref-2.ensures.value)
    (subst (λ (kept : RecordRow). ListsAll (is_command c.args.q c.args.cid) t.owners (kept.data_pages ++ kept.chain_pages)) (sym c.entry.view_is)
    (command-listed t c.args.q c.args.cid (record_of c.args.q c.args.cid c.unwrap-entry.result) c.requires.whole there))

pub unclaim-requires-clause-there : goal.unclaim-requires-clause-there
unclaim-requires-clause-there g c = ended_there (tables_of c.args.self.now c.args.store.now.pages) c.args.q c.args.cid c.args.pages.items c.requires.whole c.requires.brings

pub unclaim-requires-clause-claimed : goal.unclaim-requires-clause-claimed
unclaim-requires-clause-claimed g c = ended_claimed (tables_of c.args.self.now c.args.store.now.pages) c.args.q c.args.cid c.args.pages.items c.requires.whole c.requires.brings

pub move_in-requires : goal.move_in-requires
move_in-requires g c = ended_can_put (tables_of c.args.self.now c.args.store.now.pages) c.args.q c.args.cid c.args.pages.items c.requires.whole c.requires.brings

pub returns-clause-ended : goal.returns-clause-ended
returns-clause-ended g c =
    let t : Tables = tables_of c.args.self.now c.args.store.now.pages in
    ended_tables t _ c.args.q c.args.cid c.args.pages.items c.move_in.new.store.pages c.give_back_pages.new.self c.unclaim.new.queues.items
    (taken-becomes c.args.self.now c.args.q c.args.cid c.take.result c.take.new.self c.take.ensures.value c.take.ensures.distinct c.take.ensures.rest t.pages)
    c.move_in.ensures.pages c.give_back_pages.ensures c.unclaim.ensures
