-- A host's parts over the pages that it is lent, as tables.
use Rattle.std.specs.Prelude.{◌≡◌, ℕ, List, map}
use Rattle.machine_model.specs.State.{Record}
use Rattle.page_memory.specs.Pages.{Pages}
use Rattle.slot_table.specs.Rows.{Row}
use Rattle.host_core.specs.{Rows.RecordRow, Tables.Tables, Whole.IsWhole, declared.tables.HostTables.HostTables}

-- a command's record, by its slot
abbrev pub record_of : ℕ → ℕ → RecordRow → Record
record_of q cid kept =
    record {
      q = q;
      cid = cid;
      phase = kept.phase;
      work = kept.work;
      data_pages = kept.data_pages;
      chain_pages = kept.chain_pages;
      status = kept.status;
      hints = kept.hints;
    }

-- the records, in the order in which their commands were made
abbrev pub records_of : List (Row RecordRow) → List Record
records_of rows = map (λ row. record_of row.q row.cid row.value) rows

abbrev pub tables_of : {A : Type 0} → HostTables A → Pages → Tables
tables_of parts pages =
    record {
      entries = parts.entries;
      segment = parts.segment;
      peer = parts.peer;
      pages = pages;
      owners = parts.ledger;
      record_queues = parts.records.queues;
      record_places = parts.records.places;
      records = records_of parts.records.rows;
      queues = parts.queues.items;
    }

-- What holds of the tables over any pages with which they are whole.
abbrev pub Over : {A : Type 0} → HostTables A → (Tables → Type 0) → Type 0
Over parts P = (pages : Pages) → IsWhole (tables_of parts pages) → P (tables_of parts pages)

-- What a change makes of the tables, over any pages.
abbrev pub Becomes : {A : Type 0} → HostTables A → (Tables → Tables) → HostTables A → Type 0
Becomes old f new = (pages : Pages) → tables_of new pages ≡ f (tables_of old pages)
