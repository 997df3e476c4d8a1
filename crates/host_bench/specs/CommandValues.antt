-- The values of outstanding commands, by queue and identifier.
use Rattle.std.specs.List.{AllByRecursion}
use Rattle.std.specs.Prelude.{◌≡◌, ◌-◌, ◌<◌, ℕ, None, Some, Option, List, length, filter_map, Result, Ok, Err}
use Rattle.io_commands.specs.{Drafts.DraftContents, Values.{FinishedContents, TicketContents}}
use Rattle.machine_model.specs.{Script.Table, State.{State, Record}}
use Rattle.slot_table.specs.{Rows.{Row, IsDistinct, value_at, with_value}, Table.{TableOf, AreInside}}
use Rattle.host_core.specs.Outstanding.{IsOutstanding}
use Rattle.host_bench.specs.declared.values.CommandValue.{CommandValue}
use Rattle.host_bench.specs.declared.values.CommandValue.TheVariants as value

-- Values by kind

module _ {A : Type 0} where
  abbrev pub as_draft : Option (CommandValue A) → Option DraftContents
  as_draft (Some (value.Draft draft)) = Some draft
  as_draft v = None

  abbrev pub as_ticket : Option (CommandValue A) → Option (ℕ × ℕ)
  as_ticket (Some (value.Ticket ticket)) = Some (ticket.q, ticket.cid)
  as_ticket v = None

  abbrev pub as_finished : Option (CommandValue A) → Option FinishedContents
  as_finished (Some (value.Finished finished)) = Some finished
  as_finished v = None

  abbrev pub queue_of : CommandValue A → ℕ
  queue_of (value.Draft draft) = draft.q
  queue_of (value.Ticket ticket) = ticket.q
  queue_of (value.Finished finished) = finished.q

  abbrev pub identifier_of : CommandValue A → ℕ
  identifier_of (value.Draft draft) = draft.cid
  identifier_of (value.Ticket ticket) = ticket.cid
  identifier_of (value.Finished finished) = finished.cid

module _ {A : Type 0} where
  -- a value is given as the one of its kind, or as it was
  abbrev pub IsDraftOf : CommandValue A → Result DraftContents (CommandValue A) → Type 0
  IsDraftOf v (Ok draft) = v ≡ value.Draft draft
  IsDraftOf v (Err other) = (other ≡ v) × (as_draft (Some v) ≡ None)

  abbrev pub IsTicketOf : CommandValue A → Result TicketContents (CommandValue A) → Type 0
  IsTicketOf v (Ok ticket) = v ≡ value.Ticket ticket
  IsTicketOf v (Err other) = (other ≡ v) × (as_ticket (Some v) ≡ None)

  abbrev pub IsFinishedOf : CommandValue A → Result FinishedContents (CommandValue A) → Type 0
  IsFinishedOf v (Ok finished) = v ≡ value.Finished finished
  IsFinishedOf v (Err other) = (other ≡ v) × (as_finished (Some v) ≡ None)

-- the values of rows that are of a kind, in their order
abbrev pub picked : {V X : Type 0} → (V → Option X) → List (Row V) → List X
picked pick rows = filter_map (λ row. pick row.value) rows

-- a world with these values
abbrev pub table_with : {A : Type 0} → State → TableOf (Option (CommandValue A)) → Table
table_with world values =
    record {
      world = world;
      drafts = picked as_draft values.rows;
      tickets = picked as_ticket values.rows;
      finished = picked as_finished values.rows;
    }

-- What ties the values to the world

-- a row has a value of its own name, whose command is outstanding
pub record IsHeld {A : Type 0} (records : List Record) (row : Row (Option (CommandValue A))) : Type 0 where
  pub value : CommandValue A
  pub held : row.value ≡ Some value
  pub queue : queue_of value ≡ row.q
  pub identifier : identifier_of value ≡ row.cid
  pub outstanding : IsOutstanding row.q row.cid records

-- the values of a bench, which has queue 0: at most one of each command that is outstanding, and a slot for each that may be
pub record IsBench {A : Type 0} (s : State) (values : TableOf (Option (CommandValue A))) : Type 0 where
  pub queues : values.queues ≡ length s.host.queues
  pub first : 0 < values.queues
  pub places : values.places ≡ s.entries - 1
  pub inside : AreInside values.queues values.places values.rows
  pub distinct : IsDistinct values.rows
  pub held : AllByRecursion (IsHeld s.host.records) values.rows

-- a value is taken out of its row, which stays
pub record IsOut {A : Type 0} (old : TableOf (Option (CommandValue A))) (q cid : ℕ) (v : CommandValue A) (new : TableOf (Option (CommandValue A))) : Type 0 where
  pub there : value_at old.rows q cid ≡ Some (Some v)
  pub left : new ≡ record old { rows = with_value old.rows q cid None }
