-- Logs and their entries, as contracts see them: with requests and lists, wherever they are.
use Rattle.std.specs.Prelude.{◌≡◌, ◌⊎◌, ℕ, ◌-◌, ◌≤◌, ◌<◌, Option, Some, None, List, [], ◌∷◌}
use Rattle.io_commands.specs.Asked.{Request}
use Rattle.step_core.specs.Values.{Reply}
use Rattle.driver_book.specs.declared.report.Asked.{Asked}
use Rattle.io_commands.specs.declared.request.RequestOf as declared_request
use Rattle.driver_book.specs.declared.entry.Entry as declared_entry
use Rattle.driver_book.specs.declared.entry.LoggedDraft as declared_draft

abbrev pub LoggedDraft : Type 0
LoggedDraft = declared_draft.LoggedDraft Request (List ℕ)

abbrev pub Entry : Type 0
Entry = declared_entry.Entry Request (List ℕ) (List ℕ)

-- what a request asks for, apart from its pieces
abbrev pub asked_of : {P : Type 0} → declared_request.RequestOf P → Asked
asked_of r = record { kind = r.kind; nsid = r.nsid; flags = r.flags; slba = r.slba; block_size = r.block_size; blocks = r.blocks }

-- what the draft of an entry asks for, where it has one
abbrev pub asked_in : {P Q : Type 0} → Option (declared_draft.LoggedDraft (declared_request.RequestOf P) Q) → Option Asked
asked_in None = None
asked_in (Some d) = Some (asked_of d.request)

-- how many more entries, pieces of requests and page numbers of drafts a log takes before its lists have to grow
pub record Room : Type 0 where
  pub entries : ℕ
  pub pieces : ℕ
  pub pages : ℕ

pub record LogContents : Type 0 where
  pub entries : List Entry
  pub room : Room

-- there is room for one entry, with this many pieces and this many pages
pub record Takes (room : Room) (wanted_pieces wanted_pages : ℕ) : Type 0 where
  pub entry : 1 ≤ room.entries
  pub pieces : wanted_pieces ≤ room.pieces
  pub pages : wanted_pages ≤ room.pages

-- there is as much room, or more
pub record IsNoLess (before after : Room) : Type 0 where
  pub entries : before.entries ≤ after.entries
  pub pieces : before.pieces ≤ after.pieces
  pub pages : before.pages ≤ after.pages

-- one of the three has too little room for that
abbrev pub Lacks : Room → ℕ → ℕ → Type 0
Lacks room pieces pages = (room.entries ≡ 0) ⊎ (room.pieces < pieces) ⊎ (room.pages < pages)

-- what is left of the room after an entry with this many pieces and this many pages
abbrev pub left : Room → ℕ → ℕ → Room
left room pieces pages = record { entries = room.entries - 1; pieces = room.pieces - pieces; pages = room.pages - pages }

-- the last entry says another answer
abbrev pub answered : Reply → List Entry → List Entry
answered answer [] = []
answered answer (e ∷ []) = record e { answer = answer } ∷ []
answered answer (e ∷ (next ∷ log)) = e ∷ answered answer (next ∷ log)
