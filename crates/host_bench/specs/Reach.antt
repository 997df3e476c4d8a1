-- What is read and written of the data of commands where it lies.
use Rattle.std.specs.{Option.{option_and_then, option_map}, Prelude.{◌≡◌, ℕ, List, Option, Some, None, slice_get}}
use Rattle.host_core.specs.Firsts.{with_first}
use Rattle.io_commands.specs.{Drafts.DraftContents, Lent.with_bytes_of}
use Rattle.machine_model.specs.{Image.{draft_of, is_draft}, Script.{Table, finished_at}}

-- the bytes of the page of a data piece of a collected command
abbrev pub data_at : Table → ℕ → ℕ → ℕ → Option (List ℕ)
data_at t q cid i =
    option_and_then (λ f. option_map (λ page. page.1) (slice_get f.data_pages i)) (finished_at q cid t.finished)

-- the bytes of the page of a data piece of a draft
abbrev pub draft_data_at : Table → ℕ → ℕ → ℕ → Option (List ℕ)
draft_data_at t q cid i =
    option_and_then (λ d. option_map (λ page. page.1) (slice_get d.data_pages i)) (draft_of q cid t.drafts)

-- a draft with other bytes in the page of a data piece
abbrev pub with_data : ℕ → List ℕ → DraftContents → DraftContents
with_data i bytes d = record d { data_pages = with_bytes_of d.data_pages i bytes }

-- the bytes of a draft's page are given to somebody who may leave others there: a call is made where there is such a page, and the draft has what that call left
abbrev pub WritesData : {T : Type 0} → (List ℕ → T → List ℕ → Type 0) → Table → ℕ → ℕ → ℕ → Option (List ℕ) → Option T → Table → Type 0
WritesData leaves t q cid i None None new = new ≡ t
WritesData leaves t q cid i (Some bytes) (Some answer) new =
    (left : List ℕ) × leaves bytes answer left × (new ≡ record t { drafts = with_first (is_draft q cid) (with_data i left) t.drafts })
WritesData leaves t q cid i bytes answer new = ⊥

-- the same of a single draft
abbrev pub WritesDraft : {T : Type 0} → (List ℕ → T → List ℕ → Type 0) → DraftContents → ℕ → Option (List ℕ) → Option T → DraftContents → Type 0
WritesDraft leaves d i None None new = new ≡ d
WritesDraft leaves d i (Some bytes) (Some answer) new = (left : List ℕ) × leaves bytes answer left × (new ≡ with_data i left d)
WritesDraft leaves d i bytes answer new = ⊥
