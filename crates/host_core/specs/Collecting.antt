-- A held command's pages are taken out.
use Rattle.std.specs.{Option.option_map_or, Prelude.{◌≡◌, ℕ, None, Some, List, [], ◌∷◌, ◌+◌, ◌≤◌, find, length, slice_set}}
use Rattle.entry_codec.specs.declared.{hints.Hints.Hints, status.Status.Status}
use Rattle.io_commands.specs.{Asked.Request, DataBytes.PagesOut}
use Rattle.machine_model.specs.{State.{Record, is_at}, declared.words.{Phase.TheVariants.Held, Work.TheVariants.Io}}
use Rattle.page_memory.specs.Pages.{Pages, page_at}
use Rattle.host_core.specs.Tables.{Tables}

-- pages as they are taken out, one after the other
abbrev pub taken_pages : List ℕ → Pages → PagesOut
taken_pages [] m = []
taken_pages (p ∷ ps) m = (p, option_map_or (λ bytes. bytes) (page_at m p) []) ∷ taken_pages ps (slice_set m p None)

-- A command is held.
pub record StandsAt (t : Tables) (q cid : ℕ) : Type 0 where
  pub entry : Record
  pub was : find (is_at q cid) t.records ≡ Some entry
  pub held : entry.phase ≡ Held

-- What a held command was asked for, how it ended, and what was hinted at.
abbrev pub CollectTells : Tables → ℕ → ℕ → Request → Status → Hints → Type 0
CollectTells t q cid request status hints =
    (entry : Record) → find (is_at q cid) t.records ≡ Some entry → (entry.work ≡ Io request) × (entry.status ≡ Some status) × (entry.hints ≡ hints)

-- This many pages are no fewer than a command's.
abbrev pub HasRoom : Tables → ℕ → ℕ → ℕ → Type 0
HasRoom t q cid room =
    (entry : Record) → find (is_at q cid) t.records ≡ Some entry → length entry.data_pages + length entry.chain_pages ≤ room
