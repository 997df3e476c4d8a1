-- What each value that a caller hands in is, whatever made it: whole pages, and a draft as its type keeps it. That a byte is a byte is
-- said by its type alone.
use Rattle.std.specs.Prelude.{◌≡◌, ◌<◌, ◌^◌, ℕ, IfSome, List, length, All}
use Rattle.io_commands.specs.{Drafts.{DraftContents, IsDraft}, Requests.FitsRequest}
use Rattle.machine_model.specs.Events.{Event}
use Rattle.machine_model.specs.Events as events

-- pages with all their bytes
abbrev pub IsPage : List ℕ → Type 0
IsPage bytes = length bytes ≡ 4096

abbrev pub ArePages : List (ℕ × List ℕ) → Type 0
ArePages pages = All (λ page. IsPage page.1) pages

-- Where it has an entry it is built, by its own segment length: a draft that was made anew may have another one than the world,
-- with as many pages.
pub record IsProperDraft (d : DraftContents) : Type 0 where
  pub request : FitsRequest d.request
  pub data_pages : ArePages d.data_pages
  pub chain_pages : ArePages d.chain_pages
  pub draft : IsDraft d

abbrev pub IsProper : Event → Type 0
IsProper (events.Reserve q r) = FitsRequest r
IsProper (events.Submit d) = IsProperDraft d
IsProper (events.Cancel d) = IsProperDraft d
IsProper (events.Release f) = ArePages f.data_pages × ArePages f.chain_pages
IsProper (events.Forge q slot bytes) = length bytes ≡ 16
IsProper (events.CreateCq q vector) = IfSome vector (λ v. v < 2 ^ 16)
IsProper e = Unit {0}
