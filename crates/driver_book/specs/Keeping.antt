-- How a log keeps its entries: their requests and drafts in one list, where each has an index; the pieces of the requests in another and the numbers of their pages
-- in a third; each names its part of these.
use Rattle.std.specs.{List.AllByRecursion, Option.option_map, Prelude.{ℕ, ◌≤◌, ◌<◌, min, Bool, true, false, List, [], Option, Some, None, length, slice_get, slice_range}}
use Rattle.io_commands.specs.{Asked.Request, declared.request.{Kind.TheVariants.Read, Piece.Piece}}
use Rattle.io_commands.specs.declared.request.TheConstants.Flags.{NONE}
use Rattle.step_core.specs.Values.{Step}
use Rattle.driver_book.specs.{Entries.{Entry, LoggedDraft}, declared.entry.Span.Span}
use Rattle.io_commands.specs.declared.request.RequestOf as declared_request
use Rattle.io_commands.specs.declared.block_size.BlockSize.TheVariants.{Bytes512}
use Rattle.step_core.specs.declared.step.Step as declared_step
use Rattle.step_core.specs.declared.step.Step.TheVariants as step
use Rattle.driver_book.specs.declared.entry.KeptEntry as declared_entry
use Rattle.driver_book.specs.declared.entry.LoggedDraft as declared_draft

abbrev pub KeptRequest : Type 0
KeptRequest = declared_request.RequestOf Span

abbrev pub KeptStep : Type 0
KeptStep = declared_step.Step ℕ (List ℕ)

abbrev pub KeptDraft : Type 0
KeptDraft = declared_draft.LoggedDraft KeptRequest Span

abbrev pub Kept : Type 0
Kept = declared_entry.KeptEntry

-- Whether a step may end submitted commands: a reap, a retirement and a reset may

abbrev pub may_end : {R B : Type 0} → declared_step.Step R B → Bool
may_end (step.Reap q) = true
may_end (step.Retire q) = true
may_end step.Reset = true
may_end what = false

-- What is kept stands for

abbrev pub part_of : {X : Type 0} → List X → Span → List X
part_of xs s = slice_range xs s.start s.end

abbrev pub shown_request : List Piece → KeptRequest → Request
shown_request pieces r = record { kind = r.kind; nsid = r.nsid; flags = r.flags; slba = r.slba; block_size = r.block_size; blocks = r.blocks; pieces = part_of pieces r.pieces }

-- the request of a draft; where there is none, one that asks for nothing
abbrev pub request_of : List Piece → Option KeptDraft → Request
request_of pieces None = record { kind = Read; nsid = 1; flags = NONE; slba = 0; block_size = Bytes512; blocks = 0; pieces = [] }
request_of pieces (Some d) = shown_request pieces d.request

abbrev pub shown_step : List Piece → List KeptDraft → KeptStep → Step
shown_step pieces drafts (step.Reserve q place) = step.Reserve q (request_of pieces (slice_get drafts place))
shown_step pieces drafts (step.Fill q cid bytes) = step.Fill q cid bytes
shown_step pieces drafts (step.Build q cid) = step.Build q cid
shown_step pieces drafts (step.Submit q cid) = step.Submit q cid
shown_step pieces drafts (step.Cancel q cid) = step.Cancel q cid
shown_step pieces drafts (step.Ring q) = step.Ring q
shown_step pieces drafts (step.Fetch q) = step.Fetch q
shown_step pieces drafts (step.Walk q cid) = step.Walk q cid
shown_step pieces drafts (step.Complete q cid) = step.Complete q cid
shown_step pieces drafts (step.Reap q) = step.Reap q
shown_step pieces drafts (step.Collect q cid) = step.Collect q cid
shown_step pieces drafts (step.Gather q cid) = step.Gather q cid
shown_step pieces drafts (step.Release q cid) = step.Release q cid
shown_step pieces drafts (step.Abort q cid) = step.Abort q cid
shown_step pieces drafts (step.DeleteSq q) = step.DeleteSq q
shown_step pieces drafts (step.DeleteCq q) = step.DeleteCq q
shown_step pieces drafts (step.CreateCq q vector) = step.CreateCq q vector
shown_step pieces drafts (step.CreateSq q) = step.CreateSq q
shown_step pieces drafts (step.Retire q) = step.Retire q
shown_step pieces drafts (step.Forge q slot bytes) = step.Forge q slot bytes
shown_step pieces drafts step.Reset = step.Reset

abbrev pub shown_draft : List Piece → List ℕ → KeptDraft → LoggedDraft
shown_draft pieces pages d = record { request = shown_request pieces d.request; data_pages = part_of pages d.data_pages; chain_pages = part_of pages d.chain_pages }

-- the draft at an index of a list
abbrev pub draft_at : List KeptDraft → Option ℕ → Option KeptDraft
draft_at drafts None = None
draft_at drafts (Some place) = slice_get drafts place

abbrev pub shown : List Piece → List ℕ → List KeptDraft → Kept → Entry
shown pieces pages drafts k = record { seat = k.seat; step = shown_step pieces drafts k.step; answer = k.answer; draft = option_map (shown_draft pieces pages) (draft_at drafts k.draft) }

-- It fits in lists of these lengths

abbrev pub FitsIn : ℕ → Span → Type 0
FitsIn n s = (s.start ≤ s.end) × (s.end ≤ n)

abbrev pub DraftFits : ℕ → ℕ → KeptDraft → Type 0
DraftFits pieces pages d = FitsIn pieces d.request.pieces × FitsIn pages d.data_pages × FitsIn pages d.chain_pages

abbrev pub AllDraftsFit : ℕ → ℕ → List KeptDraft → Type 0
AllDraftsFit pieces pages drafts = AllByRecursion (DraftFits pieces pages) drafts

-- the pieces of each draft do, wherever its pages are
abbrev pub PiecesFit : ℕ → List KeptDraft → Type 0
PiecesFit pieces drafts = AllByRecursion (λ d. FitsIn pieces d.request.pieces) drafts

abbrev pub PlaceFits : ℕ → Option ℕ → Type 0
PlaceFits drafts None = Unit {0}
PlaceFits drafts (Some place) = place < drafts

abbrev pub StepFits : ℕ → KeptStep → Type 0
StepFits drafts (step.Reserve q place) = place < drafts
StepFits drafts s = Unit {0}

abbrev pub EntryFits : ℕ → Kept → Type 0
EntryFits drafts k = StepFits drafts k.step × PlaceFits drafts k.draft

abbrev pub AllFit : ℕ → List Kept → Type 0
AllFit drafts kept = AllByRecursion (EntryFits drafts) kept

-- Indices have 32 bits

-- the most elements that a list has
abbrev pub most_places : ℕ
most_places = 4294967295

-- the most that one of this capacity has
abbrev pub places : ℕ → ℕ
places capacity = min capacity most_places

-- what a log keeps is in these lists, and each list is short enough
pub record Stands (pieces : List Piece) (pages : List ℕ) (drafts : List KeptDraft) (kept : List Kept) : Type 0 where
  pub entries_fit : AllFit (length drafts) kept
  pub drafts_fit : AllDraftsFit (length pieces) (length pages) drafts
  pub few_pieces : length pieces ≤ most_places
  pub few_pages : length pages ≤ most_places
  pub few_drafts : length drafts ≤ most_places

-- a step that has no request, as what it stands for
abbrev pub bare_step : KeptStep → Step
bare_step s = shown_step [] [] s

abbrev pub HasNoRequest : KeptStep → Type 0
HasNoRequest (step.Reserve q place) = ⊥
HasNoRequest s = Unit {0}
