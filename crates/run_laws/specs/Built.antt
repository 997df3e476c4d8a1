-- What a built draft spells once its pages are in the store.
use Rattle.std.specs.Prelude.{◌≡◌, ℕ, true, ◌<◌, ◌≤◌, Some, List, length, All}
use Rattle.entry_codec.specs.declared.submission.SubEntry.{SubEntry}
use Rattle.sgl_chain.specs.Spells.{Spells}
use Rattle.page_memory.specs.Pages.{Pages, byte_at}
use Rattle.io_commands.specs.{Drafts.{DraftContents, draft_first, draft_parts}, Requests.has_list, Values.numbers_of}
use Rattle.machine_model.specs.{Memory.with_pages, Proper.IsProperDraft, Step.times}

-- page numbers of a pool of this many pages
abbrev pub LieIn : ℕ → List ℕ → Type 0
LieIn count pages = All (λ p. p < count) pages

abbrev pub AreDistinct : List ℕ → Type 0
AreDistinct pages = (p : ℕ) → times p pages ≤ 1

-- A proper draft with a list and an entry, and pages of a pool: once its chain pages are brought in, the descriptor of its entry spells its parts.
abbrev pub built_drafts_spell_in_store : Type 0
built_drafts_spell_in_store =
    (d : DraftContents) (entry : SubEntry) (pages : Pages) → IsProperDraft d → d.entry ≡ Some entry → has_list d.request.kind ≡ true → length pages ≤ 65536
    → LieIn (length pages) (numbers_of d.data_pages) → LieIn (length pages) (numbers_of d.chain_pages) → AreDistinct (numbers_of d.chain_pages)
    → Spells (byte_at (with_pages d.chain_pages pages)) (draft_first d) (draft_parts d)
