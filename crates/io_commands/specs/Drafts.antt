-- Drafts: a command that is being prepared outside the store.
use Rattle.std.specs.Prelude.{◌≡◌, ◌≤◌, ◌<◌, ◌+◌, ◌*◌, ◌-◌, ◌/◌, ◌%◌, ◌^◌, ℕ, true, if◌then◌else◌, replicate, Option, None, Some, List, [], ◌∷◌, length, All}
use Rattle.sgl_descriptor.specs.{Spelling.spelling, declared.{Descriptor.Descriptor, Part.Part}}
use Rattle.sgl_chain.specs.{Chains.{pages_needed, first_of, segments_on, segment_bytes}, Spells.{Spells, Holds}}
use Rattle.page_memory.specs.{Memory.Memory, Pages.with_bytes}
use Rattle.entry_codec.specs.declared.submission.SubEntry.{SubEntry}
use Rattle.io_commands.specs.{Admin.{page_pointer}, Asked.Request, DataBytes.PagesOut, Requests.{opcode_of, flag_bits, has_list, names_ranges, data_count, joined_parts, FitsRequest}, Values.{numbers_of, IsGood}}
use Rattle.io_commands.specs.declared.{admin.AdminCommand.AdminCommand, request.Kind.{Kind, TheVariants.Admin}}

-- a draft: its pages with their bytes, one for each data piece and those of the chain, and its entry once it is built
pub record DraftContents : Type 0 where
  pub q : ℕ
  pub cid : ℕ
  pub request : Request
  pub data_pages : PagesOut
  pub chain_pages : PagesOut
  pub segment : ℕ
  pub entry : Option SubEntry

-- the bytes of an entry's data pointer: its first descriptor's where there is a list, and zeros where there is none
abbrev pub pointer_of : Kind → List ℕ → List ℕ
pointer_of kind sgl1 = if has_list kind then sgl1 else replicate 16 0

-- Command Dwords 10 to 12: the first block, the number of blocks less one and the flags; of ranges their number less one, and what is to
-- become of their blocks, of which Deallocate is bit 2
abbrev pub dword_10 : Request → ℕ
dword_10 request = if names_ranges request.kind then request.blocks - 1 else request.slba % 4294967296

abbrev pub dword_11 : Request → ℕ
dword_11 request = if names_ranges request.kind then 4 else request.slba / 4294967296

abbrev pub dword_12 : Request → ℕ
dword_12 request = if names_ranges request.kind then 0 else request.blocks - 1 + flag_bits request.flags

-- the entry that the driver sends for a request of blocks or ranges, with its first descriptor's bytes
abbrev pub io_entry : ℕ → Request → List ℕ → SubEntry
io_entry cid request sgl1 =
    record {
      opcode = opcode_of request.kind;
      fuse = 0;
      psdt = if has_list request.kind then 1 else 0;
      cid = cid;
      nsid = request.nsid;
      mptr = 0;
      sgl1 = pointer_of request.kind sgl1;
      cdw10 = dword_10 request;
      cdw11 = dword_11 request;
      cdw12 = dword_12 request;
      cdw13 = 0;
      cdw14 = 0;
      cdw15 = 0;
    }

-- the page that an admin command's data pointer names, if it has one
abbrev pub admin_pointer : List ℕ → List ℕ
admin_pointer [] = replicate 16 0
admin_pointer (page ∷ pages) = page_pointer page

-- the entry that it sends for an admin command of the caller's own, with its data in these pages
abbrev pub caller_entry : ℕ → ℕ → AdminCommand → List ℕ → SubEntry
caller_entry cid nsid command pages =
    record {
      opcode = command.opcode;
      fuse = 0;
      psdt = 0;
      cid = cid;
      nsid = nsid;
      mptr = 0;
      sgl1 = admin_pointer pages;
      cdw10 = command.cdw10;
      cdw11 = command.cdw11;
      cdw12 = command.cdw12;
      cdw13 = command.cdw13;
      cdw14 = command.cdw14;
      cdw15 = command.cdw15;
    }

-- the entry of either, with the descriptor of a command of blocks and the data pages of an admin command
abbrev pub entry_of : Kind → ℕ → Request → List ℕ → List ℕ → SubEntry
entry_of (Admin command) cid request sgl1 pages = caller_entry cid request.nsid command pages
entry_of kind cid request sgl1 pages = io_entry cid request sgl1

-- the parts of a draft in its own pages, neighbours that join as one
abbrev pub draft_parts : DraftContents → List Part
draft_parts d = joined_parts d.request.pieces (numbers_of d.data_pages)

-- the descriptor that its entry holds where it has a list, and the segments of its chain
abbrev pub draft_first : DraftContents → Descriptor
draft_first d = first_of d.segment (numbers_of d.chain_pages) (draft_parts d)

abbrev pub draft_segments : DraftContents → List (List Descriptor)
draft_segments d = segments_on d.segment (numbers_of d.chain_pages) (draft_parts d)

abbrev pub draft_entry : DraftContents → SubEntry
draft_entry d = entry_of d.request.kind d.cid d.request (spelling (draft_first d)) (numbers_of d.data_pages)

-- pages with the bytes of segments at their starts, one segment in each as far as there are segments
abbrev pub laid : List (List Descriptor) → PagesOut → PagesOut
laid [] pages = pages
laid (segment ∷ segments) [] = []
laid (segment ∷ segments) (page ∷ pages) = (page.0, with_bytes page.1 0 (segment_bytes segment)) ∷ laid segments pages

-- a draft once it is built: its chain is laid, and it has its entry
abbrev pub built : DraftContents → DraftContents
built d = record d { chain_pages = laid (draft_segments d) d.chain_pages; entry = Some (draft_entry d) }

-- a draft that is built: building it again changes nothing
abbrev pub IsBuilt : DraftContents → Type 0
IsBuilt d = built d ≡ d

abbrev pub IsBuiltIfAny : DraftContents → Option SubEntry → Type 0
IsBuiltIfAny d None = Unit {0}
IsBuiltIfAny d (Some entry) = IsBuilt d

-- its request passes its check, its segment size is 2 to 256, it has the pages that its pieces and the chain of its joined
-- parts take, and where it has an entry it is built
pub record IsDraft (d : DraftContents) : Type 0 where
  pub good : IsGood d.request
  pub low : 2 ≤ d.segment
  pub high : d.segment ≤ 256
  pub pieces_have_pages : length d.data_pages ≡ data_count d.request.pieces
  pub chain_has_pages : length d.chain_pages ≡ pages_needed (length (draft_parts d)) d.segment
  pub built : IsBuiltIfAny d d.entry

-- A memory holds pages: the bytes of each stand from its first place on.
abbrev pub HoldsPages : Memory → PagesOut → Type 0
HoldsPages m [] = Unit {0}
HoldsPages m (page ∷ pages) = Holds m (4096 * page.0) page.1 × HoldsPages m pages

-- Wherever the chain pages of a draft with a list stand in a memory, the descriptor of its entry spells its parts.
abbrev pub SpellsItsParts : DraftContents → Type 0
SpellsItsParts d = has_list d.request.kind ≡ true → (m : Memory) → HoldsPages m d.chain_pages → Spells m (draft_first d) (draft_parts d)

-- The numbers of a draft's request and of its pages fit their types.
pub record FitsDraft (d : DraftContents) : Type 0 where
  pub request : FitsRequest d.request
  pub data_pages : All (λ page. page < 2 ^ 32) (numbers_of d.data_pages)
  pub chain_pages : All (λ page. page < 2 ^ 32) (numbers_of d.chain_pages)

-- A draft that has an entry carries the one of its own request, whose descriptor is the first of its own chain.
abbrev pub DraftsCarryTheirEntry : Type 0
DraftsCarryTheirEntry = (d : DraftContents) (entry : SubEntry) → IsDraft d → d.entry ≡ Some entry → entry ≡ draft_entry d

-- Its chain pages spell its parts, wherever they stand.
abbrev pub BuiltDraftsSpell : Type 0
BuiltDraftsSpell = (d : DraftContents) (entry : SubEntry) → IsDraft d → FitsDraft d → d.entry ≡ Some entry → SpellsItsParts d
