-- Memory that lies in regions of C's, each at addresses of its own.
use Rattle.std.specs.Borrow.{GName}
use Rattle.std.specs.Prelude.{◌≡◌, ◌+◌, ◌-◌, ◌*◌, ◌/◌, ◌&&◌, ◌||◌, ◌<◌, ◌≤◌, ℕ, zero, suc, Bool, false, List, [], ◌∷◌, Option, Some, None, if◌then◌else◌, length, map, max, min, nat_le, nat_lt, slice_get}
use Rattle.nvmesgl_c.specs.declared.words.region.{CRegion.CRegion, Run.Run, Share.{Share, TheVariants.{Front, Clear}}}
use Rattle.page_memory.specs.Memory.{Memory}

-- the first address that is not reached: the number of its page has more than 32 bits
abbrev pub past_pages : ℕ
past_pages = 17592186044416

-- whether a region has a byte at an address
abbrev pub has_byte : CRegion → ℕ → Bool
has_byte region place = nat_le region.addr place && nat_lt place (region.addr + length region.bytes.now)

-- at an address is the byte of the first region that has one there
abbrev pub byte_in : List CRegion → Memory
byte_in [] place = None
byte_in (region ∷ regions) place =
    if has_byte region place then slice_get region.bytes.now (place - region.addr) else byte_in regions place

abbrev pub memory_of : List CRegion → Memory
memory_of regions place = if nat_lt place past_pages then byte_in regions place else None

-- how many pages there are up to the end of the region that ends last; their numbers have 32 bits
abbrev pub pages_up_to : CRegion → ℕ
pages_up_to region = min ((region.addr + length region.bytes.now) / 4096) 4294967295

abbrev pub pages_of : List CRegion → ℕ
pages_of [] = 0
pages_of (region ∷ regions) = max (pages_up_to region) (pages_of regions)

-- a region has no byte of a range
abbrev pub IsClear : CRegion → ℕ → ℕ → Type 0
IsClear region addr count = (k : ℕ) → k < count → has_byte region (addr + k) ≡ false

-- what a region has of a range of this many bytes at most: bytes at its start, or none of this many
abbrev pub IsShare : CRegion → ℕ → ℕ → Share → Type 0
IsShare region addr most (Front at count) =
    (region.addr + at ≡ addr) × (at + count ≤ length region.bytes.now) × (0 < count) × (count ≤ most)
IsShare region addr most (Clear count) = IsClear region addr count × (0 < count) × (count ≤ most)

-- some byte of a range is in no region
pub record IsMissing (regions : List CRegion) (addr count : ℕ) : Type 0 where
  pub place : ℕ
  pub within : place < count
  pub none : byte_in regions (addr + place) ≡ None

-- bytes starting at an address, at most this many, that one region has, while none before it has any of them
pub record IsRun (regions : List CRegion) (addr most : ℕ) (run : Run) : Type 0 where
  pub region : CRegion
  pub found : slice_get regions run.place ≡ Some region
  pub begins : region.addr + run.at ≡ addr
  pub fits : run.at + run.count ≤ length region.bytes.now
  pub some : 0 < run.count
  pub few : run.count ≤ most
  pub first : (place : ℕ) (before : CRegion) → place < run.place → slice_get regions place ≡ Some before → IsClear before addr run.count

-- Of the bytes of a region those that no address shows, the last first: a region before it has their address, or no page has

abbrev pub is_past : ℕ → Bool
is_past place = nat_le past_pages place

abbrev pub hidden_of : (ℕ → Bool) → CRegion → ℕ → List (Option ℕ)
hidden_of taken region zero = []
hidden_of taken region (suc n) =
    (if taken (region.addr + n) then slice_get region.bytes.now n else None) ∷ hidden_of taken region n

abbrev pub hidden_among : (ℕ → Bool) → List CRegion → List (List (Option ℕ))
hidden_among taken [] = []
hidden_among taken (region ∷ regions) =
    hidden_of taken region (length region.bytes.now) ∷ hidden_among (λ place. taken place || has_byte region place) regions

abbrev pub hidden_in : List CRegion → List (List (Option ℕ))
hidden_in regions = hidden_among is_past regions

-- where each region begins, how many bytes it has, and where they lie
pub record Row : Type 0 where
  pub addr : ℕ
  pub len : ℕ
  pub lies : GName

abbrev pub row_of : CRegion → Row
row_of region = record { addr = region.addr; len = length region.bytes.now; lies = region.bytes.ghost_name }

abbrev pub table_of : List CRegion → List Row
table_of regions = map row_of regions

-- two numbers as one, which tells both; and so a table, and lists of bytes
unfoldable pub paired : ℕ → ℕ → ℕ
paired zero b = 2 * b + 1
paired (suc a) b = 2 * paired a b

unfoldable pub number_of : List Row → ℕ
number_of [] = 0
number_of (row ∷ rows) = paired row.addr (paired row.len (paired row.lies (number_of rows)))

abbrev pub byte_number : Option ℕ → ℕ
byte_number None = 0
byte_number (Some byte) = byte + 1

unfoldable pub bytes_number : List (Option ℕ) → ℕ
bytes_number [] = 0
bytes_number (byte ∷ bytes) = paired (byte_number byte) (bytes_number bytes)

unfoldable pub lists_number : List (List (Option ℕ)) → ℕ
lists_number [] = 0
lists_number (bytes ∷ lists) = paired (bytes_number bytes) (lists_number lists)
