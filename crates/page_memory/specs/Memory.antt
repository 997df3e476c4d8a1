-- Memory as a controller reaches it: from addresses to bytes. An address outside the pool, or on a page that is out, has none.
use Rattle.std.specs.Prelude.{◌≡◌, ◌+◌, ◌-◌, ◌/◌, ◌%◌, ◌&&◌, [], ◌∷◌, ℕ, zero, suc, List, Option, Some, None, if◌then◌else◌, nat_eq, nat_le, nat_lt, length, slice_index}

abbrev pub Memory : Type 0
Memory = ℕ → Option ℕ

-- the page of an address
abbrev pub page_of : ℕ → ℕ
page_of place = place / 4096

-- a byte before others, where none is missing
abbrev pub joined : Option ℕ → Option (List ℕ) → Option (List ℕ)
joined (Some byte) (Some bytes) = Some (byte ∷ bytes)
joined _ _ = None

-- the n bytes starting at an address, or nothing where one is missing
unfoldable pub bytes_at : Memory → ℕ → ℕ → Option (List ℕ)
bytes_at m place zero = Some []
bytes_at m place (suc n) = joined (m place) (bytes_at m (place + 1) n)

-- the memory with these bytes starting at an address
abbrev pub written : Memory → ℕ → List ℕ → Memory
written m place bytes =
    λ q. if nat_le place q && nat_lt q (place + length bytes) then Some (slice_index bytes (q - place)) else m q

-- the one or two pages of a range of 1 to 4,096 bytes, in order
abbrev pub pages_reached : ℕ → ℕ → List ℕ
pages_reached place n =
    if nat_eq (page_of place) (page_of (place + n - 1)) then page_of place ∷ []
    else page_of place ∷ page_of (place + n - 1) ∷ []

-- a count of touches with this many more; it begins at 0 again after 2^64 - 1
abbrev pub counted : ℕ → ℕ → ℕ
counted count more = (count + more) % 18446744073709551616

-- this many more touches than before, whether the touched list still has them or not
abbrev pub TouchesMore : ℕ → List ℕ → ℕ → ℕ → List ℕ → Type 0
TouchesMore unlisted reached more unlisted' reached' = counted unlisted' (length reached') ≡ counted unlisted (length reached + more)
