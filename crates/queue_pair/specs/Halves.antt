-- A half in memory: a run of pages starting at its first page.
use Rattle.std.specs.Prelude.{◌≡◌, ◌⊎◌, ℕ, ◌+◌, ◌*◌, ◌<◌, ◌≤◌, IsSome, Some}
use Rattle.page_memory.specs.Memory.{Memory}

-- Each byte of the pages is there.
pub record IsIn (m : Memory) (page pages : ℕ) : Type 0 where
  pub there : (k : ℕ) → k < 4096 * pages → IsSome (m (4096 * page + k))

-- Each byte of the pages is zero.
pub record IsZero (m : Memory) (page pages : ℕ) : Type 0 where
  pub zero_there : (k : ℕ) → k < 4096 * pages → m (4096 * page + k) ≡ Some 0

-- Both memories show the same in the pages: at each address the same byte, or none.
pub record Agree (m m' : Memory) (page pages : ℕ) : Type 0 where
  pub same : (k : ℕ) → k < 4096 * pages → m (4096 * page + k) ≡ m' (4096 * page + k)

-- A range of bytes lies before the pages or after them.
abbrev pub IsOutside : (place many page pages : ℕ) → Type 0
IsOutside place many page pages = (place + many ≤ 4096 * page) ⊎ (4096 * (page + pages) ≤ place)

-- Two runs of pages share none.
abbrev pub AreApart : (page pages other others : ℕ) → Type 0
AreApart page pages other others = (page + pages ≤ other) ⊎ (other + others ≤ page)
