-- Memory of a worked run.
use Rattle.std.specs.Prelude.{◌++◌, ◌∷◌, [], ℕ, List, Some, None}
use Rattle.page_memory.specs.Pages.{Pages}

-- a Data Block of 512 bytes at 4000h, with bytes in its reserved fields
abbrev pub data_bytes : List ℕ
data_bytes = 0x00 ∷ 0x40 ∷ 0 ∷ 0 ∷ 0 ∷ 0 ∷ 0 ∷ 0 ∷ 0x00 ∷ 0x02 ∷ 0 ∷ 0 ∷ 0xaa ∷ 0xbb ∷ 0xcc ∷ 0x00 ∷ []

-- a Last Segment descriptor of 16 bytes at 2000h
abbrev pub link_bytes : List ℕ
link_bytes = 0x00 ∷ 0x20 ∷ 0 ∷ 0 ∷ 0 ∷ 0 ∷ 0 ∷ 0 ∷ 0x10 ∷ 0 ∷ 0 ∷ 0 ∷ 0xaa ∷ 0xbb ∷ 0xcc ∷ 0x30 ∷ []

-- a Bit Bucket of 512 bytes
abbrev pub bucket_bytes : List ℕ
bucket_bytes = 1 ∷ 2 ∷ 3 ∷ 4 ∷ 5 ∷ 6 ∷ 7 ∷ 8 ∷ 0x00 ∷ 0x02 ∷ 0 ∷ 0 ∷ 0xaa ∷ 0xbb ∷ 0xcc ∷ 0x10 ∷ []

-- two segments, at the start of pages 1 and 2
abbrev pub linked_pages : Pages
linked_pages = None ∷ Some (data_bytes ++ link_bytes) ∷ Some bucket_bytes ∷ []
