-- The guest's memory as contracts see it.
use Rattle.std.specs.Prelude.{ℕ, List, Option, slice_get}

-- its bytes, starting at address 0, the pages that the controller touched, and how many touches that list does not have
pub record GuestContents : Type 0 where
  pub bytes : List ℕ
  pub touched : List ℕ
  pub unlisted : ℕ

-- the byte at an address; after the last one there is none
abbrev pub byte_of : List ℕ → ℕ → Option ℕ
byte_of bytes place = slice_get bytes place
