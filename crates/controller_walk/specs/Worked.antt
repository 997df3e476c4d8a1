-- A small memory for worked runs.
use Rattle.std.specs.Prelude.{◌+◌, [], ◌∷◌, ℕ, List, Some, None, if◌then◌else◌, nat_lt}
use Rattle.page_memory.specs.Memory.{Memory, written}
use Rattle.sgl_descriptor.specs.{Spelling.spelling, declared.Descriptor.Descriptor}

-- eight pages of zeros
abbrev pub eight_pages : Memory
eight_pages = λ place. if nat_lt place 32768 then Some 0 else None

-- with descriptors one after the other starting at an address
abbrev pub with_descriptors : ℕ → List Descriptor → Memory
with_descriptors place [] = eight_pages
with_descriptors place (d ∷ ds) = written (with_descriptors (place + 16) ds) place (spelling d)
