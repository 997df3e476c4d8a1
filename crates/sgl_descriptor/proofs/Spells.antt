-- Lemmas on the spelling of descriptors.
use Rattle.std.proofs.{Common.{arith, ◌≡◌, ◌≢◌, ◌⊎◌, inl, inr, ℕ, List, Some, None, get_or, refl, subst}, lemmas.Bool.{cases_eq, cases_lt}}
use Rattle.std.proofs.lemmas.Nat.{from_le_bytes-to_le_bytes_8, from_le_bytes-to_le_bytes_4}
use Rattle.sgl_descriptor.specs.{Laws.OneSpelling, Spelling.{IsSpelling, spelling, Fits, descriptor_of, address_of, length_of, type_of, subtype_of, HasValidType, HasInvalidType}, declared.Descriptor.Descriptor}
use Rattle.sgl_descriptor.specs.declared.Descriptor.TheVariants.{DataBlock, BitBucket, Segment, LastSegment}

-- what is written for a descriptor whose fields fit spells it
pub spells_itself : (d : Descriptor) → Fits d → IsSpelling d (spelling d)
spells_itself (DataBlock addr len) h = (refl, from_le_bytes-to_le_bytes_8 addr h.0, from_le_bytes-to_le_bytes_4 len h.1)
spells_itself (BitBucket len) h = (refl, from_le_bytes-to_le_bytes_4 len h)
spells_itself (Segment addr len) h = (refl, from_le_bytes-to_le_bytes_8 addr h.0, from_le_bytes-to_le_bytes_4 len h.1)
spells_itself (LastSegment addr len) h = (refl, from_le_bytes-to_le_bytes_8 addr h.0, from_le_bytes-to_le_bytes_4 len h.1)

-- bytes are read as what they spell
pub found : (bytes : List ℕ) (d : Descriptor) → IsSpelling d bytes → descriptor_of bytes ≡ Some d
unfolding descriptor_of
found bytes (DataBlock addr len) h = rw (h.0, h.1, h.2) refl
found bytes (BitBucket len) h = rw (h.0, h.1) refl
found bytes (Segment addr len) h = rw (h.0, h.1, h.2) refl
found bytes (LastSegment addr len) h = rw (h.0, h.1, h.2) refl

-- no descriptor, where byte 15 is not a type times 16
pub nothing : (bytes : List ℕ) → get_or bytes 15 0 ≢ 0x00 → get_or bytes 15 0 ≢ 0x10 → get_or bytes 15 0 ≢ 0x20 → get_or bytes 15 0 ≢ 0x30 → descriptor_of bytes ≡ None
unfolding descriptor_of
nothing bytes a b c d = grind arith

-- no descriptor has an invalid type
pub none_of : (bytes : List ℕ) → HasInvalidType bytes → descriptor_of bytes ≡ None
none_of bytes (inl above) = nothing bytes (λ e. omega (arith, above, e)) (λ e. omega (arith, above, e)) (λ e. omega (arith, above, e)) (λ e. omega (arith, above, e))
none_of bytes (inr other) =
    nothing bytes (λ e. other (omega (arith, e))) (λ e. other (omega (arith, e))) (λ e. other (omega (arith, e))) (λ e. other (omega (arith, e)))

-- a type is valid or invalid
pub valid_or_not : (bytes : List ℕ) → HasValidType bytes ⊎ HasInvalidType bytes
valid_or_not bytes = elim (cases_lt 3 (type_of bytes)) [
  | inl above ↦ inr (inl above)
  | inr valid ↦ elim (cases_eq (subtype_of bytes) 0) [ inl zero ↦ inl (valid, zero) | inr other ↦ inr (inr other) ]
]

-- bytes with a valid type spell some descriptor
pub valid_spells : (bytes : List ℕ) → HasValidType bytes → (d : Descriptor) × IsSpelling d bytes
valid_spells bytes h =
    let last = get_or bytes 15 0 in
    elim (cases_eq last 0x00) [
      | inl e ↦ (DataBlock (address_of bytes) (length_of bytes), (e, refl, refl))
      | inr a ↦ elim (cases_eq last 0x10) [
        | inl e ↦ (BitBucket (length_of bytes), (e, refl))
        | inr b ↦ elim (cases_eq last 0x20) [
          | inl e ↦ (Segment (address_of bytes) (length_of bytes), (e, refl, refl))
          | inr c ↦ (LastSegment (address_of bytes) (length_of bytes), (omega (arith, h.0, h.1, a, b, c), refl, refl))
        ]
      ]
    ]

-- bytes spell what they are read as
pub spelled : (bytes : List ℕ) (d : Descriptor) → descriptor_of bytes ≡ Some d → IsSpelling d bytes
spelled bytes d h = elim (valid_or_not bytes) [
  | inl valid ↦
      let (e, is) = valid_spells bytes valid in
      let same : e ≡ d = let other : descriptor_of bytes ≡ Some e = found bytes e is in cc in
      subst (λ (x : Descriptor). IsSpelling x bytes) same is
  | inr invalid ↦ let none : descriptor_of bytes ≡ None = none_of bytes invalid in absurd cc
]

-- what is written for a descriptor whose fields fit is read as it
pub reads_itself : (d : Descriptor) → Fits d → descriptor_of (spelling d) ≡ Some d
reads_itself d fits = found (spelling d) d (spells_itself d fits)

-- the relation and the function say the same
pub both : (bytes : List ℕ) → OneSpelling bytes
both bytes = record { found = found bytes; spelled = spelled bytes }
