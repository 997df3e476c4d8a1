-- Each byte of a spelling is below 256.
use Rattle.std.{proofs.Common.{arith, ◌<◌, ◌++◌, ℕ, zero, suc, List, [], ◌∷◌, get_or, refl}, specs.Int.{w32, w64, to_le_bytes, bytes_low_first, byte_at}}
use Rattle.sgl_descriptor.specs.{Laws.IsSixteenBytes, Spelling.{spelling, descriptor_bytes}, declared.Descriptor.Descriptor}
use Rattle.sgl_descriptor.specs.declared.Descriptor.TheVariants.{DataBlock, BitBucket, Segment, LastSegment}

-- each item is below 256
abbrev AreBytes : List ℕ → Type 0
AreBytes [] = Unit {0}
AreBytes (b ∷ bytes) = (b < 256) × AreBytes bytes

AreBytes-append : (a b : List ℕ) → AreBytes a → AreBytes b → AreBytes (a ++ b)
AreBytes-append [] b ha hb = hb
AreBytes-append (x ∷ a) b ha hb = (ha.0, AreBytes-append a b ha.1 hb)

AreBytes-get_or : (bytes : List ℕ) → AreBytes bytes → (i : ℕ) → get_or bytes i 0 < 256
AreBytes-get_or [] h i = omega arith
AreBytes-get_or (b ∷ bytes) h zero = h.0
AreBytes-get_or (b ∷ bytes) h (suc i) = AreBytes-get_or bytes h.1 i

byte_at-lt : (i n : ℕ) → byte_at i n < 256
byte_at-lt zero n = omega arith
byte_at-lt (suc i) n = omega arith

AreBytes-bytes_low_first : (i k n : ℕ) → AreBytes (bytes_low_first i k n)
AreBytes-bytes_low_first i zero n = tt
AreBytes-bytes_low_first i (suc k) n = (byte_at-lt i n, AreBytes-bytes_low_first (suc i) k n)

AreBytes-descriptor_bytes : (addr len last : ℕ) → last < 256 → AreBytes (descriptor_bytes addr len last)
AreBytes-descriptor_bytes addr len last h =
    AreBytes-append (to_le_bytes w64 addr ++ to_le_bytes w32 len) (0 ∷ 0 ∷ 0 ∷ last ∷ [])
    (AreBytes-append (to_le_bytes w64 addr) (to_le_bytes w32 len) (AreBytes-bytes_low_first 0 8 addr) (AreBytes-bytes_low_first 0 4 len))
    (omega arith, (omega arith, (omega arith, (h, tt))))

-- what is written is 16 bytes
pub sixteen_bytes : (d : Descriptor) → IsSixteenBytes (spelling d)
sixteen_bytes (DataBlock addr len) = record { sixteen = refl; small = AreBytes-get_or (spelling (DataBlock addr len)) (AreBytes-descriptor_bytes addr len 0x00 (omega arith)) }
sixteen_bytes (BitBucket len) = record { sixteen = refl; small = AreBytes-get_or (spelling (BitBucket len)) (AreBytes-descriptor_bytes 0 len 0x10 (omega arith)) }
sixteen_bytes (Segment addr len) = record { sixteen = refl; small = AreBytes-get_or (spelling (Segment addr len)) (AreBytes-descriptor_bytes addr len 0x20 (omega arith)) }
sixteen_bytes (LastSegment addr len) = record { sixteen = refl; small = AreBytes-get_or (spelling (LastSegment addr len)) (AreBytes-descriptor_bytes addr len 0x30 (omega arith)) }
