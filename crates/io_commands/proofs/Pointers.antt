-- The data pointer of an entry, and which kinds the controller has.
use Rattle.std.proofs.Common.{◌≡◌, ◌<◌, ◌||◌, ℕ, Bool, ap, arith, if◌then◌else◌, List, refl, sym, length, replicate, IsSome, true, false, true≢false}
use Rattle.io_commands.specs.{Drafts.pointer_of, Jobs.kind_of_opcode, Requests.{has_list, is_admin, moves_data, names_ranges, opcode_of}}
use Rattle.io_commands.specs.declared.request.Kind.{Kind, TheVariants.{Read, Write, Compare, WriteZeroes, Verify, Flush, Deallocate, Admin}}

-- what moves data has a list
pub moves_list : (kind : Kind) → moves_data kind ≡ true → has_list kind ≡ true
moves_list kind moves = ap (λ (b : Bool). b || names_ranges kind) moves

-- where a kind has a list the pointer is its first descriptor's bytes, and else sixteen zeros
pub pointer_lists : (kind : Kind) (sgl1 : List ℕ) → has_list kind ≡ true → pointer_of kind sgl1 ≡ sgl1
pointer_lists kind sgl1 list = ap (λ (b : Bool). if b then sgl1 else replicate 16 0) list

pub pointer_still : (kind : Kind) (sgl1 : List ℕ) → has_list kind ≡ false → pointer_of kind sgl1 ≡ replicate 16 0
pointer_still kind sgl1 still = ap (λ (b : Bool). if b then sgl1 else replicate 16 0) still

-- so it is sixteen bytes
pub length-pointer_of : (kind : Kind) (sgl1 : List ℕ) → length sgl1 ≡ 16 → length (pointer_of kind sgl1) ≡ 16
length-pointer_of Read sgl1 count = count
length-pointer_of Write sgl1 count = count
length-pointer_of Compare sgl1 count = count
length-pointer_of WriteZeroes sgl1 count = refl
length-pointer_of Verify sgl1 count = refl
length-pointer_of Flush sgl1 count = refl
length-pointer_of Deallocate sgl1 count = count
length-pointer_of (Admin command) sgl1 count = refl

-- of the kinds of blocks the controller has those alone that move data
pub known_moves : (kind : Kind) → is_admin kind ≡ false → IsSome (kind_of_opcode (opcode_of kind)) → moves_data kind ≡ true
known_moves Read far known = refl
known_moves Write far known = refl
known_moves Compare far known = refl
known_moves WriteZeroes far known = absurd (true≢false (sym known))
known_moves Verify far known = absurd (true≢false (sym known))
known_moves Flush far known = absurd (true≢false (sym known))
known_moves Deallocate far known = absurd (true≢false (sym known))
known_moves (Admin command) far known = absurd (true≢false far)

-- PSDT fits its two bits
pub psdt_fits : (moves : Bool) → (if moves then 1 else 0) < 4
psdt_fits true = omega arith
psdt_fits false = omega arith
