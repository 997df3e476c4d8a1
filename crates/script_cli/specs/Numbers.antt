-- What single words stand for: numbers, bytes and kinds.
use Rattle.std.specs.Prelude.{ℕ, ◌+◌, ◌-◌, ◌*◌, ◌==◌, nat_lt, nat_le, ◌&&◌, Bool, Option, Some, None, List, [], ◌∷◌, ◌++◌, length, codes, option_and_then, if◌then◌else◌}
use Rattle.std.specs.Str.{bytes_eq}
use Rattle.io_commands.specs.declared.request.Kind.{Kind, TheVariants.{Read, Write, Compare, WriteZeroes, Verify, Flush, Deallocate}}

abbrev pub is_digit : ℕ → Bool
is_digit b = nat_le 48 b && nat_le b 57

-- the number that decimal digits go on to, from a value so far
abbrev pub digits_from : ℕ → List ℕ → Option ℕ
digits_from value [] = Some value
digits_from value (b ∷ bs) = if is_digit b then digits_from (value * 10 + (b - 48)) bs else None

abbrev pub if_below : ℕ → Option ℕ → Option ℕ
if_below limit None = None
if_below limit (Some n) = if nat_lt n limit then Some n else None

-- 1 to 20 decimal digits whose number is below the limit
abbrev pub number : ℕ → List ℕ → Option ℕ
number limit word = if nat_lt 0 (length word) && nat_le (length word) 20 then if_below limit (digits_from 0 word) else None

abbrev pub hex_digit : ℕ → Option ℕ
hex_digit b =
    if is_digit b then Some (b - 48)
    else if nat_le 65 b && nat_le b 70 then Some (b - 55)
    else if nat_le 97 b && nat_le b 102 then Some (b - 87)
    else None

-- the byte of two hexadecimal digits
abbrev pub hex_byte : ℕ → ℕ → Option ℕ
hex_byte high low = option_and_then (λ x. option_and_then (λ y. Some (x * 16 + y)) (hex_digit low)) (hex_digit high)

abbrev pub with_next : List ℕ → (List ℕ → Option (List ℕ)) → Option ℕ → Option (List ℕ)
with_next so_far rest None = None
with_next so_far rest (Some byte) = rest (so_far ++ (byte ∷ []))

-- the bytes that pairs of hexadecimal digits go on to, from the bytes so far
abbrev pub bytes_from : List ℕ → List ℕ → Option (List ℕ)
bytes_from so_far [] = Some so_far
bytes_from so_far (a ∷ []) = None
bytes_from so_far (a ∷ b ∷ rest) = with_next so_far (λ bytes. bytes_from bytes rest) (hex_byte a b)

-- an even number of hexadecimal digits, and not none
abbrev pub hex : List ℕ → Option (List ℕ)
hex [] = None
hex (b ∷ bs) = bytes_from [] (b ∷ bs)

abbrev pub if_sixteen : Option (List ℕ) → Option (List ℕ)
if_sixteen None = None
if_sixteen (Some bytes) = if length bytes == 16 then Some bytes else None

abbrev pub sixteen_bytes : List ℕ → Option (List ℕ)
sixteen_bytes word = if_sixteen (hex word)

abbrev pub kind : List ℕ → Option Kind
kind word =
    if bytes_eq word (codes "read") then Some Read
    else if bytes_eq word (codes "write") then Some Write
    else if bytes_eq word (codes "compare") then Some Compare
    else if bytes_eq word (codes "write_zeroes") then Some WriteZeroes
    else if bytes_eq word (codes "verify") then Some Verify
    else if bytes_eq word (codes "flush") then Some Flush
    else if bytes_eq word (codes "deallocate") then Some Deallocate
    else None
