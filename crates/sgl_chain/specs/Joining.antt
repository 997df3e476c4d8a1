-- Neighbouring parts as one: which parts join, and what a list of parts becomes.
use Rattle.std.specs.Prelude.{◌≡◌, ◌+◌, ◌^◌, ◌==◌, ◌&&◌, ◌++◌, ◌∷◌, [], ℕ, zero, suc, Bool, false, List, if◌then◌else◌, nat_lt, length}
use Rattle.sgl_descriptor.specs.declared.Part.{Part, TheVariants.{Data, Bucket}}

-- Two neighbours join where both are data, the first ends at the address where the second begins, and their lengths
-- together fit 32 bits. Addresses are whole numbers: none is at the end of a part that ends with the last address.
abbrev pub joins : Part → Part → Bool
joins (Data addr len) (Data next more) = (addr + len == next) && nat_lt (len + more) (2 ^ 32)
joins (Data addr len) (Bucket more) = false
joins (Bucket len) next = false

-- the one part that two become
abbrev pub both : Part → Part → Part
both (Data addr len) (Data next more) = Data addr (len + more)
both (Data addr len) (Bucket more) = Data addr len
both (Bucket len) next = Bucket len

-- the first joined part of a list that begins with a part: that part and those after it, while they join
abbrev pub first_joined : Part → List Part → Part
first_joined part [] = part
first_joined part (next ∷ parts) = if joins part next then first_joined (both part next) parts else part

-- what is left after the first joined part
abbrev pub left_behind : Part → List Part → List Part
left_behind part [] = []
left_behind part (next ∷ parts) = if joins part next then left_behind (both part next) parts else next ∷ parts

-- the joined parts, at most as many as the first argument says
abbrev pub joined_within : ℕ → List Part → List Part
joined_within zero parts = []
joined_within (suc bound) [] = []
joined_within (suc bound) (part ∷ parts) = first_joined part parts ∷ joined_within bound (left_behind part parts)

-- The joined parts of a list: the first one, and then those of what is left. There are never more of them than parts.
abbrev pub joined : List Part → List Part
joined parts = joined_within (length parts) parts

-- No part joins the one after it.
abbrev pub NoneJoin : List Part → Type 0
NoneJoin parts = (front behind : List Part) (part next : Part) → parts ≡ front ++ part ∷ next ∷ behind → joins part next ≡ false
