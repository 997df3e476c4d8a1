-- Lemmas on the targets of parts.
use Rattle.std.proofs.{Common.{arith, ◌≡◌, ◌+◌, List, [], ◌∷◌, ◌++◌, length, refl, ◌∙◌, ap, length-append}, lemmas.Grind.flat_map-append}
use Rattle.std.proofs.lemmas.List.{length-replicate, Concat.flat_map-cons, FromFn.length-map-range_with_len}
use Rattle.sgl_descriptor.specs.{Laws.TargetsJoin, Targets.{Place, Discarded, targets, targets_of_part, counted, counted_in, descriptor_of_part}}
use Rattle.sgl_descriptor.specs.declared.{Direction.{Direction, TheVariants.{Destination, Source}}, Part.{Part, TheVariants.{Data, Bucket}}}

-- one target for each byte that the part counts
pub length-targets_of_part : (dir : Direction) (part : Part) → length (targets_of_part dir part) ≡ counted dir (descriptor_of_part part)
length-targets_of_part dir (Data addr len) = length-map-range_with_len (λ place. Place place) addr len
length-targets_of_part Destination (Bucket len) = length-replicate len Discarded
length-targets_of_part Source (Bucket len) = refl

-- one target for each counted byte
pub length-targets : (dir : Direction) (parts : List Part) → length (targets dir parts) ≡ counted_in dir parts
length-targets dir [] = refl
length-targets dir (part ∷ parts) =
    ap length (flat_map-cons (targets_of_part dir) part parts)
    ∙ length-append (targets_of_part dir part) (targets dir parts)
    ∙ grind (arith, length-targets_of_part dir part, length-targets dir parts)

pub targets-append : (dir : Direction) (a b : List Part) → targets dir (a ++ b) ≡ targets dir a ++ targets dir b
targets-append dir a b = flat_map-append (targets_of_part dir) a b

pub counted_in-append : (dir : Direction) (a b : List Part) → counted_in dir (a ++ b) ≡ counted_in dir a + counted_in dir b
counted_in-append dir [] b = omega arith
counted_in-append dir (part ∷ a) b = omega (arith, counted_in-append dir a b)

-- both at once
pub join : (dir : Direction) (a b : List Part) → TargetsJoin dir a b
join dir a b = record { joined = targets-append dir a b; counted = counted_in-append dir a b }
