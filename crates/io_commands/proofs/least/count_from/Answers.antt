use Rattle.std.proofs.Common.{arith, ◌≡◌, ◌∙◌, ◌+◌, ◌∷◌, ℕ, List, ap, sym, length}
use Rattle.sgl_descriptor.specs.declared.Part.{Part}
use Rattle.sgl_chain.specs.Joining.{joined}
use Rattle.io_commands.{proofs.Fewest.counted_as_one, specs.Requests.parts_of}
use Rattle.io_commands.proofs.least.count_from.Goals as goal

pub loop-part-preserved-in-Some-join : goal.loop-part-preserved-in-Some-join
loop-part-preserved-in-Some-join c =
    let behind : List Part = parts_of c.in-Some-next_part.others.now c.in-Some-next_part.behind.now in
    let same : length (joined (c.loop-part.last ∷ parts_of c.loop-part.pieces.now c.loop-part.pages.now)) ≡ length (joined (c.in-Some-join.one ∷ behind)) =
    ap (λ (parts : List Part). length (joined (c.loop-part.last ∷ parts))) c.in-Some-next_part.ensures.first
    ∙ counted_as_one c.loop-part.last c.in-Some-next_part.part c.in-Some-join.one behind c.in-Some-join.ensures in
    record {
      counted = ap (λ (k : ℕ). c.loop-part.before + k) (sym same) ∙ c.loop-part.invariant.counted;
      few = omega (arith, c.loop-part.invariant.few, c.in-Some-next_part.ensures.fewer);
    }
