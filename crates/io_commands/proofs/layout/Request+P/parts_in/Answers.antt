use Rattle.std.proofs.Common.{arith, ◌≡◌, ◌∙◌, ◌++◌, ◌∷◌, List, ap, sym}
use Rattle.sgl_descriptor.specs.declared.Part.{Part}
use Rattle.sgl_chain.specs.Joining.{joined}
use Rattle.io_commands.{proofs.Fewest.joined_as_one, specs.{Requests.parts_of, Values.numbers_of}}
use Rattle.io_commands.proofs.layout.Request+P.parts_in.Goals as goal

pub loop-part-preserved-in-Some-join : goal.loop-part-preserved-in-Some-join
loop-part-preserved-in-Some-join g c =
    let behind : List Part = parts_of c.in-Some-first_part.others.now (numbers_of c.in-Some-first_part.behind.now) in
    let same : joined (c.loop-part.last ∷ parts_of c.loop-part.pieces.now (numbers_of c.loop-part.pages.now)) ≡ joined (c.in-Some-join.one ∷ behind) =
    ap (λ (parts : List Part). joined (c.loop-part.last ∷ parts)) c.in-Some-first_part.ensures.first
    ∙ joined_as_one c.loop-part.last c.in-Some-first_part.part c.in-Some-join.one behind c.in-Some-join.ensures in
    record {
      joined = ap (λ (parts : List Part). c.loop-part.parts.items ++ parts) (sym same) ∙ c.loop-part.invariant.joined;
      room = omega (arith, c.loop-part.invariant.room, c.in-Some-first_part.ensures.fewer);
    }
