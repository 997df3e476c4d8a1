use Rattle.sgl_chain.proofs.Spelled.{found_descriptors, found_behind}
use Rattle.sgl_chain.proofs.chain.Chain.image_of.Goals as goal

pub returns-clause-descriptors : goal.returns-clause-descriptors
returns-clause-descriptors g c =
    found_descriptors c.args.self.now.segments c.args.i c.nth.result.now c.requires (rw (← c.self.view_is, ← c.as_ref.ensures.value, c.unwrap-first.ensures) c.nth.ensures)

pub returns-clause-behind : goal.returns-clause-behind
returns-clause-behind g c =
    found_behind c.args.self.now.segments c.args.i c.nth.result.now c.requires (rw (← c.self.view_is, ← c.as_ref.ensures.value, c.unwrap-first.ensures) c.nth.ensures)
