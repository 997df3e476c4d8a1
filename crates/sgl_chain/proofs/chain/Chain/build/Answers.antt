use Rattle.std.proofs.Common.{arith}
use Rattle.sgl_chain.proofs.Back.{is_built, built_count, built_spells, built_parts}
use Rattle.sgl_chain.proofs.chain.Chain.build.Goals as goal

pub returns-clause-count : goal.returns-clause-count
returns-clause-count g c =
    built_count _ _ _ _ (is_built c.args.segment_size c.args.pages.now c.args.parts.now c.in_ok-chain.chain c.requires.low c.requires.high c.requires.some c.requires.pages c.in_ok-chain.ensures.first c.in_ok-chain.ensures.segments)

pub returns-clause-spells : goal.returns-clause-spells
returns-clause-spells g c =
    built_spells _ _ _ _
    (is_built c.args.segment_size c.args.pages.now c.args.parts.now c.in_ok-chain.chain c.requires.low c.requires.high c.requires.some c.requires.pages c.in_ok-chain.ensures.first c.in_ok-chain.ensures.segments)
    (omega arith) c.in_ok-chain.ensures.fits

pub returns-clause-parts : goal.returns-clause-parts
returns-clause-parts g c =
    built_parts _ _ _ _ (is_built c.args.segment_size c.args.pages.now c.args.parts.now c.in_ok-chain.chain c.requires.low c.requires.high c.requires.some c.requires.pages c.in_ok-chain.ensures.first c.in_ok-chain.ensures.segments)
