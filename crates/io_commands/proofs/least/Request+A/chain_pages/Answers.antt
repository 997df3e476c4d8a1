use Rattle.std.proofs.Common.{◌≡◌, ◌≤◌, length}
use Rattle.sgl_chain.{proofs.Spelled.needed_more, specs.Chains.pages_needed}
use Rattle.io_commands.proofs.least.Request+A.chain_pages.Goals as goal

pub returns-clause-few : goal.returns-clause-few
returns-clause-few g c =
    let few : c.count_from.result ≤ length c.args.self.now.pieces = rw c.pieces.ensures at c.count_from.ensures.few in
    let count : c.pages_needed.result ≡ pages_needed c.count_from.result c.args.segment = cc (c.pages_needed.ensures.count, c.from.ensures) in
    rw count (needed_more c.count_from.result (length c.args.self.now.pieces) c.args.segment c.requires.low few)
