use Rattle.std.proofs.{Common.{arith, ◌≡◌, drop, ap}, Math.ListN.drop_of_length-le}
use Rattle.io_commands.proofs.Fewest.{begun, counted}
use Rattle.io_commands.proofs.least.joined_count.Goals as goal

pub returns-clause-count : goal.returns-clause-count
returns-clause-count c =
    let done : begun c.loop-piece.fills (drop c.loop-piece.piece-index c.args.pieces.now) ≡ 0 = ap (begun c.loop-piece.fills) (drop_of_length-le c.args.pieces.now c.loop-piece-test.false) in
    omega (arith, c.loop-piece.invariant.counted, counted 0 c.args.pieces.now c.requires.few c.requires.inside)
