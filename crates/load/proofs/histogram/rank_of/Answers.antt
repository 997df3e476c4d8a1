-- The thousands and the rest, each by itself.
use Rattle.std.proofs.{Common.{◌≡◌, ◌+◌, ◌*◌, ◌/◌, ◌%◌, ◌∙◌, ℕ, arith, ap}, Math.Nat.add-mul}
use Rattle.load.proofs.histogram.rank_of.Goals as goal

pub returns : goal.returns
returns c =
    let many = c.args.many in
    let permille = c.args.permille in
    let parts : many ≡ many / 1000 * 1000 + many % 1000 = omega arith in
    let whole : many * permille ≡ many / 1000 * 1000 * permille + many % 1000 * permille =
    ap (λ (n : ℕ). n * permille) parts ∙ add-mul (many / 1000 * 1000) (many % 1000) permille in
    omega (arith, whole)
