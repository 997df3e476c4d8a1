use Rattle.two_sides.proofs.Blind.{blind}
use Rattle.two_sides.proofs.laws.law_of_forged_worlds.Goals as goal

pub returns : goal.returns
returns c = blind
