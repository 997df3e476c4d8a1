use Rattle.std.proofs.Common.{◌≡◌, ap, List, ℕ, replicate, rules}
use Rattle.load.specs.Histograms.{Numbers, no_numbers}
use Rattle.load.proofs.histogram.Histogram.new.Goals as goal

pub returns : goal.returns
returns c =
    let counted : List ℕ → Numbers = λ counts. record no_numbers { counts = counts } in
    let zeros : c.in_ok-vec.field-0.items ≡ replicate 976 0 = search rules in
    ap counted zeros
