use Rattle.std.proofs.Common.{◌≡◌, ◌+◌, ◌/◌, ℕ, length, nat_lt, ap, ◌∙◌, arith}
use Rattle.slot_table.proofs.Places.{bools-all, summed-all}
use Rattle.slot_table.proofs.bit_list.BitList.open.Goals as goal

pub invariant_of-result : goal.invariant_of-result
invariant_of-result g c =
    let size : c.len.result ≡ length c.in_ok-words.words.items = omega (arith, c.len.ensures, c.in_ok-words.words.ok.0) in
    summed-all c.in_ok-words.words.items c.in_ok-summary.summary.items c.args.len c.requires c.in_ok-words.ensures.size c.in_ok-words.ensures.all
    (c.in_ok-summary.ensures.size ∙ ap (λ (n : ℕ). (n + 63) / 64) size) (λ w. c.in_ok-summary.ensures.all w ∙ ap (λ (n : ℕ). nat_lt w n) size)

pub returns : goal.returns
returns g c = bools-all c.in_ok-words.words.items c.args.len c.in_ok-words.ensures.all
