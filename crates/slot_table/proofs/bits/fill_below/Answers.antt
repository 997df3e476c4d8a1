use Rattle.std.proofs.{Common.{◌≡◌, ◌+◌, ◌-◌, ◌*◌, ◌%◌, ◌/◌, ℕ, length, nat_lt, ap, ◌∙◌, arith}, lemmas.Nat.one_shl}
use Rattle.slot_table.proofs.Sets.{filled-ones, filled-cut}
use Rattle.slot_table.proofs.bits.fill_below.Goals as goal

pub returns-then-rest-gt0-clause-all : goal.returns-then-rest-gt0-clause-all
returns-then-rest-gt0-clause-all c = λ i.
    let split : 64 * (c.args.bound / 64) + c.args.bound % 64 ≡ c.args.bound = omega arith in
    rw (c.fill.ensures.after (λ y same. same), c.if-inside.true)
    (filled-cut (length c.args.words.now) (c.args.bound / 64) (c.args.bound % 64) _ _ i (omega (arith, c.requires, c.if-rest-gt0.true)) (omega arith) (omega arith)
    (ap (λ (n : ℕ). n - 1) (one_shl (c.args.bound % 64) 64 (omega arith))) (omega (arith, c.requires)) ∙ ap (λ (n : ℕ). nat_lt i n) split)

pub returns-else-rest-gt0-clause-all : goal.returns-else-rest-gt0-clause-all
returns-else-rest-gt0-clause-all c = λ i.
    let exact : 64 * length c.args.words.now ≡ c.args.bound = omega (arith, c.requires, c.if-rest-gt0.false) in
    rw (c.fill.ensures.after (λ y same. same), c.if-inside.true) (filled-ones (length c.args.words.now) _ i (omega arith) ∙ ap (λ (n : ℕ). nat_lt i n) exact)
