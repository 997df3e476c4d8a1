use Rattle.std.proofs.{Common.{◌≡◌, ◌+◌, ◌-◌, ◌*◌, ◌%◌, ◌/◌, ℕ, nat_lt, ap, ◌∙◌, arith}, lemmas.{List.length_push, Nat.one_shl}}
use Rattle.slot_table.proofs.{Sets.push-ones, bits.all_below.Goals.{then-rest-gt0, else-rest-gt0}}
use Rattle.slot_table.proofs.bits.all_below.Goals as goal

pub loop-preserved : goal.loop-preserved
loop-preserved g c =
    let more : 64 * c.loop.counter + 64 ≡ 64 * (c.loop.counter + 1) = omega arith in
    rw c.push_reserved.ensures.items (record {
      size = length_push c.loop.words.items _ ∙ ap (λ (n : ℕ). n + 1) c.loop.invariant.size;
      all = λ i. push-ones c.loop.words.items c.loop.counter 64 _ c.loop.invariant.size c.loop.invariant.all (omega arith) (omega arith) i ∙ ap (λ (n : ℕ). nat_lt i n) more;
      room = c.push_reserved.ensures.capacity ∙ c.loop.invariant.room;
    })

pub returns-clause-all : goal.returns-clause-all
returns-clause-all g c = λ i.
    let whole : c.loop.counter ≡ c.args.bound / 64 = omega arith in
    elim c.if-rest-gt0.branch [
      | then-rest-gt0 w ↦
          let split : 64 * c.loop.counter + c.args.bound % 64 ≡ c.args.bound = omega arith in
          rw (w.words-is, w.push_reserved-then-rest-gt0.ensures.items)
          (push-ones c.loop.words.items c.loop.counter (c.args.bound % 64) _ c.loop.invariant.size c.loop.invariant.all (omega arith) (ap (λ (n : ℕ). n - 1) (one_shl (c.args.bound % 64) 64 (omega arith))) i ∙ ap (λ (n : ℕ). nat_lt i n) split)
      | else-rest-gt0 w ↦
          let exact : 64 * c.loop.counter ≡ c.args.bound = omega (arith, w.if-rest-gt0.false) in
          rw w.words-is (c.loop.invariant.all i ∙ ap (λ (n : ℕ). nat_lt i n) exact)
    ]
