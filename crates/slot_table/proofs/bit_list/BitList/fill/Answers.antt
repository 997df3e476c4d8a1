use Rattle.std.proofs.{Common.{◌≡◌, ◌+◌, ◌/◌, ◌&&◌, ℕ, List, length, nat_lt, replicate, ap, sym, ◌∙◌, arith}, lemmas.List.with_items_is}
use Rattle.slot_table.{proofs.Places.{length-bools, bools-filled, summed-filled}, specs.Places.bools_of}
use Rattle.slot_table.proofs.bit_list.BitList.fill.Goals as goal

pub invariant_of-self : goal.invariant_of-self
invariant_of-self g c =
    let size : length c.fill_below.new.words ≡ length c.self.inside.words.items = rw (← c.deref_mut.ensures.value) c.fill_below.ensures.size in
    let above : length c.fill_below-2.new.words ≡ length c.self.inside.summary.items = rw (← c.deref_mut-2.ensures.value) c.fill_below-2.ensures.size in
    let many : c.len.result ≡ length c.fill_below.new.words = omega (arith, c.len.ensures, size, c.self.inside.words.ok.0) in
    rw (
      with_items_is c.self.inside.words c.fill_below.new.words (omega (arith, size, c.self.inside.words.ok.0)),
      with_items_is c.self.inside.summary c.fill_below-2.new.words (omega (arith, above, c.self.inside.summary.ok.0)),
    )
    (summed-filled c.fill_below.new.words c.fill_below-2.new.words c.self.inside.len c.args.value c.self.invariant.most (size ∙ c.self.invariant.size) c.fill_below.ensures.all
    c.fill_below.ensures.none
    (above ∙ (c.self.invariant.above ∙ ap (λ (n : ℕ). (n + 63) / 64) (sym size)))
    (λ w. c.fill_below-2.ensures.all w ∙ ap (λ (n : ℕ). c.args.value && nat_lt w n) many))

pub returns : goal.returns
returns g c =
    let size : length c.fill_below.new.words ≡ length c.self.inside.words.items = rw (← c.deref_mut.ensures.value) c.fill_below.ensures.size in
    let long : c.self.inside.len ≡ length c.args.self.now = sym (length-bools c.self.inside.words.items c.self.inside.len) ∙ ap length c.self.view_is in
    record {
      filled = ap (λ (l : List ℕ). bools_of l c.self.inside.len) (with_items_is c.self.inside.words c.fill_below.new.words (omega (arith, size, c.self.inside.words.ok.0)))
          ∙ (bools-filled c.fill_below.new.words c.self.inside.len c.args.value c.fill_below.ensures.all ∙ ap (λ (n : ℕ). replicate n c.args.value) long);
    }
