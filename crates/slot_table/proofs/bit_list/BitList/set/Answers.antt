use Rattle.std.proofs.{Common.{◌≡◌, ◌==◌, ◌<◌, ◌/◌, List, ℕ, not, length, slice_index, slice_set, ap, ◌∙◌, arith}, lemmas.List.{get_or_read, with_items_is}}
use Rattle.slot_table.{proofs.Places.{length-bools, bools-put, summed-put}, specs.{Bits.IsPut, Places.bools_of}}
use Rattle.slot_table.proofs.bit_list.BitList.set.Goals as goal

pub put-requires : goal.put-requires
put-requires g c =
    rw c.deref_mut.ensures.value (omega (arith, c.requires, ap length c.self.view_is, length-bools c.self.inside.words.items c.self.inside.len, c.self.invariant.size))

pub index-requires : goal.index-requires
index-requires g c = omega (arith, c.requires, ap length c.self.view_is, length-bools c.self.inside.words.items c.self.inside.len, c.self.invariant.size, c.self.inside.words.ok.0)

pub put-requires-2 : goal.put-requires-2
put-requires-2 g c =
    rw c.deref_mut-2.ensures.value (omega (arith, c.requires, ap length c.self.view_is, length-bools c.self.inside.words.items c.self.inside.len, c.self.invariant.size, c.self.invariant.above))

pub invariant_of-self : goal.invariant_of-self
invariant_of-self g c =
    let inside : c.args.i < c.self.inside.len = omega (arith, c.requires, ap length c.self.view_is, length-bools c.self.inside.words.items c.self.inside.len) in
    let put : IsPut c.self.inside.words.items c.args.i c.args.value c.put.new.words = rw (← c.deref_mut.ensures.value) c.put.ensures in
    let sum : IsPut c.self.inside.summary.items (c.args.i / 64) (not (c.index.result.now == 0)) c.put-2.new.words = rw (← c.deref_mut-2.ensures.value) c.put-2.ensures in
    let size : length c.put.new.words ≡ c.self.inside.words.len = omega (arith, put.size, c.self.inside.words.ok.0) in
    let above : length c.put-2.new.words ≡ c.self.inside.summary.len = omega (arith, sum.size, c.self.inside.summary.ok.0) in
    let words = with_items_is c.self.inside.words c.put.new.words size in
    let read : c.index.result.now ≡ slice_index c.put.new.words (c.args.i / 64) =
    get_or_read c.put.new.words (c.args.i / 64) c.index.result.now (omega (arith, put.size, c.self.invariant.size)) (rw words at c.index.ensures) 0 in
    rw (words, with_items_is c.self.inside.summary c.put-2.new.words above)
    (summed-put c.self.inside.words.items c.self.inside.summary.items c.put.new.words c.put-2.new.words c.self.inside.len c.args.i c.args.value c.self.invariant inside put (rw (← read) sum))

pub returns : goal.returns
returns g c =
    let inside : c.args.i < c.self.inside.len = omega (arith, c.requires, ap length c.self.view_is, length-bools c.self.inside.words.items c.self.inside.len) in
    let put : IsPut c.self.inside.words.items c.args.i c.args.value c.put.new.words = rw (← c.deref_mut.ensures.value) c.put.ensures in
    let size : length c.put.new.words ≡ c.self.inside.words.len = omega (arith, put.size, c.self.inside.words.ok.0) in
    ap (λ (l : List ℕ). bools_of l c.self.inside.len) (with_items_is c.self.inside.words c.put.new.words size)
    ∙ (bools-put c.self.inside.words.items c.put.new.words c.self.inside.len c.args.i c.args.value inside put ∙ ap (λ l. slice_set l c.args.i c.args.value) c.self.view_is)
