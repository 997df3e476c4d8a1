use Rattle.std.proofs.{Common.{◌+◌, ◌∷◌, [], ◌++◌, filter, length, map, arith, ap, sym, ◌∙◌}, lemmas.List.{length-map, take_all}}
use Rattle.slot_table.proofs.Places.{first-inside}
use Rattle.page_ledger.{proofs.{Pages.front_taken, Tables.{free-next, free-no_more}}, specs.Owners.{is_free, is_owned_at, pages_from}}
use Rattle.page_ledger.proofs.ledger.Ledger.lowest_free.Goals as goal

pub returns-in_default : goal.returns-in_default
returns-in_default g c =
    let owners = c.args.self.now in
    let flags = c.self.invariant.3 ∙ ap (λ l. map is_free l) c.self.view_is in
    let all = free-no_more c.self.inside.free owners c.loop.from flags c.in_default.ensures.lowest c.loop.invariant.inside in
    record {
      pages = rw all (c.loop.invariant.pages ∙ sym (take_all c.args.count (filter (is_owned_at is_free owners) (pages_from 0 c.loop.from))
          (omega (arith, ap length c.loop.invariant.pages, c.loop.invariant.count))));
    }

pub loop-preserved : goal.loop-preserved
loop-preserved g c =
    let owners = c.args.self.now in
    let flags = c.self.invariant.3 ∙ ap (λ l. map is_free l) c.self.view_is in
    let more = free-next c.self.inside.free owners c.loop.from c.in-Some.p flags c.in-Some.ensures.lowest in
    record {
      inside = omega (arith, first-inside c.self.inside.free c.in-Some.ensures.lowest, ap length flags, length-map owners is_free);
      pages = c.push.ensures.items ∙ (ap (λ l. l ++ c.in-Some.p ∷ []) c.loop.invariant.pages ∙ sym more);
      count = c.push.ensures.len ∙ ap (λ n. n + 1) c.loop.invariant.count;
    }

pub returns : goal.returns
returns g c = record {
  pages = c.loop.invariant.pages ∙ sym (front_taken (is_owned_at is_free c.args.self.now) c.loop.from (length c.args.self.now) c.args.count c.loop.invariant.inside
      (omega (arith, ap length c.loop.invariant.pages, c.loop.invariant.count)));
}
