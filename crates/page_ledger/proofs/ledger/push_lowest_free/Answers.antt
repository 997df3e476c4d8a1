use Rattle.std.proofs.{Common.{arith, ◌+◌, ◌++◌, ◌∷◌, [], filter, length, append_assoc, ap, sym, ◌∙◌}, lemmas.List.length_push}
use Rattle.slot_table.{proofs.Places.first-inside, specs.Places.is_true_at}
use Rattle.page_ledger.{proofs.Pages.{filter-gap, filter-found, front_taken}, specs.Owners.pages_from}
use Rattle.page_ledger.proofs.ledger.push_lowest_free.Goals as goal

pub returns-in_default-clause-pages : goal.returns-in_default-clause-pages
returns-in_default-clause-pages g c =
    let all = filter-gap (is_true_at c.args.free.now) c.loop.from (length c.args.free.now) c.loop.invariant.inside (λ q low high. c.in_default.ensures.lowest.fails q low) in
    absurd (omega (arith, ap length all, c.loop.invariant.count, c.requires.enough))

pub loop-preserved : goal.loop-preserved
loop-preserved g c =
    let more = filter-found (is_true_at c.args.free.now) c.loop.from c.in-Some.p c.in-Some.ensures.lowest.after c.in-Some.ensures.lowest.before c.in-Some.ensures.lowest.passes in
    record {
      inside = omega (arith, first-inside c.args.free.now c.in-Some.ensures.lowest);
      pages = c.push_reserved.ensures.items ∙ (ap (λ l. l ++ c.in-Some.p ∷ []) c.loop.invariant.pages
          ∙ (append_assoc c.args.into.now.items (filter (is_true_at c.args.free.now) (pages_from 0 c.loop.from)) (c.in-Some.p ∷ []) ∙ ap (λ l. c.args.into.now.items ++ l) (sym more)));
      count = rw more (length_push (filter (is_true_at c.args.free.now) (pages_from 0 c.loop.from)) c.in-Some.p ∙ ap (λ n. n + 1) c.loop.invariant.count);
      room = c.push_reserved.ensures.capacity ∙ c.loop.invariant.room;
    }

pub returns-clause-pages : goal.returns-clause-pages
returns-clause-pages g c =
    c.loop.invariant.pages ∙ ap (λ l. c.args.into.now.items ++ l)
    (sym (front_taken (is_true_at c.args.free.now) c.loop.from (length c.args.free.now) c.args.k c.loop.invariant.inside (omega (arith, c.loop.invariant.count))))

pub returns-in_default-clause-capacity : goal.returns-in_default-clause-capacity
returns-in_default-clause-capacity g c = c.loop.invariant.room

pub loop-smaller : goal.loop-smaller
loop-smaller g c = omega arith

pub returns-clause-capacity : goal.returns-clause-capacity
returns-clause-capacity g c = cc
