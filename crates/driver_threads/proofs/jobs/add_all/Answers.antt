-- The lists that came are after those that were there.
use Rattle.std.proofs.{Common.{arith, rules, refl, sym, map}, lemmas.Grind.common_steps}
use Rattle.driver_threads.proofs.UnderWay.{behind_none, one_added, place_within}
use Rattle.driver_threads.proofs.jobs.add_all.Goals as goal

pub loop-list-init : goal.loop-list-init
loop-list-init g c = record {
  place = refl;
  left = search rules;
  all = sym (behind_none (map (λ list. list.items) c.args.lists.now.items));
}

pub add_ends-requires : goal.add_ends-requires
add_ends-requires g c =
    let within = place_within (λ list. list.items) c.args.lists.now.items c.loop-list.lists.items c.loop-list.yielded c.loop-list.submitter c.loop-list.invariant.place c.loop-list.invariant.all in
    omega (arith, within, c.loop-list.lists.ok.0)

pub loop-list-preserved : goal.loop-list-preserved
loop-list-preserved g c = record {
  place = grind (arith, common_steps);
  left = grind (arith, common_steps);
  all =
      one_added (λ list. list.items) c.args.lists.now.items c.loop-list.lists.items c.add_ends.new.lists.items c.loop-list.yielded c.in-Some.list c.loop-list.submitter c.loop-list.invariant.place c.loop-list.invariant.all
      c.in_ok-add_ends.ensures;
}
