use Rattle.std.proofs.Common.{rules, ◌≡◌, ◌∙◌, List, None, sym, subst, ap, true, false}
use Rattle.controller_walk.specs.Walks.{is_over}
use Rattle.page_memory.specs.Memory.{Memory}
use Rattle.views.specs.Sparse.{SparseContents, byte_in}
use Rattle.views.proofs.Fetched.{all_fetched, fetches_none, fetches_on}
use Rattle.views.specs.Fetched.{Fetches}
use Rattle.views.proofs.Telling.{Standing, Telling, telling_first, telling_on, told_all, told_more, told_same, ends_so, stands_first, stands_on}
use Rattle.views.specs.declared.explain.list.Taken.{Taken}
use Rattle.views.proofs.explain.list.walk_list.Goals as goal

pub walk-init : goal.walk-init
walk-init c = record {
  stands = stands_first c.args.begun _ c.args.staging.now c.requires.open c.requires.staging;
  fetches = fetches_none c.args.begun (byte_in c.args.memory.now.pool) c.args.staging.now;
  tells = subst (λ (told : List Taken). Telling c.args.begun c.args.begun (byte_in c.args.memory.now.pool) (byte_in c.args.memory.now.pool) c.args.sgl1.now told) (sym c.new-taken.ensures.items) (telling_first c.args.begun _ _ c.requires.open);
}

pub step-requires-clause-staging : goal.step-requires-clause-staging
step-requires-clause-staging c = c.walk.invariant.stands.whole ∙ sym c.walk.invariant.stands.need

pub walk-preserved-in-Continue-branch-2 : goal.walk-preserved-in-Continue-branch-2
walk-preserved-in-Continue-branch-2 c =
    let is : is_over c.walk.walk ≡ false = search rules in
    let same : byte_in c.make_room.new.self.pool ≡ byte_in c.walk.memory.pool = ap (λ (m : SparseContents). byte_in m.pool) c.in_ok-make_room.ensures.room in
    let stands : Standing c.args.begun c.walk.walk (byte_in c.args.memory.now.pool) (byte_in c.make_room.new.self.pool) c.walk.staging =
    subst (λ (x : Memory). Standing c.args.begun c.walk.walk (byte_in c.args.memory.now.pool) x c.walk.staging) (sym same) c.walk.invariant.stands in
    let tells : Telling c.args.begun c.walk.walk (byte_in c.args.memory.now.pool) (byte_in c.make_room.new.self.pool) c.args.sgl1.now c.walk.taken.items =
    subst (λ (x : Memory). Telling c.args.begun c.walk.walk (byte_in c.args.memory.now.pool) x c.args.sgl1.now c.walk.taken.items) (sym same) c.walk.invariant.tells in
    let fetches : Fetches c.args.begun c.walk.walk (byte_in c.args.memory.now.pool) (byte_in c.make_room.new.self.pool) c.args.staging.now c.walk.staging =
    subst (λ (x : Memory). Fetches c.args.begun c.walk.walk (byte_in c.args.memory.now.pool) x c.args.staging.now c.walk.staging) (sym same) c.walk.invariant.fetches in
    record {
      stands = stands_on c.args.begun c.walk.walk c.step.new.walk _ _ _ _ _ stands is c.step.ensures.walked c.step.ensures.direction c.step.ensures.need c.step.auto.staging;
      fetches = fetches_on c.args.begun c.walk.walk c.step.new.walk _ _ _ _ _ _ c.walk.invariant.stands.direction fetches c.step.ensures.fetches;
      tells = subst (λ (told : List Taken). Telling c.args.begun c.step.new.walk (byte_in c.args.memory.now.pool) (byte_in c.step.new.dma.pool) c.args.sgl1.now told)
          (told_more c.walk.taken.items c.push.new.self.items _ c.in-Some.descriptor (sym c.step.ensures.taken ∙ c.in-Some.is) c.in_ok-push.ensures.items)
          (telling_on c.args.begun c.walk.walk c.step.new.walk _ _ _ _ _ _ tells is (λ at m list. c.step.ensures.tells at m list c.walk.taken.items) c.step.ensures.direction);
    }

pub walk-preserved : goal.walk-preserved
walk-preserved c =
    let none : c.step.result ≡ None = search rules in
    let is : is_over c.walk.walk ≡ false = search rules in
    let same : byte_in c.make_room.new.self.pool ≡ byte_in c.walk.memory.pool = ap (λ (m : SparseContents). byte_in m.pool) c.in_ok-make_room.ensures.room in
    let stands : Standing c.args.begun c.walk.walk (byte_in c.args.memory.now.pool) (byte_in c.make_room.new.self.pool) c.walk.staging =
    subst (λ (x : Memory). Standing c.args.begun c.walk.walk (byte_in c.args.memory.now.pool) x c.walk.staging) (sym same) c.walk.invariant.stands in
    let tells : Telling c.args.begun c.walk.walk (byte_in c.args.memory.now.pool) (byte_in c.make_room.new.self.pool) c.args.sgl1.now c.walk.taken.items =
    subst (λ (x : Memory). Telling c.args.begun c.walk.walk (byte_in c.args.memory.now.pool) x c.args.sgl1.now c.walk.taken.items) (sym same) c.walk.invariant.tells in
    let fetches : Fetches c.args.begun c.walk.walk (byte_in c.args.memory.now.pool) (byte_in c.make_room.new.self.pool) c.args.staging.now c.walk.staging =
    subst (λ (x : Memory). Fetches c.args.begun c.walk.walk (byte_in c.args.memory.now.pool) x c.args.staging.now c.walk.staging) (sym same) c.walk.invariant.fetches in
    record {
      stands = stands_on c.args.begun c.walk.walk c.step.new.walk _ _ _ _ _ stands is c.step.ensures.walked c.step.ensures.direction c.step.ensures.need c.step.auto.staging;
      fetches = fetches_on c.args.begun c.walk.walk c.step.new.walk _ _ _ _ _ _ c.walk.invariant.stands.direction fetches c.step.ensures.fetches;
      tells = subst (λ (told : List Taken). Telling c.args.begun c.step.new.walk (byte_in c.args.memory.now.pool) (byte_in c.step.new.dma.pool) c.args.sgl1.now told)
          (told_same c.walk.taken.items _ (sym c.step.ensures.taken ∙ none))
          (telling_on c.args.begun c.walk.walk c.step.new.walk _ _ _ _ _ _ tells is (λ at m list. c.step.ensures.tells at m list c.walk.taken.items) c.step.ensures.direction);
    }

pub returns-clause-ends : goal.returns-clause-ends
returns-clause-ends c =
    let is : is_over c.walk.walk ≡ true = search rules in
    ends_so c.args.begun c.walk.walk _ _ _ c.fault.result c.walk.invariant.stands is c.fault.ensures.fault

pub returns-clause-told : goal.returns-clause-told
returns-clause-told c =
    let is : is_over c.walk.walk ≡ true = search rules in
    told_all c.args.begun c.walk.walk _ _ _ _ c.walk.invariant.tells is

pub returns-clause-fetched : goal.returns-clause-fetched
returns-clause-fetched c source =
    let is : is_over c.walk.walk ≡ true = search rules in
    all_fetched c.args.begun c.walk.walk _ _ _ _ c.walk.invariant.fetches is source
