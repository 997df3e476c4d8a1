use Rattle.std.proofs.Common.{◌≡◌, ◌+◌, ◌<◌, ◌≤◌, ◌∙◌, ◌++◌, ◌∷◌, [], ℕ, List, arith, ap, sym, refl, length, take, inl, inr}
use Rattle.page_ledger.{proofs.Pages.{lowest_run-within, pages_from-more}, specs.Owners.{free_pages, pages_from, with_owner}}
use Rattle.host_core.proofs.{Making.{placed-run, placed-lowest}, Unwrapped.ok-from}
use Rattle.machine_model.specs.Placement.{first_of_run, placed}
use Rattle.slot_table.proofs.Rows.{option_is}
use Rattle.host_core.proofs.place.place.Goals as goal

placed-none : (free : List ℕ) (k : ℕ) → k ≡ 0 → [] ≡ placed free k
placed-none free k e = rw e (elim (option_is (first_of_run free 0)) [
  | inl none ↦ rw none refl
  | inr (x, at) ↦ rw at refl
])

pub loop-i-init : goal.loop-i-init
loop-i-init g c = record { pages = c.requires.room.0; count = omega arith; room = refl }

pub overflow_add-first-inside : goal.overflow_add-first-inside
overflow_add-first-inside g c =
    let some : 0 < c.args.count = omega (arith, c.loop-i-test.true) in
    let first : ℕ = c.in-Some.first in
    let within : first + c.args.count ≤ length c.args.ledger.now = lowest_run-within c.args.count first c.args.ledger.now some (sym c.in-Some.ensures.lowest) in
    omega (arith, c.first.view_is, within, c.if-prove.false, c.pages.ensures.pages, c.loop-i-test.true)

pub push_reserved-requires : goal.push_reserved-requires
push_reserved-requires g c = omega (arith, c.loop-i.invariant.count, c.loop-i.invariant.room, c.requires.room.1, c.loop-i-test.true)

pub loop-i-preserved : goal.loop-i-preserved
loop-i-preserved g c = record {
  pages = c.push_reserved.ensures.items ∙ ap (λ (ps : List ℕ). ps ++ (c.first.inside.0 + c.loop-i.i) ∷ []) c.loop-i.invariant.pages ∙ sym (pages_from-more c.first.inside.0 c.loop-i.i);
  count = omega (arith, c.push_reserved.ensures.len, c.loop-i.invariant.count);
  room = c.push_reserved.ensures.capacity ∙ c.loop-i.invariant.room;
}

pub returns-in-Some-clause-pages : goal.returns-in-Some-clause-pages
returns-in-Some-clause-pages g c =
    let some : 0 < c.args.count = omega (arith, c.if-count-eq0.false) in
    let all : c.loop-i.i ≡ c.args.count = omega (arith, c.loop-i.auto.i-end, c.loop-i-test.false) in
    c.loop-i.invariant.pages
    ∙ ap (λ (k : ℕ). pages_from c.first.inside.0 k) all
    ∙ ap (λ (p : ℕ). pages_from p c.args.count) c.first.view_is
    ∙ sym (placed-run c.args.ledger.now c.args.count c.in-Some.first some c.in-Some.ensures.lowest)

pub unwrap-requires : goal.unwrap-requires
unwrap-requires g c =
    ok-from c.grant.result c.grant.ensures.too_few (λ few. omega (arith, few, ap length (ap free_pages c.in-None.ensures.unchanged), c.requires.enough))

pub returns-in-None-clause-pages : goal.returns-in-None-clause-pages
returns-in-None-clause-pages g c =
    let some : 0 < c.args.count = omega (arith, c.if-count-eq0.false) in
    let same : free_pages c.grant_run.new.self ≡ free_pages c.args.ledger.now = ap free_pages c.in-None.ensures.unchanged in
    (rw c.unwrap.ensures at c.grant.ensures.granted)
    ∙ ap (λ (ps : List ℕ). ps ++ take c.args.count (free_pages c.grant_run.new.self)) c.requires.room.0
    ∙ ap (take c.args.count) same
    ∙ sym (placed-lowest c.args.ledger.now c.args.count some c.in-None.ensures.lowest)

pub grant_run-requires-clause-owned : goal.grant_run-requires-clause-owned
grant_run-requires-clause-owned g c = c.requires.owned

pub grant_run-requires-clause-some : goal.grant_run-requires-clause-some
grant_run-requires-clause-some g c = omega (arith, c.if-count-eq0.false)

pub grant-requires-clause-owned : goal.grant-requires-clause-owned
grant-requires-clause-owned g c = c.requires.owned

pub returns-in-Some-clause-owners : goal.returns-in-Some-clause-owners
returns-in-Some-clause-owners g c =
    let all : c.loop-i.i ≡ c.args.count = omega (arith, c.loop-i.auto.i-end, c.loop-i-test.false) in
    let items : c.loop-i.into.items ≡ pages_from c.in-Some.first c.args.count =
    c.loop-i.invariant.pages ∙ ap (λ (k : ℕ). pages_from c.first.inside.0 k) all ∙ ap (λ (p : ℕ). pages_from p c.args.count) c.first.view_is in
    c.in-Some.ensures.owners ∙ ap (λ (ps : List ℕ). with_owner c.args.ledger.now ps c.args.owner) (sym items)

pub returns-then-count-eq0-clause-owners : goal.returns-then-count-eq0-clause-owners
returns-then-count-eq0-clause-owners g c = ap (λ (ps : List ℕ). with_owner c.args.ledger.now ps c.args.owner) (sym c.requires.room.0)

pub returns-then-count-eq0-clause-pages : goal.returns-then-count-eq0-clause-pages
returns-then-count-eq0-clause-pages g c = c.requires.room.0 ∙ placed-none (free_pages c.args.ledger.now) c.args.count c.if-count-eq0.true
