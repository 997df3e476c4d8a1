use Rattle.std.proofs.{Common.{◌≡◌, ◌++◌, length, take, ap, ◌∙◌, arith}, lemmas.Grind.common_steps}
use Rattle.page_ledger.{proofs.Tables.{appended, free-within, true_places-free}, specs.{Free.true_places, Owners.{free_pages, with_owner}}}
use Rattle.page_ledger.proofs.ledger.Ledger.grant.Goals as goal

pub give-requires : goal.give-requires
give-requires g c =
    let free : true_places c.self.inside.free ≡ free_pages c.args.self.now = ap true_places c.self.invariant.3 ∙ (true_places-free c.self.inside.owners.items ∙ ap free_pages c.self.view_is) in
    let now : c.deref.result.now ≡ c.args.into.now.items ++ take c.args.k (free_pages c.args.self.now) =
    c.deref.ensures.value ∙ (c.push_lowest_free.ensures.pages ∙ ap (λ l. c.args.into.now.items ++ take c.args.k l) free) in
    let count : c.len-start.result ≡ length c.args.into.now.items = grind (arith, common_steps) in
    rw (appended c.len-start.result c.args.k c.args.into.now.items c.deref.result.now (free_pages c.args.self.now) count now)
    (free-within c.args.k c.args.self.now)

pub push_lowest_free-requires-clause-enough : goal.push_lowest_free-requires-clause-enough
push_lowest_free-requires-clause-enough g c =
    rw (c.self.invariant.3, true_places-free) (omega (arith, ap (λ counts. counts.free_pages) c.self.invariant.2))

pub returns-clause-granted : goal.returns-clause-granted
returns-clause-granted g c =
    let free : true_places c.self.inside.free ≡ free_pages c.args.self.now = ap true_places c.self.invariant.3 ∙ (true_places-free c.self.inside.owners.items ∙ ap free_pages c.self.view_is) in
    c.push_lowest_free.ensures.pages ∙ ap (λ l. c.args.into.now.items ++ take c.args.k l) free

pub returns-clause-owners : goal.returns-clause-owners
returns-clause-owners g c =
    let free : true_places c.self.inside.free ≡ free_pages c.args.self.now = ap true_places c.self.invariant.3 ∙ (true_places-free c.self.inside.owners.items ∙ ap free_pages c.self.view_is) in
    let now : c.deref.result.now ≡ c.args.into.now.items ++ take c.args.k (free_pages c.args.self.now) =
    c.deref.ensures.value ∙ (c.push_lowest_free.ensures.pages ∙ ap (λ l. c.args.into.now.items ++ take c.args.k l) free) in
    let count : c.len-start.result ≡ length c.args.into.now.items = grind (arith, common_steps) in
    c.give.ensures ∙ ap (λ l. with_owner c.args.self.now l c.args.owner)
    (appended c.len-start.result c.args.k c.args.into.now.items c.deref.result.now (free_pages c.args.self.now) count now)
