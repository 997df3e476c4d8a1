use Rattle.std.proofs.{Common.{◌≡◌, ℕ, List, length, take, sym, subst}, lemmas.List.{take_all, Elements.{All-more, All-same}}}
use Rattle.host_core.proofs.compare.are_whole.Goals as goal

pub loop-page-preserved : goal.loop-page-preserved
loop-page-preserved g c =
    All-more (λ (page : ℕ × List ℕ). length page.1 ≡ 4096) c.args.pages.now c.loop-page.page-index c.page-item.result c.loop-page-test.true c.loop-page.invariant
    (subst (λ (page : ℕ × List ℕ). length page.1 ≡ 4096) c.page-item.is c.is_whole.ensures.whole)

pub returns-clause-whole : goal.returns-clause-whole
returns-clause-whole g c =
    All-same (λ (page : ℕ × List ℕ). length page.1 ≡ 4096) c.args.pages.now (take c.loop-page.page-index c.args.pages.now) (sym (take_all c.loop-page.page-index c.args.pages.now c.loop-page-test.false)) c.loop-page.invariant
