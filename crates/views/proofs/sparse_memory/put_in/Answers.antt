use Rattle.std.proofs.Common.{◌≡◌, ◌∙◌, ◌==◌, sym, ap, List, ℕ, get_or, set, Some, None, position}
use Rattle.page_memory.specs.Pages.{with_bytes, zero_page}
use Rattle.views.specs.declared.sparse_memory.GivenPage.{GivenPage}
use Rattle.views.specs.Sparse.{bytes_of_page, with_page}
use Rattle.views.proofs.SparseGiven.{found_bytes, found_set, not_found_bytes, not_found_add}
use Rattle.views.proofs.sparse_memory.put_in.Goals as goal

put_some : (n i at : ℕ) (xs : List GivenPage) (was : GivenPage) (bytes new : List ℕ) → position (λ (page : GivenPage). page.number == n) xs ≡ Some i → was ≡ get_or xs i was →
    new ≡ with_bytes was.bytes at bytes → set xs i (record { number = was.number; bytes = new }) ≡ with_page xs n (with_bytes (bytes_of_page xs n) at bytes)
put_some n i at xs was bytes new e is h =
    let same : was.bytes ≡ bytes_of_page xs n = ap (λ (page : GivenPage). page.bytes) is ∙ sym (found_bytes n i xs was e) in
    let named : was.number ≡ (get_or xs i was).number = ap (λ (page : GivenPage). page.number) is in
    rw (h, same) (ap (λ (k : ℕ). set xs i (record { number = k; bytes = with_bytes (bytes_of_page xs n) at bytes })) named ∙ found_set n i xs was (with_bytes (bytes_of_page xs n) at bytes) e)

pub returns-in-Some-clause-items : goal.returns-in-Some-clause-items
returns-in-Some-clause-items c =
    let at : position (λ (page : GivenPage). page.number == c.args.number) c.args.given.now.items ≡ Some c.in-Some.i = rw (← c.as_slice.ensures.value) (sym c.index_of.ensures ∙ c.in-Some.is) in
    put_some c.args.number c.in-Some.i c.args.at c.args.given.now.items c.index_mut-page.result.now c.args.bytes.now _ at c.index_mut-page.ensures.value c.overwrite.ensures.bytes

pub returns-in-None-clause-items : goal.returns-in-None-clause-items
unfolding zero_page
returns-in-None-clause-items c =
    let at : position (λ (page : GivenPage). page.number == c.args.number) c.args.given.now.items ≡ None = rw (← c.as_slice.ensures.value) (sym c.index_of.ensures ∙ c.in-None.is) in
    let put : c.overwrite-in-None.new.page ≡ with_bytes zero_page c.args.at c.args.bytes.now = c.overwrite-in-None.ensures.bytes in
    c.push_reserved.ensures.items ∙ rw (put, not_found_bytes c.args.number c.args.given.now.items at) (not_found_add c.args.number c.args.given.now.items _ at)
