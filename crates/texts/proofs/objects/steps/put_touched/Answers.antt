-- Each page is sent after those before it; all of them are, between the marks of an array.
use Rattle.std.proofs.Common.{◌≡◌, ◌∙◌, ◌+◌, [], ◌∷◌, ap, arith, codes, drop, subst, sym}
use Rattle.std.proofs.lemmas.{List.{drop_all, drop_more}, Result.on_ok_weaker}
use Rattle.serde.specs.Event.{unsigned}
use Rattle.serde_json.specs.Data as json
use Rattle.serde_json.specs.Data.{array}
use Rattle.texts.proofs.ObjectTexts.{sends_array, sends_both, sends_member, sends_none, sends_one}
use Rattle.texts.specs.Objects.{Sends, items_events, items_of}
use Rattle.texts.proofs.objects.steps.put_touched.Goals as goal

pub loop-page-preserved : goal.loop-page-preserved
loop-page-preserved g c = λ end rest.
    let pages = c.pages-pages.result.now in
    let at = c.loop-page.page-index in
    let number : c.from.result ≡ c.page-item.result = c.from.ensures ∙ c.page.view_is in
    let next : drop at pages ≡ c.from.result ∷ drop (at + 1) pages =
    drop_more pages at c.page-item.result (omega arith) ∙ ap (λ page. page ∷ drop (at + 1) pages) (sym c.page-item.is ∙ sym number) in
    let page = sends_both (sends_one (unsigned c.from.result) c.in_ok-u64.ensures) rest in
    c.loop-page.invariant end
    (subst (λ left. Sends (items_events (items_of (λ page. json.number (json.unsigned page)) left)) (g.S.Serializer.written c.loop-page.out) end) (sym next) page)

pub returns : goal.returns
returns g c =
    let pages = c.pages-pages.result.now in
    let none : drop c.loop-page.page-index pages ≡ [] = drop_all c.loop-page.page-index pages (omega arith) in
    let out = g.S.Serializer.written c.loop-page.out in
    let all = c.loop-page.invariant out (subst (λ left. Sends (items_events (items_of (λ page. json.number (json.unsigned page)) left)) out out) (sym none) sends_none) in
    rw (← c.pages-pages.ensures)
    (on_ok_weaker c.end_seq.result (λ ends.
    sends_member (codes "touched") (array (items_of (λ page. json.number (json.unsigned page)) pages)) c.in_ok-key.ensures
    (sends_array (λ page. json.number (json.unsigned page)) pages c.in_ok-begin_seq.ensures all ends)) c.end_seq.ensures)
