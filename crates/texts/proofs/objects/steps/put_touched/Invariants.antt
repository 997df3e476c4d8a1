use Rattle.std.proofs.Common.{drop}
use Rattle.serde.specs.Event.{Log}
use Rattle.serde_json.specs.Data.{number, unsigned}
use Rattle.texts.specs.Objects.{Sends, items_events, items_of}
use Rattle.texts.proofs.objects.steps.put_touched.Given as goal

-- what is sent of the pages that are left goes on to what is sent of all
abbrev pub invariant-loop-page : goal.invariant-loop-page
invariant-loop-page g l =
    (end : Log) → Sends (items_events (items_of (λ page. number (unsigned page)) (drop l.page-index l.pages))) (g.S.Serializer.written l.out) end
    → Sends (items_events (items_of (λ page. number (unsigned page)) l.pages)) (g.S.Serializer.written l.initial.out) end
