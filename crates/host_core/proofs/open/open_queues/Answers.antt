use Rattle.std.proofs.{Common.{subst, ◌≡◌, ℕ, ◌+◌, ◌≤◌, List, [], ◌∷◌, ◌++◌, length, map, ap, ap₂, sym, ◌∙◌, arith}, Math.Nat.mul-le-mul_right}
use Rattle.std.proofs.lemmas.List.{length-map, map-append}
use Rattle.page_ledger.{proofs.Pages.pages_from-more, specs.Owners.pages_from}
use Rattle.page_memory.specs.declared.page.Half.TheVariants.{Submission, Completion}
use Rattle.queue_pair.specs.Memory.{half_pages}
use Rattle.host_core.specs.{Opening.{HalvesGranted, sq_from, cq_from, fresh_at, fresh_queue, fresh_queues}, Rows.Queue}
use Rattle.host_core.proofs.open.open_queues.Goals as goal
use Rattle.page_ledger.proofs.Pages.{length-pages_from}

many : (n q : ℕ) → length (fresh_queues n q) ≡ q
many n q = length-map (pages_from 0 q) (fresh_queue n) ∙ length-pages_from 0 q

more : (n q : ℕ) (sq cq : ℕ) (queues : List Queue) (queue : Queue) → queues ≡ fresh_queues n q
    → sq ≡ sq_from (half_pages n Submission) (half_pages n Completion) q → cq ≡ cq_from (half_pages n Submission) (half_pages n Completion) q → queue ≡ fresh_at n sq cq q
    → queues ++ queue ∷ [] ≡ fresh_queues n (q + 1)
more n q sq cq queues queue is e f new =
    ap₂ (λ (l : List Queue) (x : Queue). l ++ x ∷ []) is (new ∙ ap₂ (λ (x y : ℕ). fresh_at n x y q) e f)
    ∙ (sym (map-append (fresh_queue n) (pages_from 0 q) (q ∷ [])) ∙ ap (map (fresh_queue n)) (sym (pages_from-more 0 q ∙ last)))
  where
    last : pages_from 0 q ++ (0 + q) ∷ [] ≡ pages_from 0 q ++ q ∷ []
    last = ap (λ (k : ℕ). pages_from 0 q ++ k ∷ []) (omega arith)

pub push_reserved-requires : goal.push_reserved-requires
push_reserved-requires g c =
    omega (arith, ap length c.loop-q.invariant.queues, many c.args.entries c.loop-q.q, c.loop-q.invariant.room, c.in_ok-queues.ensures.exact, c.from.ensures, c.loop-q-test.true)

pub loop-q-preserved : goal.loop-q-preserved
loop-q-preserved g c =
    record {
      queues = c.push_reserved.ensures.items ∙ more c.args.entries c.loop-q.q c.grant_halves-sq.result.0 c.grant_halves-sq.result.1 c.loop-q.queues.items c.in_ok-queue.queue c.loop-q.invariant.queues c.grant_halves-sq.ensures.submission c.grant_halves-sq.ensures.completion c.in_ok-queue.ensures;
      granted = c.grant_halves-sq.ensures.granted;
      size = c.grant_halves-sq.ensures.size ∙ c.loop-q.invariant.size;
      room = c.push_reserved.ensures.capacity ∙ c.loop-q.invariant.room;
    }

pub returns-clause-granted : goal.returns-clause-granted
returns-clause-granted g c =
    subst (λ (k : ℕ). HalvesGranted c.args.entries k c.loop-q.ledger) (omega (arith, c.loop-q-test.false, c.loop-q.auto.q-end)) c.loop-q.invariant.granted

pub returns-clause-queues : goal.returns-clause-queues
returns-clause-queues g c =
    subst (λ (k : ℕ). c.loop-q.queues.items ≡ fresh_queues c.args.entries k) (omega (arith, c.loop-q-test.false, c.loop-q.auto.q-end)) c.loop-q.invariant.queues

pub grant_halves-sq-requires-clause-fits : goal.grant_halves-sq-requires-clause-fits
grant_halves-sq-requires-clause-fits g c =
    let upto : c.loop-q.q + 1 ≤ c.args.count = omega (arith, c.loop-q-test.true) in
    omega (arith, mul-le-mul_right (half_pages c.args.entries Submission + half_pages c.args.entries Completion) upto, c.requires.fits, c.loop-q.invariant.size)
