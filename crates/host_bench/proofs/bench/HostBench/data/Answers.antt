use Rattle.std.{proofs.Common.{◌≡◌, ℕ, List, ◌≤◌, ◌<◌, length, Some, None, slice_get, option_map, ap, sym, ◌∙◌, subst, arith}, specs.Option.{option_and_then, option_copied}}
use Rattle.io_commands.specs.Values.{FinishedContents}
use Rattle.machine_model.specs.Script.{Table}
use Rattle.host_bench.{proofs.{Benches.finished_there, PageBytes.{bytes_there, bytes_gone}}, specs.{BenchTables.state_of, Reach.data_at}}
use Rattle.host_bench.proofs.bench.HostBench.data.Goals as goal

pub returns-in_err-finished : goal.returns-in_err-finished
returns-in_err-finished g c =
    let kept = c.self.inside.kept in
    subst (λ (t : Table). option_copied c.from_residual.result ≡ data_at t c.args.q c.args.cid c.args.i) c.self.view_is
    (ap option_copied c.from_residual.ensures
    ∙ ap (option_and_then (λ (f : FinishedContents). option_map (λ (page : ℕ × List ℕ). page.1) (slice_get f.data_pages c.args.i)))
    (c.in_err-finished.ensures ∙ sym (finished_there (state_of kept) kept.values c.args.q c.args.cid c.self.invariant.bench)))

pub returns-then-i-data_pages : goal.returns-then-i-data_pages
returns-then-i-data_pages g c =
    let kept = c.self.inside.kept in
    let outside : length c.in_ok-finished.finished.now.data_pages ≤ c.args.i = omega (arith, c.if-i-data_pages.true, c.data_pages.ensures) in
    subst (λ (t : Table). None ≡ data_at t c.args.q c.args.cid c.args.i) c.self.view_is
    (bytes_gone c.in_ok-finished.finished.now.data_pages c.args.i outside
    ∙ ap (option_and_then (λ (f : FinishedContents). option_map (λ (page : ℕ × List ℕ). page.1) (slice_get f.data_pages c.args.i)))
    (c.in_ok-finished.ensures ∙ sym (finished_there (state_of kept) kept.values c.args.q c.args.cid c.self.invariant.bench)))

pub returns : goal.returns
returns g c =
    let kept = c.self.inside.kept in
    let inside : c.args.i < length c.in_ok-finished.finished.now.data_pages = omega (arith, c.if-i-data_pages.false, c.data_pages.ensures) in
    subst (λ (t : Table). Some c.data.result.now ≡ data_at t c.args.q c.args.cid c.args.i) c.self.view_is
    (ap (λ (bytes : List ℕ). Some bytes) c.data.ensures.value
    ∙ (bytes_there c.in_ok-finished.finished.now.data_pages c.args.i inside
    ∙ ap (option_and_then (λ (f : FinishedContents). option_map (λ (page : ℕ × List ℕ). page.1) (slice_get f.data_pages c.args.i)))
    (c.in_ok-finished.ensures ∙ sym (finished_there (state_of kept) kept.values c.args.q c.args.cid c.self.invariant.bench))))
