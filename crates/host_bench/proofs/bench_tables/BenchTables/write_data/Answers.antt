use Rattle.std.proofs.Common.{◌∙◌, ℕ, List, refl, slice_get, option_map}
use Rattle.std.specs.Fn.{FnOnceReturnsAtMut}
use Rattle.host_bench.{proofs.{Benches.{draft_at, writes, writes_kept}, KeptRows.is_empty}, specs.BenchTables.state_of}
use Rattle.host_bench.specs.declared.values.CommandValue.TheVariants as value
use Rattle.host_bench.proofs.bench_tables.BenchTables.write_data.Goals as goal

pub returns-in_err-draft-clause-written : goal.returns-in_err-draft-clause-written
returns-in_err-draft-clause-written g c = rw (
  c.in_err-draft.ensures.kept,
  c.from_residual.ensures,
  draft_at (state_of c.args.self.now) c.args.self.now.values c.args.q c.args.cid c.requires.bench
      ∙ c.in_err-draft.ensures.none,
) refl

pub put_back-requires : goal.put_back-requires
put_back-requires g c = is_empty c.args.self.now.values c.take_draft.new.values c.args.q c.args.cid (value.Draft c.in_ok-draft.draft) c.in_ok-draft.ensures.out

pub returns-clause-written : goal.returns-clause-written
returns-clause-written g c = writes (state_of c.args.self.now) c.args.self.now.values c.take_draft.new.values c.args.q c.args.cid c.in_ok-draft.draft c.requires.bench c.in_ok-draft.ensures.out (λ old answer left. FnOnceReturnsAtMut g.F.FnOnce c.args.write old answer left) c.args.i c.write_draft-answer.result c.write_draft-answer.new.draft c.put_back.new.values c.write_draft-answer.ensures c.put_back.ensures

pub returns-clause-kept : goal.returns-clause-kept
returns-clause-kept g c = writes_kept (state_of c.args.self.now) c.args.self.now.values c.take_draft.new.values c.args.q c.args.cid c.in_ok-draft.draft c.requires.bench c.in_ok-draft.ensures.out (λ old answer left. FnOnceReturnsAtMut g.F.FnOnce c.args.write old answer left) c.args.i (option_map (λ (page : ℕ × List ℕ). page.1) (slice_get c.in_ok-draft.draft.data_pages c.args.i)) c.write_draft-answer.result c.write_draft-answer.new.draft c.put_back.new.values c.write_draft-answer.ensures c.put_back.ensures
