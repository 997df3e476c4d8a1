-- A write that fails leaves a prefix of what follows the jobs; where the flush fails, all of it was written.
use Rattle.std.proofs.{Common.{rules, inr, [], sym}, lemmas.List.append-nil}
use Rattle.script_cli.proofs.{Runs.on_err, Texts.keeps_then}
use Rattle.job_cli.proofs.telling.write_closing.Goals.{in-Lines+in_ok-text-in-Lines, in-Objects+in_ok-text-in-Objects}
use Rattle.job_cli.proofs.telling.write_closing.Goals as goal

pub returns-in_err-put-clause-cut : goal.returns-in_err-put-clause-cut
returns-in_err-put-clause-cut g c lines = elim c.match-form.branch [
  | in-Lines+in_ok-text-in-Lines w ↦
      let (front, is_front, written) = c.in_err-put.ensures.front in
      on_err c.from_residual-in_err-put.result (inr (front, (c.as_bytes.result.now, rw (c.as_bytes.ensures.value, w.text-is) w.in_ok-text-in-Lines.ensures, is_front), written))
  | in-Objects+in_ok-text-in-Objects w ↦ absurd (search rules)
]

pub returns-clause-cut : goal.returns-clause-cut
returns-clause-cut g c lines = elim c.match-form.branch [
  | in-Lines+in_ok-text-in-Lines w ↦
      on_err c.flush.result
      (inr (
        c.as_bytes.result.now,
        (c.as_bytes.result.now, rw (c.as_bytes.ensures.value, w.text-is) w.in_ok-text-in-Lines.ensures, ([], sym (append-nil c.as_bytes.result.now))),
        keeps_then _ _ _ _ c.in_ok-put.ensures.written c.flush.ensures.kept,
      ))
  | in-Objects+in_ok-text-in-Objects w ↦ absurd (search rules)
]
