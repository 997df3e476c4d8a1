use Rattle.std.proofs.lemmas.Bool.{not-true}
use Rattle.machine_model.specs.Trusted.{forges_by}
use Rattle.two_sides.proofs.{Agreed.{agreed_jobs, agreed_lists, run_agrees}, Along.{stays_trusted, trusted_end}}
use Rattle.two_sides.proofs.laws.law_of_jobs.Goals as goal

pub returns-clause-stand : goal.returns-clause-stand
returns-clause-stand c = λ image made end q cid j run some found. agreed_jobs end q cid j (run_agrees image made end run) some found

pub returns-clause-keep : goal.returns-clause-keep
returns-clause-keep c = λ image made old new e reply q cid before after run step unforged some found still.
    agreed_lists old new e reply q cid before after (run_agrees image made old run) step
    (stays_trusted old e reply new step (not-true (forges_by e reply) unforged) (trusted_end image made old run)) some found still
