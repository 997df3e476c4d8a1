-- Some JSON is put after what was written.
use Rattle.std.proofs.Common.{ℕ, List}
use Rattle.script_cli.proofs.Runs.{kept_gains}
use Rattle.program.proofs.loading.write_json.Goals as goal

pub returns-in_ok-put-in-Json : goal.returns-in_ok-put-in-Json
returns-in_ok-put-in-Json g c =
    rw c.in-Json.is (kept_gains _ _ _ (λ (json : List ℕ). Unit {0}) (c.as_bytes.result.now, tt, c.in_ok-put-in-Json.ensures.written) c.flush.ensures.kept)
