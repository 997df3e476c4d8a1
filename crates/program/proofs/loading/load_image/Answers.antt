use Rattle.std.proofs.Common.{None, Some, refl, subst, sym, ◌∙◌}
use Rattle.command_line.specs.Asked.{given_of, load, loaded_of}
use Rattle.program.{proofs.Leaving.{left_behind, told_behind}, specs.{Performing.{FailsLoad, FailsWith}, declared.fault.Fault.Fault}}
use Rattle.program.proofs.loading.load_image.Goals as goal

pub returns-in-Err-write_json-clause-failed : goal.returns-in-Err-write_json-clause-failed
returns-in-Err-write_json-clause-failed g c =
    let before = g.W.Write.contents c.args.writer.now in
    let after = g.W.Write.contents c.write_json.new.writer in
    let left = left_behind c.args.what.format c.args.what.pattern c.in-Ok.ran.tally before (g.W.Write.contents c.run_load.new.writer) after c.in-Ok.ensures.told c.write_json.ensures in
    subst (λ (fault : Fault). FailsWith None (Some (load (given_of c.args.options) (loaded_of c.args.what) c.args.serving)) before after fault) (sym c.not_loaded-in-Err-write_json.ensures) left

pub returns-clause-failed : goal.returns-clause-failed
returns-clause-failed g c =
    let before = g.W.Write.contents c.args.writer.now in
    let after = g.W.Write.contents c.write_json.new.writer in
    let told = told_behind c.args.what.format c.args.what.pattern c.in-Ok.ran.tally before (g.W.Write.contents c.run_load.new.writer) after c.in-Ok.ensures.told c.write_json.ensures in
    subst (λ (fault : Fault). FailsLoad (given_of c.args.options) (loaded_of c.args.what) before after fault) (sym c.of.ensures)
    (sym c.is_good.ensures ∙ c.if-is_good.false, (c.in_ok-image.image, c.in_ok-image.ensures.image, c.args.what, refl, c.in-Ok.ensures.ran, told))
