use Rattle.std.proofs.{Common.{Bool, ◌&&◌, if◌then◌else◌, refl, sym, ◌∙◌, ap₂}, lemmas.Bool.eq-eqb}
use Rattle.machine_model.specs.After.{aborted}
use Rattle.host_core.specs.Parts.{record_of}
use Rattle.host_core.proofs.record.Record.lose.Goals as goal

pub returns-then-is_submitted : goal.returns-then-is_submitted
returns-then-is_submitted g c = λ q cid.
    let old = record_of q cid c.args.self.now in
    c.hold.ensures q cid
    ∙ ap₂ (λ (a b : Bool). if a && b then aborted old else old) (sym (eq-eqb q q refl)) (sym (sym c.is_submitted.ensures ∙ c.if-is_submitted.true))
