use Rattle.std.proofs.Common.{◌≡◌, ◌∙◌, refl, length, rules, arith, ap}
use Rattle.host_core.proofs.Unwrapped.{ok-from}
use Rattle.step_core.{proofs.{Looks.forged_one, Steps.{slot_at, never_out, forge_goes, step_from}}, specs.World.{WorldContents, sides_of}}
use Rattle.two_sides.specs.Ties.{first_completion_page}
use Rattle.step_core.proofs.world.World.forge.Goals as goal

pub overflow_add-base : goal.overflow_add-base
overflow_add-base g c =
    let at = (slot_at (sides_of c.self.inside.host c.self.inside.controller c.self.inside.store.pages c.self.inside.trusted) c.args.q c.args.slot c.in-Some.base c.from.result c.entries.result c.self.invariant c.in-Some.ensures.base c.in-Some.ensures.there c.if-slot-entries.false c.entries.ensures c.from.ensures) in
    let fits = at.fits in
    omega (arith, fits)

pub unwrap-requires : goal.unwrap-requires
unwrap-requires g c =
    let many : length c.args.bytes ≡ 16 = search rules in
    ok-from c.write.result c.write.ensures.missing
    (never_out (sides_of c.self.inside.host c.self.inside.controller c.self.inside.store.pages c.self.inside.trusted) c.args.q c.args.slot _ c.clear.new.self.pages c.args.bytes
    (slot_at (sides_of c.self.inside.host c.self.inside.controller c.self.inside.store.pages c.self.inside.trusted) c.args.q c.args.slot c.in-Some.base c.from.result c.entries.result c.self.invariant c.in-Some.ensures.base c.in-Some.ensures.there c.if-slot-entries.false c.entries.ensures c.from.ensures) c.clear.ensures.memory many)

pub invariant_of-self : goal.invariant_of-self
invariant_of-self g c =
    let many : length c.args.bytes ≡ 16 = search rules in
    (forge_goes (sides_of c.self.inside.host c.self.inside.controller c.self.inside.store.pages c.self.inside.trusted) c.args.q c.args.slot _ c.entries.result c.args.bytes c.clear.new.self.pages c.write.new.self.pages c.self.invariant c.in-Some.ensures.there c.if-slot-entries.false c.entries.ensures
    (slot_at (sides_of c.self.inside.host c.self.inside.controller c.self.inside.store.pages c.self.inside.trusted) c.args.q c.args.slot c.in-Some.base c.from.result c.entries.result c.self.invariant c.in-Some.ensures.base c.in-Some.ensures.there c.if-slot-entries.false c.entries.ensures c.from.ensures) many c.clear.ensures.memory c.clear.ensures.pool c.pages.ensures.whole c.write.ensures.pool (rw c.unwrap.ensures at c.write.ensures.written)).world

pub returns-clause-step : goal.returns-clause-step
returns-clause-step g c =
    let many : length c.args.bytes ≡ 16 = search rules in
    step_from (forge_goes (sides_of c.self.inside.host c.self.inside.controller c.self.inside.store.pages c.self.inside.trusted) c.args.q c.args.slot _ c.entries.result c.args.bytes c.clear.new.self.pages c.write.new.self.pages c.self.invariant c.in-Some.ensures.there c.if-slot-entries.false c.entries.ensures
    (slot_at (sides_of c.self.inside.host c.self.inside.controller c.self.inside.store.pages c.self.inside.trusted) c.args.q c.args.slot c.in-Some.base c.from.result c.entries.result c.self.invariant c.in-Some.ensures.base c.in-Some.ensures.there c.if-slot-entries.false c.entries.ensures c.from.ensures) many c.clear.ensures.memory c.clear.ensures.pool c.pages.ensures.whole c.write.ensures.pool (rw c.unwrap.ensures at c.write.ensures.written)) (ap (λ (w : WorldContents). w.state) c.self.view_is)

pub returns-clause-touches : goal.returns-clause-touches
returns-clause-touches g c =
    let many : length c.args.bytes ≡ 16 = search rules in
    let at = slot_at (sides_of c.self.inside.host c.self.inside.controller c.self.inside.store.pages c.self.inside.trusted) c.args.q c.args.slot c.in-Some.base c.from.result c.entries.result c.self.invariant c.in-Some.ensures.base c.in-Some.ensures.there c.if-slot-entries.false c.entries.ensures c.from.ensures in
    forged_one c.args.self.now.touches c.self.inside.store.unlisted c.clear.new.self.unlisted c.write.new.self.unlisted c.self.inside.store.touched c.clear.new.self.touched c.write.new.self.touched (first_completion_page at.queue) c.args.slot (ap (λ (w : WorldContents). w.touches) c.self.view_is)
    c.clear.ensures.touched c.clear.ensures.unlisted ((rw c.unwrap.ensures at c.write.ensures.touched) ∙ rw (many, at.is) refl) c.write.ensures.unlisted
