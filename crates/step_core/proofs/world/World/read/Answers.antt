use Rattle.std.{proofs.Common.{◌≡◌, ◌∙◌, ap, sym, subst, Some, None, arith, length}, specs.Prelude.{OnOk, OnErr}}
use Rattle.controller_walk.specs.Units.{Moves}
use Rattle.page_memory.specs.{Memory.{Memory, bytes_at, pages_reached}, Pages.{Pages, byte_at}}
use Rattle.two_sides.{proofs.{Serving.same_pages, Units.few_touched}, specs.{Sides.state_of, Ties.IsWorld}}
use Rattle.step_core.{proofs.Looks.reads_few, specs.World.{WorldContents, sides_of}}
use Rattle.page_memory.specs.Pages as store
use Rattle.step_core.proofs.world.World.read.Goals as goal

pub invariant_of-self : goal.invariant_of-self
invariant_of-self g c =
    let count = c.read-answer.ensures.pool ∙ ap (λ (x : store.Contents). length x.pages) c.clear.ensures.cleared in
    let same =
    same_pages (sides_of c.self.inside.host c.self.inside.controller c.self.inside.store.pages c.self.inside.trusted) c.read-answer.new.self.pages c.self.invariant
    (record { whole = c.pages.ensures.whole; count = count }) (c.read-answer.ensures.memory ∙ c.clear.ensures.memory) in
    subst (λ (pages : Pages). IsWorld (sides_of c.self.inside.host c.self.inside.controller pages c.self.inside.trusted)) (sym same) c.self.invariant

pub returns-clause-same : goal.returns-clause-same
returns-clause-same g c =
    let count = c.read-answer.ensures.pool ∙ ap (λ (x : store.Contents). length x.pages) c.clear.ensures.cleared in
    let same =
    same_pages (sides_of c.self.inside.host c.self.inside.controller c.self.inside.store.pages c.self.inside.trusted) c.read-answer.new.self.pages c.self.invariant
    (record { whole = c.pages.ensures.whole; count = count }) (c.read-answer.ensures.memory ∙ c.clear.ensures.memory) in
    ap (λ (pages : Pages). state_of (sides_of c.self.inside.host c.self.inside.controller pages c.self.inside.trusted)) same ∙ ap (λ (w : WorldContents). w.state) c.self.view_is

pub returns-clause-read : goal.returns-clause-read
returns-clause-read g c =
    subst (λ (m : Memory). OnOk c.read-answer.result (bytes_at m c.args.addr (length c.args.into.now) ≡ Some c.read-answer.new.into))
    (c.clear.ensures.memory ∙ ap (λ (w : WorldContents). byte_at w.state.memory) c.self.view_is) c.read-answer.ensures.read

pub returns-clause-missing : goal.returns-clause-missing
returns-clause-missing g c =
    subst (λ (m : Memory). OnErr c.read-answer.result (bytes_at m c.args.addr (length c.args.into.now) ≡ None))
    (c.clear.ensures.memory ∙ ap (λ (w : WorldContents). byte_at w.state.memory) c.self.view_is) c.read-answer.ensures.missing

pub returns-clause-looks : goal.returns-clause-looks
returns-clause-looks g c =
    let few = few_touched (Moves c.args.addr (length c.args.into.now) 0) in
    reads_few c.read-answer.result c.args.into.now c.read-answer.new.into c.args.self.now.touches c.self.inside.store.unlisted c.clear.new.self.unlisted c.read-answer.new.self.unlisted
    c.self.inside.store.touched c.clear.new.self.touched c.read-answer.new.self.touched (pages_reached c.args.addr (length c.args.into.now))
    (ap (λ (w : WorldContents). w.touches) c.self.view_is) c.clear.ensures.touched c.clear.ensures.unlisted c.read-answer.ensures.unlisted (omega (arith, few))
    c.read-answer.ensures.touched c.read-answer.ensures.refused
