use Rattle.std.{proofs.Common.{◌≡◌, ◌≤◌, ◌<◌, [], length, sym, ◌∙◌, ap, subst, arith}, specs.Option.option_map_or}
use Rattle.host_core.{proofs.Told.{owner-found, owner-gone}, specs.{Alone.HostView, Parts.{records_of, tables_of}, Rights.{right_at, right_of_owner}}}
use Rattle.host_core.specs.declared.rights.Right.TheVariants as right
use Rattle.host_core.proofs.host.Host.may.Goals as goal

pub returns-then-p-pages : goal.returns-then-p-pages
returns-then-p-pages g c =
    let outside : length c.self.inside.parts.ledger ≤ c.args.p = omega (arith, c.if-p-pages.true, c.pages.ensures.pages, c.p.view_is) in
    subst (λ (v : HostView). right.Nothing ≡ right_at v.host c.args.p) c.self.view_is
    (ap (λ o. option_map_or (right_of_owner (records_of c.self.inside.parts.records.rows)) o right.Nothing) (sym (owner-gone (tables_of c.self.inside.parts []) c.self.invariant c.args.p outside)))

pub returns : goal.returns
returns g c =
    let inside : c.args.p < length c.self.inside.parts.ledger = omega (arith, c.if-p-pages.false, c.pages.ensures.pages, c.p.view_is) in
    subst (λ (v : HostView). c.right.result ≡ right_at v.host c.args.p) c.self.view_is
    (c.right.ensures
    ∙ ap (λ o. option_map_or (right_of_owner (records_of c.self.inside.parts.records.rows)) o right.Nothing) (sym (owner-found (tables_of c.self.inside.parts []) c.self.invariant c.args.p c.owner.result inside c.owner.ensures)))
