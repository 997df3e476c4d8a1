use Rattle.std.proofs.Common.{rules, ◌≡◌, ◌∙◌, [], ap, subst, sym}
use Rattle.machine_model.specs.After.{after_reset}
use Rattle.page_memory.specs.Pages.{Pages}
use Rattle.host_core.proofs.{Identifiers.{host_of, over_pages}, Openings.whole_at, Resets.{claims-renewed, halves-renewed, places-renewed, view-reset, whole-reset}}
use Rattle.host_core.specs.{Alone.{HostView, alone}, Laws.shown, Parts.tables_of}
use Rattle.host_core.specs.{Resetting.{tables_reset, with_io_queues_gone, with_records_reset, HasClaims, HasPlaces, ListHalves}, Tables.{Tables, view_of}, Whole.IsWhole}
use Rattle.host_core.proofs.host.Host.reset.Goals as goal

pub renew_admin-requires : goal.renew_admin-requires
renew_admin-requires g c = whole_at (tables_of c.self.inside.parts []) c.args.self.now c.args.store.now.pages c.self.view_is c.self.invariant c.requires

pub reset_commands-requires-clause-places : goal.reset_commands-requires-clause-places
reset_commands-requires-clause-places g c =
    let t : Tables = tables_of c.self.inside.parts c.args.store.now.pages in
    let w : IsWhole t = whole_at (tables_of c.self.inside.parts []) c.args.self.now c.args.store.now.pages c.self.view_is c.self.invariant c.requires in
    subst HasPlaces (sym (ap (λ (u : Tables). over_pages u []) c.renew_admin.ensures.renewed)) (places-renewed t [] w)

pub reset_commands-requires-clause-claims : goal.reset_commands-requires-clause-claims
reset_commands-requires-clause-claims g c =
    let t : Tables = tables_of c.self.inside.parts c.args.store.now.pages in
    let w : IsWhole t = whole_at (tables_of c.self.inside.parts []) c.args.self.now c.args.store.now.pages c.self.view_is c.self.invariant c.requires in
    subst HasClaims (sym (ap (λ (u : Tables). over_pages u []) c.renew_admin.ensures.renewed)) (claims-renewed t [] w)

pub lose_queues-requires : goal.lose_queues-requires
lose_queues-requires g c =
    let t : Tables = tables_of c.self.inside.parts c.args.store.now.pages in
    let w : IsWhole t = whole_at (tables_of c.self.inside.parts []) c.args.self.now c.args.store.now.pages c.self.view_is c.self.invariant c.requires in
    subst ListHalves (sym (c.reset_commands.ensures [] ∙ ap (λ (u : Tables). with_records_reset (over_pages u [])) c.renew_admin.ensures.renewed)) (halves-renewed t [] w)

pub invariant_of-self : goal.invariant_of-self
invariant_of-self g c =
    let pages : Pages = c.renew_admin.new.store.pages in
    let t : Tables = tables_of c.self.inside.parts c.args.store.now.pages in
    let w : IsWhole t = whole_at (tables_of c.self.inside.parts []) c.args.self.now c.args.store.now.pages c.self.view_is c.self.invariant c.requires in
    let left : tables_of c.lose_queues.new.self pages ≡ tables_reset t =
    c.lose_queues.ensures pages ∙ ap with_io_queues_gone (c.reset_commands.ensures pages ∙ ap with_records_reset c.renew_admin.ensures.renewed) in
    host_of (tables_of c.lose_queues.new.self []) pages (subst IsWhole (sym left) (whole-reset t w))

pub returns : goal.returns
returns g c =
    let pages : Pages = c.renew_admin.new.store.pages in
    let t : Tables = tables_of c.self.inside.parts c.args.store.now.pages in
    let w : IsWhole t = whole_at (tables_of c.self.inside.parts []) c.args.self.now c.args.store.now.pages c.self.view_is c.self.invariant c.requires in
    let left : tables_of c.lose_queues.new.self pages ≡ tables_reset t =
    c.lose_queues.ensures pages ∙ ap with_io_queues_gone (c.reset_commands.ensures pages ∙ ap with_records_reset c.renew_admin.ensures.renewed) in
    record {
      host = ap view_of left ∙ (view-reset t w ∙ ap (λ (v : HostView). shown (after_reset (alone v c.args.store.now.pages))) c.self.view_is);
      pages = search rules;
      touches = rw (← c.self.view_is) c.renew_admin.ensures.touches;
      over = (subst IsWhole (sym left) (whole-reset t w)).over;
    }
