use Rattle.std.proofs.Common.{rules, ap, ℕ, [], refl, sym, subst, arith}
use Rattle.io_commands.specs.{Drafts.DraftContents, Requests.FitsRequest}
use Rattle.host_core.proofs.{Granted.{placed_pages, reserve_made}, Granting.{grant-lowest, refuses-memory}, Identifiers.host_of}
use Rattle.host_core.{proofs.{Openings.{whole_at, step_at, stays_at}, QueueLists.host_step}, specs.Alone.{HasPlacedPages, HostView, IsLowest}}
use Rattle.host_core.specs.{Commands.Grants, Parts.tables_of, Tables.{Tables, state_of, view_of}, Whole.IsWhole}
use Rattle.machine_model.specs.Events as events
use Rattle.machine_model.specs.declared.words.Refusal.TheVariants as refusal
use Rattle.host_core.proofs.host.Host.reserve.Goals as goal

pub returns-in-Err-clause-step : goal.returns-in-Err-clause-step
returns-in-Err-clause-step g c =
    let fits : FitsRequest c.args.request = search rules in
    let t : Tables = tables_of c.self.inside.parts c.args.store.now.pages in
    let w : IsWhole t = whole_at (tables_of c.self.inside.parts []) c.args.self.now c.args.store.now.pages c.self.view_is c.self.invariant c.requires in
    stays_at t c.args.self.now (events.Reserve c.args.q c.args.request) (events.Refused c.in-Err.why []) c.self.view_is
    (host_step t t (events.Reserve c.args.q c.args.request) (events.Refused c.in-Err.why []) refl fits (c.in-Err.ensures.refused c.args.store.now.pages w, refl))

pub make_room-requires : goal.make_room-requires
make_room-requires g c =
    let t : Tables = tables_of c.self.inside.parts c.args.store.now.pages in
    let w : IsWhole t = whole_at (tables_of c.self.inside.parts []) c.args.self.now c.args.store.now.pages c.self.view_is c.self.invariant c.requires in
    let grants : Grants t c.args.q c.args.request c.in-Ok.grant.cid c.in-Ok.grant.data_pages c.in-Ok.grant.chain_pages = c.in-Ok.ensures.granted c.args.store.now.pages w in
    omega (arith, grants.enough, w.over.size, w.over.pool.few)

pub returns-in-Err-make_room-clause-step : goal.returns-in-Err-make_room-clause-step
returns-in-Err-make_room-clause-step g c =
    let fits : FitsRequest c.args.request = search rules in
    let t : Tables = tables_of c.self.inside.parts c.args.store.now.pages in
    let w : IsWhole t = whole_at (tables_of c.self.inside.parts []) c.args.self.now c.args.store.now.pages c.self.view_is c.self.invariant c.requires in
    let grants : Grants t c.args.q c.args.request c.in-Ok.grant.cid c.in-Ok.grant.data_pages c.in-Ok.grant.chain_pages = c.in-Ok.ensures.granted c.args.store.now.pages w in
    step_at t t c.args.self.now (events.Reserve c.args.q c.args.request) (events.Refused refusal.Memory []) c.self.view_is
    (host_step t t (events.Reserve c.args.q c.args.request) (events.Refused refusal.Memory []) refl fits (refuses-memory (state_of t) c.args.q c.args.request grants.none, refl))

pub invariant_of-self : goal.invariant_of-self
invariant_of-self g c = c.self.invariant

pub commit_reserve-requires-clause-whole : goal.commit_reserve-requires-clause-whole
commit_reserve-requires-clause-whole g c =
    whole_at (tables_of c.self.inside.parts []) c.args.self.now c.args.store.now.pages c.self.view_is c.self.invariant c.requires

pub commit_reserve-requires-clause-granted : goal.commit_reserve-requires-clause-granted
commit_reserve-requires-clause-granted g c =
    c.in-Ok.ensures.granted c.args.store.now.pages (whole_at (tables_of c.self.inside.parts []) c.args.self.now c.args.store.now.pages c.self.view_is c.self.invariant c.requires)

pub invariant_of-self-2 : goal.invariant_of-self-2
invariant_of-self-2 g c =
    let fits : FitsRequest c.args.request = search rules in
    let t : Tables = tables_of c.self.inside.parts c.args.store.now.pages in
    let w : IsWhole t = whole_at (tables_of c.self.inside.parts []) c.args.self.now c.args.store.now.pages c.self.view_is c.self.invariant c.requires in
    let grants : Grants t c.args.q c.args.request c.in-Ok.grant.cid c.in-Ok.grant.data_pages c.in-Ok.grant.chain_pages = c.in-Ok.ensures.granted c.args.store.now.pages w in
    let new : Tables = tables_of c.commit_reserve.new.self c.commit_reserve.new.store.pages in
    let made = reserve_made t new c.args.q c.in-Ok.grant.cid c.args.request c.in-Ok.grant.data_pages c.in-Ok.grant.chain_pages c.commit_reserve.result w fits grants c.commit_reserve.ensures.draft c.commit_reserve.ensures.new in
    host_of (tables_of c.commit_reserve.new.self []) c.commit_reserve.new.store.pages made.whole

pub returns : goal.returns
returns g c =
    let fits : FitsRequest c.args.request = search rules in
    let t : Tables = tables_of c.self.inside.parts c.args.store.now.pages in
    let w : IsWhole t = whole_at (tables_of c.self.inside.parts []) c.args.self.now c.args.store.now.pages c.self.view_is c.self.invariant c.requires in
    let grants : Grants t c.args.q c.args.request c.in-Ok.grant.cid c.in-Ok.grant.data_pages c.in-Ok.grant.chain_pages = c.in-Ok.ensures.granted c.args.store.now.pages w in
    let new : Tables = tables_of c.commit_reserve.new.self c.commit_reserve.new.store.pages in
    let made = reserve_made t new c.args.q c.in-Ok.grant.cid c.args.request c.in-Ok.grant.data_pages c.in-Ok.grant.chain_pages c.commit_reserve.result w fits grants c.commit_reserve.ensures.draft c.commit_reserve.ensures.new in
    record {
      step = step_at t new c.args.self.now (events.Reserve c.args.q c.args.request) (events.Reserved c.commit_reserve.result) c.self.view_is made.step;
      identifier = subst (λ (v : HostView). IsLowest v.host c.args.q c.commit_reserve.result.cid) c.self.view_is
          (subst (λ (k : ℕ). IsLowest (view_of t).host c.args.q k) (sym (ap (λ (d : DraftContents). d.cid) c.commit_reserve.ensures.draft))
          (grant-lowest t w c.args.q c.in-Ok.grant.cid c.args.request c.in-Ok.grant.data_pages c.in-Ok.grant.chain_pages grants));
      pages = subst (λ (v : HostView). HasPlacedPages v.host c.commit_reserve.result) c.self.view_is
          (placed_pages t c.args.q c.in-Ok.grant.cid c.args.request c.in-Ok.grant.data_pages c.in-Ok.grant.chain_pages c.commit_reserve.result grants c.commit_reserve.ensures.draft);
      touches = c.commit_reserve.ensures.touches;
      over = made.whole.over;
      back = tt;
    }

pub commit_reserve-requires-clause-data_numbers : goal.commit_reserve-requires-clause-data_numbers
commit_reserve-requires-clause-data_numbers g c = c.in-Ok-make_room.ensures.data_numbers

pub commit_reserve-requires-clause-chain_numbers : goal.commit_reserve-requires-clause-chain_numbers
commit_reserve-requires-clause-chain_numbers g c = c.in-Ok-make_room.ensures.chain_numbers

pub commit_reserve-requires-clause-pages : goal.commit_reserve-requires-clause-pages
commit_reserve-requires-clause-pages g c = c.in-Ok-make_room.ensures.pages

pub commit_reserve-requires-clause-request : goal.commit_reserve-requires-clause-request
commit_reserve-requires-clause-request g c = c.in-Ok-make_room.ensures.request
