use Rattle.std.proofs.{Common.{◌≡◌, ◌-◌, Bool, not, List, length, map, ap, ◌∙◌, arith}, lemmas.List.length-map}
use Rattle.queue_pair.{proofs.Halves.claims-none, specs.{Rings.{HostSide, fresh_host_ring, none_claimed}, Views.host_side}}
use Rattle.queue_pair.proofs.host.HostPair.renew.Goals as goal

pub returns-clause-renewed : goal.returns-clause-renewed
returns-clause-renewed g c =
    let side : HostSide = c.args.self.now in
    let restarted : host_side c.self-2.inside ≡ record side { sq = c.args.sq; cq = c.args.cq; ring = fresh_host_ring } =
    c.self-2.view_is ∙ (c.restart.ensures.restarted ∙ ap (λ (s : HostSide). record s { sq = c.args.sq; cq = c.args.cq; ring = fresh_host_ring }) c.self.view_is) in
    let many : length c.self-2.inside.free ≡ side.entries - 1 =
    omega (arith, c.self-2.invariant.identifiers, length-map c.self-2.inside.free not, ap (λ (s : HostSide). s.entries) restarted) in
    ap (λ (s : HostSide). record s { claimed = map not c.fill.new.self }) restarted
    ∙ ap (λ (l : List Bool). record side { sq = c.args.sq; cq = c.args.cq; ring = fresh_host_ring; claimed = l })
    (ap (map not) c.fill.ensures.filled ∙ (claims-none (length c.self-2.inside.free) ∙ ap none_claimed many))
