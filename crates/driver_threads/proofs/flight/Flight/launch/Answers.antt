-- The command that was submitted is the youngest in flight.
use Rattle.std.proofs.Common.{◌≡◌, ◌∙◌, Ok, ap, subst}
use Rattle.io_commands.specs.Drafts.{DraftContents}
use Rattle.driver_threads.{proofs.{Carried.{carries_launched, carries_same, passed_on, ticket_of}, UnderWay.launched}, specs.{Jobs.prepared, Sharing.Submitted}}
use Rattle.driver_threads.proofs.flight.Flight.launch.Goals as goal

pub returns-clause-under_way : goal.returns-clause-under_way
returns-clause-under_way g c =
    let flight = c.reserve.new.self in
    rw c.push_back_reserved.ensures.items
    (launched flight.seat.receipts c.submitted.new.seat.receipts flight.ends.items flight.flying.items (record { ticket = c.in_ok-ticket.ticket; given = c.args.job.bytes }) c.in_ok-draft.ensures.under_way c.in_ok-ticket.ensures.receipt)

pub returns-clause-carries : goal.returns-clause-carries
returns-clause-carries g c jobs carries =
    let flight = c.reserve.new.self in
    let ready : c.in_ok-draft-2.draft ≡ prepared (g.D.Data.bytes c.args.job.bytes) c.in_ok-draft.draft = c.in_ok-draft-2.ensures.prepared in
    let sent : Submitted g.L.LogBrand.opening flight.seat (prepared (g.D.Data.bytes c.args.job.bytes) c.in_ok-draft.draft) (Ok c.in_ok-ticket.ticket) c.submitted.new.seat =
    subst (λ (d : DraftContents). Submitted g.L.LogBrand.opening flight.seat d (Ok c.in_ok-ticket.ticket) c.submitted.new.seat) ready c.in_ok-ticket.ensures.submitted in
    let is = c.in_ok-ticket.ensures.ticket ∙ ap (λ (d : DraftContents). ticket_of d) ready in
    rw c.push_back_reserved.ensures.items
    (carries_launched g.D.Data.bytes g.D.Data.keeps g.L.LogBrand.opening flight.seat c.submitted.new.seat flight.ends.items flight.flying.items jobs c.args.job c.in_ok-draft.draft c.in_ok-ticket.ticket c.in_ok-draft.ensures.made sent is
    (c.in_ok-draft.ensures.carries jobs carries))

pub returns-in_err-ticket-clause-carries_refused : goal.returns-in_err-ticket-clause-carries_refused
returns-in_err-ticket-clause-carries_refused g c =
    let flight = c.reserve.new.self in
    passed_on c.from_residual-in_err-ticket.result _ c.in_err-ticket.field-0.0 c.from_residual-in_err-ticket.ensures.1
    (λ refuses jobs carries. carries_same g.D.Data.bytes g.D.Data.keeps g.L.LogBrand.opening flight.seat c.submitted.new.seat flight.ends.items flight.flying.items jobs (c.in_err-ticket.ensures.refused refuses) c.in_err-ticket.ensures.seat (c.in_err-ticket.ensures.known refuses)
    (c.in_ok-draft.ensures.carries jobs carries))

pub returns-in_err-draft-clause-carries_refused : goal.returns-in_err-draft-clause-carries_refused
returns-in_err-draft-clause-carries_refused g c =
    passed_on c.from_residual.result _ c.in_err-draft.field-0.0 c.from_residual.ensures.1 c.in_err-draft.ensures.carries_refused
