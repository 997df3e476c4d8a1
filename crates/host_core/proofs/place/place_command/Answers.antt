use Rattle.std.proofs.Common.{◌≡◌, ◌∙◌, ℕ, List, arith, ap, length, refl}
use Rattle.machine_model.{proofs.Headline.{length_left, length_placed, placed_times}, specs.Placement.{placed, without_numbers}}
use Rattle.page_ledger.{proofs.Tables.free-others, specs.{Owners.free_pages, declared.owner.{Owner.TheVariants.Command, Role.TheVariants.Data}}}
use Rattle.host_core.{proofs.Granted.free-once, specs.Commands.first_placed}
use Rattle.host_core.proofs.place.place_command.Goals as goal

pub place-requires-2-clause-enough : goal.place-requires-2-clause-enough
place-requires-2-clause-enough g c =
    let free : List ℕ = free_pages c.args.ledger.now in
    let pages : List ℕ = first_placed c.args.ledger.now c.args.grant.data_pages in
    let left : free_pages c.place.new.ledger ≡ without_numbers c.place.new.into.items free =
    ap free_pages c.place.ensures.owners ∙ free-others c.place.new.into.items (Command c.args.q c.args.grant.cid Data) c.args.ledger.now refl in
    let many = length_left pages free (λ p. placed_times p free c.args.grant.data_pages) (free-once c.args.ledger.now) in
    let placed_data = length_placed free c.args.grant.data_pages (omega (arith, c.requires.enough)) in
    omega (arith, ap length left, ap (λ (ps : List ℕ). length (without_numbers ps free)) c.place.ensures.pages, many, placed_data, c.requires.enough)

pub returns-clause-chain_numbers : goal.returns-clause-chain_numbers
returns-clause-chain_numbers g c =
    let free : List ℕ = free_pages c.args.ledger.now in
    let left : free_pages c.place.new.ledger ≡ without_numbers c.place.new.into.items free =
    ap free_pages c.place.ensures.owners ∙ free-others c.place.new.into.items (Command c.args.q c.args.grant.cid Data) c.args.ledger.now refl in
    c.place-2.ensures.pages ∙ ap (λ (ps : List ℕ). placed ps c.args.grant.chain_pages) (left ∙ ap (λ (ps : List ℕ). without_numbers ps free) c.place.ensures.pages)
