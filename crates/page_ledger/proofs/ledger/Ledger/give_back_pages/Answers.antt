use Rattle.std.proofs.{Common.{◌+◌, ◌++◌, length, length-append, ap, sym, ◌∙◌, arith}, lemmas.List.get_or-append-add}
use Rattle.page_ledger.{proofs.Tables.{given_back-listed, length-with_owner, with_owner-append}, specs.Owners.{is_command, with_owner}}
use Rattle.page_ledger.specs.declared.owner.Owner.TheVariants.{Free}
use Rattle.page_ledger.proofs.ledger.Ledger.give_back_pages.Goals as goal

pub give-requires-2 : goal.give-requires-2
give-requires-2 g c = λ k d l.
    let front = c.args.data_pages.now in
    let back = c.args.chain_pages.now in
    let behind = c.requires.within (length front + k) d (omega (arith, length-append front back)) in
    omega (arith, behind, get_or-append-add front back k d, ap length c.give.ensures, length-with_owner c.args.self.now front Free)

pub returns : goal.returns
returns g c =
    c.give-2.ensures
    ∙ (ap (λ owners. with_owner owners c.args.chain_pages.now Free) c.give.ensures
    ∙ (sym (with_owner-append c.args.self.now c.args.data_pages.now c.args.chain_pages.now Free)
    ∙ given_back-listed (is_command c.args.q c.args.cid) c.args.self.now (c.args.data_pages.now ++ c.args.chain_pages.now) c.requires))
