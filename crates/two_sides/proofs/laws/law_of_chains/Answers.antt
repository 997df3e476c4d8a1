use Rattle.two_sides.proofs.{Agreed.{agreed_chains, agreed_chain_pages, run_agrees}, Along.trusted_end}
use Rattle.two_sides.proofs.laws.law_of_chains.Goals as goal

pub returns-clause-stand : goal.returns-clause-stand
returns-clause-stand c = λ image made end q cid r run found sub. agreed_chains end q cid r (run_agrees image made end run) found sub

pub returns-clause-stay : goal.returns-clause-stay
returns-clause-stay c = λ image made m old new q cid r p run step found sub still chain. agreed_chain_pages old m.event m.reply new q cid r p (run_agrees image made old run) (trusted_end image made old run) step found sub chain
