use Rattle.std.proofs.Common.{refl, sym, true≢false}
use Rattle.io_commands.specs.declared.request.Kind.TheVariants.{Read, Write, Compare, WriteZeroes, Verify, Flush, Deallocate, Admin}
use Rattle.io_commands.proofs.job.laws_of_opcodes.Goals as goal

pub returns-clause-undone : goal.returns-clause-undone
returns-clause-undone c Read moves = refl
returns-clause-undone c Write moves = refl
returns-clause-undone c Compare moves = refl
returns-clause-undone c WriteZeroes moves = absurd (true≢false (sym moves))
returns-clause-undone c Verify moves = absurd (true≢false (sym moves))
returns-clause-undone c Flush moves = absurd (true≢false (sym moves))
returns-clause-undone c Deallocate moves = absurd (true≢false (sym moves))
returns-clause-undone c (Admin command) moves = absurd (true≢false (sym moves))

pub returns-clause-unknown : goal.returns-clause-unknown
returns-clause-unknown c WriteZeroes far still = refl
returns-clause-unknown c Verify far still = refl
returns-clause-unknown c Flush far still = refl
returns-clause-unknown c Deallocate far still = refl
returns-clause-unknown c Read far still = absurd (true≢false still)
returns-clause-unknown c Write far still = absurd (true≢false still)
returns-clause-unknown c Compare far still = absurd (true≢false still)
returns-clause-unknown c (Admin command) far still = absurd (true≢false far)
