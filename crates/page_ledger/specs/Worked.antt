-- The pool of the worked runs.
use Rattle.std.specs.Prelude.{List, [], ◌∷◌}
use Rattle.page_memory.specs.declared.page.Half.TheVariants.{Submission, Completion}
use Rattle.page_ledger.specs.declared.owner.{Owner.{Owner, TheVariants.{Free, Queue, Command}}, Role.TheVariants.{Data, Chain}}

-- eight pages: queue 1 has pages 0 and 7, command 9 of queue 1 has pages 2 and 3, and 1, 4, 5 and 6 are free
abbrev pub small_pool : List Owner
small_pool =
    Queue 1 Submission ∷ Free ∷ Command 1 9 Data ∷ Command 1 9 Chain ∷ Free ∷ Free ∷ Free ∷ Queue 1 Completion ∷ []
